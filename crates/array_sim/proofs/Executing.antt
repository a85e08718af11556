-- The step of a cell: whether it has one, and what it does to the array.
use Rattle.std.proofs.Common.{◌≡◌, ◌≢◌, ◌⊎◌, ℤ, ℕ, suc, ◌*◌, ◌<◌, ◌≤◌, ◌&&◌, Bool, true, false, cond, nat_eq, nat_lt, List, [], ◌∷◌, Option, Some, None, length, get_or, set, refl, ap, sym, subst, ◌∙◌, arith, inl, inr, lt-ltb, le-ltb, eq-eqb, eqb-true}
use mathlib.Core.Path.{fun_ext}
use Rattle.std.specs.Bool.{MatchBool, ⊤}
use Rattle.std.specs.List.{slice_get}
use Rattle.std.specs.Option.{MatchOption, is_some}
use Rattle.std.proofs.lemmas.Bool.{both_ways, cases_Bool, cases_eq, cases_lt}
use Rattle.std.proofs.lemmas.List.{get_or-set_other, get_or-set_same, get_or_past, get_or_read, length-set}
use Rattle.std.proofs.lemmas.Option.{none-some, same_Some, slice_get-get_or, slice_get_within}
use Rattle.sys_base.specs.Held.{Held, word_at}
use Rattle.sys_base.specs.declared.actor.Actor.TheVariants.{Cell, Forward, Bind}
use Rattle.sys_base.specs.declared.word.Word.{Word}
use Rattle.cell_code.specs.Images.{UsesItsEnds}
use Rattle.cell_code.specs.Marks.{hops, may_bind, may_forward, may_read, may_write}
use Rattle.cell_code.specs.Rows.{on_one, Row, Stands, Moves, Sends, Receives, State, received, row_at, row_of}
use Rattle.cell_code.specs.ShapedCells.{pops}
use Rattle.cell_code.specs.declared.image.CellImage.{CellImage}
use Rattle.cell_code.specs.declared.image.Image.{Image}
use Rattle.cell_code.specs.declared.instruction.Instr.{Instr}
use Rattle.cell_code.specs.declared.instruction.Instr.TheVariants.{Push, Load, LoadAt, Counter, Neg, Bin, Store, StoreAt, Write, Read, Take, Emit, Loop, Next, IfZero, Jump, Halt}
use Rattle.cell_machine.specs.Machine.{IsReached as IsReachedMachine, Machine}
use Rattle.cell_machine.specs.Steps.{Does}
use Rattle.cell_machine.specs.declared.step.CellStep.{CellStep}
use Rattle.cell_machine.specs.declared.step.CellStep.TheVariants.{Moved, WaitsWrite, WaitsRead, Halted}
use Rattle.array_model.specs.States.{ArrayState, cell_of, cells, code_of}
use Rattle.array_model.specs.Steps.{is_enabled, put, row_step, step, where_holds}
use Rattle.link_queues.specs.Standing.{StandsFor as QueuesStandFor, advanced}
use Rattle.link_queues.specs.Tables.{queues}
use Rattle.array_sim.specs.Simulations.{Contents, StandsFor, cap_in, inputs_in, machine_at, states_in}
use Rattle.array_sim.specs.bodies.Inside.{HasStepped, IsArray, can_go, wired_in}
use Rattle.array_sim.specs.bodies.Wiring.{HasBound, HasGiven, HasMoved, HasWritten, IsRaised, IsWired, Wired, can_read, first_in, room_in}
use Rattle.array_sim.proofs.Listing.{where_some}

where_is : (b : Bool) (x y : ArrayState) → where_holds b x ≡ Some y → x ≡ y
where_is true x y e = same_Some x y e
where_is false x y e = absurd (none-some y e)

cases_moved : (answer : CellStep) → (answer ≡ Moved) ⊎ (answer ≢ Moved)
cases_moved Moved = inl refl
cases_moved (WaitsWrite m) = inr (λ e. absurd (cc))
cases_moved (WaitsRead m) = inr (λ e. absurd (cc))
cases_moved Halted = inr (λ e. absurd (cc))

-- ---- which instructions have a step

-- Its messages may be written and read just where the tests say so.
abbrev AsTested : (write read write' read' : ℕ → Bool) → Instr → Type 0
AsTested write read write' read' (Write m) = write m ≡ write' m
AsTested write read write' read' (Read m v) = read m ≡ read' m
AsTested write read write' read' _ = ⊤

-- the row of an instruction, if there is one
abbrev row_for : ℕ → List ℤ → State → Option Instr → Row
row_for c input st None = Stands
row_for c input st (Some instr) = row_of c input st instr

module _ (image : Image) (cap : ℕ) (s : ArrayState) (c : ℕ) (input : List ℤ) (write read : ℕ → Bool) where
  abbrev Tested : Instr → Type 0
  Tested instr = AsTested write read (may_write image cap s.marks s.bound) (may_read image s.marks) instr

  abbrev has_step : Row → Bool
  has_step row = is_some (row_step image cap s c row)

  row_has : (at : ℕ) (stack : List Word) (held : Held) (instr : Instr) → pops instr ≤ length stack → Tested instr
      → has_step (row_of c input (record { at = at; stack = stack; held = held }) instr) ≡ can_go write read
      (Some instr)
  row_has at [] held (Write m) n t = absurd (omega arith)
  row_has at (x ∷ rest) held (Write m) n t = where_some _ _ ∙ sym t
  row_has at stack held (Read m v) n t = where_some _ _ ∙ sym t
  row_has at stack held Halt n t = refl
  row_has at [] held (LoadAt base len line) n t = absurd (omega arith)
  row_has at [] held (Neg line) n t = absurd (omega arith)
  row_has at [] held (Bin op line) n t = absurd (omega arith)
  row_has at (b ∷ []) held (Bin op line) n t = absurd (omega arith)
  row_has at [] held (Store v) n t = absurd (omega arith)
  row_has at [] held (StoreAt base len line) n t = absurd (omega arith)
  row_has at (b ∷ []) held (StoreAt base len line) n t = absurd (omega arith)
  row_has at [] held Emit n t = absurd (omega arith)
  row_has at [] held (IfZero target) n t = absurd (omega arith)
  row_has at (b ∷ a ∷ rest) held (Bin op line) n t = refl
  row_has at (b ∷ a ∷ rest) held (StoreAt base len line) n t = refl
  row_has at (a ∷ rest) held (LoadAt base len line) n t = refl
  row_has at (a ∷ rest) held (Neg line) n t = refl
  row_has at (a ∷ rest) held (Store v) n t = refl
  row_has at (a ∷ rest) held Emit n t = refl
  row_has at (a ∷ rest) held (IfZero target) n t = refl
  row_has at stack held (Push number) n t = refl
  row_has at stack held (Load v) n t = refl
  row_has at stack held (Counter k) n t = refl
  row_has at stack held (Take v) n t = refl
  row_has at stack held (Loop k turns exit) n t = refl
  row_has at stack held (Next k turns body) n t = refl
  row_has at stack held (Jump target) n t = refl

  code_has : (st : State) (o : Option Instr)
      → ((instr : Instr) → o ≡ Some instr → (pops instr ≤ length st.stack) × Tested instr)
      → has_step (row_for c input st o) ≡ can_go write read o
  code_has st None h = refl
  code_has st (Some instr) h = row_has st.at st.stack st.held instr (h instr refl).0 (h instr refl).1

-- ---- a cell of an array

-- The messages of an instruction are messages of the image.
abbrev Names : Image → Instr → Type 0
Names image (Write m) = m < length image.messages
Names image (Read m v) = m < length image.messages
Names image _ = ⊤

named_ends : (image : Image) (c : ℕ) (instr : Instr) → UsesItsEnds image.messages c instr → Names image instr
named_ends image c (Write m) u = slice_get_within image.messages m u.0 u.1
named_ends image c (Read m v) u = slice_get_within image.messages m u.0 u.1
named_ends image c (Push number) u = u
named_ends image c (Load v) u = u
named_ends image c (LoadAt base len line) u = u
named_ends image c (Counter k) u = u
named_ends image c (Neg line) u = u
named_ends image c (Bin op line) u = u
named_ends image c (Store v) u = u
named_ends image c (StoreAt base len line) u = u
named_ends image c (Take v) u = u
named_ends image c Emit u = u
named_ends image c (Loop k turns exit) u = u
named_ends image c (Next k turns body) u = u
named_ends image c (IfZero target) u = u
named_ends image c (Jump target) u = u
named_ends image c Halt u = u

module _ (a : Contents) (h : IsArray a) where
  same_image : a.fabric.image ≡ a.image
  same_image = h.wired.image_is

  write_is : (s : ArrayState) (m : ℕ) → StandsFor a s → m < length a.image.messages
      → room_in (wired_in a) m ≡ may_write a.image (cap_in a) s.marks s.bound m
  write_is s m st k =
      ap (λ (i : Image). nat_lt m (length i.messages) && may_write i (cap_in a) (queues a.fabric).marks
      (queues a.fabric).bound m) same_image
      ∙ ap (λ b. b && may_write a.image (cap_in a) (queues a.fabric).marks (queues a.fabric).bound m)
      (lt-ltb m (length a.image.messages) k)
      ∙ ap (λ marks. may_write a.image (cap_in a) marks (queues a.fabric).bound m) (sym st.queues.marks)
      ∙ ap (λ bound. may_write a.image (cap_in a) s.marks bound m) (sym st.queues.bound)

  read_is : (s : ArrayState) (m : ℕ) → StandsFor a s → m < length a.image.messages
      → can_read (wired_in a) m ≡ may_read a.image s.marks m
  read_is s m st k =
      ap (λ (i : Image). nat_lt m (length i.messages) && may_read i (queues a.fabric).marks m) same_image
      ∙ ap (λ b. b && may_read a.image (queues a.fabric).marks m) (lt-ltb m (length a.image.messages) k)
      ∙ ap (λ marks. may_read a.image marks m) (sym st.queues.marks)

  tested : (s : ArrayState) (instr : Instr) → StandsFor a s → Names a.image instr
      → AsTested (room_in (wired_in a)) (can_read (wired_in a)) (may_write a.image (cap_in a) s.marks s.bound)
      (may_read a.image s.marks) instr
  tested s (Write m) st k = write_is s m st k
  tested s (Read m v) st k = read_is s m st k
  tested s (Push number) st k = k
  tested s (Load v) st k = k
  tested s (LoadAt base len line) st k = k
  tested s (Counter n) st k = k
  tested s (Neg line) st k = k
  tested s (Bin op line) st k = k
  tested s (Store v) st k = k
  tested s (StoreAt base len line) st k = k
  tested s (Take v) st k = k
  tested s Emit st k = k
  tested s (Loop n turns exit) st k = k
  tested s (Next n turns body) st k = k
  tested s (IfZero target) st k = k
  tested s (Jump target) st k = k
  tested s Halt st k = k

  abbrev here : ℕ → State
  here c = states_in a c

  abbrev next_of : ℕ → Option Instr
  next_of c = slice_get (code_of a.image c) (here c).at

  ready : (c : ℕ) (instr : Instr) → c < cells a.image → next_of c ≡ Some instr
      → (pops instr ≤ length (here c).stack) × Names a.image instr
  ready c instr k e =
      let inside : c < length a.image.cells = omega (arith, h.shaped.cells, k) in (
        (h.reached c k).shaped.stack.no_empty_pop (here c).at _ instr (h.reached c k).path e,
        named_ends a.image c instr (h.shaped.ends c (cell_of a.image c) (here c).at instr
            (slice_get-get_or a.image.cells c _ inside) e),
      )

  pub cell_enabled : (s : ArrayState) (c : ℕ) → StandsFor a s
      → is_enabled a.image (inputs_in a) (cap_in a) s (Cell c)
      ≡ can_go (room_in (wired_in a)) (can_read (wired_in a)) (next_of c)
  cell_enabled s c st =
      elim (cases_lt c (cells a.image)) [
        | inl k ↦
            ap (λ b. is_some (cond b (row_step a.image (cap_in a) s c
            (row_at (code_of a.image c) c (inputs_in a c) (s.cell c))) None))
            (lt-ltb c (cells a.image) k)
            ∙ ap (λ (f : ℕ → State). is_some
            (row_step a.image (cap_in a) s c (row_at (code_of a.image c) c (inputs_in a c) (f c)))) st.cells
            ∙ code_has a.image (cap_in a) s c (inputs_in a c) (room_in (wired_in a)) (can_read (wired_in a)) (here c)
            (next_of c)
            (λ instr e. ((ready c instr k e).0, tested s instr st (ready c instr k e).1))
        | inr g ↦
            let past : length a.image.cells ≤ c = omega (arith, h.shaped.cells, g) in
            ap (λ b. is_some (cond b (row_step a.image (cap_in a) s c
            (row_at (code_of a.image c) c (inputs_in a c) (s.cell c))) None))
            (le-ltb c (cells a.image) g)
            ∙ ap (λ code. can_go (room_in (wired_in a)) (can_read (wired_in a)) (slice_get code (here c).at))
            (sym (ap (λ (i : CellImage). i.code) (get_or_past a.image.cells c _ past)))
      ]

  -- what the code finds out of a cell
  pub cell_goes : (s : ArrayState) (c index : ℕ) (o : Option Instr) (r : Bool) → index ≡ c
      → o ≡ slice_get (code_of a.image index) (states_in a index).at
      → r ≡ can_go (room_in (wired_in a)) (can_read (wired_in a)) o
      → StandsFor a s → r ≡ is_enabled a.image (inputs_in a) (cap_in a) s (Cell c)
  cell_goes s c index o r at is can st =
      can ∙ ap (can_go (room_in (wired_in a)) (can_read (wired_in a))) (is ∙ ap next_of at) ∙ sym (cell_enabled s c st)

  pub forward_enabled : (s : ArrayState) (m hop : ℕ) → StandsFor a s
      → is_enabled a.image (inputs_in a) (cap_in a) s (Forward m hop)
      ≡ may_forward a.fabric.image a.fabric.cap (queues a.fabric).marks (queues a.fabric).bound m hop
  forward_enabled s m hop st =
      where_some _ _
      ∙ ap (λ (i : Image). may_forward i (cap_in a) s.marks s.bound m hop) (sym same_image)
      ∙ ap (λ marks. may_forward a.fabric.image (cap_in a) marks s.bound m hop) st.queues.marks
      ∙ ap (λ bound. may_forward a.fabric.image (cap_in a) (queues a.fabric).marks bound m hop) st.queues.bound

  pub bind_enabled : (s : ArrayState) (l : ℕ) → StandsFor a s
      → is_enabled a.image (inputs_in a) (cap_in a) s (Bind l)
      ≡ may_bind a.fabric.image (queues a.fabric).marks (queues a.fabric).bound l
  bind_enabled s l st =
      where_some _ _
      ∙ ap (λ (i : Image). may_bind i s.marks s.bound l) (sym same_image)
      ∙ ap (λ marks. may_bind a.fabric.image marks s.bound l) st.queues.marks
      ∙ ap (λ bound. may_bind a.fabric.image (queues a.fabric).marks bound l) st.queues.bound

  -- ---- what a step of a cell does

  -- its messages are messages of the image
  abbrev Known : Row → Type 0
  Known (Sends m word next) = m < length a.image.messages
  Known (Receives m v next) = m < length a.image.messages
  Known _ = ⊤

  module _ (c : ℕ) (new : State) (q : Wired) (answer : CellStep) where
    -- what came of a row: the answer is whether it has a step, and the array has taken that step
    record Outcome (row : Row) : Type 0 where
      moved : (s : ArrayState) → StandsFor a s → answer ≡ Moved → is_some (row_step a.image (cap_in a) s c row) ≡ true
      waits : (s : ArrayState) → StandsFor a s → answer ≢ Moved → is_some (row_step a.image (cap_in a) s c row) ≡ false
      raised : answer ≡ Moved → IsRaised (wired_in a) q
      leads : answer ≡ Moved → (s next : ArrayState) → StandsFor a s → row_step a.image (cap_in a) s c row ≡ Some next
          → (next.cell ≡ put s.cell c new) × QueuesStandFor (queues q.fabric) next

    abbrev DoesHere : Row → Type 0
    DoesHere row = Does room_in first_in HasWritten HasGiven row (here c) new (wired_in a) q answer

    stays : IsRaised (wired_in a) (wired_in a)
    stays =
        record {
          wired = subst (λ (i : Image). IsWired i (wired_in a)) (sym same_image) h.wired;
          image_is = refl;
          cap_is = refl;
          peaks = λ l k. omega (arith, h.wired.high l (subst (λ (i : Image). l < 4 * cells i) same_image k));
        }

    moves_come : (next : State) → DoesHere (Moves next) → Outcome (Moves next)
    moves_come next does =
        record {
          moved = λ s st e. refl;
          waits = λ s st no. absurd (no does.0);
          raised = λ e. subst (IsRaised (wired_in a)) (sym does.2) stays;
          leads = λ e s to st is.
              subst (λ (n : ArrayState). (n.cell ≡ put s.cell c new) × QueuesStandFor (queues q.fabric) n)
              (same_Some _ _ is) (
                ap (put s.cell c) (sym does.1),
                subst (λ (w : Wired). QueuesStandFor (queues w.fabric) (record s { cell = put s.cell c next }))
                    (sym does.2)
                    (record {
                      marks = st.queues.marks;
                      bound = st.queues.bound;
                      long = st.queues.long;
                      slices =
                          st.queues.slices;
                    }),
              );
        }

    sends_come : (m : ℕ) (word : Word) (next : State) (b : Bool) → m < length a.image.messages
        → room_in (wired_in a) m ≡ b
        → MatchBool b ((answer ≡ Moved) × (new ≡ next) × HasWritten (wired_in a) m word q)
        ((answer ≡ WaitsWrite m) × (new ≡ here c) × (q ≡ wired_in a)) → Outcome (Sends m word next)
    sends_come m word next true k is does =
        record {
          moved = λ s st e. where_some _ _ ∙ sym (write_is s m st k) ∙ is;
          waits = λ s st no. absurd (no does.0);
          raised = λ e. does.2.is_raised;
          leads = λ e s to st at.
              subst (λ (n : ArrayState). (n.cell ≡ put s.cell c new) × QueuesStandFor (queues q.fabric) n)
              (where_is _ _ _ at)
              (ap (put s.cell c) (sym does.1), does.2.stands s (put s.cell c next) st.queues);
        }
    sends_come m word next false k is does =
        record {
          moved = λ s st e. absurd (cc);
          waits = λ s st no. where_some _ _ ∙ sym (write_is s m st k) ∙ is;
          raised = λ e. absurd (cc);
          leads = λ e. absurd (cc);
        }

    given_here : (m v : ℕ) (word : Word) (next : State) (s : ArrayState) → StandsFor a s → new ≡ received next v word
        → HasGiven (wired_in a) m word q
        → (new ≡ received next v (word_at s.history m (s.marks m (hops a.image m))))
        × QueuesStandFor (queues q.fabric) (advanced s (put s.cell c new) m (hops a.image m))
    given_here m v word next s st is given =
        subst (λ (i : Image). (new ≡ received next v (word_at s.history m (s.marks m (hops i m))))
        × QueuesStandFor (queues q.fabric) (advanced s (put s.cell c new) m (hops i m))) same_image
        (is ∙ ap (received next v) (given.is_oldest s st.queues), given.stands s (put s.cell c new) st.queues)

    reads_come : (m v : ℕ) (next : State) (word : Word) (b : Bool) → m < length a.image.messages
        → can_read (wired_in a) m ≡ b
        → MatchOption (cond b (Some word) None) ((answer ≡ WaitsRead m) × (new ≡ here c) × (q ≡ wired_in a))
        (λ w. (answer ≡ Moved) × (new ≡ received next v w) × HasGiven (wired_in a) m w q) → Outcome (Receives m v next)
    reads_come m v next word true k is does =
        record {
          moved = λ s st e. where_some _ _ ∙ sym (read_is s m st k) ∙ is;
          waits = λ s st no. absurd (no does.0);
          raised = λ e. does.2.is_raised;
          leads = λ e s to st at.
              let g = given_here m v word next s st does.1 does.2 in
              subst (λ (n : ArrayState). (n.cell ≡ put s.cell c new) × QueuesStandFor (queues q.fabric) n)
              (where_is _ _ _ at) (
                ap (put s.cell c) (sym g.0),
                subst
                    (λ x. QueuesStandFor (queues q.fabric) (advanced s (put s.cell c x) m (hops a.image m))) g.0 g.1,
              );
        }
    reads_come m v next word false k is does =
        record {
          moved = λ s st e. absurd (cc);
          waits = λ s st no. where_some _ _ ∙ sym (read_is s m st k) ∙ is;
          raised = λ e. absurd (cc);
          leads = λ e. absurd (cc);
        }

    comes : (row : Row) → Known row → DoesHere row → Outcome row
    comes Stands k does =
        record {
          moved = λ s st e. absurd (cc);
          waits = λ s st no. refl;
          raised = λ e. absurd (cc);
          leads = λ e. absurd (cc);
        }
    comes (Moves next) k does = moves_come next does
    comes (Sends m word next) k does = sends_come m word next (room_in (wired_in a) m) k refl does
    comes (Receives m v next) k does = reads_come m v next _ (can_read (wired_in a) m) k refl does

  known_one : (stack : List Word) (row : Word → List Word → Row) → ((w : Word) (rest : List Word) → Known (row w rest))
      → Known (on_one stack row)
  known_one [] row k = tt
  known_one (top ∷ rest) row k = k top rest

  known_row : (c : ℕ) (input : List ℤ) (st : State) (instr : Instr) → Names a.image instr
      → Known (row_of c input st instr)
  known_row c input st (Write m) k = known_one st.stack _ (λ w rest. k)
  known_row c input st (Read m v) k = k
  known_row c input st (Push number) k = tt
  known_row c input st (Load v) k = tt
  known_row c input st (LoadAt base len line) k = known_one st.stack _ (λ w rest. tt)
  known_row c input st (Counter n) k = tt
  known_row c input st (Neg line) k = known_one st.stack _ (λ w rest. tt)
  known_row c input st (Bin op line) k = known_one st.stack _ (λ w rest. known_one rest _ (λ v under. tt))
  known_row c input st (Store v) k = known_one st.stack _ (λ w rest. tt)
  known_row c input st (StoreAt base len line) k = known_one st.stack _ (λ w rest. known_one rest _ (λ v under. tt))
  known_row c input st (Take v) k = tt
  known_row c input st Emit k = known_one st.stack _ (λ w rest. tt)
  known_row c input st (Loop n turns exit) k = tt
  known_row c input st (Next n turns body) k = tt
  known_row c input st (IfZero target) k = known_one st.stack _ (λ w rest. tt)
  known_row c input st (Jump target) k = tt
  known_row c input st Halt k = tt

  known_at : (c : ℕ) (input : List ℤ) (st : State) (o : Option Instr)
      → ((instr : Instr) → o ≡ Some instr → Names a.image instr)
      → Known (row_for c input st o)
  known_at c input st None k = tt
  known_at c input st (Some instr) k = known_row c input st instr (k instr refl)

  -- ---- the array after a step of a cell

  -- an array in which a cell has another state, with other queues
  abbrev pub with_step : ℕ → State → Wired → Contents
  with_step c new q =
      record {
        image = a.image;
        cells = set a.cells c (record (machine_at a.cells c) { state = new });
        fabric = q.fabric;
        peaks = q.peaks;
      }

  states_are : (c : ℕ) (new : State) (q : Wired) → c < cells a.image
      → put (states_in a) c new ≡ states_in (with_step c new q)
  states_are c new q k =
      fun_ext (λ j. elim (cases_Bool (nat_eq c j)) [
        | inl t ↦
            ap (λ b. cond b new (states_in a j)) t
            ∙ subst (λ i. new ≡ states_in (with_step c new q) i) (eqb-true c j t)
            (sym (ap (λ (m : Machine). m.state) (get_or-set_same a.cells c _ _ (omega (arith, h.machines, k)))))
        | inr t ↦
            let other : j ≢ c = λ e. both_ways _ t (eq-eqb c j (sym e)) in
            ap (λ b. cond b new (states_in a j)) t
            ∙ sym (ap (λ (m : Machine). m.state) (get_or-set_other a.cells c j _ _ other))
      ])

  inputs_same : (c : ℕ) (new : State) (q : Wired) → c < cells a.image → inputs_in (with_step c new q) ≡ inputs_in a
  inputs_same c new q k =
      fun_ext (λ j. elim (cases_eq j c) [
        | inl e ↦
            subst (λ i. inputs_in (with_step c new q) i ≡ inputs_in a i) (sym e)
            (ap (λ (m : Machine). m.input) (get_or-set_same a.cells c _ _ (omega (arith, h.machines, k))))
        | inr other ↦ ap (λ (m : Machine). m.input) (get_or-set_other a.cells c j _ _ other)
      ])

  -- what came of a step of a cell
  pub record Executed (c : ℕ) (new : State) (q : Wired) (answer : CellStep) : Type 0 where
    pub moved : (s : ArrayState) → StandsFor a s → answer ≡ Moved
        → is_enabled a.image (inputs_in a) (cap_in a) s (Cell c) ≡ true
    pub waits : (s : ArrayState) → StandsFor a s → answer ≢ Moved
        → is_enabled a.image (inputs_in a) (cap_in a) s (Cell c) ≡ false
    pub raised : answer ≡ Moved → IsRaised (wired_in a) q
    pub stepped : answer ≡ Moved → HasStepped a (Cell c) (with_step c new q)

  -- the row that is executed
  abbrev row_here : ℕ → Row
  row_here c = row_at (code_of a.image c) c (inputs_in a c) (here c)

  -- the step of a cell is that of its row
  step_is : (s : ArrayState) (c : ℕ) → StandsFor a s → c < cells a.image
      → step a.image (inputs_in a) (cap_in a) s (Cell c) ≡ row_step a.image (cap_in a) s c (row_here c)
  step_is s c st k =
      ap (λ b. cond b (row_step a.image (cap_in a) s c (row_at (code_of a.image c) c (inputs_in a c) (s.cell c))) None)
      (lt-ltb c (cells a.image) k)
      ∙ ap (λ (f : ℕ → State). row_step a.image (cap_in a) s c
      (row_at (code_of a.image c) c (inputs_in a c) (f c))) st.cells

  pub executed : (c : ℕ) (new : State) (q : Wired) (answer : CellStep) → c < cells a.image
      → Does room_in first_in HasWritten HasGiven
      (row_at (code_of a.image c) (machine_at a.cells c).cell (machine_at a.cells c).input
      (machine_at a.cells c).state)
      (machine_at a.cells c).state new (wired_in a) q answer → Executed c new q answer
  executed c new q answer k does =
      let out : Outcome c new q answer (row_here c) =
      comes c new q answer (row_here c)
      (known_at c (inputs_in a c) (here c) (next_of c) (λ instr e. (ready c instr k e).1))
      (subst (λ n. DoesHere c new q answer (row_at (code_of a.image c) n (inputs_in a c) (here c)))
      (h.numbers c k) does)
      in
      record {
        moved = λ s st e. ap is_some (step_is s c st k) ∙ out.moved s st e;
        waits = λ s st e. ap is_some (step_is s c st k) ∙ out.waits s st e;
        raised = out.raised;
        stepped = λ e.
            record {
              image_is = refl;
              queues_are = (out.raised e).image_is ∙ same_image;
              cap_is = (out.raised e).cap_is;
              inputs_are = inputs_same c new q k;
              leads = λ s to st at.
                  let led = out.leads e s to st (sym (step_is s c st k) ∙ at) in
                  record {
                    cells = led.0 ∙ ap (λ f. put f c new) st.cells ∙ states_are c new q k;
                    queues = led.1;
                  };
              peaks = λ l j. (out.raised e).peaks l (subst (λ (i : Image). l < 4 * cells i) (sym same_image) j);
            };
      }

  -- ---- the array after a step of the queues

  -- the array with other queues and peaks
  abbrev pub with_wires : Wired → Contents
  with_wires q = record { image = a.image; cells = a.cells; fabric = q.fabric; peaks = q.peaks }

  -- after a call that may have raised peaks, or have refused
  pub rewired : (q : Wired) (r : Bool) → (r ≡ true → IsRaised (wired_in a) q) → (r ≡ false → q ≡ wired_in a)
      → IsWired a.image q
  rewired q true raised refused =
      subst (λ (i : Image). IsWired i q) ((raised refl).image_is ∙ same_image) (raised refl).wired
  rewired q false raised refused = subst (IsWired a.image) (sym (refused refl)) h.wired

  pub with_rewired : (q : Wired) → IsWired a.image q → IsArray (with_wires q)
  with_rewired q wired =
      record { shaped = h.shaped; wired = wired; machines = h.machines; numbers = h.numbers; reached = h.reached }

  -- a word moved on
  pub moved_on : (q : Wired) (m hop : ℕ) → HasMoved (wired_in a) m (suc hop) q
      → HasStepped a (Forward m hop) (with_wires q)
  moved_on q m hop moved =
      record {
        image_is = refl;
        queues_are = moved.is_raised.image_is ∙ same_image;
        cap_is = moved.is_raised.cap_is;
        inputs_are = refl;
        leads = λ s to st at.
            subst (StandsFor (with_wires q)) (where_is _ _ _ at)
            (record { cells = st.cells; queues = moved.stands s st.queues });
        peaks = λ l j. moved.is_raised.peaks l (subst (λ (i : Image). l < 4 * cells i) (sym same_image) j);
      }

  -- a link bound its next group
  pub bound_next : (q : Wired) (link : ℕ) → HasBound (wired_in a) link q → HasStepped a (Bind link) (with_wires q)
  bound_next q link bound =
      record {
        image_is = refl;
        queues_are = bound.is_raised.image_is ∙ same_image;
        cap_is = bound.is_raised.cap_is;
        inputs_are = refl;
        leads = λ s to st at.
            subst (StandsFor (with_wires q)) (where_is _ _ _ at)
            (record { cells = st.cells; queues = bound.stands s st.queues });
        peaks = λ l j. bound.is_raised.peaks l (subst (λ (i : Image). l < 4 * cells i) (sym same_image) j);
      }

  -- ---- a step of a machine, as the code makes it

  -- an array with another machine, and other queues
  abbrev pub with_machine : ℕ → Machine → Wired → Contents
  with_machine index new q =
      record { image = a.image; cells = set a.cells index new; fabric = q.fabric; peaks = q.peaks }

  abbrev no_cell : CellImage
  no_cell = record { takes = 0; emits = 0; words = 0; counters = 0; stack = 0; code = [] }

  -- what the code has of a step: the image of the cell, and its machine before and after
  pub record Ran (c index : ℕ) (images : List CellImage) (image : CellImage) (old new : Machine) (q : Wired)
      (answer : CellStep) : Type 0 where
    pub at : index ≡ c
    pub inside : index < length a.cells
    pub images_are : images ≡ a.image.cells
    pub image_is : image ≡ get_or images index image
    pub old_is : old ≡ get_or a.cells index old
    pub new_is : new ≡ record old { state = new.state }
    pub reached : IsReachedMachine image new
    pub row : Does room_in first_in HasWritten HasGiven
        (row_at image.code old.cell old.input old.state) old.state new.state
        (wired_in a) q answer
    pub refused : answer ≢ Moved → (new ≡ old) × (q ≡ wired_in a)

  module _ (c index : ℕ) (images : List CellImage) (image : CellImage) (old new : Machine) (q : Wired)
      (answer : CellStep)
      (ran : Ran c index images image old new q answer) where
    there : c < cells a.image
    there = omega (arith, ran.inside, ran.at, h.machines)

    old_there : old ≡ machine_at a.cells c
    old_there = get_or_read a.cells index old ran.inside ran.old_is _ ∙ ap (λ i. machine_at a.cells i) ran.at

    image_there : image ≡ cell_of a.image c
    image_there =
        get_or_read images index image (omega (arith, ran.inside, ap length ran.images_are, h.shaped.cells, h.machines))
        ran.image_is no_cell
        ∙ ap (λ xs. get_or xs index no_cell) ran.images_are ∙ ap (cell_of a.image) ran.at

    new_there : new ≡ record (machine_at a.cells c) { state = new.state }
    new_there = ran.new_is ∙ ap (λ (m : Machine). record m { state = new.state }) old_there

    after_is : with_step c new.state q ≡ with_machine index new q
    after_is =
        ap (λ m. with_machine c m q) (sym new_there) ∙ ap (λ i. with_machine i new q) (sym ran.at)

    done : Executed c new.state q answer
    done =
        executed c new.state q answer there
        (subst (λ (m : Machine). Does room_in first_in HasWritten HasGiven
        (row_at (code_of a.image c) m.cell m.input m.state) m.state
        new.state (wired_in a) q answer) old_there
        (subst (λ (i : CellImage). Does room_in first_in HasWritten HasGiven
        (row_at i.code old.cell old.input old.state) old.state
        new.state (wired_in a) q answer) image_there ran.row))

    pub ran_moved : (s : ArrayState) → StandsFor a s → answer ≡ Moved
        → is_enabled a.image (inputs_in a) (cap_in a) s (Cell c) ≡ true
    ran_moved = done.moved

    pub ran_waits : (s : ArrayState) → StandsFor a s → answer ≢ Moved
        → is_enabled a.image (inputs_in a) (cap_in a) s (Cell c) ≡ false
    ran_waits = done.waits

    pub ran_stepped : answer ≡ Moved → HasStepped a (Cell c) (with_machine index new q)
    ran_stepped e = subst (HasStepped a (Cell c)) after_is (done.stepped e)

    wired_still : IsWired a.image q
    wired_still =
        elim (cases_moved answer) [
          | inl e ↦
              subst (λ (i : Image). IsWired i q) ((done.raised e).image_is ∙ same_image) (done.raised e).wired
          | inr other ↦ subst (IsWired a.image) (sym (ran.refused other).1) h.wired
        ]

    machine_is : (j : ℕ) → (j ≡ c) ⊎ (machine_at (set a.cells index new) j ≡ machine_at a.cells j)
    machine_is j =
        elim (cases_eq j index) [
          | inl e ↦ inl (e ∙ ran.at)
          | inr other ↦ inr (get_or-set_other a.cells index j _ _ other)
        ]

    new_here : machine_at (set a.cells index new) c ≡ new
    new_here = subst (λ i. machine_at (set a.cells index new) i ≡ new) ran.at
        (get_or-set_same a.cells index new _ ran.inside)

    pub ran_array : IsArray (with_machine index new q)
    ran_array =
        record {
          shaped = h.shaped;
          wired = wired_still;
          machines = length-set a.cells index new ∙ h.machines;
          numbers = λ j k.
              elim (machine_is j) [
                | inl e ↦
                    subst (λ i. (machine_at (set a.cells index new) i).cell ≡ i) (sym e)
                    (ap (λ (m : Machine). m.cell) (new_here ∙ new_there) ∙ h.numbers c there)
                | inr same ↦ ap (λ (m : Machine). m.cell) same ∙ h.numbers j k
              ];
          reached = λ j k.
              elim (machine_is j) [
                | inl e ↦
                    subst (λ i. IsReachedMachine (cell_of a.image i) (machine_at (set a.cells index new) i)) (sym e)
                    (subst (IsReachedMachine (cell_of a.image c)) (sym new_here)
                    (subst (λ i. IsReachedMachine i new) image_there ran.reached))
                | inr same ↦ subst (IsReachedMachine (cell_of a.image j)) (sym same) (h.reached j k)
              ];
        }
