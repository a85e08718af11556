-- A cell alone as a machine alone: it comes to its halt, and makes the same writes and reads.
use Rattle.std.proofs.Common.{◌≡◌, Bool, true, false, filter, map, ℕ, zero, suc, ◌+◌, ◌<◌, ◌≤◌, cond, nat_eq, ℤ, List, [], ◌∷◌, ◌++◌, Option, Some, None, slice_get, refl, sym, ap, subst, ◌∙◌, arith, inl, inr, append-nil}
use Rattle.std.proofs.lemmas.Bool.{both_ways, cases_Bool, cases_lt, eq-eqb, eqb-true, ne_eqb}
use Rattle.std.proofs.lemmas.List.{map-append}
use Rattle.std.proofs.lemmas.List.Elements.{filter-append}
use Rattle.std.proofs.lemmas.List.Sums.{sum_by-append}
use Rattle.std.proofs.lemmas.Option.{none-some, option_and_then_some, same_Some}
use Rattle.sys_base.specs.Communications.{Communication, Writes, Reads, Takes, Emits, same_communication, times}
use Rattle.sys_base.specs.Held.{Streams, word_at}
use Rattle.sys_base.specs.declared.word.Word.{Word}
use Rattle.array_runs.specs.Alone as M
use Rattle.array_runs.specs.Frame.{Action}
use Rattle.array_runs.specs.Frame as F
use Rattle.array_runs.specs.Machines.{Machine}
use Rattle.array_runs.specs.Orders.{events}
use Rattle.array_runs.specs.States.{one_at}
use Rattle.cell_code.specs.Alone.{Alone, after_row, after_steps, alone_step}
use Rattle.cell_code.specs.Rows.{Row, State, Stands, Moves, Sends, Receives, communication_of, on_one, on_two, received, row_of}
use Rattle.cell_code.specs.declared.image.Image.{Image}
use Rattle.cell_code.specs.declared.instruction.Instr.{Instr}
use Rattle.cell_code.specs.declared.instruction.Instr.TheVariants.{Push, Load, LoadAt, Counter, Neg, Bin, Store, StoreAt, Write, Read, Take, Emit, Loop, Next, IfZero, Jump, Halt}
use Rattle.array_model.specs.Meaning.{sent_to}
use Rattle.array_model.specs.Regular.{EndsAlone}
use Rattle.array_model.specs.States.{Inputs, code_of}
use Rattle.array_model.proofs.Mapped.{action_of, got_in, machine, next_of, row, start, word_in}

-- ---- communications as actions

abbrev pub act : Communication → Action
act (Writes m) = F.Write m
act (Reads m) = F.Read m
act Takes = F.Work
act Emits = F.Work

-- the writes and reads among some communications, as actions
abbrev pub acts : List Communication → List Action
acts made = events (map act made)

pub acts-append : (xs ys : List Communication) → acts (xs ++ ys) ≡ acts xs ++ acts ys
acts-append xs ys = ap events (map-append act xs ys) ∙ filter-append _ (map act xs) (map act ys)

-- ---- rows and the communications of their instructions

-- what the communication of an instruction is to its row
abbrev Fits : Option Communication → Row → Type 0
Fits one Stands = Unit {0}
Fits None (Moves next) = Unit {0}
Fits (Some Takes) (Moves next) = Unit {0}
Fits (Some Emits) (Moves next) = Unit {0}
Fits (Some (Writes m)) (Moves next) = ⊥
Fits (Some (Reads m)) (Moves next) = ⊥
Fits one (Sends m word next) = one ≡ Some (Writes m)
Fits one (Receives m variable next) = one ≡ Some (Reads m)

module _ (one : Option Communication) where
  one_fits : (stack : List Word) (r : Word → List Word → Row) → ((top : Word) (rest : List Word) → Fits one (r top rest))
      → Fits one (on_one stack r)
  one_fits [] r h = tt
  one_fits (top ∷ rest) r h = h top rest

  two_fits : (stack : List Word) (r : Word → Word → List Word → Row)
      → ((top lower : Word) (rest : List Word) → Fits one (r top lower rest)) → Fits one (on_two stack r)
  two_fits [] r h = tt
  two_fits (top ∷ []) r h = tt
  two_fits (top ∷ lower ∷ rest) r h = h lower top rest

fits : (c : ℕ) (input : List ℤ) (s : State) (instr : Instr) → Fits (communication_of instr) (row_of c input s instr)
fits c input s (Push number) = tt
fits c input s (Load word) = tt
fits c input s (LoadAt base len line) = one_fits None s.stack _ (λ top rest. tt)
fits c input s (Counter k) = tt
fits c input s (Neg line) = one_fits None s.stack _ (λ top rest. tt)
fits c input s (Bin op line) = two_fits None s.stack _ (λ top lower rest. tt)
fits c input s (Store word) = one_fits None s.stack _ (λ top rest. tt)
fits c input s (StoreAt base len line) = two_fits None s.stack _ (λ top lower rest. tt)
fits c input s (Write m) = one_fits (Some (Writes m)) s.stack _ (λ top rest. refl)
fits c input s (Read m word) = refl
fits c input s (Take word) = tt
fits c input s Emit = one_fits (Some Emits) s.stack _ (λ top rest. tt)
fits c input s (Loop k turns exit) = tt
fits c input s (Next k turns body) = tt
fits c input s (IfZero target) = one_fits None s.stack _ (λ top rest. tt)
fits c input s (Jump target) = tt
fits c input s Halt = tt

one_sym : (i j : ℕ) → cond {A = ℕ} (nat_eq i j) 1 0 ≡ one_at j i
one_sym i j =
    elim (cases_Bool (nat_eq i j)) [
      | inl t ↦
          ap (λ b. cond {A = ℕ} b 1 0) t ∙ sym (ap (λ b. cond {A = ℕ} b 1 0) (eq-eqb j i (sym (eqb-true i j t))))
      | inr t ↦
          ap (λ b. cond {A = ℕ} b 1 0) t
          ∙ sym (ap (λ b. cond {A = ℕ} b 1 0) (ne_eqb j i (λ e. both_ways _ t (eq-eqb i j (sym e)))))
    ]

one_sent : (b : Bool) (k : ℕ) (w : Word)
    → map (λ (x : ℕ × Word). x.1) (cond b ((k, w) ∷ []) []) ≡ cond b (w ∷ []) []
one_sent true k w = refl
one_sent false k w = refl

sent_more : (m k : ℕ) (w : Word) (sent : List (ℕ × Word))
    → sent_to m (sent ++ (k, w) ∷ []) ≡ sent_to m sent ++ cond (nat_eq k m) (w ∷ []) []
sent_more m k w sent =
    ap (map (λ (x : ℕ × Word). x.1)) (filter-append _ sent ((k, w) ∷ []))
    ∙ map-append (λ (x : ℕ × Word). x.1) (filter (λ (x : ℕ × Word). nat_eq x.0 m) sent) _
    ∙ ap (λ r. sent_to m sent ++ r) (one_sent (nat_eq k m) k w)

module _ (image : Image) (inputs : Inputs) (v : Streams) (c : ℕ) where
  abbrev mc : Machine State Word
  mc = machine image inputs

  -- a machine alone and a cell alone are in the same state, and have read as many words of each message
  record Same (a : M.Alone State) (s : Alone) : Type 0 where
    state : a.state ≡ s.state
    taken : (m : ℕ) → a.taken m ≡ times (Reads m) s.made

  -- after one step they still are
  record Stepped (a : M.Alone State) (x : Action) (s t : Alone) : Type 0 where
    same : Same (M.alone_step mc v (start image) c a x) t
    made : acts t.made ≡ acts s.made ++ events (x ∷ [])
    goes : x ≡ F.Halt → ⊥
    sent : (m : ℕ) → sent_to m t.sent ≡ sent_to m s.sent ++ M.word_of mc v (start image) c a.state x m

  step_by : (a : M.Alone State) (s t : Alone) (one : Option Communication) (r : Row) → Same a s → Fits one r
      → row image inputs c a.state ≡ r → after_row v one s r ≡ Some t
      → Stepped a (action_of r) s t
  step_by a s t one Stands same f e h = absurd (none-some t h)
  step_by a s t None (Moves next) same f e h =
      subst (Stepped a F.Work s) (same_Some _ t h) (record {
        same = record { state = ap (next_of a.state) e; taken = same.taken };
        made = sym (append-nil (acts s.made));
        goes = λ k. absurd (cc);
        sent = λ k. sym (append-nil (sent_to k s.sent));
      })
  step_by a s t (Some Takes) (Moves next) same f e h =
      subst (Stepped a F.Work s) (same_Some _ t h) (record {
        same = record {
          state = ap (next_of a.state) e;
          taken = λ m. omega (arith, same.taken m, sum_by-append (λ x. cond (same_communication (Reads m) x) 1 0) s.made (Takes ∷ []));
        };
        made = acts-append s.made (Takes ∷ []);
        goes = λ k. absurd (cc);
        sent = λ k. sym (append-nil (sent_to k s.sent));
      })
  step_by a s t (Some Emits) (Moves next) same f e h =
      subst (Stepped a F.Work s) (same_Some _ t h) (record {
        same = record {
          state = ap (next_of a.state) e;
          taken = λ m. omega (arith, same.taken m, sum_by-append (λ x. cond (same_communication (Reads m) x) 1 0) s.made (Emits ∷ []));
        };
        made = acts-append s.made (Emits ∷ []);
        goes = λ k. absurd (cc);
        sent = λ k. sym (append-nil (sent_to k s.sent));
      })
  step_by a s t (Some (Writes m)) (Moves next) same f e h = absurd f
  step_by a s t (Some (Reads m)) (Moves next) same f e h = absurd f
  step_by a s t one (Sends m word next) same f e h =
      let told : Some (record { state = next; made = s.made ++ Writes m ∷ []; sent = s.sent ++ (m, word) ∷ [] }) ≡ Some t =
      subst (λ o. after_row v o s (Sends m word next) ≡ Some t) f h
      in
      subst (Stepped a (F.Write m) s) (same_Some _ t told) (record {
        same = record {
          state = ap (next_of a.state) e;
          taken = λ k. omega (arith, same.taken k, sum_by-append (λ x. cond (same_communication (Reads k) x) 1 0) s.made (Writes m ∷ []));
        };
        made = acts-append s.made (Writes m ∷ []);
        goes = λ k. absurd (cc);
        sent = λ k.
            sent_more k m word s.sent
            ∙ sym (ap (λ r. sent_to k s.sent ++ cond (nat_eq m k) (word_in r ∷ []) []) e);
      })
  step_by a s t one (Receives m variable next) same f e h =
      let told : Some (record s {
        state = received next variable (word_at v m (times (Reads m) s.made));
        made = s.made ++ Reads m ∷ [];
      }) ≡ Some t =
      subst (λ o. after_row v o s (Receives m variable next) ≡ Some t) f h
      in
      subst (Stepped a (F.Read m) s) (same_Some _ t told) (record {
        same = record {
          state = ap (λ r. got_in a.state r (word_at v m (a.taken m))) e
              ∙ ap (λ n. received next variable (word_at v m n)) (same.taken m);
          taken = λ k. omega (
            arith,
            same.taken k,
            one_sym k m,
            sum_by-append (λ x. cond (same_communication (Reads k) x) 1 0) s.made (Reads m ∷ []),
          );
        };
        made = acts-append s.made (Reads m ∷ []);
        goes = λ k. absurd (cc);
        sent = λ k. sym (append-nil (sent_to k s.sent));
      })

  -- ---- many steps

  abbrev at : ℕ → M.Alone State
  at n = M.alone mc v (start image) c n

  abbrev does : ℕ → Action
  does n = M.action_alone mc v (start image) c n

  record Ran (k n : ℕ) (end : Alone) : Type 0 where
    same : Same (at n) end
    made : events (M.first does n) ≡ acts end.made
    goes : (j : ℕ) → k ≤ j → j < n → does j ≡ F.Halt → ⊥
    sent : (m : ℕ) → M.written_alone mc v (start image) c n m ≡ sent_to m end.sent

  one_step : (k : ℕ) (s t : Alone) → Same (at k) s → alone_step (code_of image c) c (inputs c) v s ≡ Some t
      → Stepped (at k) (does k) s t
  one_step k s t same h =
      option_and_then_some (λ instr. after_row v (communication_of instr) s (row_of c (inputs c) s.state instr))
      (slice_get (code_of image c) s.state.at) t h
      (λ instr at_it after.
      let here : row image inputs c (at k).state ≡ row_of c (inputs c) s.state instr =
      ap (row image inputs c) same.state
      ∙ ap (λ o. elim o [ None ↦ Stands | Some i ↦ row_of c (inputs c) s.state i ]) at_it
      in
      subst (λ r. Stepped (at k) (action_of r) s t) (sym here)
      (step_by (at k) s t (communication_of instr) (row_of c (inputs c) s.state instr) same (fits c (inputs c) s.state instr)
      here after))

  abbrev wrote : ℕ → ℕ → List Word
  wrote n m = M.written_alone mc v (start image) c n m

  runs : (n k all : ℕ) (s end : Alone) → k + n ≡ all → Same (at k) s → events (M.first does k) ≡ acts s.made
      → ((m : ℕ) → wrote k m ≡ sent_to m s.sent)
      → after_steps (code_of image c) c (inputs c) v n s ≡ Some end → Ran k all end
  runs zero k all s end e same made sent h =
      let here : k ≡ all = omega arith in
      subst (λ i. Ran k i end) here (subst (Ran k k) (same_Some s end h)
      (record { same = same; made = made; goes = λ j l g. absurd (omega arith); sent = sent }))
  runs (suc n) k all s end e same made sent h =
      option_and_then_some (after_steps (code_of image c) c (inputs c) v n)
      (alone_step (code_of image c) c (inputs c) v s) end h
      (λ t first rest.
      let one = one_step k s t same first in
      let more : events (M.first does (suc k)) ≡ acts t.made =
      filter-append _ (M.first does k) (does k ∷ []) ∙ ap (λ xs. xs ++ events (does k ∷ [])) made ∙ sym one.made
      in
      let more_sent : (m : ℕ) → wrote (suc k) m ≡ sent_to m t.sent =
      λ m. ap (λ xs. xs ++ M.word_of mc v (start image) c (at k).state (does k) m) (sent m) ∙ sym (one.sent m)
      in
      let later = runs n (suc k) all t end (omega arith) one.same more more_sent rest in
      record {
        same = later.same;
        made = later.made;
        goes = λ j l g.
            elim (cases_lt k j) [
              | inl m ↦ later.goes j m g
              | inr m ↦
                  let this : k ≡ j = omega arith in
                  subst (λ i. does i ≡ F.Halt → ⊥) this one.goes
            ];
        sent = later.sent;
      })

  -- ---- the halt

  stays : (n m : ℕ) → n ≤ m → does n ≡ F.Halt → at m ≡ at n
  stays n zero l h =
      let here : 0 ≡ n = omega arith in
      ap at here
  stays n (suc m) l h =
      elim (cases_lt n (suc m)) [
        | inl g ↦
            let before : at m ≡ at n = stays n m (omega arith) h in
            ap (λ a. M.alone_step mc v (start image) c a (mc.action c a.state)) before
            ∙ ap (M.alone_step mc v (start image) c (at n)) h
        | inr g ↦
            let here : suc m ≡ n = omega arith in
            ap at here
      ]

  events_stay : (n m : ℕ) → n ≤ m → does n ≡ F.Halt → events (M.first does m) ≡ events (M.first does n)
  events_stay n zero l h =
      let here : 0 ≡ n = omega arith in
      ap (λ i. events (M.first does i)) here
  events_stay n (suc m) l h =
      elim (cases_lt n (suc m)) [
        | inl g ↦
            let still : does m ≡ F.Halt = ap (λ a. mc.action c a.state) (stays n m (omega arith) h) ∙ h in
            filter-append _ (M.first does m) (does m ∷ [])
            ∙ ap (λ x. events (M.first does m) ++ events (x ∷ [])) still
            ∙ append-nil (events (M.first does m))
            ∙ events_stay n m (omega arith) h
        | inr g ↦
            let here : suc m ≡ n = omega arith in
            ap (λ i. events (M.first does i)) here
      ]

  -- where a cell that ends alone is a machine that halts
  pub record Ended (cost : ℕ) (end : Alone) : Type 0 where
    pub steps : ℕ
    pub within : steps ≤ cost
    pub halts : does steps ≡ F.Halt
    pub goes : (n : ℕ) → n < steps → does n ≡ F.Halt → ⊥
    pub state : (at steps).state ≡ end.state
    pub at_halt : slice_get (code_of image c) (at steps).state.at ≡ Some Halt
    pub made : events (M.first does steps) ≡ acts end.made
    pub sent : (m : ℕ) → wrote steps m ≡ sent_to m end.sent

  pub ended : (cost : ℕ) (end : Alone) → EndsAlone image c (inputs c) v cost end → Ended cost end
  ended cost end h =
      let ran =
      runs h.steps 0 h.steps _ end (omega arith) (record { state = refl; taken = λ m. refl }) refl (λ m. refl) h.ends
      in
      let last : slice_get (code_of image c) (at h.steps).state.at ≡ Some Halt =
      ap (λ (s : State). slice_get (code_of image c) s.at) ran.same.state ∙ h.halts
      in
      record {
        steps = h.steps;
        within = h.within;
        halts = ap (λ o. action_of (elim o [ None ↦ Stands | Some i ↦ row_of c (inputs c) (at h.steps).state i ])) last;
        goes = λ n l. ran.goes n (omega arith) l;
        state = ran.same.state;
        at_halt = last;
        made = ran.made;
        sent = ran.sent;
      }

  -- what comes of it
  pub record Halting (cost : ℕ) (made : List Communication) : Type 0 where
    pub halts : does cost ≡ F.Halt
    pub alike : events (M.actions_alone mc v (start image) c cost) ≡ acts made
    pub at_halt : (n : ℕ) → does n ≡ F.Halt → slice_get (code_of image c) (at n).state.at ≡ Some Halt

  pub halting : (cost : ℕ) (end : Alone) → EndsAlone image c (inputs c) v cost end → Halting cost end.made
  halting cost end h =
      let e = ended cost end h in
      record {
        halts = ap (λ a. mc.action c a.state) (stays e.steps cost e.within e.halts) ∙ e.halts;
        alike = events_stay e.steps cost e.within e.halts ∙ e.made;
        at_halt = λ n there.
            elim (cases_lt n e.steps) [
              | inl l ↦ absurd (e.goes n l there)
              | inr l ↦
                  ap (λ (a : M.Alone State). slice_get (code_of image c) a.state.at) (stays e.steps n l e.halts) ∙ e.at_halt
            ];
      }
