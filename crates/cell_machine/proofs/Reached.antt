-- A machine that was reached has what its next instruction needs, and every step leads to a machine that was reached.
use Rattle.std.proofs.Common.{◌≡◌, ℤ, ℕ, ◌^◌, ◌+◌, ◌-◌, ◌<◌, ◌≤◌, Bool, true, false, List, [], length, reverse, Option, Some, None, refl, sym, ◌∙◌, subst, inl, inr, arith}
use Rattle.std.specs.Bool.{MatchBool}
use Rattle.std.specs.Prelude.{⊤, MatchOption}
use Rattle.std.specs.List.{slice_get}
use Rattle.std.specs.Vec.{vec_len, vec_capacity}
use Rattle.std.proofs.lemmas.List.{length-reverse, length-replicate}
use Rattle.std.proofs.lemmas.Bool.{cases_lt}
use Rattle.std.proofs.lemmas.Option.{slice_get_within}
use Rattle.sys_base.specs.Communications.{Takes, Emits, same_communication}
use Rattle.sys_base.specs.declared.word.Word.{Word}
use Rattle.cell_code.specs.declared.image.CellImage.{CellImage}
use Rattle.cell_code.specs.declared.instruction.Instr.{Instr}
use Rattle.cell_code.specs.declared.instruction.Instr.TheVariants.{Push, Load, LoadAt, Counter, Neg, Bin, Store, StoreAt, Write, Read, Take, Emit, Loop, Next, IfZero, Jump, Halt}
use Rattle.cell_code.specs.Alone.{noted}
use Rattle.cell_code.specs.Rows.{State, Row, Stands, Moves, Sends, Receives, received, communication_of}
use Rattle.cell_code.specs.ShapedCells.{EndsInHalt, LeadsInside, pops, pushes, PathGoes, OnPath, IsShapedCell, starts, goes}
use Rattle.cell_machine.proofs.After.{point, counted, After, RowAfter}
use Rattle.cell_machine.specs.Machine.{Machine, IsReached, new_machine}
use Rattle.cell_machine.specs.Ready.{machine_of, IsReady}
use Rattle.cell_machine.specs.Steps.{Does}
use Rattle.cell_machine.specs.declared.registers.Registers.{Registers}
use Rattle.cell_machine.specs.declared.step.CellStep.{CellStep}
use Rattle.cell_machine.specs.declared.step.CellStep.TheVariants.{Moved, WaitsWrite, WaitsRead}

-- ---- paths stay inside the code

-- an instruction before the end
before_end : (code : List Instr) → EndsInHalt code → (at : ℕ) (instr : Instr) → slice_get code at ≡ Some instr → (instr ≡ Halt → ⊥) →
    at + 1 < length code
before_end code ends at instr is other = elim (cases_lt (at + 1) (length code)) [ inl less ↦ less | inr same ↦ absurd (other (last same)) ]
  where
    last : length code ≤ at + 1 → instr ≡ Halt
    last h =
        let in_code = slice_get_within code at instr is in
        let e : length code - 1 ≡ at = omega arith in
        let h = subst (λ n. slice_get code n ≡ Some Halt) e ends.last in
        cc

pub inside : (code : List Instr) → EndsInHalt code → ((at : ℕ) (instr : Instr) → slice_get code at ≡ Some instr → LeadsInside (length code) instr) →
    (at depth : ℕ) → OnPath code at depth → at < length code
inside code ends targets _ _ starts = let last = slice_get_within code _ _ ends.last in omega arith
inside code ends targets _ _ (goes at depth next instr path is go) = goes_inside instr is go
  where
    to_next : (instr : Instr) → slice_get code at ≡ Some instr → (instr ≡ Halt → ⊥) → next ≡ at + 1 → next < length code
    to_next instr is other e = omega (arith, before_end code ends at instr is other)

    goes_inside : (instr : Instr) → slice_get code at ≡ Some instr → PathGoes instr at next → next < length code
    goes_inside (Loop k turns exit) is (inl e) = to_next _ is (λ f. cc) e
    goes_inside (Loop k turns exit) is (inr e) = omega (arith, targets at _ is)
    goes_inside (Next k turns body) is (inl e) = to_next _ is (λ f. cc) e
    goes_inside (Next k turns body) is (inr e) = omega (arith, targets at _ is)
    goes_inside (IfZero target) is (inl e) = to_next _ is (λ f. cc) e
    goes_inside (IfZero target) is (inr e) = omega (arith, targets at _ is)
    goes_inside (Jump target) is e = omega (arith, targets at _ is)
    goes_inside Halt is e = absurd e
    goes_inside instr is e = to_next instr is (λ f. cc) e

-- ---- what the next instruction needs

-- what an instruction needs of a machine
abbrev pub Needs : Instr → Machine → Type 0
Needs (Push number) m = length m.state.stack < m.places
Needs (Load word) m = (length m.state.stack < m.places) × (word < length m.state.held.words)
Needs (LoadAt base len line) m = (1 ≤ length m.state.stack) × (base + len ≤ length m.state.held.words)
Needs (Counter k) m = (length m.state.stack < m.places) × (k < length m.state.held.counters)
Needs (Neg line) m = 1 ≤ length m.state.stack
Needs (Bin op line) m = 2 ≤ length m.state.stack
Needs (Store word) m = (1 ≤ length m.state.stack) × (word < length m.state.held.words)
Needs (StoreAt base len line) m = (2 ≤ length m.state.stack) × (base + len ≤ length m.state.held.words)
Needs (Write message) m = 1 ≤ length m.state.stack
Needs (Read message word) m = word < length m.state.held.words
Needs (Take word) m = (word < length m.state.held.words) × (m.state.held.taken < length m.input)
Needs Emit m = (1 ≤ length m.state.stack) × (length m.state.held.output < m.room)
Needs (Loop k turns exit) m = k < length m.state.held.counters
Needs (Next k turns body) m = k < length m.state.held.counters
Needs (IfZero target) m = 1 ≤ length m.state.stack
Needs (Jump target) m = ⊤
Needs Halt m = ⊤

module _ (image : CellImage) (m : Machine) (r : IsReached image m) where
  -- the depth after an instruction that goes to the next address
  after_next : (instr : Instr) → slice_get image.code m.state.at ≡ Some instr → PathGoes instr m.state.at (m.state.at + 1) →
      length m.state.stack - pops instr + pushes instr ≤ m.places
  after_next instr is go =
      let e = r.shaped.stack.not_deep _ _ (goes m.state.at (length m.state.stack) (m.state.at + 1) instr r.path is go) in
      omega (arith, e, r.places)

  pub there : (instr : Instr) → slice_get image.code m.state.at ≡ Some instr → pops instr ≤ length m.state.stack
  there instr is = r.shaped.stack.no_empty_pop m.state.at (length m.state.stack) instr r.path is

  pub needs : (instr : Instr) → slice_get image.code m.state.at ≡ Some instr → Needs instr m
  needs (Push number) is = omega (arith, after_next (Push number) is refl)
  needs (Load word) is =
      (omega (arith, after_next (Load word) is refl), omega (arith, r.shaped.ranges m.state.at (Load word) is, r.words))
  needs (LoadAt base len line) is =
      (there (LoadAt base len line) is, omega (arith, r.shaped.ranges m.state.at (LoadAt base len line) is, r.words))
  needs (Counter k) is =
      (omega (arith, after_next (Counter k) is refl), omega (arith, r.shaped.ranges m.state.at (Counter k) is, r.counters))
  needs (Neg line) is = there (Neg line) is
  needs (Bin op line) is = there (Bin op line) is
  needs (Store word) is = (there (Store word) is, omega (arith, r.shaped.ranges m.state.at (Store word) is, r.words))
  needs (StoreAt base len line) is =
      (there (StoreAt base len line) is, omega (arith, r.shaped.ranges m.state.at (StoreAt base len line) is, r.words))
  needs (Write message) is = there (Write message) is
  needs (Read message word) is = omega (arith, r.shaped.ranges m.state.at (Read message word) is, r.words)
  needs (Take word) is = (
    omega (arith, r.shaped.ranges m.state.at (Take word) is, r.words),
    let most = r.shaped.counts.takes_most _ (goes (point m.state r.made) _ (Take word) r.way is refl) in
        omega (arith, most, counted (same_communication Takes) r.made Takes, r.taken, r.input),
  )
  needs Emit is = (
    there Emit is,
    let most = r.shaped.counts.emits_most _ (goes (point m.state r.made) _ Emit r.way is refl) in
        omega (arith, most, counted (same_communication Emits) r.made Emits, r.emitted, r.room),
  )
  needs (Loop k turns exit) is = omega (arith, r.shaped.ranges m.state.at (Loop k turns exit) is, r.counters)
  needs (Next k turns body) is = omega (arith, r.shaped.ranges m.state.at (Next k turns body) is, r.counters)
  needs (IfZero target) is = there (IfZero target) is
  needs (Jump target) is = tt
  needs Halt is = tt

  -- ---- the next machine

  pub reached_after : (instr : Instr) → slice_get image.code m.state.at ≡ Some instr → (t : State) → After instr m.state t →
      IsReached image (record m { state = t })
  reached_after instr is t a =
      record {
        shaped = r.shaped;
        short = r.short;
        path =
            subst (λ n. OnPath image.code t.at n) (sym a.depth)
            (goes m.state.at (length m.state.stack) t.at instr r.path is a.path);
        made = noted r.made (communication_of instr);
        way = goes (point m.state r.made) (point t (noted r.made (communication_of instr))) instr r.way is (a.way r.made);
        taken = a.taken r.made r.taken;
        emitted = a.emitted r.made r.emitted;
        words = a.words ∙ r.words;
        counters = a.counters ∙ r.counters;
        input = r.input;
        places = r.places;
        room = r.room;
      }

  same_state : (t : State) → t ≡ m.state → IsReached image (record m { state = t })
  same_state t e = subst (λ u. IsReached image (record m { state = u })) (sym e) r

-- a step by a row
pub does_reached : (image : CellImage) (m : Machine) → IsReached image m → (instr : Instr) → slice_get image.code m.state.at ≡ Some instr →
    (t : State) {P : Type 0} (room : P → ℕ → Bool) (first : P → ℕ → Option Word) (wrote gave : P → ℕ → Word → P → Type 0) (row : Row) (p q : P) (answer : CellStep) →
    Does room first wrote gave row m.state t p q answer → RowAfter instr m.state row → IsReached image (record m { state = t })
does_reached image m r instr is t room first wrote gave Stands p q answer does after = same_state image m r t does.1
does_reached image m r instr is t room first wrote gave (Moves next) p q answer does after =
    reached_after image m r instr is t (subst (λ u. After instr m.state u) (sym does.1) after)
does_reached image m r instr is t {P} room first wrote gave (Sends message word next) p q answer does after = sent (room p message) does
  where
    sent : (b : Bool) →
        MatchBool b ((answer ≡ Moved) × (t ≡ next) × wrote p message word q)
        ((answer ≡ WaitsWrite message) × (t ≡ m.state) × (q ≡ p)) → IsReached image (record m { state = t })
    sent true does = reached_after image m r instr is t (subst (λ u. After instr m.state u) (sym does.1) after)
    sent false does = same_state image m r t does.1
does_reached image m r instr is t {P} room first wrote gave (Receives message variable next) p q answer does after = given (first p message) does
  where
    given : (o : Option Word) →
        MatchOption o ((answer ≡ WaitsRead message) × (t ≡ m.state) × (q ≡ p))
        (λ word. (answer ≡ Moved) × (t ≡ received next variable word) × gave p message word q) →
        IsReached image (record m { state = t })
    given (Some word) does = reached_after image m r instr is t (subst (λ u. After instr m.state u) (sym does.1) (after word))
    given None does = same_state image m r t does.1

-- a new machine
pub new_reached : (cell : ℕ) (image : CellImage) (input : List ℤ) → IsShapedCell image → length image.code < 2 ^ 32 →
    length input ≡ image.takes → IsReached image (new_machine cell image input)
new_reached cell image input shaped short takes =
    record {
      shaped = shaped;
      short = short;
      path = starts;
      made = [];
      way = starts;
      taken = refl;
      emitted = refl;
      words = length-replicate image.words _;
      counters = length-replicate image.counters 0;
      input = takes;
      places = refl;
      room = refl;
    }

-- ---- the registers

module _ (r : Registers) (places room : ℕ) (stack : places ≤ vec_capacity r.stack) (output : room ≤ vec_capacity r.output) where
  deep : length (reverse r.stack.items) ≡ vec_len r.stack
  deep = length-reverse r.stack.items ∙ sym r.stack.ok.0

  pub is_ready : (instr : Instr) → Needs instr (machine_of r places room) → IsReady instr r
  is_ready (Push number) n = omega (arith, deep)
  is_ready (Load word) n = (omega (arith, deep, n.0), omega (arith, n.1, r.words.ok.0))
  is_ready (LoadAt base len line) n = (omega (arith, deep, n.0), omega (arith, n.1, r.words.ok.0))
  is_ready (Counter k) n = (omega (arith, deep, n.0), omega (arith, n.1, r.counters.ok.0))
  is_ready (Neg line) n = omega (arith, deep)
  is_ready (Bin op line) n = omega (arith, deep)
  is_ready (Store word) n = (omega (arith, deep, n.0), omega (arith, n.1, r.words.ok.0))
  is_ready (StoreAt base len line) n = (omega (arith, deep, n.0), omega (arith, n.1, r.words.ok.0))
  is_ready (Write message) n = omega (arith, deep)
  is_ready (Read message word) n = omega (arith, r.words.ok.0)
  is_ready (Take word) n = (omega (arith, n.0, r.words.ok.0), omega (arith, n.1, r.input.ok.0))
  is_ready Emit n = (omega (arith, deep, n.0), omega (arith, n.1, r.output.ok.0))
  is_ready (Loop k turns exit) n = omega (arith, r.counters.ok.0)
  is_ready (Next k turns body) n = omega (arith, r.counters.ok.0)
  is_ready (IfZero target) n = omega (arith, deep)
  is_ready (Jump target) n = tt
  is_ready Halt n = tt
