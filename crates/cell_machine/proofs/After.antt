-- What the row of each instruction leaves: the next point of a path and of a way, and the lengths of what the cell holds.
use Rattle.std.proofs.Common.{◌≡◌, ℕ, ◌+◌, ◌-◌, Bool, true, false, if◌then◌else◌, nat_eq, nat_lt, ℤ, pos, negsuc, List, [], ◌∷◌, ◌++◌, length, count_by, refl, sym, ◌∙◌, ap, subst, inl, inr, ◌⊎◌, arith, length-append}
use Rattle.std.specs.Prelude.{⊤}
use Rattle.std.proofs.lemmas.List.Sums.{sum_by-append}
use Rattle.std.proofs.lemmas.List.{length-set}
use Rattle.sys_base.specs.Communications.{Communication, Writes, Reads, Takes, Emits, same_communication, times}
use Rattle.sys_base.specs.Held.{Held, counter, with_word, with_element, broken_by, tested, takes_first, given}
use Rattle.sys_base.specs.declared.word.Fault.{Fault}
use Rattle.sys_base.specs.declared.word.Word.{Word}
use Rattle.sys_base.specs.declared.word.Word.TheVariants.{Num, Fault as Faulty}
use Rattle.cell_code.specs.declared.instruction.Instr.{Instr}
use Rattle.cell_code.specs.declared.instruction.Instr.TheVariants.{Push, Load, LoadAt, Counter, Neg, Bin, Store, StoreAt, Write, Read, Take, Emit, Loop, Next, IfZero, Jump, Halt}
use Rattle.cell_code.specs.Alone.{noted}
use Rattle.cell_code.specs.Rows.{State, Row, Stands, Moves, Sends, Receives, grown, row_of, received, communication_of}
use Rattle.cell_code.specs.ShapedCells.{pops, pushes, PathGoes, Point, WayGoes}

-- the point of a way at a state
abbrev pub point : State → List Communication → Point
point s made = record { at = s.at; counters = s.held.counters; made = made }

-- what an instruction leaves of a state
pub record After (instr : Instr) (s t : State) : Type 0 where
  pub path : PathGoes instr s.at t.at
  pub depth : length t.stack ≡ length s.stack - pops instr + pushes instr
  pub way : (made : List Communication) → WayGoes instr (point s made) (point t (noted made (communication_of instr)))
  pub taken : (made : List Communication) → times Takes made ≡ s.held.taken →
      times Takes (noted made (communication_of instr)) ≡ t.held.taken
  pub emitted : (made : List Communication) → times Emits made ≡ length s.held.output →
      times Emits (noted made (communication_of instr)) ≡ length t.held.output
  pub words : length t.held.words ≡ length s.held.words
  pub counters : length t.held.counters ≡ length s.held.counters

-- what its row leaves
abbrev pub RowAfter : Instr → State → Row → Type 0
RowAfter instr s Stands = ⊤
RowAfter instr s (Moves t) = After instr s t
RowAfter instr s (Sends message word t) = After instr s t
RowAfter instr s (Receives message variable t) = (word : Word) → After instr s (received t variable word)

-- ---- what changes of the held do

-- nothing that a way counts has changed
record Quiet (old new : Held) : Type 0 where
  counters : new.counters ≡ old.counters
  taken : new.taken ≡ old.taken
  output : new.output ≡ old.output
  words : length new.words ≡ length old.words

quiet_word : (h : Held) (word : ℕ) (value : Word) → Quiet h (with_word h word value)
quiet_word h word value =
    record { counters = refl; taken = refl; output = refl; words = length-set h.words word value }

quiet_break : (h : Held) (fault : Fault) → Quiet h (broken_by h fault)
quiet_break h fault = record { counters = refl; taken = refl; output = refl; words = refl }

quiet_choice : (b : Bool) (h x y : Held) → Quiet h x → Quiet h y → Quiet h (if b then x else y)
quiet_choice true h x y p q = p
quiet_choice false h x y p q = q

quiet_element : (h : Held) (base len : ℕ) (index value : Word) (cell line : ℕ) →
    Quiet h (with_element h base len index value cell line)
quiet_element h base len (Faulty fault) value cell line = quiet_break h fault
quiet_element h base len (Num (negsuc n)) value cell line = quiet_break h _
quiet_element h base len (Num (pos n)) value cell line =
    quiet_choice (nat_lt n len) h _ _ (quiet_word h (base + n) value) (quiet_break h _)

quiet_test : (h : Held) (test : Word) → Quiet h (tested h test)
quiet_test h (Faulty fault) = quiet_break h fault
quiet_test h (Num n) = record { counters = refl; taken = refl; output = refl; words = refl }

-- less of that
record Calm (old new : Held) : Type 0 where
  taken : new.taken ≡ old.taken
  output : new.output ≡ old.output
  words : length new.words ≡ length old.words
  counters : length new.counters ≡ length old.counters

calm : (old new : Held) → Quiet old new → Calm old new
calm old new q = record { taken = q.taken; output = q.output; words = q.words; counters = ap length q.counters }

same : (h : Held) → Calm h h
same h = record { taken = refl; output = refl; words = refl; counters = refl }

-- one more communication is counted where it is the one
pub counted : (one : Communication → Bool) (made : List Communication) (c : Communication) →
    count_by one (made ++ c ∷ []) ≡ count_by one made + (if one c then 1 else 0)
counted one made c = omega (arith, sum_by-append (λ x. if one x then 1 else 0) made (c ∷ []))

-- ---- choices

abbrev point_at : ℕ → List ℕ → List Communication → Point
point_at at counters made = record { at = at; counters = counters; made = made }

to_either : (b : Bool) (x y : ℕ) → ((if b then x else y) ≡ x) ⊎ ((if b then x else y) ≡ y)
to_either true x y = inl refl
to_either false x y = inr refl

to_other : (b : Bool) (x y : ℕ) → ((if b then x else y) ≡ y) ⊎ ((if b then x else y) ≡ x)
to_other true x y = inr refl
to_other false x y = inl refl

way_either : (b : Bool) (at target : ℕ) (old new : List ℕ) (made : List Communication) → new ≡ old →
    WayGoes (IfZero target) (point_at at old made) (point_at (if b then at + 1 else target) new made)
way_either true at target old new made e = inl (ap (λ cs. point_at (at + 1) cs made) e)
way_either false at target old new made e = inr (ap (λ cs. point_at target cs made) e)

-- ---- the rows

-- an instruction that communicates nothing
plain : (instr : Instr) (s t : State) → PathGoes instr s.at t.at → length t.stack ≡ length s.stack - pops instr + pushes instr →
    ((made : List Communication) → WayGoes instr (point s made) (point t made)) → Calm s.held t.held →
    ((made : List Communication) → noted made (communication_of instr) ≡ made) → After instr s t
plain instr s t path depth way calm none =
    record {
      path = path;
      depth = depth;
      way = λ made. subst (λ ms. WayGoes instr (point s made) (point t ms)) (sym (none made)) (way made);
      taken = λ made e. ap (times Takes) (none made) ∙ e ∙ sym calm.taken;
      emitted = λ made e. ap (times Emits) (none made) ∙ e ∙ sym (ap length calm.output);
      words = calm.words;
      counters = calm.counters;
    }

pub row_after : (cell : ℕ) (input : List ℤ) (at : ℕ) (stack : List Word) (h : Held) (instr : Instr) →
    RowAfter instr (record { at = at; stack = stack; held = h }) (row_of cell input (record { at = at; stack = stack; held = h }) instr)
row_after cell input at stack h (Push n) = plain (Push n) _ _ refl (omega arith) (λ made. refl) (same h) (λ made. refl)
row_after cell input at stack h (Load v) = plain (Load v) _ _ refl (omega arith) (λ made. refl) (same h) (λ made. refl)
row_after cell input at [] h (LoadAt base len line) = tt
row_after cell input at (index ∷ rest) h (LoadAt base len line) =
    plain (LoadAt base len line) _ _ refl (omega arith) (λ made. refl) (same h) (λ made. refl)
row_after cell input at stack h (Counter k) = plain (Counter k) _ _ refl (omega arith) (λ made. refl) (same h) (λ made. refl)
row_after cell input at [] h (Neg line) = tt
row_after cell input at (a ∷ rest) h (Neg line) = plain (Neg line) _ _ refl (omega arith) (λ made. refl) (same h) (λ made. refl)
row_after cell input at [] h (Bin op line) = tt
row_after cell input at (b ∷ []) h (Bin op line) = tt
row_after cell input at (b ∷ a ∷ rest) h (Bin op line) =
    plain (Bin op line) _ _ refl (omega arith) (λ made. refl) (same h) (λ made. refl)
row_after cell input at [] h (Store v) = tt
row_after cell input at (a ∷ rest) h (Store v) =
    plain (Store v) _ _ refl (omega arith) (λ made. refl) (calm h _ (quiet_word h v a)) (λ made. refl)
row_after cell input at [] h (StoreAt base len line) = tt
row_after cell input at (b ∷ []) h (StoreAt base len line) = tt
row_after cell input at (value ∷ index ∷ rest) h (StoreAt base len line) =
    let q = quiet_element h base len index value cell line in
    plain (StoreAt base len line) _ _ refl (omega arith) (λ made. ap (λ cs. point_at (at + 1) cs made) q.counters) (calm h _ q) (λ made. refl)
row_after cell input at [] h (Write m) = tt
row_after cell input at (a ∷ rest) h (Write m) =
    record {
      path = refl;
      depth = omega arith;
      way = λ made. refl;
      taken = λ made e. omega (arith, counted (same_communication Takes) made (Writes m));
      emitted = λ made e. omega (arith, counted (same_communication Emits) made (Writes m));
      words = refl;
      counters = refl;
    }
row_after cell input at stack h (Read m v) =
    λ word.
    record {
      path = refl;
      depth = omega arith;
      way = λ made. refl;
      taken = λ made e. omega (arith, counted (same_communication Takes) made (Reads m));
      emitted = λ made e. omega (arith, counted (same_communication Emits) made (Reads m));
      words = length-set h.words v word;
      counters = refl;
    }
row_after cell input at stack h (Take v) =
    record {
      path = refl;
      depth = omega arith;
      way = λ made. refl;
      taken = λ made e. omega (arith, counted (same_communication Takes) made Takes);
      emitted = λ made e. omega (arith, counted (same_communication Emits) made Takes);
      words = length-set h.words v _;
      counters = refl;
    }
row_after cell input at [] h Emit = tt
row_after cell input at (a ∷ rest) h Emit =
    record {
      path = refl;
      depth = omega arith;
      way = λ made. refl;
      taken = λ made e. omega (arith, counted (same_communication Takes) made Emits);
      emitted = λ made e. omega (arith, counted (same_communication Emits) made Emits, length-append h.output (given h.kept a ∷ []));
      words = refl;
      counters = refl;
    }
row_after cell input at stack h (Loop k turns exit) =
    plain (Loop k turns exit) _ _ (to_other (nat_eq turns 0) exit (at + 1)) (omega arith) (λ made. refl)
    (record { taken = refl; output = refl; words = refl; counters = length-set h.counters k 0 }) (λ made. refl)
row_after cell input at stack h (Next k turns body) =
    plain (Next k turns body) _ _ (to_other (nat_lt (grown (counter h k) turns) turns) body (at + 1)) (omega arith) (λ made. refl)
    (record { taken = refl; output = refl; words = refl; counters = length-set h.counters k _ }) (λ made. refl)
row_after cell input at [] h (IfZero target) = tt
row_after cell input at (test ∷ rest) h (IfZero target) =
    let q = quiet_test h test in
    plain (IfZero target) _ _ (to_either (takes_first h.kept test) (at + 1) target) (omega arith)
    (λ made. way_either (takes_first h.kept test) at target h.counters (tested h test).counters made q.counters) (calm h _ q) (λ made. refl)
row_after cell input at stack h (Jump target) = plain (Jump target) _ _ refl (omega arith) (λ made. refl) (same h) (λ made. refl)
row_after cell input at stack h Halt = tt
