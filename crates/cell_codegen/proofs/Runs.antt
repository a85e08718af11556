-- The code of a cell follows its statements.
use Rattle.std.proofs.Common.{◌≡◌, ℕ, zero, suc, ◌+◌, ◌*◌, ◌<◌, max, Bool, true, false, if◌then◌else◌, nat_eq, nat_lt, ℤ, pos, List, [], ◌∷◌, ◌++◌, length, Some, refl, sym, ◌∙◌, ap, subst, arith, length-append}
use Rattle.std.specs.Prelude.{⊤}
use Rattle.std.specs.List.{slice_get}
use Rattle.std.proofs.lemmas.Bool.{lt-ltb, le-ltb, ne_eqb}
use Rattle.std.proofs.lemmas.List.{length-set, length-replicate, get_or-set_same}
use Rattle.sys_base.specs.Held.{Streams, counter, tested, takes_first}
use Rattle.sys_base.specs.declared.word.Word.{Word}
use Rattle.cell_code.specs.declared.instruction.Instr.{Instr}
use Rattle.cell_code.specs.declared.instruction.Instr.TheVariants as I
use Rattle.cell_code.specs.Alone.{after_row}
use Rattle.cell_code.specs.Rows.{row_of, grown, communication_of}
use Rattle.cell_types.specs.Code.{Expression, Number, Variable, Counter, Element, Negated, Applied, Action, Set, SetAt, Write, Read, Take, Emit, For, If, Block, End, Then, ProgramCode}
use Rattle.cell_types.specs.Cost.{expression_cost, action_cost, block_cost}
use Rattle.cell_types.specs.Solo.{Solo, value_of, turns_from, counting, do_action, do_block, opening, code_of}
use Rattle.cell_types.specs.Sound.{Means, SoundAction, SoundBlock}
use Rattle.cell_codegen.specs.Emission.{expression_code, loop_code, if_code, action_code, block_code, body_code}
use Rattle.cell_codegen.specs.Following.{place, StraightAction, StraightBlock, Follows}
use Rattle.cell_codegen.proofs.Keeps.{test_kept, keeps_action, keeps_block}
use Rattle.cell_codegen.proofs.Steps.{HasAt, has_front, has_back, has_all, Within, stay, join, equal, under, wider, one}

module _ (code : List Instr) (cell : ℕ) (input : List ℤ) (streams : Streams) where
  -- an instruction behind the code of an operand
  use_one : (straight : Type 0) (cost at : ℕ) (operand : List Instr) (instr : Instr) (stack under_it after : List Word) (s t : Solo) →
      HasAt code at (operand ++ instr ∷ []) →
      Within code cell input streams straight cost (place at stack s) (place (at + length operand) under_it s) →
      after_row streams (communication_of instr) (place (at + length operand) under_it s)
      (row_of cell input (place (at + length operand) under_it s).state instr) ≡ Some (place (at + length operand + 1) after t) →
      Within code cell input streams straight (cost + 1) (place at stack s) (place (at + length (operand ++ instr ∷ [])) after t)
  use_one straight cost at operand instr stack under_it after s t has run row =
      let e : at + length operand + 1 ≡ at + length (operand ++ instr ∷ []) = omega (arith, length-append operand (instr ∷ [])) in
      subst (λ n. Within code cell input streams straight (cost + 1) (place at stack s) (place n after t)) e
      (join code cell input streams straight cost 1 _ _ _ run
      (one code cell input streams straight instr (place (at + length operand) under_it s) (place (at + length operand + 1) after t)
      (has_back code at operand (instr ∷ []) has).0 row))

  -- an instruction behind the code of two operands
  use_two : (straight : Type 0) (c d at : ℕ) (left right : List Instr) (instr : Instr) (stack one_on two_on after : List Word) (s t : Solo) →
      HasAt code at (left ++ (right ++ instr ∷ [])) →
      Within code cell input streams straight c (place at stack s) (place (at + length left) one_on s) →
      Within code cell input streams straight d (place (at + length left) one_on s) (place (at + length left + length right) two_on s) →
      after_row streams (communication_of instr) (place (at + length left + length right) two_on s)
      (row_of cell input (place (at + length left + length right) two_on s).state instr)
      ≡ Some (place (at + length left + length right + 1) after t) →
      Within code cell input streams straight (c + d + 1) (place at stack s) (place (at + length (left ++ (right ++ instr ∷ []))) after t)
  use_two straight c d at left right instr stack one_on two_on after s t has run next row =
      let e : at + length left + length (right ++ instr ∷ []) ≡ at + length (left ++ (right ++ instr ∷ [])) =
      omega (arith, length-append left (right ++ instr ∷ [])) in
      let z : c + (d + 1) ≡ c + d + 1 = omega arith in
      equal code cell input streams straight (c + (d + 1)) (c + d + 1) _ _ z
      (subst (λ n. Within code cell input streams straight (c + (d + 1)) (place at stack s) (place n after t)) e
      (join code cell input streams straight c (d + 1) _ _ _ run
      (use_one straight d (at + length left) right instr one_on two_on after s t
      (has_back code at left (right ++ instr ∷ []) has) next row)))

  -- ---- expressions

  expression_runs : (line : ℕ) (e : Expression) (at : ℕ) (stack : List Word) (s : Solo) → HasAt code at (expression_code line e) →
      Within code cell input streams ⊤ (expression_cost e) (place at stack s)
      (place (at + length (expression_code line e)) (value_of cell line s.held e ∷ stack) s)
  expression_runs line (Number n) at stack s has = one code cell input streams ⊤ (I.Push (pos n)) (place at stack s) _ has.0 refl
  expression_runs line (Variable w) at stack s has = one code cell input streams ⊤ (I.Load w) (place at stack s) _ has.0 refl
  expression_runs line (Counter k) at stack s has = one code cell input streams ⊤ (I.Counter k) (place at stack s) _ has.0 refl
  expression_runs line (Element base len e) at stack s has =
      let is = expression_code line e in
      use_one ⊤ (expression_cost e) at is (I.LoadAt base len line) stack _ _ s s has
      (expression_runs line e at stack s (has_front code at is _ has)) refl
  expression_runs line (Negated e) at stack s has =
      let is = expression_code line e in
      use_one ⊤ (expression_cost e) at is (I.Neg line) stack _ _ s s has
      (expression_runs line e at stack s (has_front code at is _ has)) refl
  expression_runs line (Applied op l r) at stack s has =
      let left = expression_code line l in
      let right = expression_code line r in
      let behind = has_back code at left (right ++ I.Bin op line ∷ []) has in
      use_two ⊤ (expression_cost l) (expression_cost r) at left right (I.Bin op line) stack _ _ _ s s has
      (expression_runs line l at stack s (has_front code at left _ has))
      (expression_runs line r (at + length left) (value_of cell line s.held l ∷ stack) s (has_front code (at + length left) right _ behind))
      refl

  -- ---- loops

  -- the step at the end of a turn
  turn_ends : (straight : Type 0) (k n i body pc : ℕ) (stack : List Word) (s : Solo) → slice_get code pc ≡ Some (I.Next k n body) →
      counter s.held k ≡ i → i < n →
      Within code cell input streams straight 1 (place pc stack s)
      (place (if nat_lt (i + 1) n then body else pc + 1) stack (counting k (i + 1) s))
  turn_ends straight k n i body pc stack s is value less =
      let e : grown (counter s.held k) n ≡ i + 1 =
      ap (λ c. grown c n) value ∙ ap (λ b. if b then i + 1 else i) (lt-ltb i n less) in
      one code cell input streams straight (I.Next k n body) (place pc stack s) _ is
      (ap (λ c. Some (place (if nat_lt c n then body else pc + 1) stack (counting k c s))) e)

  module _ (straight : Type 0) (k n limit body pc cost : ℕ) (inside : k < limit) (stack : List Word) (f : Solo → Solo) (is : slice_get code pc ≡ Some (I.Next k n body)) (runs : (s : Solo) → length s.held.counters ≡ limit → Within code cell input streams straight cost (place body stack s) (place pc stack (f s))) (value : (s : Solo) → counter (f s).held k ≡ counter s.held k) (count : (s : Solo) → length (f s).held.counters ≡ length s.held.counters) where
    -- a turn and the step at its end
    turn_runs : (i : ℕ) (s : Solo) → i < n → length s.held.counters ≡ limit →
        Within code cell input streams straight (cost + 1) (place body stack (counting k i s))
        (place (if nat_lt (i + 1) n then body else pc + 1) stack (counting k (i + 1) (f (counting k i s))))
    turn_runs i s less long =
        let there : length (counting k i s).held.counters ≡ limit = length-set s.held.counters k i ∙ long in
        let v : counter (counting k i s).held k ≡ i = get_or-set_same s.held.counters k i 0 (omega (arith, long)) in
        join code cell input streams straight cost 1 _ _ _ (runs (counting k i s) there)
        (turn_ends straight k n i body pc stack (f (counting k i s)) is (value (counting k i s) ∙ v) less)

    -- the turns that are left, one at least
    turns_run : (r i : ℕ) (s : Solo) → i + suc r ≡ n → length s.held.counters ≡ limit →
        Within code cell input streams straight (suc r * (cost + 1)) (place body stack (counting k i s))
        (place (pc + 1) stack (counting k n (turns_from (λ turn now. f (counting k turn now)) i (suc r) s)))
    turns_run zero i s e long =
        let last : nat_lt (i + 1) n ≡ false = le-ltb (i + 1) n (omega arith) in
        let end : i + 1 ≡ n = omega arith in
        let z : cost + 1 ≡ suc zero * (cost + 1) = omega arith in
        equal code cell input streams straight (cost + 1) (suc zero * (cost + 1)) _ _ z
        (subst (λ m. Within code cell input streams straight (cost + 1) (place body stack (counting k i s))
        (place (pc + 1) stack (counting k m (f (counting k i s))))) end
        (subst (λ b. Within code cell input streams straight (cost + 1) (place body stack (counting k i s))
        (place (if b then body else pc + 1) stack (counting k (i + 1) (f (counting k i s))))) last
        (turn_runs i s (omega arith) long)))
    turns_run (suc r) i s e long =
        let more : nat_lt (i + 1) n ≡ true = lt-ltb (i + 1) n (omega arith) in
        let z : (cost + 1) + suc r * (cost + 1) ≡ suc (suc r) * (cost + 1) = omega arith in
        let next = f (counting k i s) in
        let there : length next.held.counters ≡ limit = count (counting k i s) ∙ length-set s.held.counters k i ∙ long in
        equal code cell input streams straight ((cost + 1) + suc r * (cost + 1)) (suc (suc r) * (cost + 1)) _ _ z
        (join code cell input streams straight (cost + 1) (suc r * (cost + 1)) _ _ _
        (subst (λ b. Within code cell input streams straight (cost + 1) (place body stack (counting k i s))
        (place (if b then body else pc + 1) stack (counting k (i + 1) next))) more
        (turn_runs i s (omega arith) long))
        (turns_run r (i + 1) next (omega arith) there))

    -- the whole loop
    loop_runs : (m at : ℕ) (s : Solo) → m ≡ n → slice_get code at ≡ Some (I.Loop k n (pc + 1)) → body ≡ at + 1 →
        length s.held.counters ≡ limit →
        Within code cell input streams straight (1 + n * (cost + 1)) (place at stack s)
        (place (pc + 1) stack (counting k n (turns_from (λ turn now. f (counting k turn now)) 0 n s)))
    loop_runs zero at s e begins next long =
        let first = one code cell input streams straight (I.Loop k n (pc + 1)) (place at stack s)
        (place (if nat_eq n 0 then pc + 1 else at + 1) stack (counting k 0 s)) begins refl in
        let none : nat_eq n 0 ≡ true = subst (λ j. nat_eq j 0 ≡ true) e refl in
        let z : 1 ≡ 1 + 0 * (cost + 1) = omega arith in
        subst (λ j. Within code cell input streams straight (1 + j * (cost + 1)) (place at stack s)
        (place (pc + 1) stack (counting k j (turns_from (λ turn now. f (counting k turn now)) 0 j s)))) e
        (equal code cell input streams straight 1 (1 + 0 * (cost + 1)) _ _ z
        (subst (λ b. Within code cell input streams straight 1 (place at stack s) (place (if b then pc + 1 else at + 1) stack (counting k 0 s)))
        none first))
    loop_runs (suc m) at s e begins next long =
        let first = one code cell input streams straight (I.Loop k n (pc + 1)) (place at stack s)
        (place (if nat_eq n 0 then pc + 1 else at + 1) stack (counting k 0 s)) begins refl in
        let some : nat_eq n 0 ≡ false = ne_eqb n 0 (λ h. omega arith) in
        let entered =
        subst (λ a. Within code cell input streams straight 1 (place at stack s) (place a stack (counting k 0 s))) (sym next)
        (subst (λ b. Within code cell input streams straight 1 (place at stack s) (place (if b then pc + 1 else at + 1) stack (counting k 0 s)))
        some first) in
        let z : 0 + suc m ≡ n = omega arith in
        subst (λ j. Within code cell input streams straight (1 + j * (cost + 1)) (place at stack s)
        (place (pc + 1) stack (counting k n (turns_from (λ turn now. f (counting k turn now)) 0 j s)))) e
        (join code cell input streams straight 1 (suc m * (cost + 1)) _ _ _ entered (turns_run m 0 s z long))

  -- ---- branches

  -- the test, and one of the arms
  arms_run : (b : Bool) (test first second at one_at other_at end : ℕ) (stack : List Word) (s now x y : Solo) (cost : ℕ) →
      cost ≡ test + max (first + 1) second →
      Within code cell input streams ⊤ test (place at stack s) (place (if b then one_at else other_at) stack now) →
      Within code cell input streams ⊥ (first + 1) (place one_at stack now) (place end stack x) →
      Within code cell input streams ⊥ second (place other_at stack now) (place end stack y) →
      Within code cell input streams ⊥ cost (place at stack s) (place end stack (if b then x else y))
  arms_run true test first second at one_at other_at end stack s now x y cost e tests one_runs other_runs =
      wider code cell input streams ⊥ (test + (first + 1)) cost _ _ (omega arith)
      (join code cell input streams ⊥ test (first + 1) _ _ _ (under code cell input streams ⊤ ⊥ test _ _ (λ h. tt) tests) one_runs)
  arms_run false test first second at one_at other_at end stack s now x y cost e tests one_runs other_runs =
      wider code cell input streams ⊥ (test + second) cost _ _ (omega arith)
      (join code cell input streams ⊥ test second _ _ _ (under code cell input streams ⊤ ⊥ test _ _ (λ h. tt) tests) other_runs)

  -- ---- statements

  module _ (means : Means) where
    mutual
      action_runs : (depth line : ℕ) (a : Action) → SoundAction means depth a → (at : ℕ) (stack : List Word) (s : Solo) →
          length s.held.counters ≡ means.counters → HasAt code at (action_code at line a) →
          Within code cell input streams (StraightAction a) (action_cost a) (place at stack s)
          (place (at + length (action_code at line a)) stack (do_action cell input streams line a s))
      action_runs depth line (Set w e) sound at stack s long has =
          let is = expression_code line e in
          use_one ⊤ (expression_cost e) at is (I.Store w) stack _ _ s _ has (expression_runs line e at stack s (has_front code at is _ has)) refl
      action_runs depth line (SetAt base len e f) sound at stack s long has =
          let left = expression_code line e in
          let right = expression_code line f in
          let behind = has_back code at left (right ++ I.StoreAt base len line ∷ []) has in
          use_two ⊤ (expression_cost e) (expression_cost f) at left right (I.StoreAt base len line) stack _ _ _ s _ has
          (expression_runs line e at stack s (has_front code at left _ has))
          (expression_runs line f (at + length left) (value_of cell line s.held e ∷ stack) s (has_front code (at + length left) right _ behind))
          refl
      action_runs depth line (Write m e) sound at stack s long has =
          let is = expression_code line e in
          use_one ⊤ (expression_cost e) at is (I.Write m) stack _ _ s _ has (expression_runs line e at stack s (has_front code at is _ has)) refl
      action_runs depth line (Read m w) sound at stack s long has = one code cell input streams ⊤ (I.Read m w) (place at stack s) _ has.0 refl
      action_runs depth line (Take w) sound at stack s long has = one code cell input streams ⊤ (I.Take w) (place at stack s) _ has.0 refl
      action_runs depth line (Emit e) sound at stack s long has =
          let is = expression_code line e in
          use_one ⊤ (expression_cost e) at is I.Emit stack _ _ s _ has (expression_runs line e at stack s (has_front code at is _ has)) refl
      action_runs depth line (For k n body) sound at stack s long has =
          let is = block_code (at + 1) body in
          let pc = at + 1 + length is in
          let next = has_back code (at + 1) is (I.Next k n (at + 1) ∷ []) has.1 in
          let inner = sound.3 in
          let z : pc + 1 ≡ at + length (loop_code at k n is) = omega (arith, length-append is (I.Next k n (at + 1) ∷ [])) in
          subst (λ m. Within code cell input streams (StraightBlock body) (1 + n * (block_cost body + 1)) (place at stack s)
          (place m stack (do_action cell input streams line (For k n body) s))) z
          (loop_runs (StraightBlock body) k n means.counters (at + 1) pc (block_cost body) sound.1 stack (do_block cell input streams body) next.0
          (λ t there. block_runs (depth + 1) body inner (at + 1) stack t there (has_front code (at + 1) is _ has.1))
          (λ t. (keeps_block means cell input streams (depth + 1) body inner t).below k (omega (arith, sound.0)))
          (λ t. (keeps_block means cell input streams (depth + 1) body inner t).count)
          n at s refl has.0 refl long)
      action_runs depth line (If e first second) sound at stack s long has =
          let test = expression_code line e in
          let pc = at + length test in
          let a = block_code (pc + 1) first in
          let b = block_code (pc + 1 + length a + 1) second in
          let end = pc + 1 + length a + 1 + length b in
          let w = value_of cell line s.held e in
          let now = record s { held = tested s.held w } in
          let behind = has_back code at test (I.IfZero (pc + 1 + length a + 1) ∷ (a ++ (I.Jump end ∷ b))) has in
          let jump = has_back code (pc + 1) a (I.Jump end ∷ b) behind.1 in
          let there : length now.held.counters ≡ means.counters = ap length (test_kept s.held w) ∙ long in
          let z : end ≡ at + length (if_code at test a b) =
          omega (arith, length-append test (I.IfZero (pc + 1 + length a + 1) ∷ (a ++ (I.Jump end ∷ b))), length-append a (I.Jump end ∷ b)) in
          let tests = join code cell input streams ⊤ (expression_cost e) 1 _ _ _ (expression_runs line e at stack s (has_front code at test _ has))
          (one code cell input streams ⊤ (I.IfZero (pc + 1 + length a + 1)) (place pc (w ∷ stack) s)
          (place (if takes_first s.held.kept w then pc + 1 else pc + 1 + length a + 1) stack now) behind.0 refl) in
          subst (λ m. Within code cell input streams ⊥ (action_cost (If e first second)) (place at stack s)
          (place m stack (do_action cell input streams line (If e first second) s))) z
          (arms_run (takes_first s.held.kept w) (expression_cost e + 1) (block_cost first) (block_cost second) at (pc + 1) (pc + 1 + length a + 1) end stack s now
          (do_block cell input streams first now) (do_block cell input streams second now) (action_cost (If e first second)) refl tests
          (join code cell input streams ⊥ (block_cost first) 1 _ _ _
          (under code cell input streams (StraightBlock first) ⊥ (block_cost first) _ _ (λ h. absurd h)
          (block_runs depth first sound.1 (pc + 1) stack now there (has_front code (pc + 1) a _ behind.1)))
          (one code cell input streams ⊥ (I.Jump end) (place (pc + 1 + length a) stack (do_block cell input streams first now)) _ jump.0 refl))
          (under code cell input streams (StraightBlock second) ⊥ (block_cost second) _ _ (λ h. absurd h)
          (block_runs depth second sound.2 (pc + 1 + length a + 1) stack now there jump.1)))

      block_runs : (depth : ℕ) (b : Block) → SoundBlock means depth b → (at : ℕ) (stack : List Word) (s : Solo) →
          length s.held.counters ≡ means.counters → HasAt code at (block_code at b) →
          Within code cell input streams (StraightBlock b) (block_cost b) (place at stack s)
          (place (at + length (block_code at b)) stack (do_block cell input streams b s))
      block_runs depth End sound at stack s long has =
          let e : at ≡ at + 0 = omega arith in
          subst (λ n. Within code cell input streams ⊤ 0 (place at stack s) (place n stack s)) e (stay code cell input streams ⊤ (place at stack s))
      block_runs depth (Then line a rest) sound at stack s long has =
          let is = action_code at line a in
          let more = block_code (at + length is) rest in
          let e : at + length is + length more ≡ at + length (is ++ more) = omega (arith, length-append is more) in
          let straight = StraightAction a × StraightBlock rest in
          subst (λ n. Within code cell input streams straight (action_cost a + block_cost rest) (place at stack s)
          (place n stack (do_block cell input streams rest (do_action cell input streams line a s)))) e
          (join code cell input streams straight (action_cost a) (block_cost rest) _ _ _
          (under code cell input streams (StraightAction a) straight (action_cost a) _ _ (λ t. t.0)
          (action_runs depth line a sound.0 at stack s long (has_front code at is more has)))
          (under code cell input streams (StraightBlock rest) straight (block_cost rest) _ _ (λ t. t.1)
          (block_runs depth rest sound.1 (at + length is) stack (do_action cell input streams line a s)
          ((keeps_action means cell input streams depth line a sound.0 s).count ∙ long) (has_back code at is more has))))

-- the code of a cell follows its statements
pub follows : (means : Means) (program : ProgramCode) (cell : ℕ) → means.counters ≡ (code_of program cell).counters →
    SoundBlock means 0 (code_of program cell).body → (input : List ℤ) (streams : Streams) →
    Follows (body_code (code_of program cell).body) program cell input streams
follows means program cell many sound input streams =
    let body = (code_of program cell).body in
    let words = (code_of program cell).words in
    let counters = (code_of program cell).counters in
    let is = block_code 0 body in
    let code = body_code body in
    let all = has_all [] code in
    let run = block_runs code cell input streams means 0 body sound 0 [] (opening words counters)
    (length-replicate counters 0 ∙ sym many) (has_front code 0 is (I.Halt ∷ []) all) in
    record {
      steps = run.took;
      within = run.few;
      exact = run.exact;
      at = 0 + length is;
      ends = run.leads;
      halts = (has_back code 0 is (I.Halt ∷ []) all).0;
    }
