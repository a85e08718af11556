-- Emitted code ends in its only `halt`, what it names is in range, and its targets are addresses of it.
use Rattle.std.proofs.Common.{◌≡◌, ℕ, zero, suc, ◌+◌, ◌-◌, ◌<◌, ◌≤◌, true, false, pos, List, [], ◌∷◌, ◌++◌, length, Some, refl, subst, arith, length-append}
use Rattle.std.specs.Prelude.{⊤}
use Rattle.std.specs.List.{slice_get}
use Rattle.cell_code.specs.declared.instruction.Instr.{Instr}
use Rattle.cell_code.specs.declared.instruction.Instr.TheVariants as I
use Rattle.cell_code.specs.Checked.{is_halt}
use Rattle.cell_code.specs.ShapedCells.{InRange, LeadsInside, EndsInHalt}
use Rattle.cell_types.specs.Code.{Expression, Number, Variable, Counter, Element, Negated, Applied, Action, Set, SetAt, Write, Read, Take, Emit, For, If, Block, End, Then}
use Rattle.cell_types.specs.Sound.{Means, SoundExpression, SoundAction, SoundBlock}
use Rattle.cell_codegen.specs.Emission.{expression_code, if_code, action_code, block_code, body_code}
use Rattle.cell_codegen.specs.Shapes.{IsAtItsEnd}
use Rattle.cell_codegen.proofs.Steps.{has_all, has_back}

-- an instruction that isn't `halt`, whose operands fit a cell and a code of such a size, and whose message has the
-- cell at its end
record Fits (means : Means) (size : ℕ) (instr : Instr) : Type 0 where
  range : InRange means.words means.counters instr
  target : LeadsInside size instr
  message : IsAtItsEnd means.messages means.cell instr
  going : is_halt instr ≡ false

-- each instruction of a stretch is such
abbrev FitsAll : (means : Means) (size : ℕ) → List Instr → Type 0
FitsAll means size [] = ⊤
FitsAll means size (instr ∷ rest) = Fits means size instr × FitsAll means size rest

module _ (means : Means) (size : ℕ) where
  both_fit : (xs ys : List Instr) → FitsAll means size xs → FitsAll means size ys → FitsAll means size (xs ++ ys)
  both_fit [] ys all more = more
  both_fit (x ∷ xs) ys all more = (all.0, both_fit xs ys all.1 more)

  -- what is said of each instruction of code with `halt` at its end
  abbrev Told : Instr → Type 0
  Told instr = InRange means.words means.counters instr × LeadsInside size instr × IsAtItsEnd means.messages means.cell instr

  fits_at : (is : List Instr) → FitsAll means size is → (at : ℕ) (instr : Instr) → slice_get (is ++ I.Halt ∷ []) at ≡ Some instr →
      Told instr
  fits_at [] all zero instr h = let e : I.Halt ≡ instr = cc in subst Told e (tt, tt, tt)
  fits_at [] all (suc at) instr h = absurd (cc)
  fits_at (x ∷ xs) all zero instr h =
      let e : x ≡ instr = cc in
      subst Told e (all.0.range, all.0.target, all.0.message)
  fits_at (x ∷ xs) all (suc at) instr h = fits_at xs all.1 at instr h

  only_end : (is : List Instr) → FitsAll means size is → (at : ℕ) → slice_get (is ++ I.Halt ∷ []) at ≡ Some I.Halt →
      at + 1 ≡ length (is ++ I.Halt ∷ [])
  only_end [] all zero h = refl
  only_end [] all (suc at) h = absurd (cc)
  only_end (x ∷ xs) all zero h =
      let e : x ≡ I.Halt = cc in
      let no : true ≡ false = subst (λ i. is_halt i ≡ false) e all.0.going in
      absurd (cc)
  only_end (x ∷ xs) all (suc at) h = omega (arith, only_end xs all.1 at h)

  ends_in_halt : (is : List Instr) → FitsAll means size is → EndsInHalt (is ++ I.Halt ∷ [])
  ends_in_halt is all =
      let e : 0 + length is ≡ length (is ++ I.Halt ∷ []) - 1 = omega (arith, length-append is (I.Halt ∷ [])) in
      record {
        last = subst (λ n. slice_get (is ++ I.Halt ∷ []) n ≡ Some I.Halt) e
            (has_back (is ++ I.Halt ∷ []) 0 is (I.Halt ∷ []) (has_all [] (is ++ I.Halt ∷ []))).0;
        only = only_end is all;
      }

-- ---- expressions

module _ (means : Means) (size : ℕ) where
  abbrev Good : List Instr → Type 0
  Good is = FitsAll means size is

  fit : (instr : Instr) → InRange means.words means.counters instr → LeadsInside size instr →
      IsAtItsEnd means.messages means.cell instr → is_halt instr ≡ false → Fits means size instr
  fit instr range target message going = record { range = range; target = target; message = message; going = going }

  joined : (xs ys : List Instr) → Good xs → Good ys → Good (xs ++ ys)
  joined xs ys = both_fit means size xs ys

  expression_good : (depth line : ℕ) (e : Expression) → SoundExpression means depth e → depth ≤ means.counters → Good (expression_code line e)
  expression_good depth line (Number n) sound few = (fit (I.Push (pos n)) tt tt tt refl, tt)
  expression_good depth line (Variable w) sound few = (fit (I.Load w) sound tt tt refl, tt)
  expression_good depth line (Counter k) sound few =
      let less : k < means.counters = omega (arith, sound, few) in
      (fit (I.Counter k) less tt tt refl, tt)
  expression_good depth line (Element base len e) sound few =
      joined (expression_code line e) (I.LoadAt base len line ∷ []) (expression_good depth line e sound.1 few)
      (fit (I.LoadAt base len line) sound.0.1 tt tt refl, tt)
  expression_good depth line (Negated e) sound few =
      joined (expression_code line e) (I.Neg line ∷ []) (expression_good depth line e sound few) (fit (I.Neg line) tt tt tt refl, tt)
  expression_good depth line (Applied op l r) sound few =
      joined (expression_code line l) (expression_code line r ++ I.Bin op line ∷ []) (expression_good depth line l sound.0 few)
      (joined (expression_code line r) (I.Bin op line ∷ []) (expression_good depth line r sound.1 few)
      (fit (I.Bin op line) tt tt tt refl, tt))

  -- ---- statements

  mutual
    action_good : (depth line : ℕ) (a : Action) → SoundAction means depth a → depth ≤ means.counters → (at : ℕ) →
        at + length (action_code at line a) < size → Good (action_code at line a)
    action_good depth line (Set w e) sound few at inside =
        joined (expression_code line e) (I.Store w ∷ []) (expression_good depth line e sound.1 few) (fit (I.Store w) sound.0 tt tt refl, tt)
    action_good depth line (SetAt base len e f) sound few at inside =
        joined (expression_code line e) (expression_code line f ++ I.StoreAt base len line ∷ []) (expression_good depth line e sound.1 few)
        (joined (expression_code line f) (I.StoreAt base len line ∷ []) (expression_good depth line f sound.2 few)
        (fit (I.StoreAt base len line) sound.0.1 tt tt refl, tt))
    action_good depth line (Write m e) sound few at inside =
        joined (expression_code line e) (I.Write m ∷ []) (expression_good depth line e sound.1 few) (fit (I.Write m) tt tt sound.0 refl, tt)
    action_good depth line (Read m w) sound few at inside = (fit (I.Read m w) sound.1 tt sound.0 refl, tt)
    action_good depth line (Take w) sound few at inside = (fit (I.Take w) sound tt tt refl, tt)
    action_good depth line (Emit e) sound few at inside =
        joined (expression_code line e) (I.Emit ∷ []) (expression_good depth line e sound few) (fit I.Emit tt tt tt refl, tt)
    action_good depth line (For k n body) sound few at inside =
        let is = block_code (at + 1) body in
        let long : length (is ++ I.Next k n (at + 1) ∷ []) ≡ length is + 1 = length-append is (I.Next k n (at + 1) ∷ []) in
        let out : at + 1 + length is + 1 < size = omega (arith, inside, long) in
        let entry : at + 1 < size = omega (arith, out) in
        let deeper : depth + 1 ≤ means.counters = omega (arith, sound.0, sound.1) in
        let within : at + 1 + length is < size = omega (arith, out) in (
          fit (I.Loop k n (at + 1 + length is + 1)) sound.1 out tt refl,
          joined is (I.Next k n (at + 1) ∷ []) (block_good (depth + 1) body sound.3 deeper (at + 1) within)
              (fit (I.Next k n (at + 1)) sound.1 entry tt refl, tt),
        )
    action_good depth line (If e first second) sound few at inside =
        let test = expression_code line e in
        let pc = at + length test in
        let a = block_code (pc + 1) first in
        let b = block_code (pc + 1 + length a + 1) second in
        let end = pc + 1 + length a + 1 + length b in
        let long : at + length (if_code at test a b) ≡ end =
        omega (arith, length-append test (I.IfZero (pc + 1 + length a + 1) ∷ (a ++ (I.Jump end ∷ b))), length-append a (I.Jump end ∷ b)) in
        let out : end < size = omega (arith, inside, long) in
        let other : pc + 1 + length a + 1 < size = omega (arith, out) in
        let one : pc + 1 + length a < size = omega (arith, out) in
        joined test (I.IfZero (pc + 1 + length a + 1) ∷ (a ++ (I.Jump end ∷ b))) (expression_good depth line e sound.0 few) (
          fit (I.IfZero (pc + 1 + length a + 1)) tt other tt refl,
          joined a (I.Jump end ∷ b) (block_good depth first sound.1 few (pc + 1) one)
              (fit (I.Jump end) tt out tt refl, block_good depth second sound.2 few (pc + 1 + length a + 1) out),
        )

    block_good : (depth : ℕ) (b : Block) → SoundBlock means depth b → depth ≤ means.counters → (at : ℕ) →
        at + length (block_code at b) < size → Good (block_code at b)
    block_good depth End sound few at inside = tt
    block_good depth (Then line a rest) sound few at inside =
        let is = action_code at line a in
        let more = block_code (at + length is) rest in
        let long : length (is ++ more) ≡ length is + length more = length-append is more in
        let one : at + length is < size = omega (arith, inside, long) in
        let two : at + length is + length more < size = omega (arith, inside, long) in
        joined is more (action_good depth line a sound.0 few at one) (block_good depth rest sound.1 few (at + length is) two)

-- ---- a cell

body_good : (means : Means) (body : Block) → SoundBlock means 0 body →
    FitsAll means (length (body_code body)) (block_code 0 body)
body_good means body sound =
    let long : length (body_code body) ≡ length (block_code 0 body) + 1 = length-append (block_code 0 body) (I.Halt ∷ []) in
    block_good means (length (body_code body)) 0 body sound (omega arith) 0 (omega (arith, long))

pub ends : (means : Means) (body : Block) → SoundBlock means 0 body → EndsInHalt (body_code body)
ends means body sound =
    ends_in_halt means (length (body_code body)) (block_code 0 body) (body_good means body sound)

pub ranges : (means : Means) (body : Block) → SoundBlock means 0 body → (at : ℕ) (instr : Instr) →
    slice_get (body_code body) at ≡ Some instr → InRange means.words means.counters instr
ranges means body sound at instr is =
    (fits_at means (length (body_code body)) (block_code 0 body) (body_good means body sound) at instr is).0

pub targets : (means : Means) (body : Block) → SoundBlock means 0 body → (at : ℕ) (instr : Instr) →
    slice_get (body_code body) at ≡ Some instr → LeadsInside (length (body_code body)) instr
targets means body sound at instr is =
    (fits_at means (length (body_code body)) (block_code 0 body) (body_good means body sound) at instr is).1

pub at_ends : (means : Means) (body : Block) → SoundBlock means 0 body → (at : ℕ) (instr : Instr) →
    slice_get (body_code body) at ≡ Some instr → IsAtItsEnd means.messages means.cell instr
at_ends means body sound at instr is =
    (fits_at means (length (body_code body)) (block_code 0 body) (body_good means body sound) at instr is).2
