-- What a cell has emitted only grows.
use Rattle.std.proofs.Common.{◌≡◌, ℕ, ℤ, Bool, true, false, cond, nat_lt, pos, negsuc, List, [], ◌∷◌, Option, Some, None, slice_get, refl, sym, subst, append-nil}
use Rattle.sys_base.specs.Held.{Held, given, tested, with_element}
use Rattle.sys_base.specs.declared.word.Word.{Word}
use Rattle.sys_base.specs.declared.word.Word.TheVariants.{Num, Fault}
use Rattle.array_runs.specs.Meaning.{IsOutput}
use Rattle.cell_code.specs.Rows.{Row, State, Stands, Moves, Sends, Receives, on_one, on_two, row_of}
use Rattle.cell_code.specs.declared.image.Image.{Image}
use Rattle.cell_code.specs.declared.instruction.Instr.{Instr}
use Rattle.cell_code.specs.declared.instruction.Instr.TheVariants.{Push, Load, LoadAt, Counter, Neg, Bin, Store, StoreAt, Write, Read, Take, Emit, Loop, Next, IfZero, Jump, Halt}
use Rattle.array_model.specs.Meaning.{IsPrefix}
use Rattle.array_model.specs.States.{Inputs, code_of}
use Rattle.array_model.proofs.Mapped.{got_in, machine, next_of, row}

same_prefix : (xs : List Word) → IsPrefix xs xs
same_prefix xs = ([], append-nil xs)

-- where the output stays
unchanged : (xs ys : List Word) → ys ≡ xs → IsPrefix xs ys
unchanged xs ys e = subst (IsPrefix xs) (sym e) (same_prefix xs)

-- an output is the beginning of the one in the state that a row leads to
abbrev Grows : List Word → Row → Type 0
Grows out Stands = Unit {0}
Grows out (Moves next) = IsPrefix out next.held.output
Grows out (Sends m word next) = IsPrefix out next.held.output
Grows out (Receives m variable next) = IsPrefix out next.held.output

module _ (out : List Word) where
  one_grows : (stack : List Word) (r : Word → List Word → Row) → ((top : Word) (rest : List Word) → Grows out (r top rest))
      → Grows out (on_one stack r)
  one_grows [] r h = tt
  one_grows (top ∷ rest) r h = h top rest

  two_grows : (stack : List Word) (r : Word → Word → List Word → Row)
      → ((lower top : Word) (rest : List Word) → Grows out (r lower top rest)) → Grows out (on_two stack r)
  two_grows [] r h = tt
  two_grows (top ∷ []) r h = tt
  two_grows (top ∷ lower ∷ rest) r h = h lower top rest

chosen_output : (b : Bool) (x y : Held) (out : List Word) → x.output ≡ out → y.output ≡ out → (cond b x y).output ≡ out
chosen_output true x y out e f = e
chosen_output false x y out e f = f

element_output : (held : Held) (base len : ℕ) (index value : Word) (cell line : ℕ)
    → (with_element held base len index value cell line).output ≡ held.output
element_output held base len (Fault f) value cell line = refl
element_output held base len (Num (negsuc n)) value cell line = refl
element_output held base len (Num (pos n)) value cell line = chosen_output (nat_lt n len) _ _ held.output refl refl

tested_output : (held : Held) (word : Word) → (tested held word).output ≡ held.output
tested_output held (Fault f) = refl
tested_output held (Num n) = refl

grows : (c : ℕ) (input : List ℤ) (s : State) (instr : Instr) → Grows s.held.output (row_of c input s instr)
grows c input s (Push number) = same_prefix s.held.output
grows c input s (Load word) = same_prefix s.held.output
grows c input s (LoadAt base len line) = one_grows s.held.output s.stack _ (λ top rest. same_prefix s.held.output)
grows c input s (Counter k) = same_prefix s.held.output
grows c input s (Neg line) = one_grows s.held.output s.stack _ (λ top rest. same_prefix s.held.output)
grows c input s (Bin op line) = two_grows s.held.output s.stack _ (λ lower top rest. same_prefix s.held.output)
grows c input s (Store word) = one_grows s.held.output s.stack _ (λ top rest. same_prefix s.held.output)
grows c input s (StoreAt base len line) =
    two_grows s.held.output s.stack _
    (λ lower top rest. unchanged s.held.output _ (element_output s.held base len lower top c line))
grows c input s (Write m) = one_grows s.held.output s.stack _ (λ top rest. same_prefix s.held.output)
grows c input s (Read m word) = same_prefix s.held.output
grows c input s (Take word) = same_prefix s.held.output
grows c input s Emit = one_grows s.held.output s.stack _ (λ top rest. (given s.held.kept top ∷ [], refl))
grows c input s (Loop k turns exit) = same_prefix s.held.output
grows c input s (Next k turns body) = same_prefix s.held.output
grows c input s (IfZero target) =
    one_grows s.held.output s.stack _ (λ top rest. unchanged s.held.output _ (tested_output s.held top))
grows c input s (Jump target) = same_prefix s.held.output
grows c input s Halt = tt

row_grows : (c : ℕ) (input : List ℤ) (s : State) (o : Option Instr)
    → Grows s.held.output (elim o [ None ↦ Stands | Some instr ↦ row_of c input s instr ])
row_grows c input s None = tt
row_grows c input s (Some instr) = grows c input s instr

next_grows : (s : State) (r : Row) → Grows s.held.output r → IsPrefix s.held.output (next_of s r).held.output
next_grows s Stands g = same_prefix s.held.output
next_grows s (Moves next) g = g
next_grows s (Sends m word next) g = g
next_grows s (Receives m variable next) g = g

got_grows : (s : State) (r : Row) (w : Word) → Grows s.held.output r → IsPrefix s.held.output (got_in s r w).held.output
got_grows s Stands w g = same_prefix s.held.output
got_grows s (Moves next) w g = same_prefix s.held.output
got_grows s (Sends m word next) w g = same_prefix s.held.output
got_grows s (Receives m variable next) w g = g

abbrev pub output_of : State → List Word
output_of s = s.held.output

pub output_grows : (image : Image) (inputs : Inputs) → IsOutput (machine image inputs) output_of
output_grows image inputs =
    record {
      worked = λ c x. next_grows x (row image inputs c x) (row_grows c (inputs c) x (slice_get (code_of image c) x.at));
      wrote = λ c x. next_grows x (row image inputs c x) (row_grows c (inputs c) x (slice_get (code_of image c) x.at));
      got = λ c x w. got_grows x (row image inputs c x) w (row_grows c (inputs c) x (slice_get (code_of image c) x.at));
    }
