-- Loops, by their parts.
use Rattle.std.proofs.Common.{◌≡◌, ℕ, ◌+◌, ◌*◌, ◌++◌, ◌∷◌, [], List, zero, suc, max, length, refl, ap, ◌∙◌, arith}
use Rattle.std.proofs.lemmas.List.{length-append}
use Rattle.std.proofs.lemmas.List.Elements.{All-nil, All-cons, All-append}
use Rattle.std.specs.Global.{Vec}
use Rattle.std.specs.List.{All}
use Rattle.sys_base.specs.Communications.{Communication, copies}
use Rattle.comm_sequence.specs.Parts.{part_unrolled, row_unrolled, unrolled, part_loops, row_loops, loops}
use Rattle.comm_sequence.specs.declared.part.Part.{Part, Row_of-Part, end_of-Part, more_of-Part}
use Rattle.comm_sequence.specs.declared.part.Part.TheBlock.{items-the_row-Part, hidden-the_row-Part-0, items_hidden-the_row-Part-0}
use Rattle.comm_sequence.specs.declared.part.Part.TheVariants as P

-- a row is unrolled as its items
row_unrolled_is : {m : _} → (r : Row_of-Part m) → row_unrolled r ≡ unrolled (items-the_row-Part _ r)
row_unrolled_is end_of-Part = refl
row_unrolled_is (more_of-Part part rest) = ap (λ xs. part_unrolled part ++ xs) (row_unrolled_is rest)

-- a row's loops are its items'
row_loops_is : {m : _} → (r : Row_of-Part m) → row_loops r ≡ loops (items-the_row-Part _ r)
row_loops_is end_of-Part = refl
row_loops_is (more_of-Part part rest) = ap (λ n. max (part_loops part) n) (row_loops_is rest)

-- what a loop repeats
pub repeat_unrolled : (turns : ℕ) (parts : Vec Part)
    → part_unrolled (P.Repeat turns parts) ≡ copies turns (unrolled parts.items)
repeat_unrolled turns parts =
    ap (copies turns) (row_unrolled_is (hidden-the_row-Part-0 parts) ∙ ap unrolled (items_hidden-the_row-Part-0 parts))

-- how deep a loop is
pub repeat_loops : (turns : ℕ) (parts : Vec Part) → part_loops (P.Repeat turns parts) ≡ 1 + loops parts.items
repeat_loops turns parts =
    ap (λ n. 1 + n) (row_loops_is (hidden-the_row-Part-0 parts) ∙ ap loops (items_hidden-the_row-Part-0 parts))

-- how long copies are
length_of_copies : (n : ℕ) (xs : List Communication) → length (copies n xs) ≡ n * length xs
length_of_copies zero xs = omega arith
length_of_copies (suc n) xs = omega (arith, length-append xs (copies n xs), length_of_copies n xs)

-- what all of a list is, all of its copies are
all_copies : (P : Communication → Type 0) (n : ℕ) (xs : List Communication) → All P xs → All P (copies n xs)
all_copies P zero xs h = All-nil P
all_copies P (suc n) xs h = All-append P xs (copies n xs) h (all_copies P n xs h)

-- One communication alone, repeated in a loop inside a loop, is all that stands there.
pub copies_alone : (c : Communication) (n m : ℕ) → All (λ x. x ≡ c) (copies n (copies m (c ∷ [])))
copies_alone c n m =
    let P : Communication → Type 0 = λ x. x ≡ c in
    all_copies P n (copies m (c ∷ [])) (all_copies P m (c ∷ []) (All-cons P c [] refl (All-nil P)))

-- It stands there as often as both loops turn.
pub length_alone : (c : Communication) (n m : ℕ) → length (copies n (copies m (c ∷ []))) ≡ n * m
length_alone c n m =
    length_of_copies n (copies m (c ∷ [])) ∙ ap (λ k. n * k) (length_of_copies m (c ∷ []) ∙ once m)
  where
    once : (k : ℕ) → k * 1 ≡ k
    once k = omega arith
