-- Parts: the rows of loops are their items.
use Rattle.std.proofs.Common.{◌≡◌, ◌≢◌, ℕ, ◌+◌, ◌≤◌, ◌++◌, max, List, [], ◌∷◌, refl, ap, sym, subst, ◌∙◌, arith}
use Rattle.std.proofs.Math.Nat.{le-max_left, le-max_right}
use Rattle.std.proofs.lemmas.List.Elements.{All-nil, All-cons, All-head, All-tail}
use Rattle.std.specs.Global.{Vec}
use Rattle.std.specs.List.{All}
use Rattle.cell_types.specs.Communications.{copies}
use Rattle.comm_sequence.specs.Parts.{part_unrolled, row_unrolled, unrolled, part_loops, row_loops, loops}
use Rattle.comm_sequence.specs.bodies.Walking.{HasSome, IsFull, IsFullRow, HaveRoom}
use Rattle.comm_sequence.specs.declared.part.Part.{Part, Row_of-Part, end_of-Part, more_of-Part}
use Rattle.comm_sequence.specs.declared.part.Part.TheBlock.{items-the_row-Part, hidden-the_row-Part-0, items_hidden-the_row-Part-0}
use Rattle.comm_sequence.specs.declared.part.Part.TheVariants as P

-- a row is unrolled as its items
row_unrolled_is : {m : _} → (r : Row_of-Part m) → row_unrolled r ≡ unrolled (items-the_row-Part _ r)
row_unrolled_is end_of-Part = refl
row_unrolled_is (more_of-Part part rest) = ap (λ xs. part_unrolled part ++ xs) (row_unrolled_is rest)

-- a row's loops are its items'
row_loops_is : {m : _} → (r : Row_of-Part m) → row_loops r ≡ loops (items-the_row-Part _ r)
row_loops_is end_of-Part = refl
row_loops_is (more_of-Part part rest) = ap (λ n. max (part_loops part) n) (row_loops_is rest)

-- a row is full where its items are
row_full : {m : _} → (r : Row_of-Part m) → IsFullRow r → All IsFull (items-the_row-Part _ r)
row_full end_of-Part h = All-nil IsFull
row_full (more_of-Part part rest) h = All-cons IsFull part (items-the_row-Part _ rest) h.0 (row_full rest h.1)

full_row : {m : _} → (r : Row_of-Part m) → All IsFull (items-the_row-Part _ r) → IsFullRow r
full_row end_of-Part h = tt
full_row (more_of-Part part rest) h =
    (All-head IsFull part (items-the_row-Part _ rest) h, full_row rest (All-tail IsFull part (items-the_row-Part _ rest) h))

-- a row has something where it has items
row_some : {m : _} → (r : Row_of-Part m) → HasSome r → items-the_row-Part _ r ≢ []
row_some end_of-Part h = absurd h
row_some (more_of-Part part rest) h = λ e. absurd (cc e)

some_row : {m : _} → (r : Row_of-Part m) → items-the_row-Part _ r ≢ [] → HasSome r
some_row end_of-Part h = h refl
some_row (more_of-Part part rest) h = tt

-- a loop, by its parts
pub repeat_unrolled : (turns : ℕ) (parts : Vec Part)
    → part_unrolled (P.Repeat turns parts) ≡ copies turns (unrolled parts.items)
repeat_unrolled turns parts =
    ap (copies turns) (row_unrolled_is (hidden-the_row-Part-0 parts) ∙ ap unrolled (items_hidden-the_row-Part-0 parts))

pub repeat_loops : (turns : ℕ) (parts : Vec Part) → part_loops (P.Repeat turns parts) ≡ 1 + loops parts.items
repeat_loops turns parts =
    ap (λ n. 1 + n) (row_loops_is (hidden-the_row-Part-0 parts) ∙ ap loops (items_hidden-the_row-Part-0 parts))

pub repeat_full : (turns : ℕ) (parts : Vec Part) → IsFull (P.Repeat turns parts)
    → (turns ≢ 0) × (parts.items ≢ []) × All IsFull parts.items
repeat_full turns parts h =
    let e = items_hidden-the_row-Part-0 parts in (
      h.0,
      subst (λ xs. xs ≢ []) e (row_some (hidden-the_row-Part-0 parts) h.1),
      subst (All IsFull) e (row_full (hidden-the_row-Part-0 parts) h.2),
    )

pub full_repeat : (turns : ℕ) (parts : Vec Part) → turns ≢ 0 → parts.items ≢ [] → All IsFull parts.items
    → IsFull (P.Repeat turns parts)
full_repeat turns parts some items full =
    let e = sym (items_hidden-the_row-Part-0 parts) in (
      some,
      some_row (hidden-the_row-Part-0 parts) (subst (λ xs. xs ≢ []) e items),
      full_row (hidden-the_row-Part-0 parts) (subst (All IsFull) e full),
    )

-- the loops of the first part and of the others
pub first_loops : (part : Part) (rest : List Part) → part_loops part ≤ loops (part ∷ rest)
first_loops part rest = le-max_left (part_loops part) (loops rest)

pub rest_loops : (part : Part) (rest : List Part) → loops rest ≤ loops (part ∷ rest)
rest_loops part rest = le-max_right (part_loops part) (loops rest)

-- the parts after the first one have room
pub rest_room : (room : ℕ) (part : Part) (rest : List Part) → HaveRoom room (part ∷ rest) → HaveRoom room rest
rest_room room part rest h = (omega (arith, h.0, rest_loops part rest), All-tail IsFull part rest h.1)
