-- The steps over the cells of a program.
use Rattle.std.proofs.Common.{◌≡◌, ℕ, ◌+◌, ◌<◌, List, [], ◌∷◌, ◌++◌, length, get_or, take, drop, map, ap, sym, subst, ◌∙◌}
use Rattle.std.proofs.lemmas.List.{at_drop_more, take_more, map-append}
use Rattle.std.specs.Global.{Vec}
use Rattle.cell_types.specs.Code.{CellCode}
use Rattle.cell_types.specs.Communications.{Communication, block_communications}
use Rattle.cell_types.specs.Typed.{block_of, plain_cell}
use Rattle.cell_types.specs.declared.cell.Cell.{Cell}
use Rattle.comm_sequence.specs.Differing.{differing, differing_from, IsFirst}
use Rattle.comm_sequence.specs.Gathered.{all_unrolled}
use Rattle.comm_sequence.specs.Parts.{unrolled}
use Rattle.comm_sequence.specs.declared.error.CommError.{CommError}
use Rattle.comm_sequence.specs.declared.error.CommError.TheVariants.{ArmsDiffer, Memory}
use Rattle.comm_sequence.specs.declared.part.Part.{Part}

-- an error in the first of two parts
pub front_first : (xs ys : List (ℕ × ℕ)) (e : CommError) → IsFirst xs e → IsFirst (xs ++ ys) e
front_first [] ys (ArmsDiffer cell line) h = absurd (cc h)
front_first (x ∷ xs) ys (ArmsDiffer cell line) h = h
front_first xs ys Memory h = tt

-- the lines of a body, with its cell
abbrev pub places : ℕ → Cell → List (ℕ × ℕ)
places cell c = map (λ line. (cell, line)) (differing (block_of c.body.items))

-- the places from a cell on, one step on
pub places_more : (cells : List Cell) (i : ℕ) (d : Cell) → i < length cells
    → differing_from i (map plain_cell (drop i cells))
    ≡ places i (get_or cells i d) ++ differing_from (i + 1) (map plain_cell (drop (i + 1) cells))
places_more cells i d within = at_drop_more (λ cs. differing_from i (map plain_cell cs)) cells i d within

-- no place at a cell leaves those of the other cells
pub none_more : (cells : List Cell) (i : ℕ) (d : Cell) (all : List (ℕ × ℕ)) → i < length cells
    → differing_from i (map plain_cell (drop i cells)) ≡ all → differing (block_of (get_or cells i d).body.items) ≡ []
    → differing_from (i + 1) (map plain_cell (drop (i + 1) cells)) ≡ all
none_more cells i d all within so_far none =
    ap (λ lines. map (λ line. (i, line)) lines ++ differing_from (i + 1) (map plain_cell (drop (i + 1) cells))) (sym none)
    ∙ sym (places_more cells i d within) ∙ so_far

-- the first place at a cell is the first of all
pub first_at : (cells : List Cell) (i : ℕ) (d : Cell) (all : List (ℕ × ℕ)) (e : CommError) → i < length cells
    → differing_from i (map plain_cell (drop i cells)) ≡ all → IsFirst (places i (get_or cells i d)) e → IsFirst all e
first_at cells i d all e within so_far h =
    subst (λ xs. IsFirst xs e) (sym (places_more cells i d within) ∙ so_far)
    (front_first (places i (get_or cells i d)) (differing_from (i + 1) (map plain_cell (drop (i + 1) cells))) e h)

-- the communications of a cell
abbrev pub of_code : CellCode → List Communication
of_code c = block_communications c.body

-- the communications of the cells so far and of the next one
pub list_more : (cells : List Cell) (i : ℕ) (d : Cell) (done : List (Vec Part)) (parts : Vec Part) → i < length cells
    → all_unrolled done ≡ map of_code (map plain_cell (take i cells))
    → unrolled parts.items ≡ block_communications (block_of (get_or cells i d).body.items)
    → all_unrolled (done ++ parts ∷ []) ≡ map of_code (map plain_cell (take (i + 1) cells))
list_more cells i d done parts within so_far more =
    map-append (λ (p : Vec Part). unrolled p.items) done (parts ∷ []) ∙ ap (λ xs. xs ++ unrolled parts.items ∷ []) so_far
    ∙ ap (λ x. map of_code (map plain_cell (take i cells)) ++ x ∷ []) more
    ∙ sym (map-append of_code (map plain_cell (take i cells)) (plain_cell (get_or cells i d) ∷ []))
    ∙ ap (map of_code) (sym (map-append plain_cell (take i cells) (get_or cells i d ∷ [])))
    ∙ ap (λ cs. map of_code (map plain_cell cs)) (sym (take_more cells i d within))
