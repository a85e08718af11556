-- How often communications stand in lists, and how long the lists are.
use Rattle.std.proofs.Common.{◌≡◌, ℕ, ◌+◌, ◌≤◌, cond, nat_eq, zero-add, List, [], ◌∷◌, length, map, ap, sym, refl, ◌∙◌, arith}
use Rattle.std.proofs.lemmas.List.Sums.{sum_by-cons, sum_by-append, sum_by-le-sum_by}
use Rattle.std.specs.List.{count_by, flat_map, sum_by}
use Rattle.cell_types.specs.Code.{Block, CellCode}
use Rattle.cell_types.specs.Communications.{Communication, Writes, Reads, Takes, Emits, times, block_communications}
use Rattle.cell_types.specs.Cost.{block_cost}
use Rattle.comm_sequence.specs.Sequences.{comms, writes}
use Rattle.comm_sequence.specs.declared.comm.Comm.TheVariants as C
use Rattle.comm_sequence.proofs.Cells.{of_code}

-- the writes of a message among communications are those among their writes and reads
pub counted_comms : (m : ℕ) (xs : List Communication) → times (Writes m) xs ≡ count_by (writes m) (comms xs)
counted_comms m [] = refl
counted_comms m (Writes n ∷ xs) =
    sum_by-cons _ (Writes n) xs ∙ ap (λ k. cond (nat_eq m n) 1 0 + k) (counted_comms m xs) ∙ sym (sum_by-cons _ (C.Write n) (comms xs))
counted_comms m (Reads n ∷ xs) =
    sum_by-cons _ (Reads n) xs ∙ ap (λ k. 0 + k) (counted_comms m xs) ∙ sym (sum_by-cons _ (C.Read n) (comms xs))
counted_comms m (Takes ∷ xs) = sum_by-cons _ Takes xs ∙ zero-add (times (Writes m) xs) ∙ counted_comms m xs
counted_comms m (Emits ∷ xs) = sum_by-cons _ Emits xs ∙ zero-add (times (Writes m) xs) ∙ counted_comms m xs

-- the writes of a message in all cells are those in their lists
pub counted_cells : (m : ℕ) (cells : List CellCode)
    → times (Writes m) (flat_map of_code cells) ≡ sum_by (count_by (writes m)) (map (λ c. comms (of_code c)) cells)
counted_cells m [] = refl
counted_cells m (c ∷ cs) =
    sum_by-append _ (of_code c) (flat_map of_code cs)
    ∙ ap (λ k. k + times (Writes m) (flat_map of_code cs)) (counted_comms m (of_code c))
    ∙ ap (λ k. count_by (writes m) (comms (of_code c)) + k) (counted_cells m cs)
    ∙ sym (sum_by-cons _ (comms (of_code c)) (map (λ c. comms (of_code c)) cs))

-- no more writes and reads than communications
pub fewer : (xs : List Communication) → length (comms xs) ≤ length xs
fewer [] = omega arith
fewer (Writes n ∷ xs) = omega (arith, fewer xs)
fewer (Reads n ∷ xs) = omega (arith, fewer xs)
fewer (Takes ∷ xs) = omega (arith, fewer xs)
fewer (Emits ∷ xs) = omega (arith, fewer xs)

-- Statements communicate at most as often as they take steps, as `cell_types` says.
abbrev pub AreFew : Type 0
AreFew = (b : Block) → length (block_communications b) ≤ block_cost b

-- the sum of some lengths is at most that of the costs
pub sum_within : (cells : List CellCode) (size : CellCode → ℕ) → ((c : CellCode) → size c ≤ block_cost c.body)
    → sum_by size cells ≤ sum_by (λ (c : CellCode). block_cost c.body) cells
sum_within cells size h = sum_by-le-sum_by size (λ (c : CellCode). block_cost c.body) cells h

-- a sum over a mapped list
pub sum_mapped : {A B : Type 0} (f : B → ℕ) (g : A → B) (xs : List A) → sum_by f (map g xs) ≡ sum_by (λ x. f (g x)) xs
sum_mapped f g [] = refl
sum_mapped f g (x ∷ xs) =
    sum_by-cons f (g x) (map g xs) ∙ ap (λ k. f (g x) + k) (sum_mapped f g xs) ∙ sym (sum_by-cons (λ x. f (g x)) x xs)
