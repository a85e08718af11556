-- Cells communicate no more often than they take steps.
use Rattle.std.proofs.Common.{◌≡◌, ℕ, zero, suc, ◌+◌, ◌*◌, ◌≤◌, List, [], ◌∷◌, length, flat_map, arith}
use Rattle.std.proofs.Math.Nat.{mul-le-mul_left}
use Rattle.std.proofs.lemmas.List.{length-append}
use Rattle.std.proofs.lemmas.List.Sums.{sum_by-cons}
use Rattle.std.specs.List.{sum_by}
use Rattle.cell_types.specs.Code.{Action, Set, SetAt, Write, Read, Take, Emit, For, If, Block, End, Then, CellCode}
use Rattle.cell_types.specs.Communications.{Communication, copies, action_communications, block_communications}
use Rattle.cell_types.specs.Cost.{action_cost, block_cost}

-- the length of copies
copies_long : (n : ℕ) (xs : List Communication) → length (copies n xs) ≡ n * length xs
copies_long zero xs = omega arith
copies_long (suc n) xs =
    let h : length (copies n xs) ≡ n * length xs = copies_long n xs in
    omega (arith, length-append xs (copies n xs), h)

mutual
  -- an action has no more communications than steps
  action_within : (a : Action) → length (action_communications a) ≤ action_cost a
  action_within (Set word value) = omega arith
  action_within (SetAt base len index value) = omega arith
  action_within (Write message value) = omega arith
  action_within (Read message word) = omega arith
  action_within (Take word) = omega arith
  action_within (Emit value) = omega arith
  action_within (For counter turns body) =
      let b : length (block_communications body) ≤ block_cost body + 1 = omega (arith, block_within body) in
      omega (arith, copies_long turns (block_communications body), mul-le-mul_left turns b)
  action_within (If test first second) =
      let b : length (block_communications first) ≤ block_cost first = block_within first in
      omega arith

  -- statements have no more communications than steps
  pub block_within : (b : Block) → length (block_communications b) ≤ block_cost b
  block_within End = omega arith
  block_within (Then line action rest) =
      omega (arith, length-append (action_communications action) (block_communications rest), action_within action, block_within rest)

-- what all of some cells communicate
pub cells_within : (cells : List CellCode) → length (flat_map (λ (c : CellCode). block_communications c.body) cells)
    ≤ sum_by (λ (c : CellCode). block_cost c.body) cells
cells_within [] = omega arith
cells_within (c ∷ cells) =
    omega (
      arith,
      length-append (block_communications c.body) (flat_map (λ (c : CellCode). block_communications c.body) cells),
      block_within c.body,
      cells_within cells,
      sum_by-cons (λ (c : CellCode). block_cost c.body) c cells,
    )
