-- The walk of a refusal: from a cell with something left to the cell that it waits for, and on from there.
use Rattle.std.specs.Prelude.{ℕ, suc, ◌≡◌, ◌≤◌, ◌-◌, List, Option, Some, None, IsSomeAnd, length, map, slice_get, option_map, All, Contains}
use Rattle.comm_sequence.specs.Sequences.{Sequences}
use Rattle.comm_sequence.specs.declared.comm.Comm.{Comm}
use Rattle.comm_sequence.specs.declared.comm.Comm.TheVariants.{Write, Read}
use Rattle.crossing_off.specs.declared.answer.Residue.{Residue}
use Rattle.crossing_off.specs.declared.waits.Wait.{Wait}
use Rattle.crossing_off.specs.declared.waits.WaitWalk.{WaitWalk}
use Rattle.crossing_off.specs.declared.waits.WalkEnd.{WalkEnd}
use Rattle.crossing_off.specs.declared.waits.WalkEnd.TheVariants.{Again, NothingLeft}

-- the other end of an operation's message: the receiver for a write, the sender for a read
abbrev pub partner_of : List (ℕ × ℕ) → Comm → Option ℕ
partner_of ends (Write m) = option_map (λ e. e.1) (slice_get ends m)
partner_of ends (Read m) = option_map (λ e. e.0) (slice_get ends m)

-- Something is left in the cell, and its first operation is this.
abbrev pub HasFront : List (Option Comm) → ℕ → Comm → Type 0
HasFront fronts cell comm = slice_get fronts cell ≡ Some (Some comm)

-- The cell is the least one with something left.
pub record IsLeastLeft (fronts : List (Option Comm)) (cell : ℕ) : Type 0 where
  pub something : (comm : Comm) × HasFront fronts cell comm
  pub least : (other : ℕ) (comm : Comm) → HasFront fronts other comm → cell ≤ other

-- The cell waits with its first operation for the other end of that operation's message.
pub record IsWait (s : Sequences) (fronts : List (Option Comm)) (wait : Wait) : Type 0 where
  pub front : HasFront fronts wait.cell wait.front
  pub partner : partner_of s.ends wait.front ≡ Some wait.partner

-- The walk ends at the cell that is waited for last: one that it has already visited, or one with nothing left.
abbrev pub IsEnd : List (Option Comm) → List Wait → WalkEnd → Type 0
IsEnd fronts waits (Again cell) =
    IsSomeAnd (slice_get waits (length waits - 1)) (λ last. last.partner ≡ cell)
    × Contains (map (λ (w : Wait). w.cell) waits) cell
IsEnd fronts waits (NothingLeft cell) =
    IsSomeAnd (slice_get waits (length waits - 1)) (λ last. last.partner ≡ cell) × (slice_get fronts cell ≡ Some None)

-- A walk of these waits, with this end: it begins at the least cell with something left, goes on at the cell that is
-- waited for, visits no cell twice, and ends at the first cell that it has visited or that has nothing left.
pub record IsWalkOver (s : Sequences) (fronts : List (Option Comm)) (waits : List Wait) (end : WalkEnd) : Type 0 where
  pub begins : IsSomeAnd (slice_get waits 0) (λ first. IsLeastLeft fronts first.cell)
  pub are_waits : All (IsWait s fronts) waits
  pub goes_on : (k : ℕ) (wait next : Wait) → slice_get waits k ≡ Some wait → slice_get waits (suc k) ≡ Some next
      → next.cell ≡ wait.partner
  pub differ : (j k : ℕ) (a b : Wait) → slice_get waits j ≡ Some a → slice_get waits k ≡ Some b → a.cell ≡ b.cell
      → j ≡ k
  pub ends : IsEnd fronts waits end

-- The walk is one of the residue.
abbrev pub IsWalk : Sequences → Residue → WaitWalk → Type 0
IsWalk s residue walk = IsWalkOver s residue.fronts.items walk.waits.items walk.end
