-- The actors of an array, their order, and how they are written.
use Rattle.std.specs.Prelude.{ℕ, Bool, true, false, ◌&&◌, ◌||◌, nat_eq, nat_lt, List, ◌++◌, codes}
use Rattle.std.specs.Fmt.{decimal}
use Rattle.sys_base.specs.declared.actor.Actor.{Actor}
use Rattle.sys_base.specs.declared.actor.Actor.TheVariants.{Cell, Forward, Bind}

-- whether an actor stands before another one: cells by index, then forwards by message and hop, then links by id
abbrev pub is_before : Actor → Actor → Bool
is_before (Cell i) (Cell j) = nat_lt i j
is_before (Cell i) (Forward n k) = true
is_before (Cell i) (Bind l) = true
is_before (Forward m h) (Cell j) = false
is_before (Forward m h) (Forward n k) = nat_lt m n || (nat_eq m n && nat_lt h k)
is_before (Forward m h) (Bind l) = true
is_before (Bind k) (Cell j) = false
is_before (Bind k) (Forward n h) = false
is_before (Bind k) (Bind l) = nat_lt k l

-- an actor as it is written: the letter of its kind and its numbers
abbrev pub actor_text : Actor → List ℕ
actor_text (Cell cell) = codes "c" ++ decimal cell
actor_text (Forward message hop) = codes "f" ++ decimal message ++ codes "." ++ decimal hop
actor_text (Bind link) = codes "b" ++ decimal link
