-- The tests of the steps as facts, both ways.
use Rattle.std.proofs.Common.{◌≡◌, ℕ, suc, ◌+◌, ◌<◌, ◌≤◌, true, Bool, List, [], length, get_or}
use Rattle.std.specs.Bool.{Decides}
use Rattle.std.proofs.lemmas.Bool.Decides.{Decides-and, Decides-ltb}
use Rattle.std.proofs.lemmas.Bool.{le-leb, leb-true}
use Rattle.array_runs.specs.Frame.{Action, Write, Frame, hops}
use Rattle.array_runs.specs.States.{State, is_bound, live}
use Rattle.array_runs.specs.Steps.{can, may_bind, may_do, may_forward, next}
use Rattle.sys_base.specs.declared.actor.Actor.TheVariants.{Cell}

itself : (b : Bool) → Decides b (b ≡ true)
itself b = (λ h. h, λ h. h)

pub can_cell : (p : Frame) (actions : ℕ → List Action) (cap : ℕ) (s : State) (c : ℕ)
    → Decides (can p actions cap s (Cell c)) ((c < p.cells) × (may_do p cap s.mark s.bound (next actions s c) ≡ true))
can_cell p actions cap s c = Decides-and _ _ (Decides-ltb _ _) (itself _)

pub may_write : (p : Frame) (cap : ℕ) (k : ℕ → ℕ → ℕ) (b : ℕ → ℕ) (m : ℕ)
    → Decides (may_do p cap k b (Write m)) ((is_bound p b m 0 ≡ true) × ((k m 0 < p.words m) × (k m 0 < k m 1 + cap)))
may_write p cap k b m = Decides-and _ _ (itself _) (Decides-and _ _ (Decides-ltb _ _) (Decides-ltb _ _))

pub forwards : (p : Frame) (cap : ℕ) (k : ℕ → ℕ → ℕ) (b : ℕ → ℕ) (m i : ℕ)
    → Decides (may_forward p cap k b m i)
    ((m < p.messages)
    × ((suc i < hops p m)
    × ((k m (suc i) < k m i)
    × ((is_bound p b m (suc i) ≡ true) × (k m (suc i) < k m (suc (suc i)) + cap)))))
forwards p cap k b m i =
    Decides-and _ _ (Decides-ltb _ _) (Decides-and _ _ (Decides-ltb _ _) (Decides-and _ _ (Decides-ltb _ _)
    (Decides-and _ _ (itself _) (Decides-ltb _ _))))

pub binds : (p : Frame) (k : ℕ → ℕ → ℕ) (b : ℕ → ℕ) (l : ℕ)
    → Decides (may_bind p k b l)
    ((l < p.links)
    × ((b l < length (p.groups l)) × (live p k b l + length (get_or (p.groups l) (b l) []) ≤ p.queues l)))
binds p k b l = Decides-and _ _ (Decides-ltb _ _) (Decides-and _ _ (Decides-ltb _ _) (leb-true _ _, le-leb _ _))
