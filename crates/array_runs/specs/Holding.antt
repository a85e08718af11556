-- What holds in every state of every run.
use Rattle.std.specs.Prelude.{ℕ, suc, ◌≡◌, ◌<◌, ◌≤◌, false, length}
use Rattle.array_runs.specs.Frame.{Frame, hops}
use Rattle.array_runs.specs.Machines.{Array, queue}
use Rattle.array_runs.specs.States.{is_bound, live}

-- The first mark of a message counts all that was written to it, marks never rise along a route, and no message has
-- more words than its length; no word has come to a hop that is not bound; no queue has more words than the capacity;
-- and no link has bound more groups than it has, or has more live messages than queues.
pub record HoldsAlways {X W : Type 0} (p : Frame) (cap : ℕ) (a : Array X W) : Type 0 where
  pub long : (m : ℕ) → length (a.history m) ≡ a.mark m 0
  pub falls : (m i : ℕ) → m < p.messages → i < hops p m → a.mark m (suc i) ≤ a.mark m i
  pub within : (m : ℕ) → m < p.messages → a.mark m 0 ≤ p.words m
  pub entered : (m i : ℕ) → m < p.messages → i < hops p m → is_bound p a.bound m i ≡ false → a.mark m i ≡ 0
  pub roomy : (m i : ℕ) → m < p.messages → i < hops p m → length (queue a m i) ≤ cap
  pub counted : (l : ℕ) → a.bound l ≤ length (p.groups l)
  pub fitting : (l : ℕ) → live p a.mark a.bound l ≤ p.queues l
