-- What holds in every state of every run, as definitions.
use Rattle.std.proofs.Common.{◌≡◌, ℕ, suc, ◌+◌, ◌<◌, ◌≤◌, true, false, List, length, take, get_or}
use Rattle.array_runs.specs.Frame.{Action, Halt, Write, Read, Frame, hops}
use Rattle.array_runs.specs.Orders.{count}
use Rattle.array_runs.specs.Regular.{IsOwn, IsRegular}
use Rattle.array_runs.specs.States.{State, is_bound, live}

-- As many words of a message were written, and read, as its sender's and its receiver's actions so far have writes
-- and reads.
pub record Placed (p : Frame) (actions : ℕ → List Action) (place : ℕ → ℕ) (k : ℕ → ℕ → ℕ) : Type 0 where
  pub written : (m : ℕ) → m < p.messages → k m 0 ≡ count (Write m) (take (place (p.sender m)) (actions (p.sender m)))
  pub read : (m : ℕ) → m < p.messages
      → k m (hops p m) ≡ count (Read m) (take (place (p.receiver m)) (actions (p.receiver m)))
  pub placed : (c : ℕ) → place c ≤ length (actions c)

-- Marks never rise along a route, no word has come to a hop that is not bound, no queue has more words than the
-- capacity, and no link has more live messages than queues.
pub record Flows (p : Frame) (cap : ℕ) (k : ℕ → ℕ → ℕ) (b : ℕ → ℕ) : Type 0 where
  pub falls : (m i : ℕ) → m < p.messages → i < hops p m → k m (suc i) ≤ k m i
  pub entered : (m i : ℕ) → m < p.messages → i < hops p m → is_bound p b m i ≡ false → k m i ≡ 0
  pub roomy : (m i : ℕ) → m < p.messages → i < hops p m → k m i ≤ k m (suc i) + cap
  pub counted : (l : ℕ) → b l ≤ length (p.groups l)
  pub fitting : (l : ℕ) → live p k b l ≤ p.queues l

pub record Holds (p : Frame) (actions : ℕ → List Action) (cap : ℕ) (s : State) : Type 0 where
  pub ends : Placed p actions s.place s.mark
  pub flows : Flows p cap s.mark s.bound

-- The mark of a message at a hop may rise: a word is there to come from the hop before, the hop is bound, and it has
-- room.
pub record MayRise (p : Frame) (cap : ℕ) (k : ℕ → ℕ → ℕ) (b : ℕ → ℕ) (m i : ℕ) : Type 0 where
  pub below : (j : ℕ) → i ≡ suc j → k m i < k m j
  pub opened : i < hops p m → is_bound p b m i ≡ true
  pub room : i < hops p m → k m i < k m (suc i) + cap

-- what the steps need of a regular array
pub record IsShaped (p : Frame) (actions : ℕ → List Action) : Type 0 where
  pub own : (c i : ℕ) → c < p.cells → i < length (actions c) → IsOwn p c (get_or (actions c) i Halt)
  pub counted : (m : ℕ) → m < p.messages → p.words m ≡ count (Write m) (actions (p.sender m))
  pub reaches : (m : ℕ) → m < p.messages → 0 < hops p m

pub shaped_of : (p : Frame) (actions : ℕ → List Action) (d : ℕ) → IsRegular p actions d → IsShaped p actions
shaped_of p actions d h = record { own = h.ordered.own; counted = h.counted; reaches = h.routed.reaches }
