-- What holds in every state of every run.
use Rattle.std.specs.Prelude.{ℕ, suc, ◌+◌, ◌≡◌, ◌<◌, ◌≤◌, false, length}
use Rattle.cell_code.specs.Marks.{groups_of, hops, is_bound, link_of, live, message_of, queue}
use Rattle.cell_code.specs.declared.image.Image.{Image}
use Rattle.array_model.specs.States.{ArrayState}

-- The first mark of a message counts all that was written to it, which is no more than its length; marks never rise
-- along a route, and a queue is as long as the marks at its ends differ; no word has come to a hop that is not bound;
-- no queue has more words than the capacity; and no link has bound more groups than it has, or has more live messages
-- than queues.
pub record HoldsAlways (image : Image) (cap : ℕ) (s : ArrayState) : Type 0 where
  pub long : (m : ℕ) → length (s.history m) ≡ s.marks m 0
  pub within : (m : ℕ) → m < length image.messages → s.marks m 0 ≤ (message_of image m).length
  pub falls : (m hop : ℕ) → m < length image.messages → hop < hops image m → s.marks m (suc hop) ≤ s.marks m hop
  pub waits : (m hop : ℕ) → m < length image.messages → hop < hops image m
      → length (queue s.history s.marks m hop) + s.marks m (suc hop) ≡ s.marks m hop
  pub entered : (m hop : ℕ) → m < length image.messages → hop < hops image m
      → is_bound image s.bound m hop ≡ false → s.marks m hop ≡ 0
  pub roomy : (m hop : ℕ) → m < length image.messages → hop < hops image m
      → length (queue s.history s.marks m hop) ≤ cap
  pub counted : (l : ℕ) → s.bound l ≤ length (groups_of image l)
  pub fitting : (l : ℕ) → length (live image s.marks s.bound l) ≤ (link_of image.links l).queues
