-- What holds of the queues of an array at all times.
use Rattle.std.specs.Prelude.{ℕ, suc, ◌≡◌, ◌+◌, ◌-◌, ◌*◌, Bool, ◌<◌, ◌≤◌, ◌&&◌, nat_lt, false, [], Some, None, is_some, length}
use Rattle.sys_base.specs.Grid.{cell_count}
use Rattle.cell_code.specs.Images.{IsShaped}
use Rattle.cell_code.specs.Marks.{groups_of, hop_on, hops, is_bound, link_at, link_of, live, message_of}
use Rattle.cell_code.specs.declared.image.Image.{Image}
use Rattle.link_slots.specs.Slots.{held_count, holder_at, slot_at, words_at}
use Rattle.link_queues.specs.Fabrics.{Queues, slots_at}

-- a message of an image, and a hop of it
abbrev pub IsHop : Image → ℕ → ℕ → Type 0
IsHop image m hop = (m < length image.messages) × (hop < hops image m)

-- whether a message holds a slot at a hop that is not full
abbrev pub has_free_place : Queues → ℕ → ℕ → Bool
has_free_place q m hop = is_some (q.places m hop) && nat_lt (q.marks m hop - q.marks m (suc hop)) q.cap

-- whether a message is live at a hop: it is bound there, and not all its words have left
abbrev pub is_live : Queues → ℕ → ℕ → Bool
is_live q m hop = is_bound q.image q.bound m hop && nat_lt (q.marks m (suc hop)) (message_of q.image m).length

-- The words that were written to a message are no more than its length; marks never rise along a route, and differ by
-- no more than the capacity; no word has come to a hop that is not bound; and no link has bound more groups than it
-- has.
pub record Flows (q : Queues) : Type 0 where
  pub within : (m : ℕ) → m < length q.image.messages → q.marks m 0 ≤ (message_of q.image m).length
  pub falls : (m hop : ℕ) → IsHop q.image m hop → q.marks m (suc hop) ≤ q.marks m hop
  pub roomy : (m hop : ℕ) → IsHop q.image m hop → q.marks m hop ≤ q.marks m (suc hop) + q.cap
  pub entered : (m hop : ℕ) → IsHop q.image m hop → is_bound q.image q.bound m hop ≡ false → q.marks m hop ≡ 0
  pub counted : (l : ℕ) → q.bound l ≤ length (groups_of q.image l)

-- A link has as many slots as queues, each for so many words as the capacity. A message holds a slot at a hop exactly
-- where it is live there, that is bound, and not all its words have left; it is then the holder of that slot, and no
-- slot has another holder than a message that holds it. A slot without a holder has no words. As many slots are held
-- as messages are live.
pub record Seats (q : Queues) : Type 0 where
  pub queues : (l : ℕ) → l < 4 * cell_count q.image.grid → length (q.slots l) ≡ (link_of q.image.links l).queues
  pub capacities : (l s : ℕ) → s < length (q.slots l) → (slot_at (q.slots l) s).words.capacity ≡ q.cap
  pub holds : (m hop : ℕ) → IsHop q.image m hop → is_some (q.places m hop) ≡ is_live q m hop
  pub held : (m hop s : ℕ) → IsHop q.image m hop → q.places m hop ≡ Some s
      → (s < length (slots_at q m hop)) × (holder_at (slots_at q m hop) s ≡ Some m)
  pub holders : (l s m : ℕ) → holder_at (q.slots l) s ≡ Some m
      → IsHop q.image m (hop_on q.image l m)
      × ((link_at q.image m (hop_on q.image l m) ≡ l) × (q.places m (hop_on q.image l m) ≡ Some s))
  pub free : (l s : ℕ) → holder_at (q.slots l) s ≡ None → words_at (q.slots l) s ≡ []
  pub live : (l : ℕ) → held_count (q.slots l) ≡ length (live q.image q.marks q.bound l)

-- The slot that a message holds at a hop has the words that have come there and have not left.
abbrev pub Waits : Queues → Type 0
Waits q = (m hop s : ℕ) → IsHop q.image m hop → q.places m hop ≡ Some s
    → length (words_at (slots_at q m hop) s) + q.marks m (suc hop) ≡ q.marks m hop

-- The image is shaped, and the capacity is 1 to 64; words flow, messages have their slots, and the slots their words.
pub record IsKept (q : Queues) : Type 0 where
  pub shaped : IsShaped q.image
  pub some_words : 1 ≤ q.cap
  pub most_words : q.cap ≤ 64
  pub flows : Flows q
  pub seats : Seats q
  pub waits : Waits q
