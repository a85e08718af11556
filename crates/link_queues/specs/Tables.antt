-- The tables of an array's queues: the ways of its messages, and its links.
use Rattle.std.specs.Prelude.{ℕ, suc, ◌+◌, ◌≡◌, ◌<◌, ◌*◌, nat_eq, if◌then◌else◌, List, [], Option, None, length, position, replicate, slice_index_or, slice_set, unwrap_or}
use Rattle.sys_base.specs.Grid.{cell_count}
use Rattle.cell_code.specs.Marks.{hops, link_of as link_named, message_of}
use Rattle.cell_code.specs.declared.image.Image.{Image}
use Rattle.cell_code.specs.declared.image.LinkImage.{LinkImage}
use Rattle.link_slots.specs.Slots.{empty_slot, freed, taken_from}
use Rattle.link_slots.specs.declared.slot.Slot.{Slot}
use Rattle.link_queues.specs.Fabrics.{Queues}
use Rattle.link_queues.specs.Keeping.{IsKept}
use Rattle.link_queues.specs.Tracks.{Way, mark_at, place_at}
use Rattle.link_queues.specs.declared.link.Link.{Link}

-- the way of each message, by its index, and each link, by its id
pub record Table : Type 0 where
  pub ways : List Way
  pub links : List Link

-- ---- parts

-- the way of a message
abbrev pub way_of : Table → ℕ → Way
way_of t m = slice_index_or t.ways m (record { length = 0; marks = []; places = [] })

-- the link with an id
abbrev pub link_of : Table → ℕ → Link
link_of t l = slice_index_or t.links l (record { entry = None; bound = 0; slots = [] })

-- the mark of a message at a hop
abbrev pub mark_in : Table → ℕ → ℕ → ℕ
mark_in t m hop = mark_at (way_of t m) hop

-- the slot of a message at a hop
abbrev pub place_in : Table → ℕ → ℕ → Option ℕ
place_in t m hop = place_at (way_of t m) hop

-- the number of that slot
abbrev pub seat_in : Table → ℕ → ℕ → ℕ
seat_in t m hop = unwrap_or (place_in t m hop) 0

-- ---- what changes

-- one more word of a message has come to a hop
abbrev pub with_raised : Table → ℕ → ℕ → Table
with_raised t m hop =
    record t {
      ways = slice_set t.ways m
          (record (way_of t m) { marks = slice_set (way_of t m).marks hop (mark_in t m hop + 1) });
    }

-- a message has another slot at a hop, or none
abbrev pub with_place : Table → ℕ → ℕ → Option ℕ → Table
with_place t m hop place =
    record t {
      ways = slice_set t.ways m (record (way_of t m) { places = slice_set (way_of t m).places hop place });
    }

-- a link has other slots
abbrev pub with_slots : Table → ℕ → List Slot → Table
with_slots t l slots = record t { links = slice_set t.links l (record (link_of t l) { slots = slots }) }

-- a link has bound so many groups
abbrev pub with_bound : Table → ℕ → ℕ → Table
with_bound t l bound = record t { links = slice_set t.links l (record (link_of t l) { bound = bound }) }

-- the oldest word of a message has left its slot at a hop for the next hop; the slot is free where it was the last word
abbrev pub with_left : Table → ℕ → ℕ → ℕ → ℕ → Table
with_left t m hop l place =
    let raised = with_raised t m (suc hop) in
    let drawn = with_slots raised l (taken_from (link_of raised l).slots place) in
    if nat_eq (mark_in drawn m (suc hop)) (way_of drawn m).length
    then with_slots (with_place drawn m hop None) l (freed (link_of drawn l).slots place) else drawn

-- ---- the tables of an image

-- what contracts see of tables
abbrev pub queues_of : Image → ℕ → Table → Queues
queues_of image cap t =
    record {
      image = image;
      cap = cap;
      marks = mark_in t;
      bound = λ l. (link_of t l).bound;
      places = place_in t;
      slots = λ l. (link_of t l).slots;
    }

-- Each message of the image has its way, with a mark and a slot for each hop and one more mark; each link of the grid
-- has its place, which tells which link of the image it is, if it is one.
pub record IsLaidOut (image : Image) (t : Table) : Type 0 where
  pub ways : length t.ways ≡ length image.messages
  pub marks : (m : ℕ) → m < length image.messages → length (way_of t m).marks ≡ suc (hops image m)
  pub places : (m : ℕ) → m < length image.messages → length (way_of t m).places ≡ hops image m
  pub lengths : (m : ℕ) → m < length image.messages → (way_of t m).length ≡ (message_of image m).length
  pub links : length t.links ≡ 4 * cell_count image.grid
  pub entries : (l : ℕ) → l < length t.links
      → (link_of t l).entry ≡ position (λ (x : LinkImage). nat_eq x.link l) image.links

-- a link of an image, by its id, with free slots, and no group of which is bound
abbrev pub first_link : Image → ℕ → ℕ → Link
first_link image cap l =
    record {
      entry = position (λ (x : LinkImage). nat_eq x.link l) image.links;
      bound = 0;
      slots = replicate (link_named image.links l).queues (empty_slot cap);
    }

-- The tables are laid out for the image, and what they say is kept.
pub record IsFabric (image : Image) (cap : ℕ) (t : Table) : Type 0 where
  pub laid_out : IsLaidOut image t
  pub kept : IsKept (queues_of image cap t)

-- what contracts know of a fabric: its image, its capacity and its tables
pub record Laid : Type 0 where
  pub image : Image
  pub cap : ℕ
  pub table : Table

-- the queues of a fabric
abbrev pub queues : Laid → Queues
queues f = queues_of f.image f.cap f.table
