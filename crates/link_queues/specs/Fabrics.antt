-- What contracts see of the queues of an array, and what the calls do to them.
use Rattle.std.specs.Prelude.{ℕ, suc, pred, Bool, nat_eq, ◌&&◌, if◌then◌else◌, List, [], Option, Some, None, drop, fold, length, pos, replicate, slice_index_or, sum_by, unwrap_or}
use Rattle.sys_base.specs.Groups.{below}
use Rattle.sys_base.specs.declared.word.Word.{Word}
use Rattle.sys_base.specs.declared.word.Word.TheVariants.{Num}
use Rattle.cell_code.specs.Marks.{Marks, groups_of, hop_on, hops, link_at, link_of, message_of, raised, raised_at}
use Rattle.cell_code.specs.declared.image.Image.{Image}
use Rattle.array_model.specs.Steps.{put}
use Rattle.link_slots.specs.Slots.{added, empty_slot, freed, lowest_free, taken, taken_from, words_at}
use Rattle.link_slots.specs.declared.slot.Slot.{Slot}

-- the queues of an array: the image that it runs, the capacity of each queue, the marks of its messages, how many
-- groups each link has bound, the slot that each message holds at each hop, and the slots of each link
pub record Queues : Type 0 where
  pub image : Image
  pub cap : ℕ
  pub marks : Marks
  pub bound : ℕ → ℕ
  pub places : ℕ → ℕ → Option ℕ
  pub slots : ℕ → List Slot

-- ---- parts

-- a table with another value at a message's hop
abbrev pub put_at : {A : Type 0} → (ℕ → ℕ → A) → ℕ → ℕ → A → ℕ → ℕ → A
put_at f m hop x k j = if nat_eq m k && nat_eq hop j then x else f k j

-- the slot that a message holds at a hop
abbrev pub seat : Queues → ℕ → ℕ → ℕ
seat q m hop = unwrap_or (q.places m hop) 0

-- the slots of the link at a hop of a message
abbrev pub slots_at : Queues → ℕ → ℕ → List Slot
slots_at q m hop = q.slots (link_at q.image m hop)

-- the words of the slot that is held, and none where no slot is held
abbrev pub slice_of : List Slot → Option ℕ → List Word
slice_of slots None = []
slice_of slots (Some place) = words_at slots place

-- the queue of a message at a hop: the words of the slot that it holds there
abbrev pub slice : Queues → ℕ → ℕ → List Word
slice q m hop = slice_of (slots_at q m hop) (q.places m hop)

-- how many words the queues of a link have together: the sum of its slices
abbrev pub words_in : Queues → ℕ → ℕ
words_in q l =
    sum_by (λ m. sum_by (λ hop. if nat_eq (link_at q.image m hop) l then length (slice q m hop) else 0)
    (below (hops q.image m))) (below (length q.image.messages))

-- the oldest word of a message at a hop
abbrev pub oldest : Queues → ℕ → ℕ → Word
oldest q m hop = slice_index_or (words_at (slots_at q m hop) (seat q m hop)) 0 (Num (pos 0))

-- the queues of all messages, after the oldest word of one of them has left its hop
abbrev pub without_oldest : Queues → ℕ → ℕ → ℕ → ℕ → List Word
without_oldest q m hop = put_at (slice q) m hop (drop 1 (slice q m hop))

-- ---- what changes

-- one more word of a message has come to a hop
abbrev pub raise : Queues → ℕ → ℕ → Queues
raise q m hop = record q { marks = raised_at q.marks m hop }

-- a word comes into the slot of a message at a hop
abbrev pub enter : Queues → ℕ → ℕ → Word → Queues
enter q m hop word =
    record q { slots = put q.slots (link_at q.image m hop) (added (slots_at q m hop) (seat q m hop) word) }

-- the oldest word leaves the slot of a message at a hop
abbrev pub draw : Queues → ℕ → ℕ → Queues
draw q m hop = record q { slots = put q.slots (link_at q.image m hop) (taken_from (slots_at q m hop) (seat q m hop)) }

-- a message gives back its slot at a hop
abbrev pub release : Queues → ℕ → ℕ → Queues
release q m hop =
    record q {
      places = put_at q.places m hop None;
      slots = put q.slots (link_at q.image m hop) (freed (slots_at q m hop) (seat q m hop));
    }

-- whether all words of a message have left a hop
abbrev pub is_done : Queues → ℕ → ℕ → Bool
is_done q m hop = nat_eq (q.marks m (suc hop)) (message_of q.image m).length

-- the oldest word leaves the slot of a message at a hop, which gives the slot back with its last word
abbrev pub leave : Queues → ℕ → ℕ → Queues
leave q m hop = if is_done q m hop then release (draw q m hop) m hop else draw q m hop

-- a message takes the lowest free slot of a link
abbrev pub settle : ℕ → Queues → ℕ → Queues
settle l q m =
    record q {
      places = put_at q.places m (hop_on q.image l m) (Some (lowest_free (q.slots l)));
      slots = put q.slots l (taken (q.slots l) m);
    }

-- the members of the next group of a link
abbrev pub next_group : Queues → ℕ → List ℕ
next_group q l = slice_index_or (groups_of q.image l) (q.bound l) []

-- ---- what each call does

-- a word is written to a message
abbrev pub pushed : Queues → ℕ → Word → Queues
pushed q m word = enter (raise q m 0) m 0 word

-- the oldest word of a message is read
abbrev pub popped : Queues → ℕ → Queues
popped q m = leave (raise q m (hops q.image m)) m (pred (hops q.image m))

-- the oldest word at a hop of a message moves on to the next hop
abbrev pub forwarded : Queues → ℕ → ℕ → Queues
forwarded q m hop = enter (leave (raise q m (suc hop)) m hop) m (suc hop) (oldest q m hop)

-- a link binds its next group, whose members take the lowest free slots in their order
abbrev pub bound_next : Queues → ℕ → Queues
bound_next q l = fold (settle l) (record q { bound = raised q.bound l }) (next_group q l)

-- ---- the opening

-- all queues are empty, and no group is bound: a link has as many free slots as queues
abbrev pub opening : Image → ℕ → Queues
opening image cap =
    record {
      image = image;
      cap = cap;
      marks = λ m hop. 0;
      bound = λ l. 0;
      places = λ m hop. None;
      slots = λ l. replicate (link_of image.links l).queues (empty_slot cap);
    }
