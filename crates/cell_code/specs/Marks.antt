-- How far the words of an image's messages have come: marks, queues, bound groups and live messages.
use Rattle.std.specs.Prelude.{ℕ, suc, pred, ◌+◌, Bool, ◌&&◌, nat_eq, nat_lt, nat_le, if◌then◌else◌, List, [], ◌∷◌, length, map, filter, take, slice_index_or}
use Rattle.std.specs.List.{concat, slice_range}
use Rattle.sys_base.specs.Groups.{is_one_of}
use Rattle.sys_base.specs.Held.{Streams}
use Rattle.sys_base.specs.declared.word.Word.{Word}
use Rattle.cell_code.specs.declared.image.Group.{Group}
use Rattle.cell_code.specs.declared.image.Image.{Image}
use Rattle.cell_code.specs.declared.image.LinkImage.{LinkImage}
use Rattle.cell_code.specs.declared.image.MessageImage.{MessageImage}

-- ---- messages and links by their numbers

-- a message that is not there: it has no words and no route
abbrev pub no_message : MessageImage
no_message = record { from = 0; to = 0; length = 0; label = 0; route = [] }

-- the message with a number
abbrev pub message_of : Image → ℕ → MessageImage
message_of image m = slice_index_or image.messages m no_message

-- how many hops a message has: one for each link of its route
abbrev pub hops : Image → ℕ → ℕ
hops image m = length (message_of image m).route

-- the link at a hop of a message
abbrev pub link_at : Image → ℕ → ℕ → ℕ
link_at image m hop = slice_index_or (message_of image m).route hop 0

-- the first place of a number in a list
abbrev pub place_of : ℕ → List ℕ → ℕ
place_of x [] = 0
place_of x (y ∷ ys) = if nat_eq x y then 0 else suc (place_of x ys)

-- the hop at which a message goes by a link
abbrev pub hop_on : Image → ℕ → ℕ → ℕ
hop_on image l m = place_of l (message_of image m).route

-- the link with an id; one that is not there has no queues and no groups
abbrev pub link_of : List LinkImage → ℕ → LinkImage
link_of [] l = record { link = l; queues = 0; groups = [] }
link_of (link ∷ links) l = if nat_eq l link.link then link else link_of links l

-- the groups of a link, each by its members
abbrev pub groups_of : Image → ℕ → List (List ℕ)
groups_of image l = map (λ (g : Group). g.members) (link_of image.links l).groups

-- ---- marks and queues

-- the marks of all messages: mark 0 counts the words that were written, the mark of each hop from 1 on those that
-- have come to it, and the mark past the last hop those that were read
abbrev pub Marks : Type 0
Marks = ℕ → ℕ → ℕ

-- 1 at one number, and 0 at each other
abbrev pub one_at : ℕ → ℕ → ℕ
one_at i j = if nat_eq i j then 1 else 0

-- counts with one more at a number
abbrev pub raised : (ℕ → ℕ) → ℕ → ℕ → ℕ
raised counts i j = counts j + one_at i j

-- marks with one more word of a message at a hop
abbrev pub raised_at : Marks → ℕ → ℕ → Marks
raised_at marks m hop = λ k j. marks k j + (if nat_eq m k then one_at hop j else 0)

-- the queue of a message at a hop: of all words that were ever written to it, those that have come there and have not
-- left
abbrev pub queue : Streams → Marks → ℕ → ℕ → List Word
queue histories marks m hop = slice_range (histories m) (marks m (suc hop)) (marks m hop)

-- whether a queue has a word: more words have come to it than have left it
abbrev pub has_word : Marks → ℕ → ℕ → Bool
has_word marks m hop = nat_lt (marks m (suc hop)) (marks m hop)

-- whether a queue has room: it has fewer words than the capacity
abbrev pub has_room : ℕ → Marks → ℕ → ℕ → Bool
has_room cap marks m hop = nat_lt (marks m hop) (marks m (suc hop) + cap)

-- ---- bound groups and live messages

-- the messages in the first groups of a link
abbrev pub held : Image → ℕ → ℕ → List ℕ
held image l n = concat (take n (groups_of image l))

-- whether a message is bound at a hop, by how many groups each link has bound: its group there is one of those
abbrev pub is_bound : Image → (ℕ → ℕ) → ℕ → ℕ → Bool
is_bound image bound m hop = is_one_of (held image (link_at image m hop) (bound (link_at image m hop))) m

-- the live messages of a link: those that are bound there, and whose last word has not left their queue there
abbrev pub live : Image → Marks → (ℕ → ℕ) → ℕ → List ℕ
live image marks bound l =
    filter (λ m. nat_lt (marks m (suc (hop_on image l m))) (message_of image m).length) (held image l (bound l))

-- ---- what may go on

-- whether a word may be written to a message: its first hop is bound, a word is left to be written, and the queue has
-- room
abbrev pub may_write : Image → ℕ → Marks → (ℕ → ℕ) → ℕ → Bool
may_write image cap marks bound m =
    is_bound image bound m 0 && (nat_lt (marks m 0) (message_of image m).length && has_room cap marks m 0)

-- whether a word of a message may be read: fewer were read than have come to the last hop
abbrev pub may_read : Image → Marks → ℕ → Bool
may_read image marks m = nat_lt (marks m (hops image m)) (marks m (pred (hops image m)))

-- whether a word of a message may move on from a hop: its queue there has a word, and there is a next hop, which is
-- bound, and whose queue has room
abbrev pub may_forward : Image → ℕ → Marks → (ℕ → ℕ) → ℕ → ℕ → Bool
may_forward image cap marks bound m hop =
    nat_lt m (length image.messages)
    && (nat_lt (suc hop) (hops image m)
    && (has_word marks m hop && (is_bound image bound m (suc hop) && has_room cap marks m (suc hop))))

-- whether a link may bind its next group: one is left, and its members and the live messages are together no more
-- than the queues
abbrev pub may_bind : Image → Marks → (ℕ → ℕ) → ℕ → Bool
may_bind image marks bound l =
    nat_lt (bound l) (length (groups_of image l))
    && nat_le (length (live image marks bound l) + length (slice_index_or (groups_of image l) (bound l) []))
    (link_of image.links l).queues
