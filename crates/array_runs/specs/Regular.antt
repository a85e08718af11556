-- Regular arrays: what is asked of the lists, the order, the labels and the groups.
use Rattle.std.specs.Prelude.{ℕ, suc, ◌≡◌, ◌<◌, ◌≤◌, true, List, [], length, get_or}
use Rattle.std.specs.List.{concat}
use Rattle.array_runs.specs.Frame.{Action, Halt, Work, Write, Read, Frame, hops, hop_on, link_at}
use Rattle.sys_base.specs.Groups.{is_one_of}
use Rattle.array_runs.specs.Orders.{IsOrder, count, events}

-- The action may stand in the list of a cell: it is work, a write of a message that the cell sends, or a read of one
-- that it receives.
abbrev pub IsOwn : Frame → ℕ → Action → Type 0
IsOwn p c Halt = ⊥
IsOwn p c Work = Unit
IsOwn p c (Write m) = (m < p.messages) × (p.sender m ≡ c)
IsOwn p c (Read m) = (m < p.messages) × (p.receiver m ≡ c)

-- The action is a write or a read of a message.
abbrev pub IsEvent : Frame → Action → Type 0
IsEvent p Halt = ⊥
IsEvent p Work = ⊥
IsEvent p (Write m) = m < p.messages
IsEvent p (Read m) = m < p.messages

-- the label of the message that is written or read
abbrev pub label_of : Frame → Action → ℕ
label_of p Halt = 0
label_of p Work = 0
label_of p (Write m) = p.label m
label_of p (Read m) = p.label m

-- Each list has actions of its cell, the ends of each message are cells, and the writes and reads of all lists have
-- an order with the buffer.
pub record IsOrdered (p : Frame) (actions : ℕ → List Action) (buffer : ℕ) : Type 0 where
  pub own : (c i : ℕ) → c < p.cells → i < length (actions c) → IsOwn p c (get_or (actions c) i Halt)
  pub sends : (m : ℕ) → m < p.messages → p.sender m < p.cells
  pub receives : (m : ℕ) → m < p.messages → p.receiver m < p.cells
  pub order : List Action
  pub known : (i : ℕ) → i < length order → IsEvent p (get_or order i Halt)
  pub is_order : IsOrder p actions buffer order

-- The route of each message has at least one link, is made of links, and has none of them twice.
pub record IsRouted (p : Frame) : Type 0 where
  pub reaches : (m : ℕ) → m < p.messages → 0 < hops p m
  pub linked : (m i : ℕ) → m < p.messages → i < hops p m → link_at p m i < p.links
  pub once : (m i : ℕ) → m < p.messages → i < hops p m → hop_on p (link_at p m i) m ≡ i

-- The groups of a link are its messages that have words. No group is empty, the labels rise from group to group, and
-- no group has more members than the link has queues.
pub record IsGrouped (p : Frame) : Type 0 where
  pub member : (l m : ℕ) → is_one_of (concat (p.groups l)) m ≡ true
      → (m < p.messages) × ((0 < p.words m) × ((hop_on p l m < hops p m) × (link_at p m (hop_on p l m) ≡ l)))
  pub grouped : (m i : ℕ) → m < p.messages → 0 < p.words m → i < hops p m
      → is_one_of (concat (p.groups (link_at p m i))) m ≡ true
  pub filled : (l j : ℕ) → j < length (p.groups l) → 0 < length (get_or (p.groups l) j [])
  pub rising : (l i j k m : ℕ) → i < j → is_one_of (get_or (p.groups l) i []) k ≡ true
      → is_one_of (get_or (p.groups l) j []) m ≡ true → p.label k < p.label m
  pub fits : (l j : ℕ) → j < length (p.groups l) → length (get_or (p.groups l) j []) ≤ p.queues l

-- Among some writes and reads the label of each message is at most that of the next one.
abbrev pub Rises : Frame → List Action → Type 0
Rises p list =
    (i : ℕ) → suc i < length list → label_of p (get_or list i Halt) ≤ label_of p (get_or list (suc i) Halt)

-- The array is regular for a buffer: its lists are ordered with it, each message has as many words as its sender
-- writes, messages are routed and grouped, and in no list a label is below that of the message before.
pub record IsRegular (p : Frame) (actions : ℕ → List Action) (buffer : ℕ) : Type 0 where
  pub ordered : IsOrdered p actions buffer
  pub counted : (m : ℕ) → m < p.messages → p.words m ≡ count (Write m) (actions (p.sender m))
  pub routed : IsRouted p
  pub grouped : IsGrouped p
  pub labels : (c : ℕ) → c < p.cells → Rises p (events (actions c))
