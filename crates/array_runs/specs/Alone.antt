-- A cell by itself, with a whole stream of words for each message.
use Rattle.std.specs.Prelude.{ℕ, zero, suc, ◌≡◌, ◌<◌, cond, nat_eq, List, [], ◌∷◌, ◌++◌, get_or}
use Rattle.array_runs.specs.Frame.{Action, Halt, Work, Write, Read, Frame}
use Rattle.array_runs.specs.Machines.{Machine}
use Rattle.array_runs.specs.Orders.{events}
use Rattle.array_runs.specs.Regular.{IsRegular}
use Rattle.array_runs.specs.States.{raised}

-- the first values of a function
abbrev pub first : {A : Type 0} → (ℕ → A) → ℕ → List A
first f zero = []
first f (suc n) = first f n ++ f n ∷ []

-- the state of a cell, and how many words of each message it has read
pub record Alone (X : Type 0) : Type 0 where
  pub state : X
  pub taken : ℕ → ℕ

-- A list begins with another one.
abbrev pub IsPrefix : {W : Type 0} → List W → List W → Type 0
IsPrefix {W} xs ys = (rest : List W) × (xs ++ rest ≡ ys)

module _ {X W : Type 0} (mc : Machine X W) (v : ℕ → List W) (start : ℕ → X) where
  -- what an action makes of a cell: each write is taken, and each read gets the next word of its message's stream
  abbrev pub alone_step : ℕ → Alone X → Action → Alone X
  alone_step c a Halt = a
  alone_step c a Work = record a { state = mc.worked c a.state }
  alone_step c a (Write m) = record a { state = mc.wrote c a.state }
  alone_step c a (Read m) =
      record { state = mc.got c a.state (get_or (v m) (a.taken m) mc.blank); taken = raised a.taken m }

  -- the cell after so many steps by itself
  abbrev pub alone : ℕ → ℕ → Alone X
  alone c zero = record { state = start c; taken = λ m. 0 }
  alone c (suc n) = alone_step c (alone c n) (mc.action c (alone c n).state)

  -- what it does after so many steps
  abbrev pub action_alone : ℕ → ℕ → Action
  action_alone c n = mc.action c (alone c n).state

  -- what it does in its first steps
  abbrev pub actions_alone : ℕ → ℕ → List Action
  actions_alone c n = first (action_alone c) n

  -- the word that an action writes to a message, if it does
  abbrev pub word_of : ℕ → X → Action → ℕ → List W
  word_of c x Halt m = []
  word_of c x Work m = []
  word_of c x (Write k) m = cond (nat_eq k m) (mc.word c x ∷ []) []
  word_of c x (Read k) m = []

  -- the words that it writes to a message in its first steps
  abbrev pub written_alone : ℕ → ℕ → ℕ → List W
  written_alone c zero m = []
  written_alone c (suc n) m = written_alone c n m ++ word_of c (alone c n).state (action_alone c n) m

-- By itself, whatever the streams, each cell comes to its halt within its cost, and the writes and reads that it does
-- until then are always this list of it.
pub record RunsAlike {X W : Type 0} (p : Frame) (mc : Machine X W) (start : ℕ → X) (lists : ℕ → List Action)
    (cost : ℕ → ℕ) : Type 0 where
  pub halts : (v : ℕ → List W) (c : ℕ) → c < p.cells → action_alone mc v start c (cost c) ≡ Halt
  pub alike : (v : ℕ → List W) (c : ℕ) → c < p.cells → events (actions_alone mc v start c (cost c)) ≡ lists c

-- A regular array of machines: its cells run alike, and with their lists the array is regular for the buffer.
pub record IsRegularArray {X W : Type 0} (p : Frame) (mc : Machine X W) (start : ℕ → X) (lists : ℕ → List Action)
    (cost : ℕ → ℕ) (buffer : ℕ) : Type 0 where
  pub cells : RunsAlike p mc start lists cost
  pub regular : IsRegular p lists buffer
