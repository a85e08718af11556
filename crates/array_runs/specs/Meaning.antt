-- What the runs of an array mean: the streams of words that its cells, each by itself, write and read.
use Rattle.std.specs.Prelude.{ℕ, ◌≡◌, ◌<◌, List}
use Rattle.array_runs.specs.Alone.{IsPrefix, action_alone, alone, written_alone}
use Rattle.array_runs.specs.Frame.{Halt, Frame}
use Rattle.array_runs.specs.Machines.{Array, Machine, IsArrayFinished}

-- By itself under the streams the cell comes to its halt, and has then written to the message just its stream.
pub record WritesStream {X W : Type 0} (mc : Machine X W) (start : ℕ → X) (v : ℕ → List W) (c m : ℕ) : Type 0 where
  pub steps : ℕ
  pub halts : action_alone mc v start c steps ≡ Halt
  pub writes : written_alone mc v start c steps m ≡ v m

-- The streams agree: the sender of each message writes just its stream.
abbrev pub Agrees : {X W : Type 0} → Frame → Machine X W → (ℕ → X) → (ℕ → List W) → Type 0
Agrees p mc start v = (m : ℕ) → m < p.messages → WritesStream mc start v (p.sender m) m

-- Some streams agree, and any two families that agree are equal.
pub record HasOneMeaning {X W : Type 0} (p : Frame) (mc : Machine X W) (start : ℕ → X) : Type 0 where
  pub streams : ℕ → List W
  pub agree : Agrees p mc start streams
  pub only : (v w : ℕ → List W) → Agrees p mc start v → Agrees p mc start w → (m : ℕ) → m < p.messages → v m ≡ w m

-- What a cell has put out, as a list that only grows.
pub record IsOutput {X W O : Type 0} (mc : Machine X W) (output : X → List O) : Type 0 where
  pub worked : (c : ℕ) (x : X) → IsPrefix (output x) (output (mc.worked c x))
  pub wrote : (c : ℕ) (x : X) → IsPrefix (output x) (output (mc.wrote c x))
  pub got : (c : ℕ) (x : X) (w : W) → IsPrefix (output x) (output (mc.got c x w))

-- The state is one of the cell's by itself under the streams.
pub record IsAlone {X W : Type 0} (mc : Machine X W) (start : ℕ → X) (v : ℕ → List W) (c : ℕ) (x : X) : Type 0 where
  pub steps : ℕ
  pub state : x ≡ (alone mc v start c steps).state

-- Under these streams: all that was written to a message is the beginning of its stream, and the whole of it where
-- all cells halt; each cell is in one of its states by itself; and what it has put out is the beginning of what it
-- has put out at its halt by itself, and the whole of it where all cells halt.
pub record KeepsMeaning {X W O : Type 0} (p : Frame) (mc : Machine X W) (start : ℕ → X) (output : X → List O)
    (v : ℕ → List W) (a : Array X W) : Type 0 where
  pub begins : (m : ℕ) → m < p.messages → IsPrefix (a.history m) (v m)
  pub whole : IsArrayFinished p mc a → (m : ℕ) → m < p.messages → a.history m ≡ v m
  pub is_alone : (c : ℕ) → c < p.cells → IsAlone mc start v c (a.cell c)
  pub puts_out : (c n : ℕ) → c < p.cells → action_alone mc v start c n ≡ Halt
      → IsPrefix (output (a.cell c)) (output (alone mc v start c n).state)
  pub put_out : IsArrayFinished p mc a → (c n : ℕ) → c < p.cells → action_alone mc v start c n ≡ Halt
      → output (a.cell c) ≡ output (alone mc v start c n).state
