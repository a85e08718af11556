-- The states of the array's model that the queues of an array stand for.
use Rattle.std.specs.Prelude.{ℕ, ◌≡◌, [], ◌∷◌, ◌++◌, length}
use Rattle.sys_base.specs.declared.word.Word.{Word}
use Rattle.cell_code.specs.Marks.{queue, raised_at}
use Rattle.cell_code.specs.Rows.{State}
use Rattle.array_model.specs.States.{ArrayState}
use Rattle.array_model.specs.Steps.{put}
use Rattle.link_queues.specs.Fabrics.{Queues, slice}
use Rattle.link_queues.specs.Keeping.{IsHop}

-- The queues stand for a state: its marks and its numbers of bound groups are theirs, as many words were ever written
-- to a message as its first mark says, and the queue of a message at a hop is the slice of these words between the
-- marks. Queues keep no words that were read, and know nothing of cells, so they stand for many states.
pub record StandsFor (q : Queues) (s : ArrayState) : Type 0 where
  pub marks : s.marks ≡ q.marks
  pub bound : s.bound ≡ q.bound
  pub long : (m : ℕ) → length (s.history m) ≡ s.marks m 0
  pub slices : (m hop : ℕ) → IsHop q.image m hop → slice q m hop ≡ queue s.history s.marks m hop

-- a state with other cells, after a word was written to a message
abbrev pub written : ArrayState → (ℕ → State) → ℕ → Word → ArrayState
written s cell m word =
    record {
      cell = cell;
      history = put s.history m (s.history m ++ word ∷ []);
      marks = raised_at s.marks m 0;
      bound = s.bound;
    }

-- a state with other cells, after one more word of a message has come to a hop
abbrev pub advanced : ArrayState → (ℕ → State) → ℕ → ℕ → ArrayState
advanced s cell m hop =
    record { cell = cell; history = s.history; marks = raised_at s.marks m hop; bound = s.bound }
