-- Words that only proofs need: the queues of an array beside the peaks of its links.
use Rattle.std.specs.Prelude.{ℕ, pred, ◌≡◌, ◌*◌, ◌<◌, ◌≤◌, max, Bool, ◌&&◌, nat_lt, if◌then◌else◌, List, Option, Some, None, length, slice_index}
use Rattle.sys_base.specs.Held.{word_at}
use Rattle.sys_base.specs.declared.word.Word.{Word}
use Rattle.cell_code.specs.Marks.{hops, may_read, may_write, raised, raised_at}
use Rattle.cell_code.specs.Rows.{State}
use Rattle.cell_code.specs.declared.image.Image.{Image}
use Rattle.array_model.specs.States.{ArrayState, cells}
use Rattle.link_queues.specs.Fabrics.{oldest, words_in}
use Rattle.link_queues.specs.Keeping.{IsKept}
use Rattle.link_queues.specs.Standing.{StandsFor, advanced, written}
use Rattle.link_queues.specs.Tables.{Laid, queues}

-- the queues, and the peak of each link so far
pub record Wired : Type 0 where
  pub fabric : Laid
  pub peaks : List ℕ

-- The queues are those of the image and kept, each link has a peak, and no link has more words than its peak.
pub record IsWired (image : Image) (w : Wired) : Type 0 where
  pub image_is : w.fabric.image ≡ image
  pub kept : IsKept (queues w.fabric)
  pub links : length w.peaks ≡ 4 * cells image
  pub high : (l : ℕ) → l < 4 * cells image → words_in (queues w.fabric) l ≤ slice_index w.peaks l

-- whether a number is a message to which a word may be written
abbrev pub room_in : Wired → ℕ → Bool
room_in w m =
    nat_lt m (length w.fabric.image.messages)
    && may_write w.fabric.image w.fabric.cap (queues w.fabric).marks (queues w.fabric).bound m

-- whether a number is a message of which a word may be read
abbrev pub can_read : Wired → ℕ → Bool
can_read w m = nat_lt m (length w.fabric.image.messages) && may_read w.fabric.image (queues w.fabric).marks m

-- the word that may be read of a message, if there is one
abbrev pub first_in : Wired → ℕ → Option Word
first_in w m =
    if can_read w m then Some (oldest (queues w.fabric) m (pred (hops w.fabric.image m))) else None

-- The image and the capacity stay, queues and peaks are still those of the image, and each peak becomes the number of
-- words that its link has now, where that is more.
pub record IsRaised (old new : Wired) : Type 0 where
  pub wired : IsWired new.fabric.image new
  pub image_is : new.fabric.image ≡ old.fabric.image
  pub cap_is : new.fabric.cap ≡ old.fabric.cap
  pub peaks : (l : ℕ) → l < 4 * cells old.fabric.image
      → slice_index new.peaks l ≡ max (slice_index old.peaks l) (words_in (queues new.fabric) l)

-- A word was written to a message.
pub record HasWritten (old : Wired) (m : ℕ) (word : Word) (new : Wired) : Type 0 where
  pub is_raised : IsRaised old new
  pub stands : (s : ArrayState) (cell : ℕ → State) → StandsFor (queues old.fabric) s
      → StandsFor (queues new.fabric) (written s cell m word)

-- The oldest word of a message was read.
pub record HasGiven (old : Wired) (m : ℕ) (word : Word) (new : Wired) : Type 0 where
  pub is_raised : IsRaised old new
  pub is_oldest : (s : ArrayState) → StandsFor (queues old.fabric) s
      → word ≡ word_at s.history m (s.marks m (hops old.fabric.image m))
  pub stands : (s : ArrayState) (cell : ℕ → State) → StandsFor (queues old.fabric) s
      → StandsFor (queues new.fabric) (advanced s cell m (hops old.fabric.image m))

-- The oldest word of a message at a hop has moved on to this hop.
pub record HasMoved (old : Wired) (m hop : ℕ) (new : Wired) : Type 0 where
  pub is_raised : IsRaised old new
  pub stands : (s : ArrayState) → StandsFor (queues old.fabric) s
      → StandsFor (queues new.fabric) (record s { marks = raised_at s.marks m hop })

-- A link has bound its next group.
pub record HasBound (old : Wired) (link : ℕ) (new : Wired) : Type 0 where
  pub is_raised : IsRaised old new
  pub stands : (s : ArrayState) → StandsFor (queues old.fabric) s
      → StandsFor (queues new.fabric) (record s { bound = raised s.bound link })
