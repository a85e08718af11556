-- What the runs of an image mean: the words that its cells, each of them alone, send and emit.
use Rattle.std.specs.Prelude.{ℕ, ◌≡◌, ◌<◌, nat_eq, List, ◌++◌, map, filter, length}
use Rattle.sys_base.specs.Held.{Streams}
use Rattle.sys_base.specs.declared.word.Word.{Word}
use Rattle.cell_code.specs.Alone.{Alone}
use Rattle.cell_code.specs.Marks.{message_of}
use Rattle.cell_code.specs.declared.image.Image.{Image}
use Rattle.array_model.specs.Regular.{EndsAlone}
use Rattle.array_model.specs.Runs.{IsFinished}
use Rattle.array_model.specs.States.{ArrayState, Inputs, cells}

-- A list is the beginning of another one.
abbrev pub IsPrefix : List Word → List Word → Type 0
IsPrefix xs ys = (rest : List Word) × (xs ++ rest ≡ ys)

-- the words that were sent to a message, among all that were sent, each with its message
abbrev pub sent_to : ℕ → List (ℕ × Word) → List Word
sent_to m sent = map (λ (w : ℕ × Word). w.1) (filter (λ (w : ℕ × Word). nat_eq w.0 m) sent)

-- Alone on its input and these streams, the sender of a message comes to `halt`, and has then sent to the message
-- just its stream.
pub record SendsStream (image : Image) (inputs : Inputs) (streams : Streams) (m : ℕ) : Type 0 where
  pub cost : ℕ
  pub end : Alone
  pub ends : EndsAlone image (message_of image m).from (inputs (message_of image m).from) streams cost end
  pub sends : sent_to m end.sent ≡ streams m

-- The streams agree: the sender of each message sends just its stream.
abbrev pub Agrees : Image → Inputs → Streams → Type 0
Agrees image inputs streams = (m : ℕ) → m < length image.messages → SendsStream image inputs streams m

-- Some streams agree, and any two families that agree have the same stream for each message.
pub record HasOneMeaning (image : Image) (inputs : Inputs) : Type 0 where
  pub streams : Streams
  pub agree : Agrees image inputs streams
  pub only : (v w : Streams) → Agrees image inputs v → Agrees image inputs w → (m : ℕ) → m < length image.messages
      → v m ≡ w m

-- The state keeps the meaning: all that was written to a message is the beginning of its stream, and what a cell has
-- emitted is the beginning of what it emits alone until its `halt`; where the state is finished, it is the whole.
pub record KeepsMeaning (image : Image) (inputs : Inputs) (streams : Streams) (s : ArrayState) : Type 0 where
  pub begins : (m : ℕ) → m < length image.messages → IsPrefix (s.history m) (streams m)
  pub whole : IsFinished image s → (m : ℕ) → m < length image.messages → s.history m ≡ streams m
  pub emits : (c cost : ℕ) (end : Alone) → c < cells image → EndsAlone image c (inputs c) streams cost end
      → IsPrefix (s.cell c).held.output end.state.held.output
  pub emitted : IsFinished image s → (c cost : ℕ) (end : Alone) → c < cells image
      → EndsAlone image c (inputs c) streams cost end → (s.cell c).held.output ≡ end.state.held.output
