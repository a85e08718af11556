-- Cells on their way along an order, and the words of their messages so far.
use Rattle.std.specs.Prelude.{ℕ, ◌≡◌, ◌+◌, ◌<◌, ⊤, ℤ, pos, List, [], ◌∷◌, ◌++◌, Option, Some, None, filter, length, slice_get, slice_index_or}
use Rattle.std.specs.Option.{option_map_or}
use Rattle.std.specs.Vec.{vec_len}
use Rattle.sys_base.specs.Communications.{Communication, Reads, times}
use Rattle.sys_base.specs.Held.{Streams, with_word, word_at}
use Rattle.sys_base.specs.declared.word.Word.{Word}
use Rattle.sys_base.specs.declared.word.Word.TheVariants.{Num}
use Rattle.cell_types.specs.Code.{ProgramCode}
use Rattle.cell_types.specs.Solo.{opening, written_to}
use Rattle.cell_types.specs.Typed.{Contents, block_of}
use Rattle.cell_types.specs.declared.cell.Cell.{Cell}
use Rattle.cell_types.specs.declared.program.Message.{Message}
use Rattle.comm_sequence.specs.BufferedOrder.{is_of, occurrences}
use Rattle.comm_sequence.specs.Meaning.{alone}
use Rattle.comm_sequence.specs.Sequences.{comms, sequences_of}
use Rattle.comm_sequence.specs.declared.comm.Comm.{Comm}
use Rattle.comm_sequence.specs.declared.comm.Comm.TheVariants as C
use Rattle.rendezvous.specs.bodies.Running.{AlikeTasks, Goes, IsBefore, IsReady, do_tasks, solo_with, tasks_left}
use Rattle.rendezvous.specs.bodies.Stores.{held_of}
use Rattle.rendezvous.specs.declared.array.Stream.{Stream}
use Rattle.rendezvous.specs.declared.runner.Runner.{Runner}
use Rattle.rendezvous.specs.declared.task.Event.{Event}
use Rattle.rendezvous.specs.declared.task.Event.TheVariants as E

-- ---- one event

-- The runner does this event next: its arms are alike, and its writes and reads begin with it.
pub record DoesNext (r : Runner) (event : Comm) : Type 0 where
  pub ready : IsReady r
  pub alike : AlikeTasks r.tasks.items
  pub more : List Comm
  pub next : comms (tasks_left r.tasks.items) ≡ event ∷ more

-- A word of the message is left to be read, where it is read.
abbrev pub HasWord : Stream → Comm → Type 0
HasWord stream (C.Write message) = ⊤
HasWord stream (C.Read message) = stream.read < vec_len stream.words

-- The runner and the message of an event come to these.
pub record WritesIt (m : ℕ) (old new : Runner) (was is : Stream) : Type 0 where
  pub word : Word
  pub goes : Goes old new (Some (E.Writes m word))
  pub ready : IsReady new
  pub words : is.words.items ≡ was.words.items ++ word ∷ []
  pub read : is.read ≡ was.read

pub record ReadsIt (m : ℕ) (old new : Runner) (was is : Stream) : Type 0 where
  pub stop : Runner
  pub variable : ℕ
  pub goes : Goes old stop (Some (E.Reads m variable))
  pub cell : new.store.cell ≡ stop.store.cell
  pub input : new.input.now ≡ stop.input.now
  pub tasks : new.tasks.items ≡ stop.tasks.items
  pub held : held_of new.store
      ≡ with_word (held_of stop.store) variable (slice_index_or was.words.items was.read (Num (pos 0)))
  pub ready : IsReady new
  pub words : is.words.items ≡ was.words.items
  pub read : is.read ≡ was.read + 1

-- By an event a runner and the stream of its message come to these.
abbrev pub Exchanged : Comm → (old new : Runner) → (was is : Stream) → Type 0
Exchanged (C.Write m) old new was is = WritesIt m old new was is
Exchanged (C.Read m) old new was is = ReadsIt m old new was is

-- Where no write or read is left, the cell ends, and these words are what it has emitted.
pub record Ends (r : Runner) (words : List Word) : Type 0 where
  pub last : Runner
  pub event : Option Event
  pub goes : Goes r last event
  pub ends : event ≡ None → last.tasks.items ≡ []
  pub emitted : words ≡ last.store.output.items

-- The event is this cell's: the write of a message that it sends, or the read of one that it receives.
abbrev pub IsOwner : List Message → Comm → ℕ → Type 0
IsOwner messages (C.Write m) c = (x : Message) × (slice_get messages m ≡ Some x) × (x.from ≡ c)
IsOwner messages (C.Read m) c = (x : Message) × (slice_get messages m ≡ Some x) × (x.to ≡ c)

-- ---- all cells

-- the words of a message so far
abbrev pub words_of : List Stream → Streams
words_of streams m = option_map_or (λ (s : Stream). s.words.items) (slice_get streams m) []

-- how many words of a message were read so far
abbrev pub read_of : List Stream → ℕ → ℕ
read_of streams m = option_map_or (λ (s : Stream). s.read) (slice_get streams m) 0

-- These streams begin with the words so far.
abbrev pub Extends : (sofar streams : Streams) → Type 0
Extends sofar streams = (m k : ℕ) → k < length (sofar m) → word_at streams m k ≡ word_at sofar m k

-- A cell is on its way, where these are the words of the messages and how many of them were read: it has read and
-- written just these, and over all streams that begin with them what is left to do comes to what the cell alone does.
pub record IsOn (program : ProgramCode) (inputs : List (List ℤ)) (sofar : Streams) (read : ℕ → ℕ) (c : ℕ) (r : Runner)
    : Type 0 where
  pub ready : IsReady r
  pub alike : AlikeTasks r.tasks.items
  pub made : List Communication
  pub sent : List (ℕ × Word)
  pub reads : (m : ℕ) (x : Message) → slice_get program.messages m ≡ Some x → x.to ≡ c → times (Reads m) made ≡ read m
  pub writes : (m : ℕ) (x : Message) → slice_get program.messages m ≡ Some x → x.from ≡ c
      → written_to m (solo_with (held_of r.store) made sent) ≡ sofar m
  pub comes : (v : Streams) → Extends sofar v
      → do_tasks r.store.cell r.input.now v r.tasks.items (solo_with (held_of r.store) made sent)
      ≡ alone program inputs v c

-- All cells are on their way, where these events of an order are done and these are left.
pub record AreOn (program : ProgramCode) (inputs : List (List ℤ)) (done rest : List Comm) (cells : List Runner)
    (streams : List Stream) : Type 0 where
  pub many : length cells ≡ length program.cells
  pub messages : length streams ≡ length program.messages
  pub on : (c : ℕ) (r : Runner) → slice_get cells c ≡ Some r
      → IsOn program inputs (words_of streams) (read_of streams) c r
  pub left : (c : ℕ) (r : Runner) → slice_get cells c ≡ Some r
      → comms (tasks_left r.tasks.items) ≡ filter (is_of (sequences_of program).ends c) rest
  pub written : (m : ℕ) → length (words_of streams m) ≡ occurrences (C.Write m) done
  pub read : (m : ℕ) → read_of streams m ≡ occurrences (C.Read m) done

-- ---- before the first event, and after the last one

-- A cell of a program before its statements, by its index.
pub record IsOpening (program : Contents) (inputs : List (List ℤ)) (c : ℕ) (r : Runner) : Type 0 where
  pub code : Cell
  pub at : slice_get program.cells c ≡ Some code
  pub cell : r.store.cell ≡ c
  pub input : r.input.now ≡ slice_index_or inputs c []
  pub held : held_of r.store ≡ (opening code.words code.counters).held
  pub before : IsBefore r (block_of code.body.items)

-- No word of a message was written.
abbrev pub AreEmpty : List Stream → Type 0
AreEmpty streams = (m : ℕ) → (words_of streams m ≡ []) × (read_of streams m ≡ 0)

-- The cells end with these words, one after another.
abbrev pub AllEnd : List Runner → List (List Word) → Type 0
AllEnd [] [] = ⊤
AllEnd [] (w ∷ ws) = ⊥
AllEnd (r ∷ rs) [] = ⊥
AllEnd (r ∷ rs) (w ∷ ws) = Ends r w × AllEnd rs ws
