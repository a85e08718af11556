-- Programs that mean one thing, and what the words of a cell alone depend on.
use Rattle.std.specs.Prelude.{ℕ, ◌≡◌, ◌<◌, ℤ, List, length, take}
use Rattle.sys_base.specs.Held.{Streams, word_at}
use Rattle.sys_base.specs.declared.word.Word.{Word}
use Rattle.cell_types.specs.Code.{ProgramCode}
use Rattle.cell_types.specs.Communications.{Writes, Reads, Emits, communications, times}
use Rattle.cell_types.specs.Solo.{solo, written_to, emitted}
use Rattle.comm_sequence.specs.Meaning.{Agree, IsMeaning}

-- For these inputs some streams agree, and any two families that agree have the same stream for each message; so some
-- words are the meaning, and no others are.
pub record MeansOneThing (program : ProgramCode) (inputs : List (List ℤ)) : Type 0 where
  pub streams : Streams
  pub agree : Agree program inputs streams
  pub agreed : (v w : Streams) → Agree program inputs v → Agree program inputs w
      → (m : ℕ) → m < length program.messages → v m ≡ w m
  pub words : List (List Word)
  pub is : IsMeaning program inputs words
  pub only : (others : List (List Word)) → IsMeaning program inputs others → others ≡ words

-- Two families of streams have the same words for all reads among the first communications of a cell.
abbrev pub ReadAlike : ProgramCode → (cell : ℕ) → (n : ℕ) → Streams → Streams → Type 0
ReadAlike program cell n v w =
    (m k : ℕ) → k < times (Reads m) (take n (communications program cell)) → word_at v m k ≡ word_at w m k

-- Over two families of streams a cell alone writes and emits the same words in its first communications.
pub record SaysAlike (program : ProgramCode) (cell : ℕ) (input : List ℤ) (n : ℕ) (v w : Streams) : Type 0 where
  pub writes : (m : ℕ)
      → take (times (Writes m) (take n (communications program cell))) (written_to m (solo program cell input v))
      ≡ take (times (Writes m) (take n (communications program cell))) (written_to m (solo program cell input w))
  pub emits :
      take (times Emits (take n (communications program cell))) (emitted (solo program cell input v))
      ≡ take (times Emits (take n (communications program cell))) (emitted (solo program cell input w))
