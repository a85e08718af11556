-- A program that keeps all that the type of programs keeps.
use Rattle.std.proofs.Common.{◌≡◌, ℕ, zero, suc, [], ◌∷◌, refl, subst, arith}
use Rattle.std.specs.Prelude.{◌<◌, Some, slice_get, slice_index_or}
use Rattle.sys_base.specs.declared.kinds.Dir.TheVariants.{N, E, S, W}
use Rattle.cell_types.specs.Code.{CellCode, ProgramCode}
use Rattle.cell_types.specs.Resolved.{resolved_program}
use Rattle.cell_types.specs.Sound.{IsSound, IsSoundCell, IsSoundMessage, HaveQueues}
use Rattle.cell_types.specs.declared.program.Message.{Message}
use Rattle.cell_types.proofs.Examples.{one_word}

abbrev program : ProgramCode
program = resolved_program one_word

-- equal cells
some_same : {c d : CellCode} → Some c ≡ Some d → c ≡ d
some_same is = cc

queues : HaveQueues program.grid program.queues
queues zero N within = refl
queues zero E within = (omega arith, omega arith)
queues zero S within = refl
queues zero W within = refl
queues (suc zero) N within = refl
queues (suc zero) E within = refl
queues (suc zero) S within = refl
queues (suc zero) W within = (omega arith, omega arith)
queues (suc (suc n)) dir within = absurd (omega arith)

-- its message
sound : (k : ℕ) (d : Message) → k < 1 → IsSoundMessage program.grid (slice_index_or program.messages k d)
sound zero d within = record {
  sender = omega arith;
  receiver = omega arith;
  apart = λ same. cc;
  path = record { leads = (E ∷ [], (refl, 1, refl, refl)); differ = λ i j d i_j j_1. absurd (omega arith) };
  some = omega arith;
  short = omega arith;
  links = λ i d within. one_link i d within;
  label = tt;
}
  where
    one_link : (i : ℕ) (d : ℕ) → i < 1 → slice_index_or (1 ∷ []) i d < 8
    one_link zero d within = omega arith
    one_link (suc i) d within = absurd (omega arith)
sound (suc k) d within = absurd (omega arith)

-- its cells
cells : (index : ℕ) (c : CellCode) → slice_get program.cells index ≡ Some c → IsSoundCell program.messages index c
cells zero c is = subst (IsSoundCell program.messages 0) (some_same is)
    (record {
      words = omega arith;
      counters = omega arith;
      stack = omega arith;
      loops = refl;
      depth = refl;
      body = ((refl, omega arith), tt);
    })
cells (suc zero) c is = subst (IsSoundCell program.messages 1) (some_same is)
    (record {
      words = omega arith;
      counters = omega arith;
      stack = omega arith;
      loops = refl;
      depth = refl;
      body = ((refl, omega arith), (omega arith, tt));
    })
cells (suc (suc n)) c is = cc

one_word_sound : IsSound program
one_word_sound = record {
  grid = record { some_rows = omega arith; most_rows = omega arith; some_cols = omega arith; most_cols = omega arith };
  links = refl;
  queues = queues;
  few = omega arith;
  names = λ i j d i_j j_1. absurd (omega arith);
  messages = sound;
  all = refl;
  cells = cells;
  buffer = omega arith;
}
