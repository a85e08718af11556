use Rattle.std.proofs.Common.{◌≡◌, ℕ, ◌<◌, true, get_or}
use Rattle.sys_base.specs.Bytes.{is_word_byte}
use Rattle.cell_lexer.proofs.words.word_len.Given as goal

abbrev pub invariant-loop-len : goal.invariant-loop-len
invariant-loop-len l = (k : ℕ) → k < l.len → is_word_byte (get_or l.rest k 0) ≡ true
