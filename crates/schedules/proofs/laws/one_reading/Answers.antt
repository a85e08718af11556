use Rattle.std.proofs.Common.{◌≡◌, sym, ◌∙◌, ap, arith, ℕ, ◌+◌, length}
use Rattle.schedules.specs.Entries.{passed_over}
use Rattle.schedules.proofs.Reading.{some_reading, one_list, one_bad, never_both}
use Rattle.schedules.proofs.laws.one_reading.Goals as goal

pub returns : goal.returns
returns c = record {
  some = some_reading;
  entries = λ bytes es fs h k. one_list es fs h.short k.short (sym h.texts ∙ k.texts);
  line = λ bytes m n h k. h.3 ∙ ap (λ l. passed_over bytes + l + 1) (one_bad h.0 k.0 h.1 k.1 h.2 k.2 h.4.short k.4.short h.4.malformed k.4.malformed
      (sym h.4.texts ∙ k.4.texts)) ∙ sym k.3;
  apart = λ bytes es n h k. never_both es k.0 k.1 k.2 h.short k.4.short k.4.malformed (sym h.texts ∙ k.4.texts);
}
