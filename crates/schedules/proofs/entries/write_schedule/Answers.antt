use Rattle.std.proofs.Common.{◌≡◌, ◌+◌, ◌++◌, ◌<◌, ◌≤◌, ℕ, List, get_or, length, string_bytes, codes, ap, sym, ◌∙◌}
use Rattle.sys_base.specs.Actors.{actor_text}
use Rattle.sys_base.specs.declared.actor.Actor.TheVariants.{Cell}
use Rattle.schedules.specs.Entries.{schedule_text}
use Rattle.schedules.proofs.Reading.{text_more, short_more, text_whole, short_whole, reads_back, reads_behind}
use Rattle.schedules.proofs.entries.write_schedule.Goals as goal

pub loop-entry-preserved : goal.loop-entry-preserved
loop-entry-preserved c = (
  c.in_ok-write_entry.ensures.text
      ∙ ap (λ (t : List ℕ). t ++ (actor_text (get_or c.args.entries.now c.loop-entry.entry-index (Cell 0)) ++ codes "\n")) c.loop-entry.invariant.0
      ∙ sym (text_more c.args.entries.now c.loop-entry.entry-index (Cell 0) c.loop-entry-test.true),
  short_more c.args.entries.now c.loop-entry.entry-index (Cell 0) c.loop-entry.invariant.1 c.in_ok-write_entry.ensures.short c.loop-entry-test.true,
)

pub returns-clause-read_back : goal.returns-clause-read_back
returns-clause-read_back c = reads_back _ c.args.entries.now
    (ap (λ v. v.items) c.into_bytes.ensures.value ∙ text_whole _ c.args.entries.now c.loop-entry.entry-index c.loop-entry.invariant.0 c.loop-entry-test.false)
    (short_whole c.args.entries.now c.loop-entry.entry-index c.loop-entry.invariant.1 c.loop-entry-test.false)

pub returns-clause-behind_result : goal.returns-clause-behind_result
returns-clause-behind_result c = reads_behind _ c.args.entries.now
    (ap (λ v. v.items) c.into_bytes.ensures.value ∙ text_whole _ c.args.entries.now c.loop-entry.entry-index c.loop-entry.invariant.0 c.loop-entry-test.false)
    (short_whole c.args.entries.now c.loop-entry.entry-index c.loop-entry.invariant.1 c.loop-entry-test.false)
