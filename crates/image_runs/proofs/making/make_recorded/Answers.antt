use Rattle.std.proofs.Common.{◌∙◌, sym, [], ◌≡◌, ◌++◌, length, ap, arith, List, length-append}
use Rattle.sys_base.specs.declared.actor.Actor.{Actor}
use Rattle.array_model.specs.States.{opening}
use Rattle.schedules.specs.declared.recorded.Standing.TheVariants as S
use Rattle.image_runs.proofs.Runs.{all_entries, ends_early, ends_finished, ends_not_enabled, ends_unfinished, not_running, replayed_stopped, replayed_whole}
use Rattle.image_runs.proofs.making.make_recorded.Goals as goal

pub returns-in-Finished-clause-made : goal.returns-in-Finished-clause-made
returns-in-Finished-clause-made c =
    let sim = c.args.sim.now in
    let r = replayed_whole sim c.drive.new.sim c.args.trail.now c.drive.new.trail c.args.entries.items c.new-schedule.result
    c.drive.new.chooser c.requires.ready c.new-schedule.ensures c.drive.result c.in-Finished.is
    (c.drive.ensures.driven [] (opening sim.array.image) c.requires.ready.after) in
    record {
      image = c.drive.ensures.image;
      inputs = c.drive.ensures.inputs;
      cap = c.drive.ensures.cap;
      last = r.last;
      after = r.after;
      makes = (c.drive.new.chooser.left, S.Running, r.replays, ends_finished _ _ (sym c.left.ensures ∙ c.if-left-eq0.true));
    }

pub overflow_add-result : goal.overflow_add-result
overflow_add-result c =
    let sim = c.args.sim.now in
    let r = replayed_whole sim c.drive.new.sim c.args.trail.now c.drive.new.trail c.args.entries.items c.new-schedule.result
    c.drive.new.chooser c.requires.ready c.new-schedule.ensures c.drive.result c.in-Finished-2.is
    (c.drive.ensures.driven [] (opening sim.array.image) c.requires.ready.after) in
    let all = all_entries sim c.drive.new.sim c.args.trail.now c.drive.new.trail c.args.entries.items c.new-schedule.result
    c.drive.new.chooser c.requires.ready c.new-schedule.ensures S.Running r in
    let count : length c.args.entries.items ≡ length (c.drive.new.trail.entries ++ c.drive.new.chooser.left) =
    ap (λ (xs : List Actor). length xs) all in
    omega (arith, length-append c.drive.new.trail.entries c.drive.new.chooser.left, count, c.requires.few, c.steps.ensures.steps, r.after.counted, c.left.ensures, c.if-left-eq0.false, c.args.entries.ok)

pub returns-in-Finished-2-clause-made : goal.returns-in-Finished-2-clause-made
returns-in-Finished-2-clause-made c =
    let sim = c.args.sim.now in
    let r = replayed_whole sim c.drive.new.sim c.args.trail.now c.drive.new.trail c.args.entries.items c.new-schedule.result
    c.drive.new.chooser c.requires.ready c.new-schedule.ensures c.drive.result c.in-Finished-2.is
    (c.drive.ensures.driven [] (opening sim.array.image) c.requires.ready.after) in
    record {
      image = c.drive.ensures.image;
      inputs = c.drive.ensures.inputs;
      cap = c.drive.ensures.cap;
      last = r.last;
      after = r.after;
      makes = (
        c.drive.new.chooser.left,
        S.Running,
        r.replays,
        ends_early _ _ _ (λ none. c.if-left-eq0.false (c.left.ensures ∙ none))
            (omega (arith, c.steps.ensures.steps, r.after.counted)),
      );
    }

pub returns-in-NotEnabled-clause-made : goal.returns-in-NotEnabled-clause-made
returns-in-NotEnabled-clause-made c =
    let sim = c.args.sim.now in
    let r = replayed_stopped sim c.drive.new.sim c.args.trail.now c.drive.new.trail c.args.entries.items c.new-schedule.result
    c.drive.new.chooser c.requires.ready c.new-schedule.ensures c.drive.result c.in-Stopped.is
    (c.drive.ensures.driven [] (opening sim.array.image) c.requires.ready.after) in
    record {
      image = c.drive.ensures.image;
      inputs = c.drive.ensures.inputs;
      cap = c.drive.ensures.cap;
      last = r.last;
      after = r.after;
      makes = (c.drive.new.chooser.left, c.drive.new.chooser.standing, r.replays, ends_not_enabled _ _ _ _ (sym c.standing.ensures ∙ c.in-NotEnabled.is));
    }

pub returns : goal.returns
returns c =
    let sim = c.args.sim.now in
    let drives = c.drive.ensures.driven [] (opening sim.array.image) c.requires.ready.after in
    let r = replayed_stopped sim c.drive.new.sim c.args.trail.now c.drive.new.trail c.args.entries.items c.new-schedule.result
    c.drive.new.chooser c.requires.ready c.new-schedule.ensures c.drive.result c.in-Stopped.is drives in
    record {
      made =
          record {
            image = c.drive.ensures.image;
            inputs = c.drive.ensures.inputs;
            cap = c.drive.ensures.cap;
            last = r.last;
            after = r.after;
            makes = (
              c.drive.new.chooser.left,
              c.drive.new.chooser.standing,
              r.replays,
              ends_unfinished _ _ _
                  (not_running sim c.drive.new.sim c.args.trail.now c.drive.new.trail c.args.entries.items c.new-schedule.result
                  c.drive.new.chooser c.requires.ready c.new-schedule.ensures c.drive.result c.in-Stopped.is drives)
                  (λ entry is. c.in_default.not-NotEnabled entry (c.standing.ensures ∙ is)),
            );
          };
      reached = c.drive.ensures.reached;
    }
