use Rattle.std.proofs.Common.{refl, [], ◌-◌, length}
use Rattle.array_model.specs.States.{opening}
use Rattle.array_picks.proofs.BuiltIn.{no_stop}
use Rattle.run_words.specs.Schedules.{PicksLast}
use Rattle.image_runs.proofs.Runs.{whole}
use Rattle.image_runs.proofs.making.make_high.Goals as goal

pub returns-clause-made : goal.returns-clause-made
returns-clause-made c =
    let w = whole PicksLast c.args.sim.now c.drive.new.sim c.args.trail.now c.drive.new.trail (record {}) c.requires (record {}) c.drive.result
    (c.drive.ensures.never (λ before after list h. no_stop (length list - 1) h))
    (c.drive.ensures.driven [] (opening c.args.sim.now.array.image) c.requires.after) in
    record {
      image = c.drive.ensures.image;
      inputs = c.drive.ensures.inputs;
      cap = c.drive.ensures.cap;
      last = w.last;
      after = w.after;
      makes = (refl, record {}, record {}, w.whole);
    }
