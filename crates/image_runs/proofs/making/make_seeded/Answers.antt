use Rattle.std.proofs.Common.{refl, subst, [], ◌%◌, length}
use Rattle.rand_pcg.specs.Lcg.{Lcg}
use Rattle.rand_pcg.specs.Pcg.{pcg32}
use Rattle.schedules.specs.Picks.{PicksDrawn}
use Rattle.array_model.specs.States.{opening}
use Rattle.array_picks.specs.Picked.{PicksWhole}
use Rattle.array_picks.proofs.BuiltIn.{no_stop}
use Rattle.array_sim.specs.Simulations.{cap_in, inputs_in}
use Rattle.image_runs.proofs.Runs.{whole}
use Rattle.image_runs.proofs.making.make_seeded.Goals as goal

pub returns-clause-made : goal.returns-clause-made
returns-clause-made c =
    let sim = c.args.sim.now in
    let w = whole PicksDrawn sim c.drive.new.sim c.args.trail.now c.drive.new.trail c.new.result c.requires c.drive.new.chooser
    c.drive.result (c.drive.ensures.never (λ before after list h. no_stop ((pcg32 before).0 % length list) h.place))
    (c.drive.ensures.driven [] (opening sim.array.image) c.requires.after) in
    record {
      image = c.drive.ensures.image;
      inputs = c.drive.ensures.inputs;
      cap = c.drive.ensures.cap;
      last = w.last;
      after = w.after;
      makes = (
        refl,
        c.drive.new.chooser,
        subst (λ (value : Lcg). PicksWhole PicksDrawn sim.array.image (inputs_in sim.array)
            (cap_in sim.array) value c.drive.new.trail.entries w.last c.drive.new.chooser) c.new.ensures w.whole,
      );
    }
