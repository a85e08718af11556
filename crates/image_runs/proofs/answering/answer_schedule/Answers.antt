use Rattle.std.proofs.Common.{◌≡◌, [], sym, ap, subst, arith}
use Rattle.cell_code.specs.declared.image.Image.{Image}
use Rattle.array_model.specs.States.{opening}
use Rattle.array_sim.specs.Simulations.{IsAfter, cap_in}
use Rattle.array_drive.specs.Driving.{IsSureAt}
use Rattle.image_runs.proofs.answering.answer_schedule.Goals as goal

pub make_run-ending-requires-clause-ready : goal.make_run-ending-requires-clause-ready
make_run-ending-requires-clause-ready c =
    let sim = c.in_ok-sim.sim in
    let image : sim.array.image ≡ c.args.image.now = c.in_ok-sim.ensures.image in
    let cap : cap_in sim.array ≡ c.max.result = c.in_ok-sim.ensures.cap in
    record {
      after = subst (λ (i : Image). IsAfter sim [] (opening i)) (sym image) c.in_ok-sim.ensures.after;
      sure = subst (λ (i : Image). IsSureAt i (cap_in sim.array)) (sym image)
          (record { least = c.args.image.now.buffer; enough = omega (arith, cap, c.max.ensures); sure = c.requires.sure });
      fresh = c.in_ok-trail.ensures.entries;
      room = omega (arith, ap (λ (i : Image). i.bound) image, c.in_ok-trail.ensures.room);
    }
