use Rattle.std.proofs.Common.{ap, ◌∙◌}
use Rattle.std.specs.Option.{is_some}
use Rattle.std.proofs.lemmas.Option.{slice_get-get_or}
use Rattle.array_sim.specs.Simulations.{cap_in, inputs_in}
use Rattle.array_drive.proofs.Turning.{follows_one, moves_there}
use Rattle.array_drive.proofs.driving.turn.Goals as goal

pub returns-in-At-clause-follows : goal.returns-in-At-clause-follows
returns-in-At-clause-follows g c e run last after =
    follows_one g.C.Chooser.picks c.args.sim.now c.step.new.self c.args.chooser.now c.pick.new.self c.args.trail.now c.add.new.self
    c.enabled-enabled.result.now c.in-At.place _ run last (c.enabled-enabled.ensures.listed last after.stands) c.in-At.ensures.picked
    (slice_get-get_or c.enabled-enabled.result.now c.in-At.place _ c.in-At.ensures.place)
    (λ next m. c.step.ensures.after (c.step.ensures.answer last after.stands ∙ ap is_some m) run last next after m)
    c.add.ensures.entries c.add.ensures.room

pub returns-in-At-clause-steps : goal.returns-in-At-clause-steps
returns-in-At-clause-steps g c e =
    let r = c.enabled-enabled.ensures.reached in
    let m = moves_there c.args.sim.now.array.image (inputs_in c.args.sim.now.array) (cap_in c.args.sim.now.array) r.last
    c.enabled-enabled.result.now c.in-At.place _ (c.enabled-enabled.ensures.listed r.last r.after.stands)
    (slice_get-get_or c.enabled-enabled.result.now c.in-At.place _ c.in-At.ensures.place)
    in
    c.step.ensures.steps (c.step.ensures.answer r.last r.after.stands ∙ ap is_some m.1)
