use Rattle.array_model.specs.States.{opening}
use Rattle.array_sim.specs.Simulations.{inputs_of}
use Rattle.run_words.specs.Answers.{capacity}
use Rattle.run_words.proofs.Replaying.{replays}
use Rattle.run_words.proofs.Short.{short_run}
use Rattle.run_words.proofs.laws.records_replay.Goals as goal

pub returns : goal.returns
returns c =
    λ image asked lists schedule run last ending answer extent shaped end makes says.
    let inputs = inputs_of lists in
    let cap = capacity image asked in
    let is = c.schedules_make_runs.ensures.is_run image inputs cap schedule run last ending makes in
    let again = c.runs_replay_themselves.ensures in
    replays image asked lists run last
    (short_run image inputs cap shaped extent
    (λ s a. c.enabled_actors_are_listed.ensures image inputs cap s a shaped)
    (c.path_bounds.ensures.most image.grid) (opening image) run last is)
    (c.one_line.ensures.run image.grid)
    (λ none. again.ended image inputs cap run last shaped is none)
    (λ some. again.stopped image inputs cap run last shaped is some) schedule ending answer end makes says
