use Rattle.array_sim.specs.Simulations.{inputs_of}
use Rattle.run_words.specs.Answers.{capacity}
use Rattle.run_words.proofs.Answering.{one_answer}
use Rattle.run_words.proofs.laws.runs_have_one_answer.Goals as goal

pub returns : goal.returns
returns c =
    λ image least asked recorded lists choice shaped sure counted enough.
    let inputs = inputs_of lists in
    let cap = capacity image asked in
    one_answer image asked recorded lists
    (λ schedule. c.each_schedule_makes_one_run.ensures image least cap inputs schedule sure counted enough)
    (c.schedules_make_runs.ensures.is_run image inputs cap)
    (λ run last is. c.runs_end_finished.ensures image least cap inputs run last shaped sure counted enough is)
    c.schedule_files_have_one_reading.ensures choice
