use Rattle.std.proofs.Common.{ap, inl, inr}
use Rattle.image_runs.specs.Views.{answer_of, choice_of}
use Rattle.systole_top.specs.bodies.Runs.{Gave}
use Rattle.systole_top.proofs.Ran.{enough}
use Rattle.systole_top.proofs.Replying.{only_of, said_so}
use Rattle.systole_top.proofs.run.run_reply.Goals as goal

pub returns : goal.returns
returns c =
    let image = c.args.built.now.image in
    let one = c.runs_have_one_answer.ensures image image.buffer c.args.words.now.capacity c.args.words.now.recorded c.args.inputs.cells
    (choice_of c.args.choice) c.requires.ready.shaped c.requires.ready.sure c.requires.counted
    (enough c.args.words.now.capacity image.buffer c.requires.asked.0) in
    let answer = c.in_ok-answer.answer in
    inr (
      answer_of answer,
      only_of _ (answer_of answer) one c.in_ok-answer.ensures,
      inl (rw c.verdict_of.ensures (rw c.side_of.ensures (ap Gave (said_so answer.verdict answer.text)))),
    )
