use Rattle.std.proofs.Common.{◌≡◌, List}
use Rattle.std.proofs.lemmas.Result.{IfOk-weaker}
use Rattle.sys_base.specs.declared.actor.Actor.{Actor}
use Rattle.array_model.specs.States.{ArrayState}
use Rattle.array_sim.specs.Simulations.{IsAfter, cap_in, inputs_in}
use Rattle.stream_io.specs.Results.{line_of, result_data}
use Rattle.run_words.specs.Results.{IsResultLine}
use Rattle.image_runs.proofs.reporting.result_line.Goals as goal

pub returns : goal.returns
returns c =
    IfOk-weaker c.result_text.result
    (λ text. text.items ≡ line_of (result_data c.args.image.now.grid c.in_ok-report.report))
    (λ text. (run : List Actor) (last : ArrayState) → IsAfter c.args.sim.now run last
    → IsResultLine c.args.image.now (inputs_in c.args.sim.now.array) (cap_in c.args.sim.now.array) run last text.items)
    (λ text is run last after. (c.in_ok-report.report, c.in_ok-report.ensures.tells run last after, is))
    c.result_text.ensures
