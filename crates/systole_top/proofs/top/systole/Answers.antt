use Rattle.std.proofs.Common.{map, string_bytes}
use Rattle.systole_top.proofs.Clauses.{compiles, answers, judges, checks, usage_cause, read_cause, write_cause, memory_cause, completes}
use Rattle.systole_top.proofs.Laws.{Laws}
use Rattle.systole_top.proofs.Shapes.{has_capacity}
use Rattle.systole_top.proofs.top.systole.Goals as goal

pub returns : goal.returns
returns g c =
    let told = c.tell.ensures.tells in
    let some = has_capacity (map string_bytes c.args.words.now) in
    let laws : Laws = record {
      judged = c.accepted_or_refused.ensures;
      imaged = c.some_image.ensures;
      shaped = c.images_do_as_they_say.ensures.shaped;
      faithful = c.images_do_as_they_say.ensures.faithful;
      needs = c.some_answer_of_needs.ensures;
      inputs = c.one_input.ensures.some;
      answers = c.runs_have_one_answer.ensures;
      made = c.schedules_make_runs.ensures.is_run;
      finished = c.schedules_make_runs.ensures.finished;
    } in
    record {
      compiles = compiles told laws some;
      tells = told;
      answer = answers told;
      judges = judges told;
      checks = checks told laws;
      usage = usage_cause told;
      read = read_cause told;
      write = write_cause told;
      memory = memory_cause told;
      out_wants = c.tell.ensures.out_wants;
      err_wants = c.tell.ensures.err_wants;
      complete = completes told laws some;
    }
