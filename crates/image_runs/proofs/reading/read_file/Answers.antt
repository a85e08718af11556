use Rattle.std.proofs.Common.{◌<◌, ◌^◌, sym, subst, arith, List, ℕ, Option, Vec, vec_len}
use Rattle.std.specs.Global.{Global}
use Rattle.schedules.specs.Entries.{IsFirstBadLine}
use Rattle.run_words.specs.Answers.{Breaks, ReadsSchedule}
use Rattle.image_runs.specs.Made.{IsShortFile, file_of}
use Rattle.image_runs.proofs.Files.{few_entries}
use Rattle.image_runs.proofs.reading.read_file.Goals as goal

pub returns-in-Ok-clause-few : goal.returns-in-Ok-clause-few
returns-in-Ok-clause-few c =
    let short : vec_len c.in-Some.bytes < 2 ^ 32 = subst (λ (f : Option (Vec ℕ Global)). IsShortFile f) c.in-Some.is c.requires in
    let few = few_entries c.deref.result.now c.in-Ok.entries.items c.in-Ok.ensures.entries in
    omega (arith, short, few, c.deref.ensures.len, c.in-Ok.entries.ok)

pub returns-in-Err-BadLine-clause-reads : goal.returns-in-Err-BadLine-clause-reads
returns-in-Err-BadLine-clause-reads c =
    let line = c.in_ok-malformed_line-in-Err-BadLine.field-0.items in
    subst (λ (f : Option (Vec ℕ Global)). ReadsSchedule (file_of f) (Breaks line)) (sym c.in-Some.is) (
      c.in-Err-BadLine.line,
      subst (λ (bytes : List ℕ). IsFirstBadLine bytes c.in-Err-BadLine.line) c.deref.ensures.value
          (rw c.in-Err-BadLine.field-0-is at c.in-Err-BadLine.ensures.refused),
      c.in_ok-malformed_line-in-Err-BadLine.ensures,
    )
