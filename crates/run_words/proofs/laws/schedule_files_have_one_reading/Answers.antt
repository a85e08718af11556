use Rattle.run_words.proofs.Files.{one_schedule}
use Rattle.run_words.proofs.laws.schedule_files_have_one_reading.Goals as goal

pub returns : goal.returns
returns c =
    let read = c.one_reading.ensures in
    one_schedule read.some read.entries read.line read.apart
