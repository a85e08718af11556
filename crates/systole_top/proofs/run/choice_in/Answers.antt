use Rattle.systole_top.proofs.Replying.{short_file}
use Rattle.systole_top.proofs.run.choice_in.Goals as goal

pub returns-in_ok-read_file-in-InFile-clause-short : goal.returns-in_ok-read_file-in-InFile-clause-short
returns-in_ok-read_file-in-InFile-clause-short g c = short_file c.in_ok-read_file-in-InFile.field-0 c.in_ok-read_file-in-InFile.ensures.short
