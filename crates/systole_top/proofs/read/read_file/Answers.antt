use Rattle.std.proofs.Common.{arith}
use Rattle.systole_top.proofs.Reading.{step_whole}
use Rattle.systole_top.proofs.read.read_file.Goals as goal

pub returns-in-Ok-Whole : goal.returns-in-Ok-Whole
returns-in-Ok-Whole g c =
    let fetched = rw c.in-Ok-Whole.field-0-is at c.in-Ok-Whole.ensures.bytes in
    record {
      read = step_whole c.args.limit c.fetch.new.into.items c.in-Ok-Whole.ensures.held c.in-Ok-Whole.ensures.later fetched.0 fetched.1;
      short = omega (arith, fetched.0, c.fetch.new.into.ok);
    }
