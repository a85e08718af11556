use Rattle.std.proofs.Common.{[]}
use Rattle.systole_top.specs.Commands.{refused_reply}
use Rattle.systole_top.specs.Texts.{refusal_line}
use Rattle.systole_top.specs.Tree.{Gives}
use Rattle.systole_top.proofs.Trees.{step_alone}
use Rattle.systole_top.proofs.run.run_judged.Goals as goal

pub returns-in-Refused : goal.returns-in-Refused
returns-in-Refused g c = rw c.in-Refused.is (step_alone (Gives (refused_reply [] (refusal_line c.in-Refused.refusal))) c.refused_reply.ensures)
