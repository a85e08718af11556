use Rattle.systole_top.proofs.Clauses.{tells_usage, tells_command}
use Rattle.systole_top.proofs.top.tell.Goals as goal

pub returns-in-None-clause-tells : goal.returns-in-None-clause-tells
returns-in-None-clause-tells g c = tells_usage _ _ _ _ c.in-None.ensures.shape c.say_usage.ensures.tells

pub returns-in-Some-clause-tells : goal.returns-in-Some-clause-tells
returns-in-Some-clause-tells g c = tells_command _ _ c.in-Some.ensures.shape c.answer_command-answer.ensures c.say.ensures.tells
