use Rattle.accept.proofs.NeedAnswers.{but_for_room}
use Rattle.accept.proofs.need_laws.needs_refuse_but_for_room.Goals as goal

pub returns : goal.returns
returns c = but_for_room
