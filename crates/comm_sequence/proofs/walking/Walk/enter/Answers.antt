use Rattle.std.proofs.Common.{◌<◌, length, rules}
use Rattle.comm_sequence.proofs.Walks.{entered_left, entered_walk}
use Rattle.comm_sequence.proofs.walking.Walk.enter.Goals as goal

pub returns-clause-walk : goal.returns-clause-walk
returns-clause-walk c =
    let lt : c.args.self.now.depth < length c.args.self.now.outer = search rules in
    entered_walk c.args.self.now c.args.parts c.args.turns c.requires.walk c.requires.some c.requires.full c.requires.room lt

pub returns-clause-left : goal.returns-clause-left
returns-clause-left c =
    let lt : c.args.self.now.depth < length c.args.self.now.outer = search rules in
    entered_left c.args.self.now c.args.parts c.args.turns c.requires.turns lt
