use Rattle.std.proofs.Common.{rules}
use Rattle.std.proofs.lemmas.List.{append_assoc}
use Rattle.refusals.specs.Texts.{text_of}
use Rattle.refusals.proofs.line.RefusalDisplay.fmt.Goals as goal

pub returns-in-Unexpected-clause-writes : goal.returns-in-Unexpected-clause-writes
unfolding text_of
returns-in-Unexpected-clause-writes g c = rw c.in-Unexpected.is (search (rules, append_assoc, c.write-in-Unexpected.ensures.writes))

pub returns-in-Unknown-clause-writes : goal.returns-in-Unknown-clause-writes
unfolding text_of
returns-in-Unknown-clause-writes g c = rw c.in-Unknown.is (search (rules, append_assoc, c.write-in-Unknown.ensures.writes))

pub returns-in-RouteLeaves-clause-writes : goal.returns-in-RouteLeaves-clause-writes
unfolding text_of
returns-in-RouteLeaves-clause-writes g c = rw c.in-RouteLeaves.is (search (rules, append_assoc, c.write-in-RouteLeaves.ensures.writes))

pub returns-in-RouteEnd-clause-writes : goal.returns-in-RouteEnd-clause-writes
unfolding text_of
returns-in-RouteEnd-clause-writes g c = rw c.in-RouteEnd.is (search (rules, append_assoc, c.write-in-RouteEnd.ensures.writes))

pub returns-in-RouteTwice-clause-writes : goal.returns-in-RouteTwice-clause-writes
unfolding text_of
returns-in-RouteTwice-clause-writes g c = rw c.in-RouteTwice.is (search (rules, append_assoc, c.write-in-RouteTwice.ensures.writes))

pub returns-in-Fall-clause-writes : goal.returns-in-Fall-clause-writes
unfolding text_of
returns-in-Fall-clause-writes g c = rw c.in-Fall.is (search (rules, append_assoc, c.write-in-Fall.ensures.writes))

pub returns-in-TooFew-clause-writes : goal.returns-in-TooFew-clause-writes
unfolding text_of
returns-in-TooFew-clause-writes g c = rw c.in-TooFew.is (search (rules, append_assoc, c.write-in-TooFew.ensures.writes))
