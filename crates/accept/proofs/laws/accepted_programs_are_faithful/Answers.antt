use Rattle.accept.proofs.Accepted.{accepted_faithful}
use Rattle.accept.proofs.laws.accepted_programs_are_faithful.Goals as goal

pub returns : goal.returns
returns c =
    λ text source labels accepts is are.
    accepted_faithful c.laws_below.ensures c.existence_below.ensures c.nothing_left_is_an_order.ensures
    c.images_are_faithful.ensures text source accepts is labels are
