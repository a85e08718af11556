use Rattle.std.proofs.Common.{refl, sym}
use Rattle.comm_sequence.specs.bodies.Unrolling.{communication_of}
use Rattle.comm_sequence.specs.bodies.Walking.{left}
use Rattle.comm_sequence.proofs.Cursors.{rest_alone, first_alone}
use Rattle.comm_sequence.proofs.cursor.Cursor.next.Goals as goal

pub invariant_of-self-2 : goal.invariant_of-self-2
invariant_of-self-2 c =
    record {
      walk = c.in_ok-next.ensures.walk;
      alone = rest_alone (communication_of c.in_ok-next.field-0) (left c.self.inside.walk) (left c.next.new.self) c.self.invariant.alone c.in_ok-next.ensures.left;
    }

pub returns : goal.returns
returns c =
    first_alone (communication_of c.in_ok-next.field-0) (left c.self.inside.walk) (left c.next.new.self) c.args.self.now _ c.comm.result
    c.self.invariant.alone c.in_ok-next.ensures.left c.comm.ensures (sym c.self.view_is) refl
