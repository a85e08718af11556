use Rattle.std.proofs.Common.{◌-◌, ap, sym, subst, ◌∙◌, arith}
use Rattle.cell_code.specs.Marks.{has_word}
use Rattle.link_queues.specs.Keeping.{IsHop}
use Rattle.link_queues.specs.Tables.{queues}
use Rattle.link_queues.proofs.Tests.{last_hop, reads}
use Rattle.link_queues.proofs.fabric.Fabric.can_pop.Goals as goal

pub overflow_sub-hops : goal.overflow_sub-hops
overflow_sub-hops c =
    omega (arith, (last_hop (queues c.args.self.now) c.hops-hops.ensures.kept c.args.message c.requires).0, c.hops-hops.ensures.hops)

pub has_word-requires : goal.has_word-requires
has_word-requires c =
    subst (λ n. IsHop c.args.self.now.image c.args.message (n - 1)) (sym c.hops-hops.ensures.hops)
    (last_hop (queues c.args.self.now) c.hops-hops.ensures.kept c.args.message c.requires).1.0

pub returns-clause-can : goal.returns-clause-can
returns-clause-can c =
    c.has_word.ensures ∙ ap (λ n. has_word (queues c.args.self.now).marks c.args.message (n - 1)) c.hops-hops.ensures.hops
    ∙ reads (queues c.args.self.now) c.hops-hops.ensures.kept c.args.message c.requires
