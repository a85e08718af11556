use Rattle.std.proofs.Common.{◌≡◌, ◌+◌, suc, ◌<◌, true, ap, sym, ◌∙◌, arith}
use Rattle.cell_code.specs.Marks.{has_word, hops}
use Rattle.link_queues.specs.Keeping.{has_free_place}
use Rattle.link_queues.specs.Tables.{queues}
use Rattle.link_queues.proofs.Tests.{moves_on}
use Rattle.link_queues.proofs.fabric.Fabric.can_forward.Goals as goal

pub returns-then-has_word-clause-can : goal.returns-then-has_word-clause-can
returns-then-has_word-clause-can c =
    let next : suc c.args.hop < hops c.args.self.now.image c.args.message =
    omega (arith, c.requires.1, c.if-hop-hops.false, c.hops.ensures.hops, c.from-hop.ensures)
    in
    let word : has_word (queues c.args.self.now).marks c.args.message c.args.hop ≡ true =
    ap (has_word (queues c.args.self.now).marks c.args.message) (sym c.from-hop.ensures) ∙ sym c.has_word.ensures ∙ c.if-has_word.true
    in
    c.has_room.ensures
    ∙ ap (λ n. has_free_place (queues c.args.self.now) c.args.message (n + 1)) c.from-hop.ensures
    ∙ ap (λ n. has_free_place (queues c.args.self.now) c.args.message n) (omega arith)
    ∙ moves_on (queues c.args.self.now) c.hops.ensures.kept c.args.message c.args.hop c.requires next word
