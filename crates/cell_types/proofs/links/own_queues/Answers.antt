use Rattle.std.proofs.Common.{take, get_or, sym, subst}
use Rattle.std.proofs.lemmas.List.{get_or_default, take_more}
use Rattle.std.proofs.lemmas.Result.{err_from_is_err_and}
use Rattle.sys_base.specs.declared.kinds.Dir.TheVariants as D
use Rattle.cell_tree.specs.declared.source.LinkDecl.{LinkDecl}
use Rattle.cell_types.specs.bodies.Declarations.{HasOwnQueues}
use Rattle.cell_types.specs.Faults.{link_faults}
use Rattle.cell_types.proofs.Behind.{behind_more, behind_stop}
use Rattle.cell_types.proofs.links.own_queues.Goals as goal

-- the link that is read past the end
abbrev no_link : LinkDecl
no_link = record { place = record { row = 0; col = 0 }; dir = D.N; queues = 0; line = 0 }

pub returns-in_err-declare_link : goal.returns-in_err-declare_link
returns-in_err-declare_link c =
    let links = c.args.links.now in
    let i = c.loop-link.link-index in
    let link : LinkDecl = get_or links i no_link in
    let p = err_from_is_err_and c.from_residual-in_err-declare_link.result c.from_residual-in_err-declare_link.ensures.1 in
    rw (p.1, p.2) (behind_stop (link_faults c.args.grid.now) links i link c.loop-link-test.true
    (get_or_default links i no_link link c.loop-link-test.true) c.loop-link.invariant.none c.in_err-declare_link.field-0.0
    (c.in_err-declare_link.ensures (take i links) c.loop-link.invariant.own))

pub loop-link-preserved : goal.loop-link-preserved
loop-link-preserved c =
    let links = c.args.links.now in
    let i = c.loop-link.link-index in
    let link : LinkDecl = get_or links i no_link in
    let done = c.in_ok-declare_link.ensures (take i links) c.loop-link.invariant.own in
    record {
      none = behind_more (link_faults c.args.grid.now) links i link c.loop-link-test.true
          (get_or_default links i no_link link c.loop-link-test.true) c.loop-link.invariant.none done.0;
      own = subst (λ ls. HasOwnQueues c.args.grid.now ls c.declare_link.new.own.items) (sym (take_more links i no_link c.loop-link-test.true)) done.1;
    }
