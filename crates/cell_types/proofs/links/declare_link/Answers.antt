use Rattle.std.proofs.Common.{◌≡◌, get_or, sym, ap, ◌∙◌, arith}
use Rattle.std.proofs.lemmas.List.{get_or_read}
use Rattle.std.proofs.lemmas.Result.{err_from_is_err_and}
use Rattle.cell_types.proofs.LinkSteps.{link_twice, link_count, link_none, link_noted}
use Rattle.cell_types.proofs.links.declare_link.Goals as goal

pub returns-then-index-ne0 : goal.returns-then-index-ne0
returns-then-index-ne0 c earlier so =
    let at = c.in-Some.ensures in
    let read = get_or_read c.args.own.now.items c.from-at.result c.index.result.now (omega (arith, at)) c.index.ensures 0 in
    link_twice c.args.grid.now earlier c.args.link.now c.in-Some.id c.args.own.now.items so at.0 at.1 at.2 at.3
    (λ none. c.if-index-ne0.true (read ∙ ap (λ k. get_or c.args.own.now.items k 0) c.from-at.ensures ∙ none))

pub returns-in_err-own : goal.returns-in_err-own
returns-in_err-own c earlier so =
    let at = c.in-Some.ensures in
    let read = get_or_read c.args.own.now.items c.from-at.result c.index.result.now (omega (arith, at)) c.index.ensures 0 in
    let none : get_or c.args.own.now.items c.in-Some.id 0 ≡ 0 = ap (λ k. get_or c.args.own.now.items k 0) (sym c.from-at.ensures) ∙ sym read ∙ c.if-index-ne0.false in
    let p = err_from_is_err_and c.from_residual.result c.from_residual.ensures.1 in
    rw (p.1, p.2) (link_count c.args.grid.now earlier c.args.link.now c.in-Some.id c.args.own.now.items so at.0 at.1 at.2 at.3 _ none c.in_err-own.ensures.count)

pub returns : goal.returns
returns c earlier so =
    let at = c.in-Some.ensures in
    let read = get_or_read c.args.own.now.items c.from-at.result c.index.result.now (omega (arith, at)) c.index.ensures 0 in
    let none : get_or c.args.own.now.items c.in-Some.id 0 ≡ 0 = ap (λ k. get_or c.args.own.now.items k 0) (sym c.from-at.ensures) ∙ sym read ∙ c.if-index-ne0.false in (
      link_none c.args.grid.now earlier c.args.link.now c.in-Some.id c.args.own.now.items so at.0 at.1 at.2 at.3 none c.in_ok-own.ensures.count.0,
      rw c.from-at.ensures (link_noted c.args.grid.now earlier c.args.link.now c.in-Some.id c.args.own.now.items so at.0 at.1 at.2 at.3
          c.in_ok-own.field-0 none c.in_ok-own.ensures.count.1 c.in_ok-own.ensures.some),
    )
