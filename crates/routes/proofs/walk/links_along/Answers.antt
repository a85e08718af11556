use Rattle.std.proofs.Common.{get_or, sym, subst, inl}
use Rattle.std.proofs.lemmas.List.{take_more}
use Rattle.std.proofs.lemmas.Result.{err_from_is_err_and}
use Rattle.sys_base.specs.declared.kinds.Dir.TheVariants.{N}
use Rattle.routes.specs.bodies.Walking.{HasWalked}
use Rattle.routes.proofs.Going.{walked_on, stop_in_list, wrong_end}
use Rattle.routes.proofs.walk.links_along.Goals as goal

pub loop-dir-preserved : goal.loop-dir-preserved
loop-dir-preserved c =
    let ds = c.args.directions.now in
    subst (λ taken. HasWalked c.args.grid.now c.args.from taken c.step.new.self) (sym (take_more ds c.loop-dir.dir-index N c.loop-dir-test.true))
    (walked_on c.args.grid.now c.args.from _ (get_or ds c.loop-dir.dir-index N) c.loop-dir.walk c.step.new.self c.loop-dir.invariant c.in_ok-step.ensures.stepped)

pub returns-in_err-step-clause-fault : goal.returns-in_err-step-clause-fault
returns-in_err-step-clause-fault c =
    let p = err_from_is_err_and c.from_residual-in_err-step.result c.from_residual-in_err-step.ensures.1 in
    rw (p.1, p.2) (stop_in_list c.args.grid.now c.args.from c.args.to c.args.directions.now c.loop-dir.dir-index _ c.loop-dir.walk _ c.loop-dir-test.true c.loop-dir.invariant c.in_err-step.ensures.stop)

pub returns-then-walk-to-clause-fault : goal.returns-then-walk-to-clause-fault
returns-then-walk-to-clause-fault c =
    inl (wrong_end c.args.grid.now c.args.from c.args.to c.args.directions.now c.loop-dir.dir-index c.loop-dir.walk c.loop-dir-test.false c.loop-dir.invariant c.if-walk-to.true)
