use Rattle.std.proofs.Common.{arith}
use Rattle.cell_types.specs.Typed.{plain}
use Rattle.accept.proofs.Words.{few_forwards}
use Rattle.accept.proofs.bound.bound_of.Goals as goal

pub overflow_add-bound : goal.overflow_add-bound
overflow_add-bound c =
    let h = few_forwards (plain c.args.program.now) c.args.steps c.short_routes.ensures c.requires.steps c.requires.few in
    omega (arith, h, c.from.ensures, c.forwards.ensures)

pub overflow_add-bound-2 : goal.overflow_add-bound-2
overflow_add-bound-2 c =
    let h = few_forwards (plain c.args.program.now) c.args.steps c.short_routes.ensures c.requires.steps c.requires.few in
    omega (arith, h, c.from.ensures, c.forwards.ensures, c.from-2.ensures, c.count.ensures.most)

pub overflow_cast-result : goal.overflow_cast-result
overflow_cast-result c =
    let h = few_forwards (plain c.args.program.now) c.args.steps c.short_routes.ensures c.requires.steps c.requires.few in
    omega (arith, h, c.from.ensures, c.forwards.ensures, c.from-2.ensures, c.count.ensures.most)
