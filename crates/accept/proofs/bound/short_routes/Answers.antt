use Rattle.cell_types.specs.Typed.{plain}
use Rattle.accept.proofs.Words.{short_routes}
use Rattle.accept.proofs.bound.short_routes.Goals as goal

pub returns : goal.returns
returns c = short_routes (plain c.args.program.now) c.messages.ensures.sound
