use Rattle.std.proofs.Common.{ap, bytes_eq, position, rules, tests, ◌∙◌}
use Rattle.std.proofs.lemmas.Iterator.{YieldsList-from_slice}
use Rattle.std.proofs.lemmas.Iterator.Search.{position_from_yields_List}
use Rattle.cell_types.proofs.scope.Scope.depth_of.Goals as goal

pub returns : goal.returns
returns c =
    position_from_yields_List (λ other. bytes_eq other c.args.name.now) _ _ _ c.position.ensures.ran
    (YieldsList-from_slice _ c.iter.ensures.rest) (λ x b q k. search (rules, tests))
    ∙ ap (position (λ other. bytes_eq other c.args.name.now)) c.deref.ensures.value
