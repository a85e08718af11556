use Rattle.std.proofs.Common.{◌++◌, ◌∷◌, [], replicate, ap, ◌∙◌}
use Rattle.std.proofs.lemmas.List.{replicate_more}
use Rattle.sim_tests.proofs.images.no_inputs.Goals as goal

pub loop-cell-preserved : goal.loop-cell-preserved
loop-cell-preserved c =
    c.in_ok-push.ensures.ok ∙ ap (λ xs. xs ++ c.new.result ∷ []) c.loop-cell.invariant
    ∙ ap (λ x. replicate c.loop-cell._cell [] ++ x ∷ []) c.new.ensures ∙ replicate_more c.loop-cell._cell []
