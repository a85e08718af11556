use Rattle.std.proofs.Common.{◌≤◌, All, map, ap, sym, subst, ◌∙◌}
use Rattle.std.proofs.lemmas.List.Elements.{All-get_or}
use Rattle.std.specs.Global.{Vec}
use Rattle.comm_sequence.specs.Parts.{unrolled, loops}
use Rattle.comm_sequence.specs.bodies.Walking.{AreOperations, AreWalked}
use Rattle.comm_sequence.specs.declared.part.Part.{Part}
use Rattle.comm_sequence.proofs.Trees.{all_more, walked_of, lists_more}
use Rattle.comm_sequence.proofs.gathering.trees_of.Goals as goal

pub loop-parts-preserved : goal.loop-parts-preserved
loop-parts-preserved c =
    let cells = c.args.cells.now in
    let i = c.loop-parts.parts-index in
    let d = c.parts-item.result in
    let h = subst (λ ps. AreOperations ps c.from_vec.result) (c.as_slice.ensures.value ∙ ap (λ (p : Vec Part). p.items) c.parts-item.is)
    (subst (AreOperations c.as_slice.result.now) (sym c.from_vec.ensures) c.in_ok-operations_of.ensures) in
    let deep = All-get_or (λ (p : Vec Part). loops p.items ≤ 16) cells i d c.loop-parts-test.true c.requires in
    record {
      walked = subst (All AreWalked) (sym c.in_ok-push.ensures.ok) (all_more AreWalked c.loop-parts.trees c.from_vec.result c.loop-parts.invariant.walked (walked_of _ c.from_vec.result h deep));
      lists = ap (map unrolled) c.in_ok-push.ensures.ok ∙ lists_more cells i d c.loop-parts.trees c.from_vec.result c.loop-parts-test.true c.loop-parts.invariant.lists h;
    }
