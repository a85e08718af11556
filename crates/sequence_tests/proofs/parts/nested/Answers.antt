use Rattle.std.proofs.Common.{◌≡◌, ◌∙◌, length, ap, sym, subst}
use Rattle.std.proofs.lemmas.Result.{IfOk-weaker}
use Rattle.std.specs.Global.{Vec}
use Rattle.std.specs.List.{All}
use Rattle.sys_base.specs.Communications.{copies}
use Rattle.comm_sequence.specs.Parts.{communication}
use Rattle.comm_sequence.specs.declared.part.Part.{Part}
use Rattle.sequence_tests.proofs.Loops.{copies_alone, length_alone}
use Rattle.sequence_tests.proofs.parts.nested.Goals as goal

pub returns-clause-list : goal.returns-clause-list
returns-clause-list c =
    let inner =
    c.in_ok-body.ensures.list ∙ c.repeat.ensures.list ∙ ap (copies c.args.inner) c.in_ok-one.ensures.list in
    let outer = c.repeat-2.ensures.list ∙ ap (copies c.args.outer) inner in
    IfOk-weaker c.single-3.result _ _
    (λ (parts : Vec Part) list. subst (All (λ x. x ≡ communication c.args.operation)) (sym (list ∙ outer))
    (copies_alone (communication c.args.operation) c.args.outer c.args.inner))
    c.single-3.ensures.list

pub returns-clause-long : goal.returns-clause-long
returns-clause-long c =
    let inner =
    c.in_ok-body.ensures.list ∙ c.repeat.ensures.list ∙ ap (copies c.args.inner) c.in_ok-one.ensures.list in
    let outer = c.repeat-2.ensures.list ∙ ap (copies c.args.outer) inner in
    IfOk-weaker c.single-3.result _ _
    (λ (parts : Vec Part) list.
    ap length (list ∙ outer) ∙ length_alone (communication c.args.operation) c.args.outer c.args.inner)
    c.single-3.ensures.list
