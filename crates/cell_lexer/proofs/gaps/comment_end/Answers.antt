use Rattle.std.proofs.Common.{drop, subst, sym, ap, ◌∙◌, take_all, length-drop, arith}
use Rattle.std.proofs.lemmas.List.{drop-drop}
use Rattle.cell_lexer.specs.Gaps.{Comment}
use Rattle.cell_lexer.proofs.GapSteps.{comment_run}
use Rattle.cell_lexer.proofs.gaps.comment_end.Goals as goal

pub returns-clause-comment : goal.returns-clause-comment
returns-clause-comment c =
    let text = c.args.text.now in
    let at = c.args.start.at in
    let len = c.line_len-len in
    let rest = take_all _ (drop at text) (omega (arith, length-drop at text)) in
    subst (Comment (drop at text)) (drop-drop len.result at text ∙ ap (λ n. drop n text) (sym c.along.ensures.next))
    (subst (λ bytes. Comment bytes (drop len.result bytes)) rest
    (comment_run _ len.result len.ensures.inside len.ensures.each len.ensures.stop))
