use Rattle.std.proofs.Common.{◌≡◌, ◌+◌, drop, is_ok, ap, sym, subst, ◌∙◌}
use Rattle.std.proofs.ResultArms.{chosen}
use Rattle.cell_lexer.specs.Gaps.{Gap}
use Rattle.cell_lexer.specs.Tokens.{Stand}
use Rattle.cell_lexer.proofs.Standing.{stand_more}
use Rattle.cell_lexer.proofs.scan.scan.Goals as goal

pub each-preserved : goal.each-preserved
each-preserved c =
    let text = c.args.text.now in
    let t = c.in_ok-token.token in
    let at : t.at ≡ c.each.place.at = c.in_ok-token.ensures.at in
    let end = c.gap_end-place-in-each in
    let past : c.past.result.at ≡ t.at + t.len = c.past.ensures.next ∙ ap (λ n. n + t.len) (sym at) in
    let pushed = chosen _ _ _ _ c.push.ensures.items (ap is_ok c.in_ok-push.was) in
    let before : Stand text 0 c.each.all.items t.at = subst (λ n. Stand text 0 c.each.all.items n) (sym at) c.each.invariant.stand in
    let gap : Gap (drop (t.at + t.len) text) (drop end.result.at text) = subst (λ n. Gap (drop n text) (drop end.result.at text)) past end.ensures.gap in
    record {
      here = end.ensures.place;
      stand = subst (λ ts. Stand text 0 ts end.result.at) (sym pushed) (stand_more text 0 end.result.at c.each.all.items t before c.in_ok-token.ensures.token gap);
      solid = end.ensures.solid;
    }
