use Rattle.std.proofs.Common.{ℕ, ◌≡◌, ◌≤◌, List, get_or, take, Some, slice_get, sym, ap, subst, ◌∙◌, arith}
use Rattle.std.proofs.lemmas.Option.{slice_get-get_or}
use Rattle.cell_lexer.specs.declared.token.Sort.TheVariants as S
use Rattle.cell_lexer.specs.declared.token.Token.{Token}
use Rattle.cell_parser.specs.Limits.{piece_after, braces_after, in_piece, Over}
use Rattle.cell_parser.proofs.Overs.{piece_more, open_more, kept_more, all_kept}
use Rattle.cell_parser.proofs.limits.keep_limits.Goals as goal

pub loop-token-preserved : goal.loop-token-preserved
loop-token-preserved c =
    let ts : List Token = c.args.tokens.now in
    let i : ℕ = c.loop-token.token-index in
    let t : Token = get_or ts i (record { sort = S.Name; at = 0; len = 0; line = 0; column = 0 }) in
    let is : slice_get ts i ≡ Some t = slice_get-get_or ts i _ (omega arith) in
    let so_far = c.loop-token.invariant in
    let kept = c.in_ok-keep_limit.ensures in
    record {
      piece = c.piece_after-piece.ensures ∙ ap (piece_after t.sort) so_far.piece ∙ sym (piece_more ts i t is);
      braces = c.braces_after-braces.ensures ∙ ap (braces_after t.sort) so_far.braces ∙ sym (open_more ts i t is);
      short = subst (λ n. n ≤ 256) (sym c.piece_after-piece.ensures) kept.short;
      few = subst (λ n. n ≤ 17) (sym c.braces_after-braces.ensures) kept.few;
      kept = kept_more ts i t is so_far.kept (λ e over. kept.kept e (subst (λ n. Over n c.loop-token.braces t e) (sym so_far.piece) (subst (λ n. Over (in_piece (take i ts)) n t e) (sym so_far.braces) over)));
    }

pub returns-clause-kept : goal.returns-clause-kept
returns-clause-kept c = all_kept c.args.tokens.now c.loop-token.token-index (omega arith) c.loop-token.invariant.kept
