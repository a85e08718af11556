use Rattle.std.proofs.Common.{◌≡◌, ℕ, ◌<◌, ◌≤◌, take}
use Rattle.cell_parser.specs.declared.error.ParseError.{ParseError}
use Rattle.cell_parser.specs.Limits.{in_piece, open_in, OverAt}
use Rattle.cell_parser.proofs.limits.keep_limits.Given as goal

-- the counts after the tokens so far, none of which breaks a limit
abbrev pub invariant-loop-token : goal.invariant-loop-token
invariant-loop-token l = record {
  piece : l.piece ≡ in_piece (take l.token-index l.tokens);
  braces : l.braces ≡ open_in (take l.token-index l.tokens);
  short : l.piece ≤ 256;
  few : l.braces ≤ 17;
  kept : (k : ℕ) (e : ParseError) → k < l.token-index → OverAt l.tokens k e → ⊥;
}
