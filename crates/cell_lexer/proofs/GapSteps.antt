-- One more byte of a gap at a place of a text, and a whole comment.
use Rattle.std.proofs.Common.{ℕ, ◌≡◌, ◌+◌, ◌<◌, ◌≤◌, true, List, [], ◌∷◌, length, get_or, drop, zero, suc, sym, ap, ◌∙◌, subst, arith}
use Rattle.std.proofs.lemmas.List.{drop_more}
use Rattle.sys_base.specs.Bytes.{is_space}
use Rattle.cell_lexer.specs.Gaps.{Comment, at_end, at_line, inside, Gap, none, space, comment}

module _ (text : List ℕ) (at next : ℕ) (lt : at < length text) (e : next ≡ at + 1) where
  -- the bytes at a place are one byte and those at the next place
  pub split : drop at text ≡ get_or text at 0 ∷ drop next text
  split = drop_more text at 0 lt ∙ ap (λ n. get_or text at 0 ∷ drop n text) (sym e)

  pub one_space : is_space (get_or text at 0) ≡ true → Gap (drop at text) (drop next text)
  one_space s = subst (λ bs. Gap bs (drop next text)) (sym split) (space s none)

  pub one_comment : (rest : List ℕ) → get_or text at 0 ≡ 35 → Comment (drop next text) rest → Gap (drop at text) rest
  one_comment rest hash c = subst (λ bs. Gap bs rest) (sym split) (comment hash c none)

-- a comment ends where the first newline stands, or at the end
pub comment_run : (bytes : List ℕ) (n : ℕ) → n ≤ length bytes → ((k : ℕ) → k < n → get_or bytes k 0 ≡ 10 → ⊥)
    → (n < length bytes → get_or bytes n 0 ≡ 10) → Comment bytes (drop n bytes)
comment_run [] zero le each stop = at_end
comment_run [] (suc n) le each stop = absurd (omega arith)
comment_run (b ∷ bytes) zero le each stop = at_line (stop (omega arith))
comment_run (b ∷ bytes) (suc n) le each stop =
    inside (each 0 (omega arith))
    (comment_run bytes n (omega arith) (λ k lt. each (suc k) (omega arith)) (λ lt. stop (omega arith)))
