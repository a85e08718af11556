-- Lines and columns over bytes without a newline.
use Rattle.std.proofs.Common.{ℕ, ◌≡◌, ◌+◌, ◌<◌, ◌≤◌, ◌==◌, false, List, [], ◌∷◌, length, get_or, take, drop, reverse, zero, suc, sym, ap, ◌∙◌, arith, get_or-drop, length-drop, get_or-take, length-take-le}
use Rattle.std.proofs.lemmas.Bool.{ne_eqb, cond-false}
use Rattle.std.proofs.lemmas.List.{take_more, reverse-append}
use Rattle.std.proofs.lemmas.List.Sums.{count_by_more_no}
use Rattle.cell_lexer.specs.Forms.{Longest}
use Rattle.cell_lexer.specs.Places.{line_at, before_newline, column_at}
use Rattle.cell_lexer.proofs.LongestForm.{form_no_newline}
use Rattle.cell_lexer.proofs.OneForm.{form_some}

-- two places are on one line, this many bytes apart
pub record SameLine (text : List ℕ) (at next n : ℕ) : Type 0 where
  pub line : line_at text next ≡ line_at text at
  pub column : column_at text next ≡ column_at text at + n

one_byte : (text : List ℕ) (at : ℕ) → at < length text → (get_or text at 0 ≡ 10 → ⊥) → SameLine text at (at + 1) 1
one_byte text at lt ne =
    let no : (get_or text at 0 == 10) ≡ false = ne_eqb _ _ ne in
    let turned : reverse (take (at + 1) text) ≡ get_or text at 0 ∷ reverse (take at text) = ap reverse (take_more text at 0 lt) ∙ reverse-append (take at text) (get_or text at 0 ∷ []) in
    record {
      line = ap (λ n. 1 + n) (count_by_more_no (λ b. b == 10) text at 0 lt no);
      column = ap (λ bs. 1 + before_newline bs) turned ∙ ap (λ n. 1 + n) (cond-false _ 0 (1 + before_newline (reverse (take at text))) no) ∙ omega arith;
    }

pub same_line : (text : List ℕ) (at n : ℕ) → at + n ≤ length text → ((i : ℕ) → i < n → get_or text (at + i) 0 ≡ 10 → ⊥) → SameLine text at (at + n) n
same_line text at zero le none =
    let e : at ≡ at + 0 = omega arith in
    record { line = ap (line_at text) (sym e); column = ap (column_at text) (sym e) ∙ omega arith }
same_line text at (suc n) le none =
    let rest = same_line text at n (omega arith) (λ i lt. none i (omega arith)) in
    let more = one_byte text (at + n) (omega arith) (none n (omega arith)) in
    let e : at + suc n ≡ at + n + 1 = omega arith in
    record {
      line = ap (line_at text) e ∙ more.line ∙ rest.line;
      column = ap (column_at text) e ∙ more.column ∙ omega (arith, rest.column);
    }

-- a token ends inside the text
pub token_within : (text : List ℕ) (at n : ℕ) → Longest (drop at text) n → at + n ≤ length text
token_within text at n l =
    let some = form_some _ l.form in
    omega (arith, some, length-take-le n (drop at text) l.inside, l.inside, length-drop at text)

-- no byte of a token is a newline
pub token_no_newline : (text : List ℕ) (at n : ℕ) → Longest (drop at text) n → (i : ℕ) → i < n → get_or text (at + i) 0 ≡ 10 → ⊥
token_no_newline text at n l i lt e =
    let len = length-take-le n (drop at text) l.inside in
    form_no_newline _ l.form i (omega arith) (get_or-take n (drop at text) i 0 lt ∙ get_or-drop at text i 0 ∙ e)

-- so a token is on one line
pub token_line : (text : List ℕ) (at n : ℕ) → Longest (drop at text) n → SameLine text at (at + n) n
token_line text at n l = same_line text at n (token_within text at n l) (token_no_newline text at n l)
