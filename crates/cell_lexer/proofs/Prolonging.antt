-- A word that nothing after it makes longer is the longest token at its place.
use Rattle.std.proofs.Common.{ℕ, ◌≡◌, ◌+◌, ◌<◌, ◌==◌, ◌||◌, ◌++◌, Bool, true, false, List, [], ◌∷◌, length, get_or, take, sym, refl, ap, ◌∙◌, subst, arith, add-zero, length-append, length-take-le, get_or-take}
use Rattle.std.proofs.lemmas.Bool.{both_ways, false≢true}
use Rattle.std.proofs.lemmas.List.{take_at, get_or-append-add, get_or_append_left}
use Rattle.sys_base.specs.Bytes.{is_word_byte}
use Rattle.sys_base.specs.Name.{IsWord}
use Rattle.cell_lexer.specs.declared.token.Mark.{Mark}
use Rattle.cell_lexer.specs.declared.token.Mark.TheVariants as M
use Rattle.cell_lexer.specs.declared.token.Sort.{Sort}
use Rattle.cell_lexer.specs.declared.token.Sort.TheVariants as S
use Rattle.cell_lexer.specs.Forms.{mark_text, IsDigits, Longest, Says}
use Rattle.cell_lexer.specs.Pieces.{prolongs_mark, prolongs, Separate}
use Rattle.cell_lexer.proofs.LongestForm.{NoLongerMark, longest_word, longest_digits, longest_mark}
use Rattle.cell_lexer.proofs.Spellings.{mark_some, mark_short, key_word}

-- a byte that begins a mark of two bytes
abbrev begins_pair : ℕ → Bool
begins_pair b = b == 61 || (b == 33 || b == 60)

pair_bytes : (m : Mark) → length (mark_text m) ≡ 2 → (get_or (mark_text m) 1 0 ≡ 61) × (begins_pair (get_or (mark_text m) 0 0) ≡ true)
pair_bytes M.OpenBrace e = absurd (omega arith)
pair_bytes M.CloseBrace e = absurd (omega arith)
pair_bytes M.OpenBracket e = absurd (omega arith)
pair_bytes M.CloseBracket e = absurd (omega arith)
pair_bytes M.OpenParen e = absurd (omega arith)
pair_bytes M.CloseParen e = absurd (omega arith)
pair_bytes M.Semicolon e = absurd (omega arith)
pair_bytes M.Dot e = absurd (omega arith)
pair_bytes M.Assign e = absurd (omega arith)
pair_bytes M.Same e = (refl, refl)
pair_bytes M.Differ e = (refl, refl)
pair_bytes M.Less e = absurd (omega arith)
pair_bytes M.AtMost e = (refl, refl)
pair_bytes M.Plus e = absurd (omega arith)
pair_bytes M.Minus e = absurd (omega arith)
pair_bytes M.Star e = absurd (omega arith)
pair_bytes M.Slash e = absurd (omega arith)
pair_bytes M.Percent e = absurd (omega arith)

single_prolonged : (m : Mark) → length (mark_text m) ≡ 1 → begins_pair (get_or (mark_text m) 0 0) ≡ true → prolongs_mark m 61 ≡ true
single_prolonged M.OpenBrace e b = absurd (false≢true b)
single_prolonged M.CloseBrace e b = absurd (false≢true b)
single_prolonged M.OpenBracket e b = absurd (false≢true b)
single_prolonged M.CloseBracket e b = absurd (false≢true b)
single_prolonged M.OpenParen e b = absurd (false≢true b)
single_prolonged M.CloseParen e b = absurd (false≢true b)
single_prolonged M.Semicolon e b = absurd (false≢true b)
single_prolonged M.Dot e b = absurd (false≢true b)
single_prolonged M.Assign e b = refl
single_prolonged M.Same e b = absurd (omega arith)
single_prolonged M.Differ e b = absurd (omega arith)
single_prolonged M.Less e b = refl
single_prolonged M.AtMost e b = absurd (omega arith)
single_prolonged M.Plus e b = absurd (false≢true b)
single_prolonged M.Minus e b = absurd (false≢true b)
single_prolonged M.Star e b = absurd (false≢true b)
single_prolonged M.Slash e b = absurd (false≢true b)
single_prolonged M.Percent e b = absurd (false≢true b)

-- the byte after a word
next_byte : (word us : List ℕ) → get_or (word ++ us) (length word) 0 ≡ get_or us 0 0
next_byte word us = ap (λ n. get_or (word ++ us) n 0) (sym (add-zero (length word))) ∙ get_or-append-add word us 0 0

no_prolonging : (sort : Sort) (us : List ℕ) → Separate sort us → 0 < length us → prolongs sort (get_or us 0 0) ≡ false
no_prolonging sort [] h lt = absurd (omega arith)
no_prolonging sort (b ∷ us) h lt = h

module _ (word us : List ℕ) where
  front : take (length word) (word ++ us) ≡ word
  front = take_at word us (length word) refl

  whole : length (word ++ us) ≡ length word + length us
  whole = length-append word us

  stops : (sort : Sort) → Separate sort us → length word < length (word ++ us) → prolongs sort (get_or (word ++ us) (length word) 0) ≡ false
  stops sort h lt = ap (prolongs sort) (next_byte word us) ∙ no_prolonging sort us h (omega (arith, whole))

  word_longest : (sort : Sort) → IsWord word → (length word < length (word ++ us) → is_word_byte (get_or (word ++ us) (length word) 0) ≡ false) → Longest (word ++ us) (length word)
  word_longest sort w stop = longest_word (word ++ us) (length word) (omega (arith, whole)) (subst IsWord (sym front) w) stop

  no_longer_mark : (m : Mark) → word ≡ mark_text m → Separate (S.Mark m) us → NoLongerMark (word ++ us) (length word)
  no_longer_mark m e h k p lt le e' =
      let len : length (mark_text p) ≡ k = sym (ap length e') ∙ length-take-le k (word ++ us) le in
      let two : length (mark_text p) ≡ 2 = omega (arith, len, mark_short p, mark_some m, ap length e) in
      let one : length (mark_text m) ≡ 1 = omega (arith, len, mark_short p, mark_some m, ap length e) in
      let one' : length word ≡ 1 = ap length e ∙ one in
      let pair = pair_bytes p two in
      let first : get_or (mark_text p) 0 0 ≡ get_or (mark_text m) 0 0 =
      ap (λ bs. get_or bs 0 0) (sym e') ∙ get_or-take k (word ++ us) 0 0 (omega arith) ∙ get_or_append_left word us 0 0 (omega arith) ∙ ap (λ bs. get_or bs 0 0) e in
      let second : get_or (word ++ us) (length word) 0 ≡ 61 =
      ap (λ n. get_or (word ++ us) n 0) one' ∙ sym (get_or-take k (word ++ us) 1 0 (omega arith)) ∙ ap (λ bs. get_or bs 1 0) e' ∙ pair.0 in
      both_ways _ (stops (S.Mark m) h (omega (arith, whole))) (ap (prolongs_mark m) second ∙ single_prolonged m one (ap begins_pair (sym first) ∙ pair.1))

  pub longest_piece : (sort : Sort) → Says word sort → Separate sort us → Longest (word ++ us) (length word)
  longest_piece S.Name says h = word_longest S.Name says.word (stops S.Name h)
  longest_piece (S.Number n) says h = longest_digits (word ++ us) (length word) (omega (arith, whole)) (subst IsDigits (sym front) says.0) (stops (S.Number n) h)
  longest_piece (S.Key key) says h = word_longest (S.Key key) (subst IsWord (sym says) (key_word key)) (stops (S.Key key) h)
  longest_piece (S.Mark m) says h = longest_mark (word ++ us) (length word) m (omega (arith, whole)) (front ∙ says) (no_longer_mark m says h)
