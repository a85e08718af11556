-- A text of pieces has their words as its tokens.
use Rattle.std.proofs.Common.{ℕ, ◌≡◌, ◌+◌, ◌<◌, ◌≤◌, ◌==◌, ◌++◌, ◌^◌, true, false, if◌then◌else◌, List, [], ◌∷◌, length, get_or, take, drop, map, count_by, sym, refl, ap, ◌∙◌, subst, arith, rules, drop_of_length-le}
use Rattle.std.proofs.lemmas.Bool.{le-leb}
use Rattle.std.specs.Fmt.{decimal}
use Rattle.std.specs.Int.{IsInRange}
use Rattle.std.proofs.Math.Seq.{take-add}
use Rattle.std.proofs.lemmas.Bool.{and_from, false_from_ne_true}
use Rattle.std.proofs.lemmas.Bool.Decides.{nat_tests}
use Rattle.std.proofs.lemmas.Fmt.{digits_decimal, digits_value-decimal, decimal_nonempty}
use Rattle.std.proofs.lemmas.List.{take_at, drop_at, drop-drop}
use Rattle.std.proofs.lemmas.List.Sums.{sum_by-append}
use Rattle.std.proofs.lemmas.Str.Parse.{IsNumeralModel, numerals_by_fold, tells_by_index}
use Rattle.sys_base.specs.Bytes.{is_digit, is_word_byte, is_space}
use Rattle.cell_lexer.specs.declared.token.Mark.{Mark}
use Rattle.cell_lexer.specs.declared.token.Mark.TheVariants as M
use Rattle.cell_lexer.specs.declared.token.Sort.{Sort}
use Rattle.cell_lexer.specs.declared.token.Sort.TheVariants as S
use Rattle.cell_lexer.specs.declared.token.Token.{Token}
use Rattle.cell_lexer.specs.Forms.{value_after, greatest, Longest, Says}
use Rattle.cell_lexer.specs.Gaps.{Gap, none, space}
use Rattle.cell_lexer.specs.Places.{line_at}
use Rattle.cell_lexer.specs.Tokens.{IsToken, Stand, TokensOf}
use Rattle.cell_lexer.specs.Pieces.{Piece, text_of, prolongs_mark, prolongs, Blank, Legible, token_of, placed, words_of, words_in, lines_from}
use Rattle.cell_lexer.proofs.Prolonging.{longest_piece}
use Rattle.cell_lexer.proofs.TextLines.{token_line}

blank_gap : (gap us : List ℕ) → Blank gap → Gap (gap ++ us) us
blank_gap [] us h = none
blank_gap (b ∷ gap) us h = space h.0 (blank_gap gap us h.1)

blank_end : (bs : List ℕ) → Blank bs → Gap bs []
blank_end [] h = none
blank_end (b ∷ bs) h = space h.0 (blank_end bs h.1)

-- the rest of a text after its first bytes
rest_behind : (text front rest : List ℕ) (at : ℕ) → drop at text ≡ front ++ rest → drop (at + length front) text ≡ rest
rest_behind text front rest at e = sym (drop-drop (length front) at text) ∙ ap (drop (length front)) e ∙ drop_at front rest (length front) refl

-- the pieces stand at a place of a text
module _ (text last : List ℕ) where
  abbrev at_word : ℕ → Piece → ℕ
  at_word from p = from + length p.gap

  word_rest : (from : ℕ) (p : Piece) (ps : List Piece) → drop from text ≡ text_of (p ∷ ps) last → drop (at_word from p) text ≡ p.word ++ text_of ps last
  word_rest from p ps e = rest_behind text p.gap (p.word ++ text_of ps last) from e

  next_rest : (from : ℕ) (p : Piece) (ps : List Piece) → drop from text ≡ text_of (p ∷ ps) last → drop (at_word from p + length p.word) text ≡ text_of ps last
  next_rest from p ps e = rest_behind text p.word (text_of ps last) (at_word from p) (word_rest from p ps e)

  word_longest : (from : ℕ) (p : Piece) (ps : List Piece) → drop from text ≡ text_of (p ∷ ps) last → Legible (p ∷ ps) last → Longest (drop (at_word from p) text) (length p.word)
  word_longest from p ps e h = subst (λ bs. Longest bs (length p.word)) (sym (word_rest from p ps e)) (longest_piece p.word (text_of ps last) p.sort h.1 h.2)

  word_bytes : (from : ℕ) (p : Piece) (ps : List Piece) → drop from text ≡ text_of (p ∷ ps) last → take (length p.word) (drop (at_word from p) text) ≡ p.word
  word_bytes from p ps e = ap (take (length p.word)) (word_rest from p ps e) ∙ take_at p.word (text_of ps last) (length p.word) refl

  piece_token : (from : ℕ) (p : Piece) (ps : List Piece) → drop from text ≡ text_of (p ∷ ps) last → Legible (p ∷ ps) last → IsToken text (token_of text (at_word from p) p)
  piece_token from p ps e h = record {
    longest = word_longest from p ps e h;
    says = subst (λ bs. Says bs p.sort) (sym (word_bytes from p ps e)) h.1;
    line = refl;
    column = refl;
  }

  pieces_stand : (ps : List Piece) (from : ℕ) → drop from text ≡ text_of ps last → Legible ps last → Stand text from (placed text from ps) (length text)
  pieces_stand [] from e h =
      subst (λ bs. Gap bs (drop (length text) text)) (sym e) (subst (λ bs. Gap last bs) (sym (drop_of_length-le text (omega arith))) (blank_end last h))
  pieces_stand (p ∷ ps) from e h = (
    subst (λ bs. Gap bs (drop (at_word from p) text)) (sym e) (subst (λ bs. Gap (text_of (p ∷ ps) last) bs) (sym (word_rest from p ps e)) (blank_gap p.gap (p.word ++ text_of ps last) h.0)),
    piece_token from p ps e h,
    pieces_stand ps (at_word from p + length p.word) (next_rest from p ps e) h.3,
  )

  pieces_words : (ps : List Piece) (from : ℕ) → drop from text ≡ text_of ps last → words_of text (placed text from ps) ≡ words_in ps
  pieces_words [] from e = refl
  pieces_words (p ∷ ps) from e =
      let here = word_bytes from p ps e in
      let rest = pieces_words ps (at_word from p + length p.word) (next_rest from p ps e) in
      λ i. record { sort = p.sort; bytes = here i } ∷ rest i

  -- the newlines of a gap
  gap_line : (from : ℕ) (p : Piece) (ps : List Piece) → drop from text ≡ text_of (p ∷ ps) last → line_at text (at_word from p) ≡ line_at text from + count_by (λ b. b == 10) p.gap
  gap_line from p ps e =
      let bytes : take (length p.gap) (drop from text) ≡ p.gap = ap (take (length p.gap)) e ∙ take_at p.gap _ (length p.gap) refl in
      let front : take (at_word from p) text ≡ take from text ++ p.gap = take-add from (length p.gap) text ∙ ap (λ bs. take from text ++ bs) bytes in
      omega (arith, ap (count_by (λ b. b == 10)) front, sum_by-append (λ b. if◌then◌else◌ (b == 10) 1 0) (take from text) p.gap)

  pieces_lines : (ps : List Piece) (from line : ℕ) → drop from text ≡ text_of ps last → Legible ps last → line_at text from ≡ line → map (λ (t : Token). t.line) (placed text from ps) ≡ lines_from line ps
  pieces_lines [] from line e h l = refl
  pieces_lines (p ∷ ps) from line e h l =
      let here : line_at text (at_word from p) ≡ line + count_by (λ b. b == 10) p.gap = gap_line from p ps e ∙ ap (λ n. n + count_by (λ b. b == 10) p.gap) l in
      let next = (token_line text (at_word from p) (length p.word) (word_longest from p ps e h)).line in
      let rest = pieces_lines ps (at_word from p + length p.word) (line + count_by (λ b. b == 10) p.gap) (next_rest from p ps e) h.3 (next ∙ here) in
      λ i. here i ∷ rest i

pub read_tokens : (ps : List Piece) (last : List ℕ) → Legible ps last → TokensOf (text_of ps last) (placed (text_of ps last) 0 ps)
read_tokens ps last h = pieces_stand (text_of ps last) last ps 0 refl h

pub read_words : (ps : List Piece) (last : List ℕ) → words_of (text_of ps last) (placed (text_of ps last) 0 ps) ≡ words_in ps
read_words ps last = pieces_words (text_of ps last) last ps 0 refl

pub read_lines : (ps : List Piece) (last : List ℕ) → Legible ps last → map (λ (t : Token). t.line) (placed (text_of ps last) 0 ps) ≡ lines_from 1 ps
read_lines ps last h = pieces_lines (text_of ps last) last ps 0 1 refl h refl

-- digits in decimal
own : IsNumeralModel (λ ds. (i : ℕ) → i < length ds → IsInRange 48 57 (get_or ds i 0)) (value_after 0)
own = numerals_by_fold _ tells_by_index value_after (search rules)

pub decimal_says : (n : ℕ) → n ≤ greatest → Says (decimal n) (S.Number n)
decimal_says n le =
    let small : n < 2 ^ 64 = omega arith in (
      record {
        some = decimal_nonempty n small;
        each = λ i lt. let d = digits_decimal own n small i lt in and_from _ _ (le-leb 48 _ d.0) (le-leb _ 57 d.1);
      },
      digits_value-decimal own n small,
      le,
    )

word_byte_no_space : (b : ℕ) → is_space b ≡ true → is_word_byte b ≡ true → ⊥
word_byte_no_space b s w = grind (arith, nat_tests)

digit_no_space : (b : ℕ) → is_space b ≡ true → is_digit b ≡ true → ⊥
digit_no_space b s d = grind (arith, nat_tests)

equals_no_space : (b : ℕ) → is_space b ≡ true → (b == 61) ≡ true → ⊥
equals_no_space b s e = grind (arith, nat_tests)

pub space_separates : (sort : Sort) (b : ℕ) → is_space b ≡ true → prolongs sort b ≡ false
space_separates S.Name b s = false_from_ne_true _ (word_byte_no_space b s)
space_separates (S.Number n) b s = false_from_ne_true _ (digit_no_space b s)
space_separates (S.Key key) b s = false_from_ne_true _ (word_byte_no_space b s)
space_separates (S.Mark m) b s = mark_separates m
  where
    mark_separates : (m : Mark) → prolongs_mark m b ≡ false
    mark_separates M.Assign = false_from_ne_true _ (equals_no_space b s)
    mark_separates M.Less = false_from_ne_true _ (equals_no_space b s)
    mark_separates _ = refl
