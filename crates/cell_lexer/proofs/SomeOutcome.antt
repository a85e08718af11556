-- Every text has tokens or a first fault.
use Rattle.std.proofs.Common.{ℕ, ◌≡◌, ◌+◌, ◌-◌, ◌<◌, ◌≤◌, ◌==◌, ◌⊎◌, Bool, true, false, List, [], ◌∷◌, length, get_or, take, drop, zero, suc, inl, inr, sym, refl, ap, ◌∙◌, subst, ⊎_elim, arith, length-drop, length-take-le, bytes_eq}
use Rattle.std.proofs.lemmas.Bool.{cases_lt}
use Rattle.std.proofs.lemmas.Bool.Decides.{nat_tests}
use Rattle.std.proofs.lemmas.List.{drop-drop}
use Rattle.std.proofs.lemmas.Slice.Eq.{bytes_eq-Decides}
use Rattle.sys_base.specs.Bytes.{is_letter, is_digit, is_word_byte, is_space}
use Rattle.sys_base.specs.Key.{key_text}
use Rattle.sys_base.specs.declared.key.Key.{Key}
use Rattle.cell_lexer.specs.declared.error.LexError.{LexError}
use Rattle.cell_lexer.specs.declared.error.LexError.TheVariants as E
use Rattle.cell_lexer.specs.declared.token.Mark.{Mark}
use Rattle.cell_lexer.specs.declared.token.Sort.{Sort}
use Rattle.cell_lexer.specs.declared.token.Sort.TheVariants as S
use Rattle.cell_lexer.specs.declared.token.Token.{Token}
use Rattle.cell_lexer.specs.Faults.{IsBad, IsBig, IsLong, FaultAt, FirstFault}
use Rattle.cell_lexer.specs.Forms.{mark_text, value, greatest, Longest, Says}
use Rattle.cell_lexer.specs.Gaps.{Comment, at_end, at_line, inside, Gap, none, space, comment}
use Rattle.cell_lexer.specs.Places.{line_at, column_at}
use Rattle.cell_lexer.specs.Inner.Scanning.{IsSolid}
use Rattle.cell_lexer.specs.Tokens.{Stand, TokensOf}
use Rattle.cell_lexer.proofs.Fronts.{Run, run_word, run_longest_word, run_digits, run_longest_digits}
use Rattle.cell_lexer.proofs.LongestForm.{two_bytes_longest, one_byte_longest, bad_byte}
use Rattle.cell_lexer.proofs.OneForm.{front_of}
use Rattle.cell_lexer.proofs.OneGap.{Ends}
use Rattle.cell_lexer.proofs.Spellings.{mark_from, mark_back, key_from, key_back, front_number}
use Rattle.cell_lexer.proofs.TextLines.{token_within}

-- a test passes or it fails
tested : (b : Bool) → (b ≡ true) ⊎ (b ≡ false)
tested true = inl refl
tested false = inr refl

-- bytes have a spelling or none, where each spelling gives back what it spells
spelt_or_none : {A : Type 0} (text : A → List ℕ) (back : List ℕ → A) → ((a : A) → back (text a) ≡ a) → (bs : List ℕ)
    → ((a : A) × (bs ≡ text a)) ⊎ ((a : A) → bs ≡ text a → ⊥)
spelt_or_none {A = A} text back returns bs = decided (tested (bytes_eq bs (text (back bs))))
  where
    found : bytes_eq bs (text (back bs)) ≡ true → bs ≡ text (back bs)
    found = (bytes_eq-Decides bs (text (back bs))).0

    clash : bytes_eq bs (text (back bs)) ≡ false → (a : A) → bs ≡ text a → ⊥
    clash isnt a e =
        let back_is : back bs ≡ a = ap back e ∙ returns a in
        let same : bs ≡ text (back bs) = e ∙ ap text (sym back_is) in
        let is : bytes_eq bs (text (back bs)) ≡ true = (bytes_eq-Decides bs (text (back bs))).1 same in
        cc

    decided : (bytes_eq bs (text (back bs)) ≡ true) ⊎ (bytes_eq bs (text (back bs)) ≡ false) → ((a : A) × (bs ≡ text a)) ⊎ ((a : A) → bs ≡ text a → ⊥)
    decided (inl is) = inl (back bs, found is)
    decided (inr isnt) = inr (clash isnt)

mark_or_none : (bs : List ℕ) → ((m : Mark) × (bs ≡ mark_text m)) ⊎ ((m : Mark) → bs ≡ mark_text m → ⊥)
mark_or_none = spelt_or_none mark_text (λ bs. mark_from (front_number bs)) mark_back

key_or_none : (bs : List ℕ) → ((k : Key) × (bs ≡ key_text k)) ⊎ ((k : Key) → bs ≡ key_text k → ⊥)
key_or_none = spelt_or_none key_text (λ bs. key_from (front_number bs)) key_back

-- one more byte at the front passes a test
run_more : (test : ℕ → Bool) (b : ℕ) (bs : List ℕ) (n : ℕ) → test b ≡ true → Run test bs n → Run test (b ∷ bs) (suc n)
run_more test b bs n is r = record { inside = omega (arith, r.inside); each = each; stop = λ lt. r.stop (omega (arith, lt)) }
  where
    each : (k : ℕ) → k < suc n → test (get_or (b ∷ bs) k 0) ≡ true
    each zero lt = is
    each (suc k) lt = r.each k (omega (arith, lt))

counted : (test : ℕ → Bool) (b : ℕ) (bs : List ℕ) → (test b ≡ true) ⊎ (test b ≡ false) → (n : ℕ) × Run test bs n → (n : ℕ) × Run test (b ∷ bs) n
counted test b bs (inl is) (n, r) = (suc n, run_more test b bs n is r)
counted test b bs (inr isnt) rest = (0, record { inside = omega arith; each = λ k lt. absurd (omega (arith, lt)); stop = λ _. isnt })

-- some bytes at the front pass a test, and no more
front_run : (test : ℕ → Bool) (bs : List ℕ) → (n : ℕ) × Run test bs n
front_run test [] = (0, record { inside = omega arith; each = λ k lt. absurd (omega (arith, lt)); stop = λ lt. absurd (omega (arith, lt)) })
front_run test (b ∷ bs) = counted test b bs (tested (test b)) (front_run test bs)

-- What stands at the front of some bytes: a token, by its length and what it says, or a flaw.
data Front : List ℕ → Type 0 where
  token : {bs : List ℕ} (n : ℕ) (s : Sort) → Longest bs n → Says (take n bs) s → Front bs
  bad : {bs : List ℕ} → IsBad bs → Front bs
  big : {bs : List ℕ} (n : ℕ) → IsBig bs n → Front bs
  long : {bs : List ℕ} (n : ℕ) → IsLong bs n → Front bs

word_front : (bs : List ℕ) → is_letter (get_or bs 0 0) ≡ true → Front bs
word_front bs l = measured (front_run is_word_byte bs)
  where
    named : (n : ℕ) → Run is_word_byte bs n → n ≤ 32 → ((k : Key) × (take n bs ≡ key_text k)) ⊎ ((k : Key) → take n bs ≡ key_text k → ⊥) → Front bs
    named n r short (inl key) = token n (S.Key key.0) (run_longest_word bs n r l) key.1
    named n r short (inr free) =
        token n S.Name (run_longest_word bs n r l) (record { word = run_word bs n r l; short = omega (arith, length-take-le n bs r.inside); free = free })

    measured : (n : ℕ) × Run is_word_byte bs n → Front bs
    measured (n, r) =
        ⊎_elim
        (λ more. long n (record { longest = run_longest_word bs n r l; word = run_word bs n r l; long = more }))
        (λ few. named n r (omega (arith, few)) (key_or_none (take n bs)))
        (cases_lt 32 n)

number_front : (bs : List ℕ) → is_digit (get_or bs 0 0) ≡ true → Front bs
number_front bs d = measured (front_run is_digit bs)
  where
    measured : (n : ℕ) × Run is_digit bs n → Front bs
    measured (n, r) =
        ⊎_elim
        (λ more. big n (record { longest = run_longest_digits bs n r d; digits = run_digits bs n r d; big = more }))
        (λ few. token n (S.Number (value (take n bs))) (run_longest_digits bs n r d) (run_digits bs n r d, refl, few))
        (cases_lt greatest (value (take n bs)))

mark_front : (bs : List ℕ) → 0 < length bs → IsSolid (get_or bs 0 0) → is_letter (get_or bs 0 0) ≡ false → is_digit (get_or bs 0 0) ≡ false → Front bs
mark_front bs some solid no_letter no_digit = paired (cases_lt 1 (length bs)) (mark_or_none (take 2 bs))
  where
    single : (1 < length bs → (m : Mark) → take 2 bs ≡ mark_text m → ⊥)
        → ((m : Mark) × (get_or bs 0 0 ∷ [] ≡ mark_text m)) ⊎ ((m : Mark) → get_or bs 0 0 ∷ [] ≡ mark_text m → ⊥) → Front bs
    single pair (inl m) = token 1 (S.Mark m.0) (one_byte_longest bs m.0 some m.1 pair) (first bs some ∙ m.1)
      where
        first : (bs : List ℕ) → 0 < length bs → take 1 bs ≡ get_or bs 0 0 ∷ []
        first [] lt = absurd (omega arith)
        first (b ∷ bs) lt = refl
    single pair (inr unmarked) = bad (bad_byte bs some solid no_letter no_digit unmarked pair)

    paired : (1 < length bs) ⊎ (length bs ≤ 1) → ((m : Mark) × (take 2 bs ≡ mark_text m)) ⊎ ((m : Mark) → take 2 bs ≡ mark_text m → ⊥) → Front bs
    paired (inl two) (inl m) = token 2 (S.Mark m.0) (two_bytes_longest bs m.0 two m.1) m.1
    paired (inl two) (inr unmarked) = single (λ _. unmarked) (mark_or_none (get_or bs 0 0 ∷ []))
    paired (inr one) _ = single (λ two. absurd (omega (arith, one, two))) (mark_or_none (get_or bs 0 0 ∷ []))

-- where no gap goes on, there is a token or a flaw
front : (bs : List ℕ) → 0 < length bs → IsSolid (get_or bs 0 0) → Front bs
front bs some solid = by_first (tested (is_letter (get_or bs 0 0))) (tested (is_digit (get_or bs 0 0)))
  where
    by_first : (is_letter (get_or bs 0 0) ≡ true) ⊎ (is_letter (get_or bs 0 0) ≡ false) → (is_digit (get_or bs 0 0) ≡ true) ⊎ (is_digit (get_or bs 0 0) ≡ false) → Front bs
    by_first (inl letter) _ = word_front bs letter
    by_first (inr no_letter) (inl digit) = number_front bs digit
    by_first (inr no_letter) (inr no_digit) = mark_front bs some solid no_letter no_digit

-- a gap of this many bytes stands before some bytes, and goes on no further
record Ended (bs : List ℕ) : Type 0 where
  len : ℕ
  within : len ≤ length bs
  gap : Gap bs (drop len bs)
  ends : Ends (drop len bs)

-- a comment and then such a gap
record Commented (bs : List ℕ) : Type 0 where
  between : List ℕ
  text : Comment bs between
  len : ℕ
  within : len ≤ length bs
  gap : Gap between (drop len bs)
  ends : Ends (drop len bs)

byte_kind : (b : ℕ) → (b ≡ 35) ⊎ ((is_space b ≡ true) ⊎ IsSolid b)
byte_kind b = kind (tested (b == 35)) (tested (is_space b))
  where
    kind : ((b == 35) ≡ true) ⊎ ((b == 35) ≡ false) → (is_space b ≡ true) ⊎ (is_space b ≡ false) → (b ≡ 35) ⊎ ((is_space b ≡ true) ⊎ IsSolid b)
    kind (inl hash) _ = inl (grind (arith, nat_tests))
    kind (inr isnt) (inl blank) = inr (inl blank)
    kind (inr isnt) (inr solid) = inr (inr (record { no_space = solid; no_hash = λ e. grind (arith, nat_tests) }))

newline_or_not : (b : ℕ) → (b ≡ 10) ⊎ (b ≡ 10 → ⊥)
newline_or_not b = line (tested (b == 10))
  where
    line : ((b == 10) ≡ true) ⊎ ((b == 10) ≡ false) → (b ≡ 10) ⊎ (b ≡ 10 → ⊥)
    line (inl is) = inl (grind (arith, nat_tests))
    line (inr isnt) = inr (λ e. grind (arith, nat_tests))

newline_space : (b : ℕ) → b ≡ 10 → is_space b ≡ true
newline_space b e = ap is_space e

ended_more : (b : ℕ) (bs : List ℕ) → Ended bs → Commented bs → (b ≡ 35) ⊎ ((is_space b ≡ true) ⊎ IsSolid b) → Ended (b ∷ bs)
ended_more b bs e c (inl hash) = record { len = suc c.len; within = omega (arith, c.within); gap = comment hash c.text c.gap; ends = c.ends }
ended_more b bs e c (inr (inl blank)) = record { len = suc e.len; within = omega (arith, e.within); gap = space blank e.gap; ends = e.ends }
ended_more b bs e c (inr (inr solid)) = record { len = 0; within = omega arith; gap = none; ends = solid }

commented_more : (b : ℕ) (bs : List ℕ) → Ended bs → Commented bs → (b ≡ 10) ⊎ (b ≡ 10 → ⊥) → Commented (b ∷ bs)
commented_more b bs e c (inl line) = record {
  between = b ∷ bs;
  text = at_line line;
  len = suc e.len;
  within = omega (arith, e.within);
  gap = space (newline_space b line) e.gap;
  ends = e.ends;
}
commented_more b bs e c (inr isnt) = record {
  between = c.between;
  text = inside isnt c.text;
  len = suc c.len;
  within = omega (arith, c.within);
  gap = c.gap;
  ends = c.ends;
}

ended : (bs : List ℕ) → Ended bs × Commented bs
ended [] = (
  record { len = 0; within = omega arith; gap = none; ends = tt },
  record { between = []; text = at_end; len = 0; within = omega arith; gap = none; ends = tt },
)
ended (b ∷ bs) =
    let r = ended bs in
    (ended_more b bs r.0 r.1 (byte_kind b), commented_more b bs r.0 r.1 (newline_or_not b))

-- A place that a gap leads to from another place, where no gap goes on.
record Reached (text : List ℕ) (from : ℕ) : Type 0 where
  at : ℕ
  onward : from ≤ at
  within : at ≤ length text
  gap : Gap (drop from text) (drop at text)
  ends : Ends (drop at text)

reached : (text : List ℕ) (from : ℕ) → from ≤ length text → Reached text from
reached text from le =
    let r = (ended (drop from text)).0 in
    let same = drop-drop r.len from text in
    record {
      at = from + r.len;
      onward = omega arith;
      within = omega (arith, le, r.within, length-drop from text);
      gap = subst (λ bs. Gap (drop from text) bs) same r.gap;
      ends = subst Ends same r.ends;
    }

-- From a place on a text has tokens, or tokens and then a fault.
abbrev Goes : List ℕ → ℕ → Type 0
Goes text from =
    ((ts : List Token) × Stand text from ts (length text))
    ⊎ ((e : LexError) × ((ts : List Token) × (at : ℕ) × (at < length text) × Stand text from ts at × FaultAt text at e))

abbrev token_here : (text : List ℕ) (at n : ℕ) (s : Sort) → Token
token_here text at n s = record { sort = s; at = at; len = n; line = line_at text at; column = column_at text at }

solid_first : (bs : List ℕ) → 0 < length bs → Ends bs → IsSolid (get_or bs 0 0)
solid_first [] lt e = absurd (omega (arith, lt))
solid_first (b ∷ bs) lt e = e

-- a token comes first
one_more : (text : List ℕ) (from at n : ℕ) (s : Sort) → Gap (drop from text) (drop at text) → Longest (drop at text) n → Says (take n (drop at text)) s
    → Goes text (at + n) → Goes text from
one_more text from at n s gap longest says (inl (ts, stand)) =
    inl (token_here text at n s ∷ ts, (gap, record { longest = longest; says = says; line = refl; column = refl }, stand))
one_more text from at n s gap longest says (inr (e, (ts, to, lt, stand, fault))) =
    inr (e, (token_here text at n s ∷ ts, to, lt, (gap, record { longest = longest; says = says; line = refl; column = refl }, stand), fault))

longest_some : (bs : List ℕ) (n : ℕ) → Longest bs n → 0 < n
longest_some bs n l = (front_of bs n l).some

-- What the text has from each later place on.
abbrev Later : List ℕ → ℕ → Type 0
Later text from = (next : ℕ) → next ≤ length text → from < next → Goes text next

goes_here : (text : List ℕ) (from : ℕ) → Later text from → (r : Reached text from) → r.at < length text → Front (drop r.at text) → Goes text from
goes_here text from later r lt (token n s longest says) =
    let some = longest_some (drop r.at text) n longest in
    one_more text from r.at n s r.gap longest says (later (r.at + n) (token_within text r.at n longest) (omega (arith, some, r.onward)))
goes_here text from later r lt (bad b) = inr (E.BadByte r.at, ([], r.at, lt, r.gap, (refl, b)))
goes_here text from later r lt (big n b) = inr (E.BigNumber (line_at text r.at), ([], r.at, lt, r.gap, (refl, n, b)))
goes_here text from later r lt (long n b) = inr (E.LongName (line_at text r.at), ([], r.at, lt, r.gap, (refl, n, b)))

goes_from : (text : List ℕ) (from : ℕ) → Later text from → (r : Reached text from) → (r.at < length text) ⊎ (length text ≤ r.at) → Goes text from
goes_from text from later r (inr end) =
    let same : r.at ≡ length text = omega (arith, end, r.within) in
    inl ([], subst (λ n. Gap (drop from text) (drop n text)) same r.gap)
goes_from text from later r (inl lt) =
    let some : 0 < length (drop r.at text) = omega (arith, lt, length-drop r.at text) in
    goes_here text from later r lt (front (drop r.at text) some (solid_first (drop r.at text) some r.ends))

goes : (fuel : ℕ) (text : List ℕ) (from : ℕ) → from ≤ length text → length text - from < fuel → Goes text from
goes zero text from le enough = absurd (omega (arith, enough))
goes (suc fuel) text from le enough =
    let r = reached text from le in
    goes_from text from (λ next within less. goes fuel text next within (omega (arith, enough, less, within))) r (cases_lt r.at (length text))

-- Every text has tokens or a first fault.
pub tokens_or_fault : (text : List ℕ) → ((ts : List Token) × TokensOf text ts) ⊎ ((e : LexError) × FirstFault text e)
tokens_or_fault text = goes (suc (length text)) text 0 (omega arith) (omega arith)
