-- What is printed as JSON has no newline.
use Rattle.std.proofs.Common.{◌≡◌, ◌≢◌, ◌<◌, ◌+◌, ◌/◌, ◌%◌, ◌==◌, ◌||◌, cond, ℕ, zero, suc, pos, negsuc, List, [], ◌∷◌, ◌++◌, get_or, Bool, true, false, true≢false, eqb, ltb, eq-eqb, decimal, refl, sym, subst, ◌∙◌, arith}
use Rattle.std.specs.Char.{digit_char}
use Rattle.std.specs.Fmt.{digits, digits_onto, digit_glyph}
use Rattle.std.specs.List.{All}
use Rattle.json.specs.Print.{escape_byte, escape_letter, escape, quoted}
use Rattle.serde_json.specs.Data.{Num, unsigned, negative, float, Data, null, boolean, number, string, array, object, Items, no_items, item, Members, no_members, member}
use Rattle.serde_json.specs.Written.{number_text, comma_if, compact_text, items_text, members_text}
use Rattle.stream_io.specs.Results.{IsObjectLine, line_of}

-- No byte is a newline.
abbrev Lacks : List ℕ → Type 0
Lacks [] = Unit {0}
Lacks (b ∷ bytes) = (eqb b 10 ≡ false) × Lacks bytes

lacks_append : (xs ys : List ℕ) → Lacks xs → Lacks ys → Lacks (xs ++ ys)
lacks_append [] ys h k = k
lacks_append (x ∷ xs) ys h k = (h.0, lacks_append xs ys h.1 k)

either : (t : Bool) (xs ys : List ℕ) → Lacks xs → Lacks ys → Lacks (cond t xs ys)
either true xs ys h k = h
either false xs ys h k = k

lacks_all : (bytes : List ℕ) → Lacks bytes → All (λ b. b ≢ 10) bytes
lacks_all [] h k d inside = absurd (omega arith)
lacks_all (b ∷ bytes) h zero d inside = λ same. true≢false (sym (eq-eqb b 10 same) ∙ h.0)
lacks_all (b ∷ bytes) h (suc k) d inside = lacks_all bytes h.1 k d (omega arith)

other : (b : ℕ) (t : Bool) → eqb b 10 ≡ t → (b ≡ 10 → ⊥) → eqb b 10 ≡ false
other b true e apart = absurd (apart (grind (arith, e)))
other b false e apart = e

pick : (t : Bool) (m n : ℕ) → eqb m 10 ≡ false → eqb n 10 ≡ false → eqb (cond t m n) 10 ≡ false
pick true m n h k = h
pick false m n h k = k

above : (low d : ℕ) → 10 < low → eqb (low + d) 10 ≡ false
above low d high = other (low + d) (eqb (low + d) 10) refl (λ same. omega arith)

-- ---- digits

glyph_plain : (d : ℕ) → eqb (digit_glyph false d) 10 ≡ false
glyph_plain d = pick (ltb d 10) (48 + d) (87 + d) (above 48 d (omega arith)) (above 87 d (omega arith))

digits_plain : (k n : ℕ) (acc : List ℕ) → Lacks acc → Lacks (digits_onto k 10 false n acc)
digits_plain zero n acc h = h
digits_plain (suc k) n acc h =
    either (n / 10 == 0) (digit_glyph false (n % 10) ∷ acc) (digits_onto k 10 false (n / 10) (digit_glyph false (n % 10) ∷ acc))
    (glyph_plain (n % 10), h) (digits_plain k (n / 10) (digit_glyph false (n % 10) ∷ acc) (glyph_plain (n % 10), h))

decimal_plain : (n : ℕ) → Lacks (decimal n)
unfolding digits
decimal_plain n = digits_plain 64 n [] tt

number_plain : (n : Num) → Lacks (number_text n)
number_plain (unsigned n) = decimal_plain n
number_plain (negative (pos n)) = decimal_plain n
number_plain (negative (negsuc n)) = (refl, decimal_plain (suc n))
number_plain (float x) = tt

-- ---- strings

char_plain : (d : ℕ) → eqb (digit_char d) 10 ≡ false
char_plain d = pick (ltb d 10) (48 + d) (87 + d) (above 48 d (omega arith)) (above 87 d (omega arith))

own_letter : (t : Bool) (x rest : ℕ) → (t ≡ true → x ≡ 10 → ⊥) → eqb rest 10 ≡ false → eqb (cond t x rest) 10 ≡ false
own_letter true x rest apart h = other x (eqb x 10) refl (apart refl)
own_letter false x rest apart h = h

letter_plain : (x : ℕ) → eqb (escape_letter x) 10 ≡ false
letter_plain x = own_letter ((x == 34) || (x == 92)) x _
    (λ t same. true≢false (sym (subst (λ (y : ℕ). ((y == 34) || (y == 92)) ≡ true) same t)))
    (pick (x == 8) 98 _ refl (pick (x == 12) 102 _ refl (pick (x == 10) 110 _ refl (pick (x == 13) 114 _ refl (pick (x == 9) 116 0 refl refl)))))

own_byte : (t : Bool) (x : ℕ) (code : List ℕ) → ltb x 32 ≡ t → Lacks code → Lacks (cond t code (x ∷ []))
own_byte true x code e h = h
own_byte false x code e h =
    (other x (eqb x 10) refl (λ same. true≢false (subst (λ (y : ℕ). ltb y 32 ≡ false) same e)), tt)

byte_plain : (x : ℕ) → Lacks (escape_byte x)
unfolding escape_byte
byte_plain x = either (ltb 0 (escape_letter x)) (92 ∷ escape_letter x ∷ []) _ (refl, (letter_plain x, tt))
    (own_byte (ltb x 32) x (92 ∷ 117 ∷ 48 ∷ 48 ∷ digit_char (x / 16) ∷ digit_char (x % 16) ∷ []) refl
    (refl, (refl, (refl, (refl, (char_plain (x / 16), (char_plain (x % 16), tt)))))))

escape_plain : (s : List ℕ) → Lacks (escape s)
escape_plain [] = tt
escape_plain (x ∷ s) = lacks_append (escape_byte x) (escape s) (byte_plain x) (escape_plain s)

quoted_plain : (s : List ℕ) → Lacks (quoted s)
quoted_plain s = (refl, lacks_append (escape s) (34 ∷ []) (escape_plain s) (refl, tt))

-- ---- values

comma_plain : (later : Bool) → Lacks (comma_if later)
comma_plain true = (refl, tt)
comma_plain false = tt

boolean_plain : (b : Bool) → Lacks (compact_text (boolean b))
boolean_plain true = (refl, (refl, (refl, (refl, tt))))
boolean_plain false = (refl, (refl, (refl, (refl, (refl, tt)))))

mutual
  value_plain : (d : Data) → Lacks (compact_text d)
  value_plain null = (refl, (refl, (refl, (refl, tt))))
  value_plain (boolean b) = boolean_plain b
  value_plain (number n) = number_plain n
  value_plain (string s) = quoted_plain s
  value_plain (array ds) = (refl, items_plain false ds)
  value_plain (object ms) = (refl, members_plain false ms)

  items_plain : (later : Bool) (ds : Items) → Lacks (items_text later ds)
  items_plain later no_items = (refl, tt)
  items_plain later (item d ds) = lacks_append (comma_if later) _ (comma_plain later)
      (lacks_append (compact_text d) (items_text true ds) (value_plain d) (items_plain true ds))

  members_plain : (later : Bool) (ms : Members) → Lacks (members_text later ms)
  members_plain later no_members = (refl, tt)
  members_plain later (member k d ms) = lacks_append (comma_if later) _ (comma_plain later)
      (lacks_append (quoted k) _ (quoted_plain k)
      (refl, lacks_append (compact_text d) (members_text true ms) (value_plain d) (members_plain true ms)))

pub value_line : (d : Data) → get_or (compact_text d) 0 0 ≡ 123 → IsObjectLine (line_of d)
value_line d begins = record {
  front = compact_text d;
  ends = refl;
  begins = begins;
  plain = lacks_all (compact_text d) (value_plain d);
}
