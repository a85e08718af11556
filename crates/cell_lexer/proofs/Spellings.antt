-- What the spellings of marks and keywords have in common, and that no two are alike.
use Rattle.std.proofs.Common.{ℕ, ◌≡◌, ◌+◌, ◌*◌, ◌<◌, ◌≤◌, ◌==◌, ◌&&◌, Bool, true, false, not, List, [], ◌∷◌, length, get_or, nat_le, if◌then◌else◌, zero, suc, sym, refl, ap, ◌∙◌, arith}
use Rattle.std.specs.List.{list_all}
use Rattle.std.proofs.lemmas.Bool.{and_parts, leb-true, not-true}
use Rattle.sys_base.specs.Bytes.{is_letter, is_digit, is_word_byte, is_space}
use Rattle.sys_base.specs.Key.{key_text}
use Rattle.sys_base.specs.Name.{IsWord}
use Rattle.sys_base.specs.declared.key.Key.{Key}
use Rattle.sys_base.specs.declared.key.Key.TheVariants as K
use Rattle.cell_lexer.specs.declared.token.Mark.{Mark}
use Rattle.cell_lexer.specs.declared.token.Mark.TheVariants as M
use Rattle.cell_lexer.specs.Forms.{mark_text}

-- each byte of a list passes a test that the whole list passes
each_passes : (p : ℕ → Bool) (bs : List ℕ) → list_all p bs ≡ true → (i : ℕ) → i < length bs → p (get_or bs i 0) ≡ true
each_passes p [] h i lt = absurd (omega arith)
each_passes p (b ∷ bs) h zero lt = (and_parts _ _ h).0
each_passes p (b ∷ bs) h (suc i) lt = each_passes p bs (and_parts _ _ h).1 i (omega arith)

-- a byte that is no letter, digit, space, newline or `#`
abbrev is_sign : ℕ → Bool
is_sign b = not (is_letter b) && (not (is_digit b) && (not (is_space b) && (not (b == 35) && not (b == 10))))

abbrev is_marked : List ℕ → Bool
is_marked bs = list_all is_sign bs && (nat_le 1 (length bs) && nat_le (length bs) 2)

mark_test : (m : Mark) → is_marked (mark_text m) ≡ true
mark_test M.OpenBrace = refl
mark_test M.CloseBrace = refl
mark_test M.OpenBracket = refl
mark_test M.CloseBracket = refl
mark_test M.OpenParen = refl
mark_test M.CloseParen = refl
mark_test M.Semicolon = refl
mark_test M.Dot = refl
mark_test M.Assign = refl
mark_test M.Same = refl
mark_test M.Differ = refl
mark_test M.Less = refl
mark_test M.AtMost = refl
mark_test M.Plus = refl
mark_test M.Minus = refl
mark_test M.Star = refl
mark_test M.Slash = refl
mark_test M.Percent = refl

-- a byte of a mark is of no other kind
pub record IsSign (b : ℕ) : Type 0 where
  pub no_letter : is_letter b ≡ false
  pub no_digit : is_digit b ≡ false
  pub no_space : is_space b ≡ false
  pub no_hash : (b == 35) ≡ false
  pub no_newline : (b == 10) ≡ false

sign_from : (b : ℕ) → is_sign b ≡ true → IsSign b
sign_from b h =
    let p = and_parts _ _ h in
    let q = and_parts _ _ p.1 in
    let r = and_parts _ _ q.1 in
    let s = and_parts _ _ r.1 in
    record { no_letter = not-true _ p.0; no_digit = not-true _ q.0; no_space = not-true _ r.0; no_hash = not-true _ s.0; no_newline = not-true _ s.1 }

pub mark_signs : (m : Mark) (i : ℕ) → i < length (mark_text m) → IsSign (get_or (mark_text m) i 0)
mark_signs m i lt = sign_from _ (each_passes is_sign (mark_text m) (and_parts _ _ (mark_test m)).0 i lt)

pub mark_some : (m : Mark) → 1 ≤ length (mark_text m)
mark_some m = leb-true _ _ (and_parts _ _ (and_parts _ _ (mark_test m)).1).0

pub mark_short : (m : Mark) → length (mark_text m) ≤ 2
mark_short m = leb-true _ _ (and_parts _ _ (and_parts _ _ (mark_test m)).1).1

-- the two first bytes in one number
abbrev pub front_number : List ℕ → ℕ
front_number bs = 256 * get_or bs 0 0 + get_or bs 1 0

abbrev pub mark_from : ℕ → Mark
mark_from n = if n == 31488 then M.OpenBrace else (if n == 32000 then M.CloseBrace else (if n == 23296 then M.OpenBracket else (if n == 23808 then M.CloseBracket else (if n == 10240 then M.OpenParen else (if n == 10496 then M.CloseParen else (if n == 15104 then M.Semicolon else (if n == 11776 then M.Dot else (if n == 15616 then M.Assign else (if n == 15677 then M.Same else (if n == 8509 then M.Differ else (if n == 15360 then M.Less else (if n == 15421 then M.AtMost else (if n == 11008 then M.Plus else (if n == 11520 then M.Minus else (if n == 10752 then M.Star else (if n == 12032 then M.Slash else M.Percent))))))))))))))))

pub mark_back : (m : Mark) → mark_from (front_number (mark_text m)) ≡ m
mark_back M.OpenBrace = refl
mark_back M.CloseBrace = refl
mark_back M.OpenBracket = refl
mark_back M.CloseBracket = refl
mark_back M.OpenParen = refl
mark_back M.CloseParen = refl
mark_back M.Semicolon = refl
mark_back M.Dot = refl
mark_back M.Assign = refl
mark_back M.Same = refl
mark_back M.Differ = refl
mark_back M.Less = refl
mark_back M.AtMost = refl
mark_back M.Plus = refl
mark_back M.Minus = refl
mark_back M.Star = refl
mark_back M.Slash = refl
mark_back M.Percent = refl

pub one_mark : (m n : Mark) → mark_text m ≡ mark_text n → m ≡ n
one_mark m n e = sym (mark_back m) ∙ ap (λ bs. mark_from (front_number bs)) e ∙ mark_back n

abbrev is_keyed : List ℕ → Bool
is_keyed bs = is_letter (get_or bs 0 0) && (list_all is_word_byte bs && nat_le (length bs) 32)

key_test : (k : Key) → is_keyed (key_text k) ≡ true
key_test K.Array = refl
key_test K.Queues = refl
key_test K.Link = refl
key_test K.Message = refl
key_test K.From = refl
key_test K.To = refl
key_test K.Route = refl
key_test K.Label = refl
key_test K.Cell = refl
key_test K.Var = refl
key_test K.Write = refl
key_test K.Read = refl
key_test K.Take = refl
key_test K.Emit = refl
key_test K.For = refl
key_test K.If = refl
key_test K.Else = refl
key_test K.Buffer = refl

-- a keyword has the form of a word
pub key_word : (k : Key) → IsWord (key_text k)
key_word k =
    let t = and_parts _ _ (key_test k) in
    record { first = t.0; each = each_passes is_word_byte (key_text k) (and_parts _ _ t.1).0 }

pub key_short : (k : Key) → length (key_text k) ≤ 32
key_short k = leb-true _ _ (and_parts _ _ (and_parts _ _ (key_test k)).1).1

abbrev pub key_from : ℕ → Key
key_from n = if n == 24946 then K.Array else (if n == 29045 then K.Queues else (if n == 27753 then K.Link else (if n == 28005 then K.Message else (if n == 26226 then K.From else (if n == 29807 then K.To else (if n == 29295 then K.Route else (if n == 27745 then K.Label else (if n == 25445 then K.Cell else (if n == 30305 then K.Var else (if n == 30578 then K.Write else (if n == 29285 then K.Read else (if n == 29793 then K.Take else (if n == 25965 then K.Emit else (if n == 26223 then K.For else (if n == 26982 then K.If else (if n == 25964 then K.Else else K.Buffer))))))))))))))))

pub key_back : (k : Key) → key_from (front_number (key_text k)) ≡ k
key_back K.Array = refl
key_back K.Queues = refl
key_back K.Link = refl
key_back K.Message = refl
key_back K.From = refl
key_back K.To = refl
key_back K.Route = refl
key_back K.Label = refl
key_back K.Cell = refl
key_back K.Var = refl
key_back K.Write = refl
key_back K.Read = refl
key_back K.Take = refl
key_back K.Emit = refl
key_back K.For = refl
key_back K.If = refl
key_back K.Else = refl
key_back K.Buffer = refl

pub one_key : (j k : Key) → key_text j ≡ key_text k → j ≡ k
one_key j k e = sym (key_back j) ∙ ap (λ bs. key_from (front_number bs)) e ∙ key_back k
