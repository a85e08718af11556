-- The limits on tokens and the limits on the words of a canonical text are the same limits on sorts.
use Rattle.std.proofs.Common.{◌≡◌, ℕ, zero, suc, ◌+◌, ◌-◌, ◌<◌, ◌≤◌, ◌++◌, Bool, true, false, not, ◌&&◌, ◌||◌, IsTrue, List, [], ◌∷◌, map, take, reverse, slice_get, MatchOption, refl, sym, subst, ap, ◌∙◌, append_assoc, arith}
use Rattle.std.specs.Prelude.{nat_lt, if◌then◌else◌, slice_index, codes}
use Rattle.std.specs.Str.{bytes_eq}
use Rattle.std.proofs.lemmas.Bool.Decides.{nat_tests}
use Rattle.std.proofs.lemmas.List.{append-nil, reverse-append}
use Rattle.std.proofs.lemmas.Slice.Eq.{bytes_eq-Decides}
use Rattle.sys_base.specs.Bytes.{is_letter, is_digit}
use Rattle.sys_base.specs.Key.{key_text}
use Rattle.sys_base.specs.declared.key.Key.{Key}
use Rattle.sys_base.specs.declared.key.Key.TheVariants as K
use Rattle.cell_lexer.specs.Forms.{Says, mark_text}
use Rattle.cell_lexer.specs.declared.token.Mark.{Mark}
use Rattle.cell_lexer.specs.declared.token.Mark.TheVariants as M
use Rattle.cell_lexer.specs.declared.token.Sort.{Sort}
use Rattle.cell_lexer.specs.declared.token.Sort.TheVariants as S
use Rattle.cell_lexer.specs.declared.token.Token.{Token}
use Rattle.cell_tree.specs.Printable.{is_opening, is_closing, ends_run, runs_fit, open_after, braces_fit}
use Rattle.cell_parser.specs.Limits.{parts, piece_after, unparted, braces_after, open_back, Over, KeepLimits}
use Rattle.cell_parser.specs.declared.error.ParseError.{ParseError}
use Rattle.cell_parser.specs.declared.error.ParseError.TheVariants as E

-- No token of these sorts breaks a limit, where this many tokens of the piece stand before them and this many braces are open.
abbrev pub Room : ℕ → ℕ → List Sort → Type 0
Room piece braces [] = Unit {0}
Room piece braces (sort ∷ sorts) =
    (parts sort ≡ false → piece < 256) × (sort ≡ S.Mark M.OpenBrace → braces < 17)
    × Room (piece_after sort piece) (braces_after sort braces) sorts

-- the sorts of tokens
abbrev pub sorts_of : List Token → List Sort
sorts_of = map (λ t. t.sort)

no_over : (piece braces : ℕ) (t : Token) → (parts t.sort ≡ false → piece < 256) → (t.sort ≡ S.Mark M.OpenBrace → braces < 17)
    → (e : ParseError) → Over piece braces t e → ⊥
no_over piece braces t f g (E.LongPiece line) o = let lt = f o.1 in let is = o.2 in omega arith
no_over piece braces t f g (E.Braces line) o = let lt = g o.1 in let is = o.2 in omega arith
no_over piece braces t f g (E.Unexpected l c) o = o
no_over piece braces t f g E.Memory o = o

-- The token at a place breaks a limit, where these tokens stand before the list, the last of which comes first.
abbrev OverBehind : List Token → List Token → ℕ → ParseError → Type 0
OverBehind before ts at e =
    MatchOption (slice_get ts at) ⊥
    (λ t. Over (unparted (reverse (take at ts) ++ before)) (open_back (reverse (take at ts) ++ before)) t e)

turned : (before ts : List Token) (t : Token) (at : ℕ)
    → reverse (take (suc at) (t ∷ ts)) ++ before ≡ reverse (take at ts) ++ (t ∷ before)
turned before ts t at =
    ap (λ (xs : List Token). xs ++ before) (reverse-append (t ∷ []) (take at ts)) ∙ append_assoc (reverse (take at ts)) (t ∷ []) before

room_behind : (before ts : List Token) → Room (unparted before) (open_back before) (sorts_of ts) → (at : ℕ) (e : ParseError)
    → OverBehind before ts at e → ⊥
room_behind before [] r at e o = o
room_behind before (t ∷ ts) r zero e o = no_over (unparted before) (open_back before) t r.0 r.1 e o
room_behind before (t ∷ ts) r (suc at) e o =
    room_behind (t ∷ before) ts r.2 at e
    (subst (λ (xs : List Token). MatchOption (slice_get ts at) ⊥ (λ u. Over (unparted xs) (open_back xs) u e))
    (turned before ts t at) o)

-- tokens whose sorts have room keep the limits
pub room_kept : (ts : List Token) → Room 0 0 (sorts_of ts) → KeepLimits ts
room_kept ts r at e o =
    room_behind [] ts r at e
    (subst (λ (xs : List Token). MatchOption (slice_get ts at) ⊥ (λ u. Over (unparted xs) (open_back xs) u e))
    (sym (append-nil (reverse (take at ts)))) o)

piece_room : (t : Token) (piece braces : ℕ) → piece ≤ 256 → ((e : ParseError) → Over piece braces t e → ⊥)
    → parts t.sort ≡ false → piece < 256
piece_room t piece braces le f h =
    let no : piece ≡ 256 → ⊥ = λ is. f (E.LongPiece t.line) (refl, h, is) in omega (arith, no)

brace_room : (t : Token) (piece braces : ℕ) → braces ≤ 17 → ((e : ParseError) → Over piece braces t e → ⊥)
    → t.sort ≡ S.Mark M.OpenBrace → braces < 17
brace_room t piece braces le f h =
    let no : braces ≡ 17 → ⊥ = λ is. f (E.Braces t.line) (refl, h, is) in omega (arith, no)

piece_least : (sort : Sort) (piece : ℕ) → (parts sort ≡ false → piece < 256) → piece_after sort piece ≤ 256
piece_least sort piece f =
    elim (parts sort) as (λ b. (b ≡ false → piece < 256) → (if b then 0 else (1 + piece)) ≤ 256) [
      | true ↦ λ g. omega arith
      | false ↦ λ g. let lt = g refl in omega arith
    ] f

braces_least : (sort : Sort) (braces : ℕ) → braces ≤ 17 → (sort ≡ S.Mark M.OpenBrace → braces < 17) → braces_after sort braces ≤ 17
braces_least (S.Mark M.OpenBrace) braces le f = let lt = f refl in omega arith
braces_least (S.Mark M.CloseBrace) braces le f = omega arith
braces_least _ braces le f = le

behind_room : (before ts : List Token) → unparted before ≤ 256 → open_back before ≤ 17
    → ((at : ℕ) (e : ParseError) → OverBehind before ts at e → ⊥)
    → Room (unparted before) (open_back before) (sorts_of ts)
behind_room before [] le few f = tt
behind_room before (t ∷ ts) le few f =
    let piece = piece_room t (unparted before) (open_back before) le (f 0) in
    let brace = brace_room t (unparted before) (open_back before) few (f 0) in (
      piece,
      brace,
      behind_room (t ∷ before) ts (piece_least t.sort (unparted before) piece)
          (braces_least t.sort (open_back before) few brace)
          (λ at e o. f (suc at) e
          (subst (λ (xs : List Token). MatchOption (slice_get ts at) ⊥ (λ u. Over (unparted xs) (open_back xs) u e))
          (sym (turned before ts t at)) o)),
    )

-- the sorts of tokens that keep the limits have room
pub kept_room : (ts : List Token) → KeepLimits ts → Room 0 0 (sorts_of ts)
kept_room ts f =
    behind_room [] ts (omega arith) (omega arith)
    (λ at e o. f at e
    (subst (λ (xs : List Token). MatchOption (slice_get ts at) ⊥ (λ u. Over (unparted xs) (open_back xs) u e))
    (append-nil (reverse (take at ts))) o))

-- whether a token of this sort opens a block
abbrev pub opens_block : Sort → Bool
opens_block (S.Mark M.OpenBrace) = true
opens_block _ = false

-- whether a token of this sort closes a block
abbrev pub closes_block : Sort → Bool
closes_block (S.Mark M.CloseBrace) = true
closes_block _ = false

-- The bytes end a run, open a block and close one exactly where the sort does.
pub record Alike (bytes : List ℕ) (sort : Sort) : Type 0 where
  pub ends : ends_run bytes ≡ parts sort
  pub opening : is_opening bytes ≡ opens_block sort
  pub closing : is_closing bytes ≡ closes_block sort

differs : (xs ys : List ℕ) → (xs ≡ ys → ⊥) → bytes_eq xs ys ≡ false
differs xs ys f =
    elim (bytes_eq xs ys) as (λ b. bytes_eq xs ys ≡ b → b ≡ false) [
      | true ↦ λ e. absurd (f ((bytes_eq-Decides xs ys).0 e))
      | false ↦ λ e. refl
    ] refl

never : IsTrue false → ⊥
never h = cc

no_mark : (bytes : List ℕ) (sort : Sort) → parts sort ≡ false → opens_block sort ≡ false → closes_block sort ≡ false
    → (bytes ≡ codes ";" → ⊥) → (bytes ≡ codes "{" → ⊥) → (bytes ≡ codes "}" → ⊥) → Alike bytes sort
no_mark bytes sort p q r f g h =
    let a : bytes_eq bytes (codes ";") ≡ false = differs bytes (codes ";") f in
    let b : is_opening bytes ≡ false = differs bytes (codes "{") g in
    let c : is_closing bytes ≡ false = differs bytes (codes "}") h in
    record {
      ends = ap (λ (x : Bool). x || is_opening bytes || is_closing bytes) a ∙ ap (λ (x : Bool). false || x || is_closing bytes) b
          ∙ ap (λ (x : Bool). false || false || x) c ∙ sym p;
      opening = b ∙ sym q;
      closing = c ∙ sym r;
    }

key_alike : (key : Key) → Alike (key_text key) (S.Key key)
key_alike K.Array = record { ends = refl; opening = refl; closing = refl }
key_alike K.Queues = record { ends = refl; opening = refl; closing = refl }
key_alike K.Link = record { ends = refl; opening = refl; closing = refl }
key_alike K.Message = record { ends = refl; opening = refl; closing = refl }
key_alike K.From = record { ends = refl; opening = refl; closing = refl }
key_alike K.To = record { ends = refl; opening = refl; closing = refl }
key_alike K.Route = record { ends = refl; opening = refl; closing = refl }
key_alike K.Label = record { ends = refl; opening = refl; closing = refl }
key_alike K.Cell = record { ends = refl; opening = refl; closing = refl }
key_alike K.Var = record { ends = refl; opening = refl; closing = refl }
key_alike K.Write = record { ends = refl; opening = refl; closing = refl }
key_alike K.Read = record { ends = refl; opening = refl; closing = refl }
key_alike K.Take = record { ends = refl; opening = refl; closing = refl }
key_alike K.Emit = record { ends = refl; opening = refl; closing = refl }
key_alike K.For = record { ends = refl; opening = refl; closing = refl }
key_alike K.If = record { ends = refl; opening = refl; closing = refl }
key_alike K.Else = record { ends = refl; opening = refl; closing = refl }
key_alike K.Buffer = record { ends = refl; opening = refl; closing = refl }

mark_alike : (mark : Mark) → Alike (mark_text mark) (S.Mark mark)
mark_alike M.OpenBrace = record { ends = refl; opening = refl; closing = refl }
mark_alike M.CloseBrace = record { ends = refl; opening = refl; closing = refl }
mark_alike M.Semicolon = record { ends = refl; opening = refl; closing = refl }
mark_alike _ = record { ends = refl; opening = refl; closing = refl }

-- what the bytes of a token are, its sort is
pub says_alike : (bytes : List ℕ) (sort : Sort) → Says bytes sort → Alike bytes sort
says_alike bytes S.Name h =
    let P : List ℕ → Type 0 = λ bs. IsTrue (is_letter (slice_index bs 0)) in
    no_mark bytes S.Name refl refl refl (λ e. never (subst P e h.word.first)) (λ e. never (subst P e h.word.first)) (λ e. never (subst P e h.word.first))
says_alike bytes (S.Number n) h =
    let P : List ℕ → Type 0 = λ bs. IsTrue (is_digit (slice_index bs 0)) in
    let d : P bytes = h.0.each 0 h.0.some in
    no_mark bytes (S.Number n) refl refl refl (λ e. never (subst P e d)) (λ e. never (subst P e d)) (λ e. never (subst P e d))
says_alike bytes (S.Key key) h = subst (λ (bs : List ℕ). Alike bs (S.Key key)) (sym h) (key_alike key)
says_alike bytes (S.Mark mark) h = subst (λ (bs : List ℕ). Alike bs (S.Mark mark)) (sym h) (mark_alike mark)

-- Each of these words, with the sort beside it, is as the sort says.
pub data AllAlike : List (List ℕ) → List Sort → Type 0 where
  alike_none : AllAlike [] []
  alike_next : {bytes : List ℕ} {sort : Sort} {words : List (List ℕ)} {sorts : List Sort} → Alike bytes sort → AllAlike words sorts
      → AllAlike (bytes ∷ words) (sort ∷ sorts)

open_sort : (sort : Sort) (braces : ℕ)
    → (if opens_block sort then braces + 1 else (if closes_block sort then braces - 1 else braces)) ≡ braces_after sort braces
open_sort (S.Mark M.OpenBrace) braces = refl
open_sort (S.Mark M.CloseBrace) braces = refl
open_sort _ braces = refl

open_same : (sort : Sort) (bytes : List ℕ) (braces : ℕ) → Alike bytes sort → open_after braces bytes ≡ braces_after sort braces
open_same sort bytes braces a =
    ap (λ (x : Bool). if x then braces + 1 else (if is_closing bytes then braces - 1 else braces)) a.opening
    ∙ ap (λ (x : Bool). if opens_block sort then braces + 1 else (if x then braces - 1 else braces)) a.closing
    ∙ open_sort sort braces

runs_kept : (b : Bool) (run : ℕ) (words : List (List ℕ)) → IsTrue (if b then runs_fit 0 words else (nat_lt run 256 && runs_fit (run + 1) words))
    → (b ≡ false → run < 256) × IsTrue (runs_fit (if b then 0 else (1 + run)) words)
runs_kept true run words h = ((λ e. cc), h)
runs_kept false run words h =
    elim (nat_lt run 256) as (λ b. nat_lt run 256 ≡ b → IsTrue (b && runs_fit (run + 1) words)
    → (false ≡ false → run < 256) × IsTrue (runs_fit (1 + run) words)) [
      | true ↦ λ e h. ((λ _. grind (arith, nat_tests)), subst (λ (n : ℕ). IsTrue (runs_fit n words)) (omega arith) h)
      | false ↦ λ e h. absurd (never h)
    ] refl h

kept_runs : (b : Bool) (run : ℕ) (words : List (List ℕ)) → (b ≡ false → run < 256) → IsTrue (runs_fit (if b then 0 else (1 + run)) words)
    → IsTrue (if b then runs_fit 0 words else (nat_lt run 256 && runs_fit (run + 1) words))
kept_runs true run words f h = h
kept_runs false run words f h =
    elim (nat_lt run 256) as (λ b. nat_lt run 256 ≡ b → IsTrue (b && runs_fit (run + 1) words)) [
      | true ↦ λ e. subst (λ (n : ℕ). IsTrue (runs_fit n words)) (omega arith) h
      | false ↦ λ e. let lt = f refl in absurd (grind (arith, nat_tests))
    ] refl

braces_kept : (b : Bool) (braces : ℕ) (rest : Bool) → IsTrue ((nat_lt braces 17 || not b) && rest) → (b ≡ true → braces < 17) × IsTrue rest
braces_kept b braces rest =
    elim (nat_lt braces 17) as (λ x. nat_lt braces 17 ≡ x → IsTrue ((x || not b) && rest) → (b ≡ true → braces < 17) × IsTrue rest) [
      | true ↦ λ e h. ((λ _. grind (arith, nat_tests)), h)
      | false ↦ λ e. elim b as (λ c. IsTrue ((false || not c) && rest) → (c ≡ true → braces < 17) × IsTrue rest) [
        | true ↦ λ h. absurd (never h)
        | false ↦ λ h. ((λ e. cc), h)
      ]
    ] refl

kept_braces : (b : Bool) (braces : ℕ) (rest : Bool) → (b ≡ true → braces < 17) → IsTrue rest → IsTrue ((nat_lt braces 17 || not b) && rest)
kept_braces b braces rest f r =
    elim (nat_lt braces 17) as (λ x. nat_lt braces 17 ≡ x → IsTrue ((x || not b) && rest)) [
      | true ↦ λ e. r
      | false ↦ λ e. elim b as (λ c. (c ≡ true → braces < 17) → IsTrue ((false || not c) && rest)) [
        | true ↦ λ f. let lt = f refl in absurd (grind (arith, nat_tests))
        | false ↦ λ f. r
      ] f
    ] refl

opens_is : (sort : Sort) → opens_block sort ≡ true → sort ≡ S.Mark M.OpenBrace
opens_is (S.Mark M.OpenBrace) h = refl
opens_is _ h = cc

-- the sorts of words whose runs and braces fit have room
pub fit_room : {words : List (List ℕ)} {sorts : List Sort} → AllAlike words sorts → (piece braces : ℕ)
    → IsTrue (runs_fit piece words) → IsTrue (braces_fit braces words) → Room piece braces sorts
fit_room alike_none piece braces p q = tt
fit_room (alike_next {bytes = bytes} {sort = sort} {words = words} {sorts = sorts} a as_said) piece braces p q =
    let runs : (parts sort ≡ false → piece < 256) × IsTrue (runs_fit (piece_after sort piece) words) =
    runs_kept (parts sort) piece words
    (subst (λ (b : Bool). IsTrue (if b then runs_fit 0 words else (nat_lt piece 256 && runs_fit (piece + 1) words))) a.ends p) in
    let opened : (opens_block sort ≡ true → braces < 17) × IsTrue (braces_fit (open_after braces bytes) words) =
    braces_kept (opens_block sort) braces (braces_fit (open_after braces bytes) words)
    (subst (λ (b : Bool). IsTrue ((nat_lt braces 17 || not b) && braces_fit (open_after braces bytes) words)) a.opening q) in (
      runs.0,
      λ e. opened.0 (ap opens_block e),
      fit_room as_said (piece_after sort piece) (braces_after sort braces) runs.1
          (subst (λ (n : ℕ). IsTrue (braces_fit n words)) (open_same sort bytes braces a) opened.1),
    )

-- the runs of words whose sorts have room fit
pub room_runs : {words : List (List ℕ)} {sorts : List Sort} → AllAlike words sorts → (piece braces : ℕ)
    → Room piece braces sorts → IsTrue (runs_fit piece words)
room_runs alike_none piece braces r = refl
room_runs (alike_next {bytes = bytes} {sort = sort} {words = words} {sorts = sorts} a as_said) piece braces r =
    subst (λ (b : Bool). IsTrue (if b then runs_fit 0 words else (nat_lt piece 256 && runs_fit (piece + 1) words))) (sym a.ends)
    (kept_runs (parts sort) piece words r.0 (room_runs as_said (piece_after sort piece) (braces_after sort braces) r.2))

-- the braces of words whose sorts have room fit
pub room_braces : {words : List (List ℕ)} {sorts : List Sort} → AllAlike words sorts → (piece braces : ℕ)
    → Room piece braces sorts → IsTrue (braces_fit braces words)
room_braces alike_none piece braces r = refl
room_braces (alike_next {bytes = bytes} {sort = sort} {words = words} {sorts = sorts} a as_said) piece braces r =
    subst (λ (b : Bool). IsTrue ((nat_lt braces 17 || not b) && braces_fit (open_after braces bytes) words)) (sym a.opening)
    (kept_braces (opens_block sort) braces (braces_fit (open_after braces bytes) words) (λ e. r.1 (opens_is sort e))
    (subst (λ (n : ℕ). IsTrue (braces_fit n words)) (sym (open_same sort bytes braces a))
    (room_braces as_said (piece_after sort piece) (braces_after sort braces) r.2)))
