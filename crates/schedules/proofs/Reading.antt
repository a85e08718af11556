-- Any bytes have one list of entries or one first malformed line, and what is written reads back.
use Rattle.std.proofs.Common.{◌≡◌, ◌≢◌, ◌⊎◌, inl, inr, ℕ, zero, suc, ◌+◌, ◌-◌, ◌<◌, ◌^◌, List, [], ◌∷◌, ◌++◌, map, length, get_or, take, drop, Bool, true, false, true≢false, eqb, codes, decimal, refl, sym, ap, ◌∙◌, arith, append-nil, append_assoc, below_more, subst, ◌≤◌}
use Rattle.std.proofs.lemmas.Grind.{flat_map-append}
use Rattle.std.proofs.lemmas.List.{take_more}
use Rattle.std.proofs.lemmas.Slice.Eq.{bytes_eq-Decides}
use Rattle.std.specs.List.{All, flat_map}
use Rattle.std.specs.Str.{bytes_eq}
use Rattle.sys_base.specs.Actors.{actor_text}
use Rattle.sys_base.specs.declared.actor.Actor.{Actor}
use Rattle.sys_base.specs.declared.actor.Actor.TheVariants.{Cell, Forward, Bind}
use Rattle.schedules.specs.Entries.{lines, passed_over, entry_lines, IsShort, HasEntries, IsMalformed, IsBadBehind, IsFirstBadLine, schedule_text}
use Rattle.schedules.proofs.ActorTexts.{no_newline, one_actor}
use Rattle.schedules.proofs.Lines.{Lacks, lacks_by_index, lines_ended}

-- ---- lists of short actors

first_short : (e : Actor) (es : List Actor) → All IsShort (e ∷ es) → IsShort e
first_short e es all = all 0 e (omega arith)

later_short : (e : Actor) (es : List Actor) → All IsShort (e ∷ es) → All IsShort es
later_short e es all k d inside = all (suc k) d (omega arith)

none_short : All IsShort []
none_short k d inside = absurd (omega arith)

more_short : (e : Actor) (es : List Actor) → IsShort e → All IsShort es → All IsShort (e ∷ es)
more_short e es one all zero d inside = one
more_short e es one all (suc k) d inside = all k d (omega arith)

pub push_short : (es : List Actor) (e : Actor) → All IsShort es → IsShort e → All IsShort (es ++ e ∷ [])
push_short [] e all one = more_short e [] one none_short
push_short (x ∷ es) e all one = more_short x _ (first_short x es all) (push_short es e (later_short x es all) one)

-- ---- one reading

pub one_list : (es fs : List Actor) → All IsShort es → All IsShort fs → map actor_text es ≡ map actor_text fs → es ≡ fs
one_list [] [] h k same = refl
one_list [] (f ∷ fs) h k same = cc
one_list (e ∷ es) [] h k same = cc
one_list (e ∷ es) (f ∷ fs) h k same =
    let head : actor_text e ≡ actor_text f = cc in
    let tail : map actor_text es ≡ map actor_text fs = cc in
    let first : e ≡ f = one_actor e f (first_short e es h) (first_short f fs k) head in
    let later : es ≡ fs = one_list es fs (later_short e es h) (later_short f fs k) tail in
    cc

pub one_bad : (es fs : List Actor) (l m : List ℕ) (ls ms : List (List ℕ)) → All IsShort es → All IsShort fs → IsMalformed l → IsMalformed m
    → map actor_text es ++ l ∷ ls ≡ map actor_text fs ++ m ∷ ms → length es ≡ length fs
one_bad [] [] l m ls ms h k bad worse same = refl
one_bad [] (f ∷ fs) l m ls ms h k bad worse same =
    let text : l ≡ actor_text f = cc in absurd (bad f (first_short f fs k) text)
one_bad (e ∷ es) [] l m ls ms h k bad worse same =
    let text : m ≡ actor_text e = cc in absurd (worse e (first_short e es h) text)
one_bad (e ∷ es) (f ∷ fs) l m ls ms h k bad worse same =
    let tail : map actor_text es ++ l ∷ ls ≡ map actor_text fs ++ m ∷ ms = cc in
    ap suc (one_bad es fs l m ls ms (later_short e es h) (later_short f fs k) bad worse tail)

pub never_both : (es fs : List Actor) (m : List ℕ) (ms : List (List ℕ)) → All IsShort es → All IsShort fs → IsMalformed m
    → map actor_text es ≡ map actor_text fs ++ m ∷ ms → ⊥
never_both [] [] m ms h k bad same = cc
never_both [] (f ∷ fs) m ms h k bad same = cc
never_both (e ∷ es) [] m ms h k bad same =
    let text : m ≡ actor_text e = cc in bad e (first_short e es h) text
never_both (e ∷ es) (f ∷ fs) m ms h k bad same =
    let tail : map actor_text es ≡ map actor_text fs ++ m ∷ ms = cc in
    never_both es fs m ms (later_short e es h) (later_short f fs k) bad tail

-- ---- some reading

-- whether one of the numbers below a bound has a property
any_below : (P : ℕ → Type 0) → ((n : ℕ) → P n ⊎ (P n → ⊥)) → (bound : ℕ)
    → ((n : ℕ) × (n < bound) × P n) ⊎ ((n : ℕ) → n < bound → P n → ⊥)
any_below P test zero = inr (λ n low. absurd (omega arith))
any_below P test (suc bound) =
    elim (any_below P test bound) [
      | inl found ↦ inl (found.0, omega (arith, found.1), found.2)
      | inr none ↦ elim (test bound) [
        | inl here ↦ inl (bound, omega arith, here)
        | inr not ↦ inr (λ n low. below_more (λ n. P n → ⊥) bound none not n (omega arith))
      ]
    ]

same_or_not : (xs ys : List ℕ) (t : Bool) → bytes_eq xs ys ≡ t → (xs ≡ ys) ⊎ (xs ≡ ys → ⊥)
same_or_not xs ys true e = inl ((bytes_eq-Decides xs ys).0 e)
same_or_not xs ys false e = inr (λ same. true≢false (sym ((bytes_eq-Decides xs ys).1 same) ∙ e))

is_or_not : (xs ys : List ℕ) → (xs ≡ ys) ⊎ (xs ≡ ys → ⊥)
is_or_not xs ys = same_or_not xs ys (bytes_eq xs ys) refl

abbrev Entry : List ℕ → Type 0
Entry line = (entry : Actor) × IsShort entry × (line ≡ actor_text entry)

cell_or_not : (line : List ℕ) → Entry line ⊎ ((n : ℕ) → n < 2 ^ 16 → line ≡ actor_text (Cell n) → ⊥)
cell_or_not line = elim (any_below (λ n. line ≡ actor_text (Cell n)) (λ n. is_or_not line (actor_text (Cell n))) (2 ^ 16)) [
  | inl found ↦ inl (Cell found.0, found.1, found.2)
  | inr none ↦ inr none
]

bind_or_not : (line : List ℕ) → Entry line ⊎ ((n : ℕ) → n < 2 ^ 16 → line ≡ actor_text (Bind n) → ⊥)
bind_or_not line = elim (any_below (λ n. line ≡ actor_text (Bind n)) (λ n. is_or_not line (actor_text (Bind n))) (2 ^ 16)) [
  | inl found ↦ inl (Bind found.0, found.1, found.2)
  | inr none ↦ inr none
]

abbrev Hop : List ℕ → ℕ → Type 0
Hop line message = (hop : ℕ) × (hop < 2 ^ 16) × (line ≡ actor_text (Forward message hop))

hop_or_not : (line : List ℕ) (message : ℕ) → Hop line message ⊎ (Hop line message → ⊥)
hop_or_not line message =
    elim (any_below (λ n. line ≡ actor_text (Forward message n)) (λ n. is_or_not line (actor_text (Forward message n))) (2 ^ 16)) [
      | inl found ↦ inl found
      | inr none ↦ inr (λ found. none found.0 found.1 found.2)
    ]

forward_or_not : (line : List ℕ) → Entry line ⊎ ((m h : ℕ) → m < 2 ^ 16 → h < 2 ^ 16 → line ≡ actor_text (Forward m h) → ⊥)
forward_or_not line = elim (any_below (Hop line) (hop_or_not line) (2 ^ 16)) [
  | inl found ↦ inl (Forward found.0 found.2.0, (found.1, found.2.1), found.2.2)
  | inr none ↦ inr (λ m h low small e. none m low (h, small, e))
]

malformed : (line : List ℕ) → ((n : ℕ) → n < 2 ^ 16 → line ≡ actor_text (Cell n) → ⊥)
    → ((m h : ℕ) → m < 2 ^ 16 → h < 2 ^ 16 → line ≡ actor_text (Forward m h) → ⊥)
    → ((n : ℕ) → n < 2 ^ 16 → line ≡ actor_text (Bind n) → ⊥) → IsMalformed line
malformed line cell forward bind (Cell n) short e = cell n short e
malformed line cell forward bind (Forward m h) short e = forward m h short.0 short.1 e
malformed line cell forward bind (Bind n) short e = bind n short e

entry_or_not : (line : List ℕ) → Entry line ⊎ IsMalformed line
entry_or_not line = elim (cell_or_not line) [
  | inl entry ↦ inl entry
  | inr no_cell ↦ elim (forward_or_not line) [
    | inl entry ↦ inl entry
    | inr no_forward ↦ elim (bind_or_not line) [
      | inl entry ↦ inl entry
      | inr no_bind ↦ inr (malformed line no_cell no_forward no_bind)
    ]
  ]
]

abbrev Read : List (List ℕ) → Type 0
Read ls = (es : List Actor) × (ls ≡ map actor_text es) × All IsShort es

abbrev Bad : List (List ℕ) → Type 0
Bad ls = (es : List Actor) × (line : List ℕ) × (others : List (List ℕ)) × (ls ≡ map actor_text es ++ line ∷ others) × All IsShort es
    × IsMalformed line

read_or_bad : (ls : List (List ℕ)) → Read ls ⊎ Bad ls
read_or_bad [] = inl ([], refl, none_short)
read_or_bad (line ∷ ls) = elim (entry_or_not line) [
  | inr bad ↦ inr ([], line, ls, refl, none_short, bad)
  | inl entry ↦ elim (read_or_bad ls) [
    | inl read ↦ inl (entry.0 ∷ read.0, (let h : line ≡ actor_text entry.0 = entry.2 in let t : ls ≡ map actor_text read.0 = read.1 in cc), more_short entry.0 read.0 entry.1 read.2)
    | inr bad ↦ inr (entry.0 ∷ bad.0, bad.1, bad.2, (let h : line ≡ actor_text entry.0 = entry.2 in let t : ls ≡ map actor_text bad.0 ++ bad.1 ∷ bad.2 = bad.3 in cc), more_short entry.0 bad.0 entry.1 bad.4, bad.5)
  ]
]

pub some_reading : (bytes : List ℕ) → ((es : List Actor) × HasEntries bytes es) ⊎ ((n : ℕ) × IsFirstBadLine bytes n)
some_reading bytes = elim (read_or_bad (entry_lines bytes)) [
  | inl read ↦ inl (read.0, record { texts = read.1; short = read.2 })
  | inr bad ↦ inr (passed_over bytes + length bad.0 + 1, (bad.0, bad.1, bad.2, refl, record { texts = bad.3; short = bad.4; malformed = bad.5 }))
]

-- ---- reading back

pub lines_written : (es : List Actor) → All IsShort es → lines (schedule_text es) ≡ map actor_text es
lines_written [] all = refl
lines_written (e ∷ es) all =
    let later : lines (schedule_text es) ≡ map actor_text es = lines_written es (later_short e es all) in
    ap lines (append_assoc (actor_text e) (10 ∷ []) (schedule_text es))
    ∙ lines_ended (actor_text e) (schedule_text es) (no_newline e (first_short e es all))
    ∙ ap (λ r. actor_text e ∷ r) later

passed_none : (es : List Actor) → passed_over (schedule_text es) ≡ 0
passed_none [] = refl
passed_none (Cell i ∷ es) = refl
passed_none (Forward m h ∷ es) = refl
passed_none (Bind l ∷ es) = refl

pub written : (es : List Actor) → All IsShort es → HasEntries (schedule_text es) es
written es all = record { texts = rw (passed_none es) (lines_written es all); short = all }

behind : (line : List ℕ) (es : List Actor) → get_or line 0 0 ≡ 123 → Lacks 10 line → All IsShort es
    → entry_lines (line ++ 10 ∷ schedule_text es) ≡ map actor_text es
behind [] es first lacks all = absurd (omega (arith, first))
behind (b ∷ line) es first lacks all =
    let brace : b ≡ 123 = first in
    rw (lines_ended (b ∷ line) (schedule_text es) lacks) (rw brace (lines_written es all))

pub written_behind : (line : List ℕ) (es : List Actor) → get_or line 0 0 ≡ 123 → All (λ b. b ≢ 10) line → All IsShort es
    → HasEntries (line ++ codes "\n" ++ schedule_text es) es
written_behind line es first plain all = record {
  texts = rw (append_assoc line (codes "\n") (schedule_text es))
      (behind line es first (lacks_by_index 10 line (λ k inside. plain k 0 inside)) all);
  short = all;
}

-- the text of one more entry
pub text_more : (es : List Actor) (i : ℕ) (d : Actor) → i < length es
    → schedule_text (take (i + 1) es) ≡ schedule_text (take i es) ++ (actor_text (get_or es i d) ++ codes "\n")
text_more es i d inside = rw (take_more es i d inside)
    (flat_map-append (λ entry. actor_text entry ++ codes "\n") (take i es) (get_or es i d ∷ [])
    ∙ ap (λ (r : List ℕ). schedule_text (take i es) ++ r) (append-nil (actor_text (get_or es i d) ++ codes "\n")))

pub short_more : (es : List Actor) (i : ℕ) (d : Actor) → All IsShort (take i es) → IsShort (get_or es i d) → i < length es
    → All IsShort (take (i + 1) es)
short_more es i d all one inside = rw (take_more es i d inside) (push_short (take i es) (get_or es i d) all one)

take_past : (es : List Actor) (i : ℕ) → length es ≤ i → take i es ≡ es
take_past [] zero past = refl
take_past [] (suc i) past = refl
take_past (e ∷ es) zero past = absurd (omega arith)
take_past (e ∷ es) (suc i) past = ap (λ (r : List Actor). e ∷ r) (take_past es i (omega arith))

-- all entries are written
pub text_whole : (text : List ℕ) (es : List Actor) (i : ℕ) → text ≡ schedule_text (take i es) → length es ≤ i → text ≡ schedule_text es
text_whole text es i same past = same ∙ ap schedule_text (take_past es i past)

pub short_whole : (es : List Actor) (i : ℕ) → All IsShort (take i es) → length es ≤ i → All IsShort es
short_whole es i all past = subst (λ (l : List Actor). All IsShort l) (take_past es i past) all

pub reads_back : (text : List ℕ) (es : List Actor) → text ≡ schedule_text es → All IsShort es → HasEntries text es
reads_back text es same all = subst (λ (t : List ℕ). HasEntries t es) (sym same) (written es all)

pub reads_behind : (text : List ℕ) (es : List Actor) → text ≡ schedule_text es → All IsShort es → (line : List ℕ) → get_or line 0 0 ≡ 123
    → All (λ b. b ≢ 10) line → HasEntries (line ++ codes "\n" ++ text) es
reads_behind text es same all line first plain =
    subst (λ (t : List ℕ). HasEntries (line ++ codes "\n" ++ t) es) (sym same) (written_behind line es first plain all)
