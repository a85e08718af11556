-- How some bytes fall into lines.
use Rattle.std.proofs.Common.{◌≡◌, ℕ, zero, suc, ◌+◌, ◌-◌, ◌<◌, ◌≤◌, List, [], ◌∷◌, ◌++◌, length, get_or, take, drop, Bool, true, false, eqb, eq-eqb, refl, sym, ap, ◌∙◌, arith, take-append-drop, drop-cons, add-one, length-take, length-drop}
use Rattle.std.proofs.Math.Seq.{take-length}
use Rattle.std.proofs.lemmas.List.{get_or-take}
use Rattle.std.specs.List.{onto_first}
use Rattle.schedules.specs.Bytes.{IsFirstByte}
use Rattle.schedules.specs.Entries.{lines}

-- A byte stands nowhere in some bytes.
abbrev pub Lacks : ℕ → List ℕ → Type 0
Lacks c [] = Unit {0}
Lacks c (b ∷ bytes) = (eqb b c ≡ false) × Lacks c bytes

differ : (b c : ℕ) (t : Bool) → eqb b c ≡ t → (b ≡ c → ⊥) → eqb b c ≡ false
differ b c true e other = absurd (other (grind (arith, e)))
differ b c false e other = e

pub lacks_by_index : (c : ℕ) (bytes : List ℕ) → ((k : ℕ) → k < length bytes → get_or bytes k 0 ≡ c → ⊥) → Lacks c bytes
lacks_by_index c [] h = tt
lacks_by_index c (b ∷ bytes) h =
    (differ b c (eqb b c) refl (h 0 (omega arith)), lacks_by_index c bytes (λ k inside. h (suc k) (omega arith)))

pub lines_ended : (line rest : List ℕ) → Lacks 10 line → lines (line ++ 10 ∷ rest) ≡ line ∷ lines rest
lines_ended [] rest h = refl
lines_ended (b ∷ line) rest h = rw (h.0, lines_ended line rest h.1) refl

pub lines_last : (b : ℕ) (line : List ℕ) → Lacks 10 (b ∷ line) → lines (b ∷ line) ≡ (b ∷ line) ∷ []
lines_last b [] h = rw h.0 refl
lines_last b (c ∷ line) h = rw (h.0, lines_last c line h.1) refl

-- some bytes are those before a place, the byte there, and those behind it
pub cut : (bytes : List ℕ) (at c : ℕ) → at < length bytes → get_or bytes at 0 ≡ c → bytes ≡ take at bytes ++ c ∷ drop (at + 1) bytes
cut bytes at c inside here =
    sym (take-append-drop at bytes) ∙ ap (λ r. take at bytes ++ r) (drop-cons bytes at 0 inside ∙ rw (here, add-one) refl)

pub lacks_before : (bytes : List ℕ) (at c : ℕ) → IsFirstByte bytes at c → Lacks c (take at bytes)
lacks_before bytes at c first = lacks_by_index c (take at bytes) (λ k inside.
    let below : k < at = omega (arith, length-take at bytes) in
    λ same. first.first k below (sym (get_or-take at bytes k 0 below) ∙ same))

-- the bytes before the first newline, and those behind it
pub lines_split : (bytes : List ℕ) (at : ℕ) → IsFirstByte bytes at 10 → lines bytes ≡ take at bytes ∷ lines (drop (at + 1) bytes)
lines_split bytes at first =
    ap lines (cut bytes at 10 first.inside first.here) ∙ lines_ended (take at bytes) _ (lacks_before bytes at 10 first)

pub lines_whole : (bytes : List ℕ) → 0 < length bytes → ((k : ℕ) → k < length bytes → get_or bytes k 0 ≡ 10 → ⊥) → lines bytes ≡ bytes ∷ []
lines_whole [] some none = absurd (omega arith)
lines_whole (b ∷ bytes) some none = lines_last b bytes (lacks_by_index 10 (b ∷ bytes) none)

-- what a slice up to the end takes is all that is left
pub all_left : (xs : List ℕ) (n : ℕ) → take (length xs - n) (drop n xs) ≡ drop n xs
all_left xs n = rw (← length-drop n xs) (take-length (drop n xs))
