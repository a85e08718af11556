-- The texts of actors: one actor has a text, and a text has no newline.
use Rattle.std.proofs.Common.{◌≡◌, ℕ, ◌+◌, ◌-◌, ◌<◌, ◌^◌, List, [], ◌∷◌, ◌++◌, length, get_or, take, drop, Bool, true, false, true≢false, eqb, eq-eqb, codes, decimal, refl, sym, subst, ap, ◌∙◌, arith, append_assoc}
use Rattle.std.proofs.lemmas.Fmt.{decimal_injective}
use Rattle.sys_base.specs.Actors.{actor_text}
use Rattle.sys_base.specs.declared.actor.Actor.{Actor}
use Rattle.sys_base.specs.declared.actor.Actor.TheVariants.{Cell, Forward, Bind}
use Rattle.schedules.specs.Bytes.{IsFirstByte}
use Rattle.schedules.specs.Entries.{IsShort}
use Rattle.schedules.proofs.Decimals.{lacks_decimal}
use Rattle.schedules.proofs.Lines.{Lacks, cut, lacks_before}

lacks_append : (c : ℕ) (xs ys : List ℕ) → Lacks c xs → Lacks c ys → Lacks c (xs ++ ys)
lacks_append c [] ys h k = k
lacks_append c (x ∷ xs) ys h k = (h.0, lacks_append c xs ys h.1 k)

pub forward_text : (message hop : ℕ) → actor_text (Forward message hop) ≡ 102 ∷ (decimal message ++ 46 ∷ decimal hop)
forward_text message hop = simp append_assoc

pub no_newline : (actor : Actor) → IsShort actor → Lacks 10 (actor_text actor)
no_newline (Cell cell) short = (refl, lacks_decimal 10 cell (omega arith) (omega arith))
no_newline (Forward message hop) short =
    subst (λ (text : List ℕ). Lacks 10 text) (sym (forward_text message hop)) (
      refl,
      lacks_append 10 (decimal message) _ (lacks_decimal 10 message (omega arith) (omega (arith, short.0)))
          (refl, lacks_decimal 10 hop (omega arith) (omega (arith, short.1))),
    )
no_newline (Bind link) short = (refl, lacks_decimal 10 link (omega arith) (omega arith))

-- two lists that are cut at the first c have equal parts
same_cut : (c : ℕ) (xs ys us vs : List ℕ) → Lacks c xs → Lacks c us → xs ++ c ∷ ys ≡ us ++ c ∷ vs → (xs ≡ us) × (ys ≡ vs)
same_cut c [] ys [] vs h k e = (refl, cc)
same_cut c [] ys (u ∷ us) vs h k e =
    let same : u ≡ c = cc in absurd (true≢false (sym (eq-eqb u c same) ∙ k.0))
same_cut c (x ∷ xs) ys [] vs h k e =
    let same : x ≡ c = cc in absurd (true≢false (sym (eq-eqb x c same) ∙ h.0))
same_cut c (x ∷ xs) ys (u ∷ us) vs h k e =
    let head : x ≡ u = cc in
    let tail : xs ++ c ∷ ys ≡ us ++ c ∷ vs = cc in
    let both = same_cut c xs ys us vs h.1 k.1 tail in
    let front : xs ≡ us = both.0 in
    (cc, both.1)

-- the numbers of a forward stand before and behind the first dot
pub numbers_cut : (numbers : List ℕ) (dot message hop : ℕ) → IsFirstByte numbers dot 46 → message < 2 ^ 16
    → 102 ∷ numbers ≡ actor_text (Forward message hop) → (take dot numbers ≡ decimal message) × (drop (dot + 1) numbers ≡ decimal hop)
numbers_cut numbers dot message hop first small e =
    let parts : 102 ∷ numbers ≡ 102 ∷ (decimal message ++ 46 ∷ decimal hop) = e ∙ forward_text message hop in
    let tail : numbers ≡ decimal message ++ 46 ∷ decimal hop = cc in
    same_cut 46 (take dot numbers) (drop (dot + 1) numbers) (decimal message) (decimal hop) (lacks_before numbers dot 46 first)
    (lacks_decimal 46 message (omega arith) (omega arith)) (sym (cut numbers dot 46 first.inside first.here) ∙ tail)

-- texts with different first letters
other_letter : (xs ys : List ℕ) → eqb (get_or xs 0 0) (get_or ys 0 0) ≡ false → xs ≡ ys → ⊥
other_letter xs ys apart same =
    true≢false (sym (eq-eqb (get_or xs 0 0) (get_or ys 0 0) (ap (λ (l : List ℕ). get_or l 0 0) same)) ∙ apart)

pub one_actor : (a b : Actor) → IsShort a → IsShort b → actor_text a ≡ actor_text b → a ≡ b
one_actor (Cell i) (Cell j) h k e =
    let tail : decimal i ≡ decimal j = ap (drop 1) e in ap Cell (decimal_injective i j (omega (arith, h)) (omega (arith, k)) tail)
one_actor (Cell i) (Forward n k') h k e = absurd (other_letter (actor_text (Cell i)) (actor_text (Forward n k')) refl e)
one_actor (Cell i) (Bind l) h k e = absurd (other_letter (actor_text (Cell i)) (actor_text (Bind l)) refl e)
one_actor (Forward m g) (Cell j) h k e = absurd (other_letter (actor_text (Forward m g)) (actor_text (Cell j)) refl e)
one_actor (Forward m g) (Forward n f) h k e =
    let both : 102 ∷ (decimal m ++ 46 ∷ decimal g) ≡ 102 ∷ (decimal n ++ 46 ∷ decimal f) = sym (forward_text m g) ∙ e ∙ forward_text n f in
    let tail : decimal m ++ 46 ∷ decimal g ≡ decimal n ++ 46 ∷ decimal f = ap (drop 1) both in
    let parts = same_cut 46 (decimal m) (decimal g) (decimal n) (decimal f) (lacks_decimal 46 m (omega arith) (omega (arith, h.0)))
    (lacks_decimal 46 n (omega arith) (omega (arith, k.0))) tail in
    let message : m ≡ n = decimal_injective m n (omega (arith, h.0)) (omega (arith, k.0)) parts.0 in
    let hop : g ≡ f = decimal_injective g f (omega (arith, h.1)) (omega (arith, k.1)) parts.1 in
    cc
one_actor (Forward m g) (Bind l) h k e = absurd (other_letter (actor_text (Forward m g)) (actor_text (Bind l)) refl e)
one_actor (Bind l) (Cell j) h k e = absurd (other_letter (actor_text (Bind l)) (actor_text (Cell j)) refl e)
one_actor (Bind l) (Forward n f) h k e = absurd (other_letter (actor_text (Bind l)) (actor_text (Forward n f)) refl e)
one_actor (Bind i) (Bind j) h k e =
    let tail : decimal i ≡ decimal j = ap (drop 1) e in ap Bind (decimal_injective i j (omega (arith, h)) (omega (arith, k)) tail)
