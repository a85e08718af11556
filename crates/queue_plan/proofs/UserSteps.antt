-- Steps by which the users of links are noted.
use Rattle.std.proofs.Common.{◌≡◌, ℕ, ◌+◌, ◌<◌, ◌||◌, true, false, List, [], ◌∷◌, ◌++◌, length, get_or, set, take, nat_eq, if◌then◌else◌, sym, ◌∙◌, ap, ⊎_elim, get_or-set_same, get_or-set_other, get_or-take, length-take, arith, append-nil}
use Rattle.std.proofs.lemmas.Bool.{cases_eq, eq-eqb, ne_eqb, or_right}
use Rattle.std.proofs.lemmas.List.{get_or_default}
use Rattle.std.proofs.lemmas.List.Elements.{All-from_get_or}
use Rattle.std.proofs.lemmas.List.Folds.{list_any_more, list_any_none}
use Rattle.std.proofs.Math.Bool.{or-false}
use Rattle.cell_types.specs.Groups.{is_one_of}
use Rattle.sys_base.specs.Paths.{Differ}

-- the message, where the link is one of the route
abbrev pub one_if : List ℕ → ℕ → ℕ → List ℕ
one_if route message link = if is_one_of route link then message ∷ [] else []

-- the next link of a route is not one of those before it
not_before : (route : List ℕ) (i : ℕ) → i < length route → Differ route → is_one_of (take i route) (get_or route i 0) ≡ false
not_before route i l differ =
    let link = get_or route i 0 in
    list_any_none (nat_eq link) (take i route)
    (All-from_get_or (λ k. nat_eq link k ≡ false) (take i route) 0 (λ j within.
    let j' : j < i = omega (arith, within, length-take i route) in
    ap (nat_eq link) (get_or-take i route j 0 j')
    ∙ ne_eqb link (get_or route j 0) (λ e. differ j i 0 j' l (sym e))))

-- a message is added to the users of the next link of its route
pub one_link : (old users : List (List ℕ)) (route : List ℕ) (i message : ℕ) (messages other : List ℕ) → i < length route → Differ route
    → length users ≡ length old → get_or route i 0 < length users → messages ≡ get_or users (get_or route i 0) other
    → ((k : ℕ) → k < length old → get_or users k [] ≡ get_or old k [] ++ one_if (take i route) message k)
    → (k : ℕ) → k < length old
    → get_or (set users (get_or route i 0) (messages ++ message ∷ [])) k [] ≡ get_or old k [] ++ one_if (take (i + 1) route) message k
one_link old users route i message messages d l differ long within is before k in' =
    let link = get_or route i 0 in
    let more = list_any_more (nat_eq k) route i 0 l in
    ⊎_elim
    (λ (same : k ≡ link).
    let here : messages ≡ get_or old link [] =
    is ∙ get_or_default users link d [] within ∙ before link (omega arith)
    ∙ ap (λ b. get_or old link [] ++ (if b then message ∷ [] else [])) (not_before route i l differ) ∙ append-nil (get_or old link []) in
    let now : is_one_of (take (i + 1) route) k ≡ true = more ∙ or_right (is_one_of (take i route) k) (nat_eq k link) (eq-eqb k link same) in
    ap (λ j. get_or (set users link (messages ++ message ∷ [])) j []) same
    ∙ get_or-set_same users link (messages ++ message ∷ []) [] within
    ∙ ap (λ ms. ms ++ message ∷ []) (here ∙ ap (λ j. get_or old j []) (sym same))
    ∙ ap (λ b. get_or old k [] ++ (if b then message ∷ [] else [])) (sym now))
    (λ (other : k ≡ link → ⊥).
    let now : is_one_of (take (i + 1) route) k ≡ is_one_of (take i route) k =
    more ∙ ap (λ b. is_one_of (take i route) k || b) (ne_eqb k link other) ∙ or-false (is_one_of (take i route) k) in
    get_or-set_other users link k (messages ++ message ∷ []) [] other ∙ before k in'
    ∙ ap (λ b. get_or old k [] ++ (if b then message ∷ [] else [])) (sym now))
    (cases_eq k link)
