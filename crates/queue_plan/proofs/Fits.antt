-- Groups fit the queues of their link where no link lacks queues.
use Rattle.std.proofs.Common.{◌≡◌, ℕ, zero, suc, ◌+◌, ◌<◌, ◌≤◌, Bool, true, false, cond, List, [], ◌∷◌, ◌++◌, Option, None, Some, filter_map, flat_map, length, slice_get, slice_index, nat_lt, sym, ◌∙◌, ap, refl, ⊎_elim, arith}
use Rattle.std.proofs.lemmas.Bool.{cases_eq, cases_lt, ltb-false}
use Rattle.std.proofs.lemmas.List.{get_or_past}
use Rattle.std.specs.List.{cons_option, range_with_len}
use Rattle.queue_plan.specs.Grouping.{groups_at}
use Rattle.queue_plan.specs.Lacks.{lack_of, lacks}
use Rattle.queue_plan.specs.declared.lack.Lack.{Lack}

-- the first and the second of two lists that are empty together
front_none : {A : Type 0} (xs ys : List A) → xs ++ ys ≡ [] → xs ≡ []
front_none [] ys e = refl
front_none (x ∷ xs) ys e = absurd (cc e)

back_none : {A : Type 0} (xs ys : List A) → xs ++ ys ≡ [] → ys ≡ []
back_none [] ys e = e
back_none (x ∷ xs) ys e = absurd (cc e)

-- where the lists at all numbers are empty together, each is
each_none : {A : Type 0} (h : ℕ → List A) (a n k : ℕ) → flat_map h (range_with_len a n) ≡ [] → a ≤ k → k < a + n → h k ≡ []
each_none h a zero k e from to = absurd (omega arith)
each_none h a (suc n) k e from to =
    let later = flat_map h (range_with_len (a + 1) n) in
    ⊎_elim (λ (same : k ≡ a). ap h same ∙ front_none (h a) later e)
    (λ (other : k ≡ a → ⊥). each_none h (a + 1) n k (back_none (h a) later e) (omega arith) (omega arith))
    (cases_eq k a)

-- a rule that gives nothing over a list gives nothing at each place
none_at : {A B : Type 0} (f : A → Option B) (xs : List A) (k : ℕ) (x : A) → filter_map f xs ≡ [] → slice_get xs k ≡ Some x → f x ≡ None
none_at f [] k x e at = absurd (cc at)
none_at {B = B} f (y ∷ ys) zero x e at = ap f (sym (cc at)) ∙ here (f y) e
  where
    here : (o : Option B) → cons_option o (filter_map f ys) ≡ [] → o ≡ None
    here None e = refl
    here (Some z) e = absurd (cc e)
none_at {B = B} f (y ∷ ys) (suc k) x e at = none_at f ys k x (later (f y) e) at
  where
    later : (o : Option B) → cons_option o (filter_map f ys) ≡ [] → filter_map f ys ≡ []
    later None e = e
    later (Some z) e = absurd (cc e)

-- a group that lacks nothing has no more members than there are queues
no_more : (link queues : ℕ) (group : ℕ × List ℕ) → lack_of link queues group ≡ None → length group.1 ≤ queues
no_more link queues group none = by_test (nat_lt queues (length group.1)) refl none
  where
    by_test : (b : Bool) → nat_lt queues (length group.1) ≡ b
        → cond {A = Option Lack} b (Some (record { link = link; label = group.0; need = length group.1; has = queues })) None ≡ None
        → length group.1 ≤ queues
    by_test true t e = absurd (cc e)
    by_test false t e = ltb-false queues (length group.1) t

-- a group of a link has no more members than the link has queues
pub fits_law : (links : List (List (ℕ × List ℕ))) (queues : List ℕ) (link place : ℕ) (group : ℕ × List ℕ) → lacks links queues ≡ []
    → slice_get (groups_at links link) place ≡ Some group → length group.1 ≤ slice_index queues link
fits_law links queues link place group none at =
    ⊎_elim
    (λ (within : link < length links).
    no_more link (slice_index queues link) group
    (none_at (lack_of link (slice_index queues link)) (groups_at links link) place group
    (each_none (λ l. filter_map (lack_of l (slice_index queues l)) (groups_at links l)) 0 (length links) link none (omega arith) (omega arith)) at))
    (λ (past : length links ≤ link).
    absurd (cc (sym (ap (λ gs. slice_get gs place) (get_or_past links link [] past)) ∙ at)))
    (cases_lt link (length links))
