-- The first of what rules give.
use Rattle.std.proofs.Common.{◌≡◌, ℕ, zero, suc, ◌+◌, ◌<◌, ◌≤◌, List, [], ◌∷◌, ◌++◌, Option, None, Some, filter_map, flat_map, length, get_or, take, drop, slice_get, sym, ◌∙◌, ap, refl, ⊎_elim, take-append-drop, arith}
use Rattle.std.proofs.lemmas.Bool.{cases_eq}
use Rattle.std.proofs.lemmas.List.{drop_more, take_more}
use Rattle.std.proofs.lemmas.List.Elements.{filter_map-append}
use Rattle.std.specs.List.{cons_option, range_with_len}

-- the first element at which a rule gives something
pub first_given : {A B : Type 0} (f : A → Option B) (xs : List A) (i : ℕ) (x : A) (y : B) → i < length xs → x ≡ get_or xs i x
    → filter_map f (take i xs) ≡ [] → f x ≡ Some y → Some y ≡ slice_get (filter_map f xs) 0
first_given f xs i x y l is none gives =
    let split = take-append-drop i xs in
    let later = drop_more xs i x l ∙ ap (λ z. z ∷ drop (i + 1) xs) (sym is) in
    let parts = filter_map-append f (take i xs) (drop i xs) in
    let front = ap (λ ys. ys ++ filter_map f (drop i xs)) none in
    let back = ap (filter_map f) later ∙ ap (λ o. cons_option o (filter_map f (drop (i + 1) xs))) gives in
    sym (ap (λ ys. slice_get ys 0) (sym (ap (filter_map f) split) ∙ parts ∙ front ∙ back))

-- a rule that gives nothing at the next element either
pub none_more : {A B : Type 0} (f : A → Option B) (xs : List A) (i : ℕ) (x : A) → i < length xs → x ≡ get_or xs i x
    → filter_map f (take i xs) ≡ [] → f x ≡ None → filter_map f (take (i + 1) xs) ≡ []
none_more f xs i x l is none gives =
    let split = take_more xs i x l ∙ ap (λ z. take i xs ++ z ∷ []) (sym is) in
    let parts = filter_map-append f (take i xs) (x ∷ []) in
    let front = ap (λ ys. ys ++ filter_map f (x ∷ [])) none in
    let back = ap (λ o. cons_option o []) gives in
    ap (filter_map f) split ∙ parts ∙ front ∙ back

-- lists with no first element are empty
pub empty_if_none : {A : Type 0} (xs : List A) → None ≡ slice_get xs 0 → xs ≡ []
empty_if_none [] h = refl
empty_if_none (x ∷ xs) h = cc

-- lists of which all before one are empty
first_from : {A : Type 0} (h : ℕ → List A) (a n i : ℕ) (y : A) → a ≤ i → i < a + n → ((k : ℕ) → k < i → h k ≡ [])
    → Some y ≡ slice_get (h i) 0 → Some y ≡ slice_get (flat_map h (range_with_len a n)) 0
first_from h a zero i y from to none is = absurd (omega arith)
first_from h a (suc n) i y from to none is =
    let more = flat_map h (range_with_len (a + 1) n) in
    ⊎_elim (λ (same : a ≡ i). in_front (h a) more y (is ∙ ap (λ k. slice_get (h k) 0) (sym same)))
    (λ (other : a ≡ i → ⊥). first_from h (a + 1) n i y (omega arith) (omega arith) none is
    ∙ ap (λ ys. slice_get (ys ++ more) 0) (sym (none a (omega arith))))
    (cases_eq a i)
  where
    in_front : {A : Type 0} (xs ys : List A) (y : A) → Some y ≡ slice_get xs 0 → Some y ≡ slice_get (xs ++ ys) 0
    in_front [] ys y h = cc
    in_front (x ∷ xs) ys y h = h

-- the first of all lists is that of the first one that is not empty
pub first_of_lists : {A : Type 0} (h : ℕ → List A) (n i : ℕ) (y : A) → i < n → ((k : ℕ) → k < i → h k ≡ [])
    → Some y ≡ slice_get (h i) 0 → Some y ≡ slice_get (flat_map h (range_with_len 0 n)) 0
first_of_lists h n i y l none is = first_from h 0 n i y (omega arith) (omega arith) none is

-- lists that are all empty
none_from : {A : Type 0} (h : ℕ → List A) (a n : ℕ) → ((k : ℕ) → k < a + n → h k ≡ []) → flat_map h (range_with_len a n) ≡ []
none_from h a zero none = refl
none_from h a (suc n) none =
    ap (λ ys. ys ++ flat_map h (range_with_len (a + 1) n)) (none a (omega arith))
    ∙ none_from h (a + 1) n (λ k l. none k (omega arith))

-- the first of lists that are all empty
pub none_of_lists : {A : Type 0} (h : ℕ → List A) (n : ℕ) → ((k : ℕ) → k < n → h k ≡ [])
    → None ≡ slice_get (flat_map h (range_with_len 0 n)) 0
none_of_lists h n none = ap (λ ys. slice_get ys 0) (sym (none_from h 0 n (λ k l. none k (omega arith))))
