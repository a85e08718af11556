-- Counts, searches and filters over the numbers of a range.
use Rattle.std.proofs.Common.{◌≡◌, ℕ, zero, suc, ◌+◌, ◌<◌, ◌≤◌, Bool, true, false, cond, not, ◌&&◌, List, [], ◌∷◌, ◌++◌, add-one, Some, length, map, sym, ◌∙◌, ap, subst, refl, inl, inr, ⊎_elim, arith}
use Rattle.std.specs.List.{count_by, filter, find, list_any, range_with_len}
use Rattle.std.specs.Option.{unwrap_or}
use Rattle.std.proofs.lemmas.Bool.{cases_eq, cases_Bool, cases_order, or_cases, or_left, or_right, false≢true}
use Rattle.std.proofs.lemmas.List.{map-append}
use Rattle.std.proofs.lemmas.List.Elements.{filter-append}
use Rattle.std.proofs.lemmas.List.Sums.{sum_by-cons, sum_by_push, sum_by-le-sum_by, length-filter}

-- one that passes counts no less, if what passes the one test passes the other
one_le : (p q : Bool) → (p ≡ true → q ≡ true) → cond p 1 0 ≤ cond q 1 0
one_le true true h = omega arith
one_le true false h = absurd (false≢true (h refl))
one_le false true h = omega arith
one_le false false h = omega arith

-- the first number of a range counts for itself
count_first : (p : ℕ → Bool) (a n : ℕ)
    → count_by p (range_with_len a (suc n)) ≡ cond (p a) 1 0 + count_by p (range_with_len (a + 1) n)
count_first p a n = sum_by-cons (λ x. cond (p x) 1 0) a (range_with_len (a + 1) n)

-- no fewer pass a test that is passed wherever another one is
pub count_le : (p q : ℕ → Bool) (a n : ℕ) → ((x : ℕ) → a ≤ x → x < a + n → p x ≡ true → q x ≡ true)
    → count_by p (range_with_len a n) ≤ count_by q (range_with_len a n)
count_le p q a zero h = omega arith
count_le p q a (suc n) h =
    let here = one_le (p a) (q a) (h a (omega arith) (omega arith)) in
    let rest = count_le p q (a + 1) n (λ x l u. h x (omega arith) (omega arith)) in
    omega (arith, here, rest, count_first p a n, count_first q a n)

-- more pass such a test, if one passes it that does not pass the other
pub count_lt : (p q : ℕ → Bool) (a n : ℕ) → ((x : ℕ) → a ≤ x → x < a + n → p x ≡ true → q x ≡ true) → (x : ℕ) → a ≤ x → x < a + n
    → p x ≡ false → q x ≡ true → count_by p (range_with_len a n) < count_by q (range_with_len a n)
count_lt p q a zero h x l u off on = absurd (omega arith)
count_lt p q a (suc n) h x l u off on =
    ⊎_elim
    (λ e.
    let one : Bool → ℕ = λ b. cond b 1 0 in
    let fails : one (p a) ≡ 0 = ap one (ap p e ∙ off) in
    let passes : one (q a) ≡ 1 = ap one (ap q e ∙ on) in
    let rest = count_le p q (a + 1) n (λ y l' u'. h y (omega arith) (omega arith)) in
    omega (arith, fails, passes, rest, count_first p a n, count_first q a n))
    (λ ne.
    let here = one_le (p a) (q a) (h a (omega arith) (omega arith)) in
    let rest = count_lt p q (a + 1) n (λ y l' u'. h y (omega arith) (omega arith)) x (omega arith) (omega arith) off on in
    omega (arith, here, rest, count_first p a n, count_first q a n))
    (cases_eq a x)

-- as many pass a test with the same answers
pub count_same : (p q : ℕ → Bool) (a n : ℕ) → ((x : ℕ) → a ≤ x → x < a + n → p x ≡ q x)
    → count_by p (range_with_len a n) ≡ count_by q (range_with_len a n)
count_same p q a n h =
    let up = count_le p q a n (λ x l u t. sym (h x l u) ∙ t) in
    let down = count_le q p a n (λ x l u t. h x l u ∙ t) in
    omega arith

-- The number is the first from a on that passes the test.
pub record IsFirst (p : ℕ → Bool) (a f : ℕ) : Type 0 where
  pub passes : p f ≡ true
  pub from : a ≤ f
  pub none : (x : ℕ) → a ≤ x → x < f → p x ≡ false

-- the search finds the first number that passes, if one does
pub finds_first : (p : ℕ → Bool) (a n d x : ℕ) → a ≤ x → x < a + n → p x ≡ true
    → IsFirst p a (unwrap_or (find p (range_with_len a n)) d)
finds_first p a zero d x l u t = absurd (omega arith)
finds_first p a (suc n) d x l u t =
    let P : ℕ → Type 0 = IsFirst p a in
    let rest = unwrap_or (find p (range_with_len (a + 1) n)) d in
    ⊎_elim
    (λ on.
    let e : unwrap_or (find p (range_with_len a (suc n))) d ≡ a =
    ap (λ b. unwrap_or (cond b (Some a) (find p (range_with_len (a + 1) n))) d) on in
    subst P (sym e) (record { passes = on; from = omega arith; none = λ y l' u'. absurd (omega arith) }))
    (λ off.
    let e : unwrap_or (find p (range_with_len a (suc n))) d ≡ rest =
    ap (λ b. unwrap_or (cond b (Some a) (find p (range_with_len (a + 1) n))) d) off in
    let apart : a ≡ x → ⊥ = λ same. false≢true (sym off ∙ ap p same ∙ t) in
    let later = finds_first p (a + 1) n d x (omega (arith, apart)) (omega arith) t in
    let le = later.from in
    subst P (sym e)
    (record {
      passes = later.passes;
      from = omega arith;
      none = λ y l' u'.
          ⊎_elim (λ same. ap p (sym same) ∙ off) (λ ne. later.none y (omega arith) u') (cases_eq a y);
    }))
    (cases_Bool (p a))

-- a test that some number of the range passes
pub any_at : (p : ℕ → Bool) (a n x : ℕ) → a ≤ x → x < a + n → p x ≡ true → list_any p (range_with_len a n) ≡ true
any_at p a zero x l u t = absurd (omega arith)
any_at p a (suc n) x l u t =
    ⊎_elim
    (λ e. or_left (p a) (list_any p (range_with_len (a + 1) n)) (ap p e ∙ t))
    (λ ne. or_right (p a) (list_any p (range_with_len (a + 1) n)) (any_at p (a + 1) n x (omega arith) (omega arith) t))
    (cases_eq a x)

-- The number is in the range and passes the test.
pub record Passes (p : ℕ → Bool) (a n : ℕ) : Type 0 where
  pub at : ℕ
  pub from : a ≤ at
  pub within : at < a + n
  pub passes : p at ≡ true

pub any_passes : (p : ℕ → Bool) (a n : ℕ) → list_any p (range_with_len a n) ≡ true → Passes p a n
any_passes p a zero t = absurd (false≢true t)
any_passes p a (suc n) t =
    ⊎_elim
    (λ here. record { at = a; from = omega arith; within = omega arith; passes = here })
    (λ later.
    let h = any_passes p (a + 1) n later in
    let le = h.from in
    let lt = h.within in
    record { at = h.at; from = omega arith; within = omega arith; passes = h.passes })
    (or_cases (p a) (list_any p (range_with_len (a + 1) n)) t)

-- functions with the same values over a range
pub map_same : {X : Type 0} (f g : ℕ → X) (a n : ℕ) → ((x : ℕ) → a ≤ x → x < a + n → f x ≡ g x)
    → map f (range_with_len a n) ≡ map g (range_with_len a n)
map_same f g a zero h = refl
map_same f g a (suc n) h =
    ap (λ y. y ∷ map f (range_with_len (a + 1) n)) (h a (omega arith) (omega arith))
    ∙ ap (λ ys. g a ∷ ys) (map_same f g (a + 1) n (λ x l u. h x (omega arith) (omega arith)))

-- tests with the same answers over a range
pub filter_same : (p q : ℕ → Bool) (a n : ℕ) → ((x : ℕ) → a ≤ x → x < a + n → p x ≡ q x)
    → filter p (range_with_len a n) ≡ filter q (range_with_len a n)
filter_same p q a zero h = refl
filter_same p q a (suc n) h =
    let rest = filter_same p q (a + 1) n (λ x l u. h x (omega arith) (omega arith)) in
    ap (λ b. cond b (a ∷ filter p (range_with_len (a + 1) n)) (filter p (range_with_len (a + 1) n))) (h a (omega arith) (omega arith))
    ∙ ap (λ ys. cond (q a) (a ∷ ys) ys) rest

-- what passes two tests, one before a function and one after it
filter_twice_at : {X : Type 0} (f : ℕ → X) (g : X → Bool) (x : ℕ) (ys : List ℕ) (zs : List ℕ) (b : Bool)
    → filter g (map f ys) ≡ map f zs
    → filter g (map f (cond b (x ∷ ys) ys)) ≡ map f (cond (b && g (f x)) (x ∷ zs) zs)
filter_twice_at f g x ys zs true h =
    ap (λ r. cond (g (f x)) (f x ∷ r) r) h ∙ picked (g (f x))
  where
    picked : (c : Bool) → cond c (f x ∷ map f zs) (map f zs) ≡ map f (cond c (x ∷ zs) zs)
    picked true = refl
    picked false = refl
filter_twice_at f g x ys zs false h = h

pub filter_twice : {X : Type 0} (f : ℕ → X) (p : ℕ → Bool) (g : X → Bool) (xs : List ℕ)
    → filter g (map f (filter p xs)) ≡ map f (filter (λ x. p x && g (f x)) xs)
filter_twice f p g [] = refl
filter_twice f p g (x ∷ xs) =
    filter_twice_at f g x (filter p xs) (filter (λ y. p y && g (f y)) xs) (p x) (filter_twice f p g xs)

-- no fewer of a list pass a test that is passed wherever another one is
pub filter_le : {X : Type 0} (p q : X → Bool) (xs : List X) → ((x : X) → p x ≡ true → q x ≡ true)
    → length (filter p xs) ≤ length (filter q xs)
filter_le p q xs h =
    omega (
      arith,
      length-filter p xs,
      length-filter q xs,
      sum_by-le-sum_by (λ x. cond (p x) 1 0) (λ x. cond (q x) 1 0) xs (λ x. one_le (p x) (q x) (h x)),
    )

-- the first of a list counts for itself
filter_first : {X : Type 0} (p : X → Bool) (x : X) (xs : List X) → length (filter p (x ∷ xs)) ≡ cond (p x) 1 0 + length (filter p xs)
filter_first p x xs =
    length-filter p (x ∷ xs) ∙ sum_by-cons (λ y. cond (p y) 1 0) x xs ∙ ap (λ n. cond (p x) 1 0 + n) (sym (length-filter p xs))

-- more pass such a test, if one passes it that does not pass the other
pub filter_lt : {X : Type 0} (p q : X → Bool) (xs : List X) → ((x : X) → p x ≡ true → q x ≡ true)
    → list_any (λ x. q x && not (p x)) xs ≡ true → length (filter p xs) < length (filter q xs)
filter_lt p q [] h t = absurd (false≢true t)
filter_lt p q (x ∷ xs) h t =
    ⊎_elim
    (λ here.
    let one = one_lt (p x) (q x) here in
    omega (arith, one, filter_le p q xs h, filter_first p x xs, filter_first q x xs))
    (λ later.
    let here = one_le (p x) (q x) (h x) in
    let rest = filter_lt p q xs h later in
    omega (arith, here, rest, filter_first p x xs, filter_first q x xs))
    (or_cases (q x && not (p x)) (list_any (λ y. q y && not (p y)) xs) t)
  where
    one_lt : (b c : Bool) → (c && not b) ≡ true → cond b 1 0 < cond c 1 0
    one_lt false true e = omega arith
    one_lt true true e = absurd (false≢true e)
    one_lt true false e = absurd (false≢true e)
    one_lt false false e = absurd (false≢true e)

-- a test that some one of a list passes is passed by what is left of it, if no one that passes is left out
pub any_left : {X : Type 0} (r g : X → Bool) (xs : List X) → ((x : X) → r x ≡ true → g x ≡ true) → list_any r xs ≡ true
    → list_any r (filter g xs) ≡ true
any_left r g [] h t = t
any_left r g (x ∷ xs) h t =
    ⊎_elim
    (λ kept. let P : Bool → Type 0 = λ b. list_any r (cond b (x ∷ filter g xs) (filter g xs)) ≡ true in
    subst P (sym kept)
    (⊎_elim (λ here. or_left (r x) (list_any r (filter g xs)) here)
    (λ later. or_right (r x) (list_any r (filter g xs)) (any_left r g xs h later))
    (or_cases (r x) (list_any r xs) t)))
    (λ dropped. let P : Bool → Type 0 = λ b. list_any r (cond b (x ∷ filter g xs) (filter g xs)) ≡ true in
    subst P (sym dropped)
    (⊎_elim (λ here. absurd (false≢true (sym dropped ∙ h x here)))
    (λ later. any_left r g xs h later)
    (or_cases (r x) (list_any r xs) t)))
    (cases_Bool (g x))

-- a range that is longer by one
pub range_more : (a n j : ℕ) → a + n ≡ j → range_with_len a (n + 1) ≡ range_with_len a n ++ j ∷ []
range_more a n j e = ap (range_with_len a) (add-one n) ∙ longer a n j e
  where
    longer : (a n j : ℕ) → a + n ≡ j → range_with_len a (suc n) ≡ range_with_len a n ++ j ∷ []
    longer a zero j e = ap (λ x. x ∷ []) (let s : a ≡ j = omega arith in s)
    longer a (suc n) j e = ap (λ xs. a ∷ xs) (longer (a + 1) n j (omega arith))

-- one number more is counted
pub count_more : (p : ℕ → Bool) (n : ℕ) → count_by p (range_with_len 0 (n + 1)) ≡ count_by p (range_with_len 0 n) + cond (p n) 1 0
count_more p n =
    ap (count_by p) (range_more 0 n n (omega arith)) ∙ sum_by_push (λ x. cond (p x) 1 0) (range_with_len 0 n) n

-- one number more is looked at
pub filter_more : {X : Type 0} (f : ℕ → X) (p : ℕ → Bool) (n : ℕ)
    → map f (filter p (range_with_len 0 (n + 1))) ≡ map f (filter p (range_with_len 0 n)) ++ cond (p n) (f n ∷ []) []
filter_more f p n =
    ap (λ xs. map f (filter p xs)) (range_more 0 n n (omega arith))
    ∙ ap (map f) (filter-append p (range_with_len 0 n) (n ∷ []))
    ∙ map-append f (filter p (range_with_len 0 n)) (filter p (n ∷ []))
    ∙ ap (λ ys. map f (filter p (range_with_len 0 n)) ++ ys) (one (p n))
  where
    one : (b : Bool) → map f (cond b (n ∷ []) []) ≡ cond b (f n ∷ []) []
    one true = refl
    one false = refl

-- the search finds the number before which none passes
pub finds : (p : ℕ → Bool) (n d x : ℕ) → x < n → p x ≡ true → ((y : ℕ) → y < x → p y ≡ false)
    → x ≡ unwrap_or (find p (range_with_len 0 n)) d
finds p n d x lt t none =
    let f = unwrap_or (find p (range_with_len 0 n)) d in
    let h : IsFirst p 0 f = finds_first p 0 n d x (omega arith) (omega arith) t in
    elim (cases_order x f) [
      | inl e ↦ e
      | inr (inl less) ↦ absurd (false≢true (sym (h.none x (omega arith) less) ∙ t))
      | inr (inr more) ↦ absurd (false≢true (sym (none f more) ∙ h.passes))
    ]

-- the search finds nothing where none passes
pub finds_none : (p : ℕ → Bool) (a n d : ℕ) → ((y : ℕ) → a ≤ y → y < a + n → p y ≡ false)
    → d ≡ unwrap_or (find p (range_with_len a n)) d
finds_none p a zero d none = refl
finds_none p a (suc n) d none =
    finds_none p (a + 1) n d (λ y l u. none y (omega arith) (omega arith))
    ∙ sym (ap (λ b. unwrap_or (cond b (Some a) (find p (range_with_len (a + 1) n))) d) (none a (omega arith) (omega arith)))

-- functions with the same values over what is left of a range
pub map_filter_same : {X : Type 0} (f g : ℕ → X) (p : ℕ → Bool) (a n : ℕ) → ((x : ℕ) → a ≤ x → x < a + n → f x ≡ g x)
    → map f (filter p (range_with_len a n)) ≡ map g (filter p (range_with_len a n))
map_filter_same f g p a zero h = refl
map_filter_same f g p a (suc n) h =
    let rest = filter p (range_with_len (a + 1) n) in
    let same = map_filter_same f g p (a + 1) n (λ x l u. h x (omega arith) (omega arith)) in
    picked (p a) rest (h a (omega arith) (omega arith)) same
  where
    picked : (b : Bool) (ys : List ℕ) → f a ≡ g a → map f ys ≡ map g ys → map f (cond b (a ∷ ys) ys) ≡ map g (cond b (a ∷ ys) ys)
    picked true ys e s = ap (λ y. y ∷ map f ys) e ∙ ap (λ zs. g a ∷ zs) s
    picked false ys e s = s

-- one function after another
pub map_twice : {X Y Z : Type 0} (f : X → Y) (g : Y → Z) (xs : List X) → map g (map f xs) ≡ map (λ x. g (f x)) xs
map_twice f g [] = refl
map_twice f g (x ∷ xs) = ap (λ ys. g (f x) ∷ ys) (map_twice f g xs)

-- a count of what a function gives
pub count_by_map : {X Y : Type 0} (f : X → Y) (p : Y → Bool) (xs : List X) → count_by p (map f xs) ≡ count_by (λ x. p (f x)) xs
count_by_map f p [] = refl
count_by_map f p (x ∷ xs) =
    sum_by-cons (λ y. cond (p y) 1 0) (f x) (map f xs) ∙ ap (λ n. cond (p (f x)) 1 0 + n) (count_by_map f p xs)
    ∙ sym (sum_by-cons (λ y. cond (p (f y)) 1 0) x xs)

-- one number more is counted by an answer to its test
pub counted_more : (p : ℕ → Bool) (n old new : ℕ) (b : Bool) → old ≡ count_by p (range_with_len 0 n) → new ≡ old + cond b 1 0 → b ≡ p n
    → new ≡ count_by p (range_with_len 0 (n + 1))
counted_more p n old new b h e t =
    e ∙ ap (λ k. k + cond b 1 0) h ∙ ap (λ c. count_by p (range_with_len 0 n) + cond c 1 0) t ∙ sym (count_more p n)
