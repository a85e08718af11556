-- What rules give at numbers one after another.
use Rattle.std.proofs.Common.{◌≡◌, ℕ, zero, suc, ◌+◌, ◌<◌, ◌≤◌, [], ◌∷◌, Option, None, Some, filter_map, sym, ◌∙◌, ap, refl, ⊎_elim, arith}
use Rattle.std.proofs.lemmas.Bool.{cases_eq}
use Rattle.std.specs.List.{cons_option, range_with_len}

-- two rules that agree at these numbers give the same
pub same_over : {A : Type 0} (f g : ℕ → Option A) (a n : ℕ) → ((k : ℕ) → a ≤ k → k < a + n → f k ≡ g k)
    → filter_map f (range_with_len a n) ≡ filter_map g (range_with_len a n)
same_over f g a zero h = refl
same_over f g a (suc n) h =
    ap (λ o. cons_option o (filter_map f (range_with_len (a + 1) n))) (h a (omega arith) (omega arith))
    ∙ ap (cons_option (g a)) (same_over f g (a + 1) n (λ k from to. h k (omega arith) (omega arith)))

-- a rule that gives nothing at these numbers
pub none_over : {A : Type 0} (f : ℕ → Option A) (a n : ℕ) → ((k : ℕ) → a ≤ k → f k ≡ None) → filter_map f (range_with_len a n) ≡ []
none_over f a zero h = refl
none_over f a (suc n) h =
    ap (λ o. cons_option o (filter_map f (range_with_len (a + 1) n))) (h a (omega arith))
    ∙ none_over f (a + 1) n (λ k from. h k (omega arith))

-- a rule that gives nothing past some numbers gives the same over more of them
pub wider : {A : Type 0} (f : ℕ → Option A) (a n m : ℕ) → n ≤ m → ((k : ℕ) → a + n ≤ k → f k ≡ None)
    → filter_map f (range_with_len a n) ≡ filter_map f (range_with_len a m)
wider f a zero m l h = sym (none_over f a m (λ k from. h k (omega arith)))
wider f a (suc n) zero l h = absurd (omega arith)
wider f a (suc n) (suc m) l h = ap (cons_option (f a)) (wider f (a + 1) n m (omega arith) (λ k from. h k (omega arith)))

-- two rules that give nothing below a number, where one gives something at it and the other nothing, and that
-- agree above it
pub one_more : {A : Type 0} (f g : ℕ → Option A) (x : ℕ) (y : A) (a n : ℕ) → a ≤ x → x < a + n
    → ((k : ℕ) → k < x → f k ≡ None) → f x ≡ Some y → ((k : ℕ) → k ≤ x → g k ≡ None) → ((k : ℕ) → x < k → f k ≡ g k)
    → filter_map f (range_with_len a n) ≡ y ∷ filter_map g (range_with_len a n)
one_more f g x y a zero from to before at none after = absurd (omega arith)
one_more f g x y a (suc n) from to before at none after =
    let more = filter_map f (range_with_len (a + 1) n) in
    let others = filter_map g (range_with_len (a + 1) n) in
    let first : cons_option (g a) others ≡ others = ap (λ o. cons_option o others) (none a from) in
    ⊎_elim
    (λ (same : a ≡ x).
    let here : f a ≡ Some y = ap f same ∙ at in
    ap (λ o. cons_option o more) here
    ∙ ap (λ ys. y ∷ ys) (same_over f g (a + 1) n (λ k lo hi. after k (omega arith)) ∙ sym first))
    (λ (other : a ≡ x → ⊥).
    ap (λ o. cons_option o more) (before a (omega arith))
    ∙ one_more f g x y (a + 1) n (omega arith) (omega arith) before at none after
    ∙ ap (λ ys. y ∷ ys) (sym first))
    (cases_eq a x)
