-- Prefixes of lists, and functions with another value at a number.
use Rattle.std.proofs.Common.{◌≡◌, ◌≢◌, ℕ, ◌<◌, ◌≤◌, cond, List, [], ◌++◌, length, get_or, refl, sym, ap, ◌∙◌, arith, length-append, append-nil, append_assoc, eq-eqb, ne_eqb}
use Rattle.std.proofs.lemmas.List.{get_or_append_left}
use Rattle.array_runs.specs.Alone.{IsPrefix}
use Rattle.array_runs.specs.Machines.{put}

pub prefix_refl : {W : Type 0} (xs : List W) → IsPrefix xs xs
prefix_refl xs = ([], append-nil xs)

pub prefix_more : {W : Type 0} (xs ys : List W) → IsPrefix xs (xs ++ ys)
prefix_more xs ys = (ys, refl)

pub prefix_trans : {W : Type 0} (xs ys zs : List W) → IsPrefix xs ys → IsPrefix ys zs → IsPrefix xs zs
prefix_trans xs ys zs g h =
    (g.0 ++ h.0, sym (append_assoc xs g.0 h.0) ∙ ap (λ l. l ++ h.0) g.1 ∙ h.1)

pub prefix_get : {W : Type 0} (xs ys : List W) (i : ℕ) (e : W) → IsPrefix xs ys → i < length xs
    → get_or xs i e ≡ get_or ys i e
prefix_get xs ys i e h l = sym (get_or_append_left xs h.0 e i l) ∙ ap (λ r. get_or r i e) h.1

pub prefix_length : {W : Type 0} (xs ys : List W) → IsPrefix xs ys → length xs ≤ length ys
prefix_length xs ys h = omega (arith, length-append xs h.0, ap length h.1)

pub put_same : {A : Type 0} (f : ℕ → A) (i : ℕ) (x : A) → put f i x i ≡ x
put_same f i x = ap (λ b. cond b x (f i)) (eq-eqb i i refl)

pub put_other : {A : Type 0} (f : ℕ → A) (i : ℕ) (x : A) (j : ℕ) → i ≢ j → put f i x j ≡ f j
put_other f i x j h = ap (λ b. cond b x (f j)) (ne_eqb i j h)
