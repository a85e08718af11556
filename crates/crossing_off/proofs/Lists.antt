-- Facts on lists of any kind.
use Rattle.std.proofs.Common.{◌≡◌, ℕ, zero, suc, ◌+◌, ◌<◌, ◌≤◌, List, [], ◌∷◌, Option, None, Some, length, get_or, drop, map, Contains, IsSomeAnd, sum_by, slice_get, sym, ◌∙◌, ap, subst, refl, arith}
use Rattle.std.proofs.Math.Seq.{drop-nil}
use Rattle.std.proofs.lemmas.List.Sums.{sum_by-cons}
use Rattle.std.proofs.lemmas.Option.{get_or_from_slice_get, slice_get_within}

-- what stands at a place is contained
pub Contains-from_slice_get : {X : Type 0} (xs : List X) (k : ℕ) (x : X) → slice_get xs k ≡ Some x → Contains xs x
Contains-from_slice_get xs k x h = (k, slice_get_within xs k x h, get_or_from_slice_get xs k x x h)

-- a sum over what a list is mapped to
pub sum_by-map : {X Y : Type 0} (f : Y → ℕ) (g : X → Y) (xs : List X) → sum_by f (map g xs) ≡ sum_by (λ x. f (g x)) xs
sum_by-map f g [] = refl
sum_by-map f g (x ∷ xs) =
    sum_by-cons f (g x) (map g xs) ∙ ap (λ n. f (g x) + n) (sum_by-map f g xs) ∙ sym (sum_by-cons (λ y. f (g y)) x xs)

-- the lists of one list of lists are no longer than those of another
pub lengths_le : {X : Type 0} (xs ys : List (List X)) → length xs ≡ length ys
    → ((k : ℕ) → k < length xs → length (get_or xs k []) ≤ length (get_or ys k [])) → sum_by length xs ≤ sum_by length ys
lengths_le [] ys e h = omega arith
lengths_le (x ∷ xs) [] e h = absurd (omega (arith, e))
lengths_le (x ∷ xs) (y ∷ ys) e h =
    let tail = lengths_le xs ys (omega (arith, e)) (λ k l. h (suc k) (omega arith)) in
    let head : length x ≤ length y = h 0 (omega arith) in
    omega (arith, sum_by-cons length x xs, sum_by-cons length y ys)

-- what holds of a value that is there
pub at_some : {X : Type 0} (P : X → Type 0) (o : Option X) (x : X) → IsSomeAnd o P → o ≡ Some x → P x
at_some {X = X} P o x h e = let Q : Option X → Type 0 = λ v. IsSomeAnd v P in subst Q e h

-- a value that is there and of which something holds
pub some_and : {X : Type 0} (P : X → Type 0) (o : Option X) (x : X) → o ≡ Some x → P x → IsSomeAnd o P
some_and {X = X} P o x e h = let Q : Option X → Type 0 = λ v. IsSomeAnd v P in subst Q (sym e) h

-- a value of which something holds is there
pub some_there : {X : Type 0} (P : X → Type 0) (o : Option X) → IsSomeAnd o P → (x : X) × (o ≡ Some x) × P x
some_there P None h = absurd h
some_there P (Some x) h = (x, refl, h)

-- a list with a first element
pub from_first : {X : Type 0} (xs : List X) (x : X) → slice_get xs 0 ≡ Some x → xs ≡ x ∷ drop 1 xs
from_first [] x h = cc
from_first (y ∷ ys) x h = ap (λ z. z ∷ ys) (cc)

-- elements are dropped at once or one after another
pub drop_drop : {X : Type 0} (a b : ℕ) (xs : List X) → drop (a + b) xs ≡ drop b (drop a xs)
drop_drop zero b xs = let e : 0 + b ≡ b = omega arith in ap (λ n. drop n xs) e
drop_drop (suc a) b [] = drop-nil (suc a + b) ∙ sym (drop-nil b)
drop_drop (suc a) b (x ∷ xs) = let e : suc a + b ≡ suc (a + b) = omega arith in ap (λ n. drop n (x ∷ xs)) e ∙ drop_drop a b xs

-- the element at a place within
pub is_there : {X : Type 0} (xs : List X) (k : ℕ) → k < length xs → (x : X) × (slice_get xs k ≡ Some x)
is_there [] k l = absurd (omega arith)
is_there (x ∷ xs) zero l = (x, refl)
is_there (x ∷ xs) (suc k) l = is_there xs k (omega arith)
