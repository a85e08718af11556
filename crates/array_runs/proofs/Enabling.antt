-- The list of actors with a step has each of them, and no other.
use Rattle.std.proofs.Common.{nat_lt, ◌≡◌, ◌↔◌, ℕ, zero, suc, pred, ◌<◌, Bool, true, cond, List, [], ◌∷◌, length, get_or, map, filter, flat_map, Contains, sym, ap, subst, ◌∙◌, arith, inl, inr, ltb-true}
use Rattle.std.proofs.lemmas.Bool.{cases_Bool, and_parts}
use Rattle.std.proofs.lemmas.List.{length-map, get_or-map}
use Rattle.std.proofs.lemmas.List.Elements.{Contains-append_left, Contains-append_right}
use Rattle.std.proofs.lemmas.List.FromFn.{get_or-range_with_len, length-range_with_len}
use Rattle.sys_base.specs.Groups.{below}
use Rattle.sys_base.specs.declared.actor.Actor.{Actor}
use Rattle.sys_base.specs.declared.actor.Actor.TheVariants.{Cell, Forward, Bind}
use Rattle.array_runs.specs.Enabled.{actors, enabled}
use Rattle.array_runs.specs.Frame.{Frame, hops}
use Rattle.array_runs.specs.Machines.{Array, Machine, array_can}
use Rattle.array_runs.proofs.Allowed.{binds, forwards}

pub contains_below : (i n : ℕ) → i < n → Contains (below n) i
contains_below i n h =
    (i, omega (arith, length-range_with_len 0 n), get_or-range_with_len 0 n i i h ∙ omega arith)

contains_map : {A B : Type 0} (f : A → B) (xs : List A) (x : A) → Contains xs x → Contains (map f xs) (f x)
contains_map f xs x h =
    (h.0, omega (arith, length-map xs f, h.1), get_or-map f xs h.0 x (f x) h.1 ∙ ap f h.2)

contains_flat_map : {A B : Type 0} (f : A → List B) (xs : List A) (x : A) (y : B) (k : ℕ) → k < length xs
    → get_or xs k x ≡ x → Contains (f x) y → Contains (flat_map f xs) y
contains_flat_map f [] x y k l e h = absurd (omega arith)
contains_flat_map f (z ∷ zs) x y zero l e h =
    Contains-append_left (f z) (flat_map f zs) y (subst (λ a. Contains (f a) y) (sym e) h)
contains_flat_map f (z ∷ zs) x y (suc k) l e h =
    Contains-append_right (f z) (flat_map f zs) y (contains_flat_map f zs x y k (omega arith) e h)

contains_more : {A : Type 0} (y : A) (xs : List A) (x : A) → Contains xs x → Contains (y ∷ xs) x
contains_more y xs x h = (suc h.0, omega (arith, h.1), h.2)

pub contains_filter : {A : Type 0} (test : A → Bool) (xs : List A) (x : A) (k : ℕ) → k < length xs → get_or xs k x ≡ x
    → test x ≡ true → Contains (filter test xs) x
contains_filter test [] x k l e t = absurd (omega arith)
contains_filter test (y ∷ ys) x zero l e t =
    subst (λ b. Contains (cond b (y ∷ filter test ys) (filter test ys)) x) (sym (ap test e ∙ t)) (0, omega arith, e)
contains_filter test (y ∷ ys) x (suc k) l e t =
    let ih : Contains (filter test ys) x = contains_filter test ys x k (omega arith) e t in
    elim (cases_Bool (test y)) [
      | inl s ↦ subst (λ b. Contains (cond b (y ∷ filter test ys) (filter test ys)) x) (sym s)
          (contains_more y (filter test ys) x ih)
      | inr s ↦ subst (λ b. Contains (cond b (y ∷ filter test ys) (filter test ys)) x) (sym s) ih
    ]

passes_kept : {A : Type 0} (test : A → Bool) (y : A) (zs : List A) (x : A) (k : ℕ) → k < length (y ∷ zs)
    → get_or (y ∷ zs) k x ≡ x → test y ≡ true → ((j : ℕ) → j < length zs → get_or zs j x ≡ x → test x ≡ true)
    → test x ≡ true
passes_kept test y zs x zero l e t ih = sym (ap test e) ∙ t
passes_kept test y zs x (suc k) l e t ih = ih k (omega arith) e

passes : {A : Type 0} (test : A → Bool) (xs : List A) (x : A) (k : ℕ) → k < length (filter test xs)
    → get_or (filter test xs) k x ≡ x → test x ≡ true
passes test [] x k l e = absurd (omega arith)
passes test (y ∷ ys) x k l e =
    let ih : (j : ℕ) → j < length (filter test ys) → get_or (filter test ys) j x ≡ x → test x ≡ true =
    passes test ys x
    in
    elim (cases_Bool (test y)) [
      | inl t ↦
          let same : filter test (y ∷ ys) ≡ y ∷ filter test ys =
          ap (λ b. cond b (y ∷ filter test ys) (filter test ys)) t
          in
          passes_kept test y (filter test ys) x k (subst (λ r. k < length r) same l) (subst
          (λ r. get_or r k x ≡ x) same e) t ih
      | inr t ↦
          let same : filter test (y ∷ ys) ≡ filter test ys = ap (λ b. cond b (y ∷ filter test ys) (filter test ys)) t in
          ih k (subst (λ r. k < length r) same l) (subst (λ r. get_or r k x ≡ x) same e)
    ]

module _ {X W : Type 0} (p : Frame) (mc : Machine X W) (cap : ℕ) (a : Array X W) where
  is_actor : (x : Actor) → array_can p mc cap a x ≡ true → Contains (actors p) x
  is_actor (Cell c) t =
      Contains-append_left (map Cell (below p.cells)) _ (Cell c)
      (contains_map Cell (below p.cells) c (contains_below c p.cells (ltb-true _ _ (and_parts
      (nat_lt c p.cells) _ t).0)))
  is_actor (Forward m i) t =
      let facts = (forwards p cap a.mark a.bound m i).0 t in
      let message = contains_below m p.messages facts.0 in
      Contains-append_right (map Cell (below p.cells)) _ (Forward m i)
      (Contains-append_left (flat_map (λ n. map (Forward n) (below (pred (hops p n)))) (below p.messages)) _
      (Forward m i)
      (contains_flat_map (λ n. map (Forward n) (below (pred (hops p n)))) (below p.messages) m
      (Forward m i) message.0 message.1
      message.2
      (contains_map (Forward m) (below (pred (hops p m))) i (contains_below i (pred (hops p m)) (omega arith)))))
  is_actor (Bind l) t =
      let facts = (binds p a.mark a.bound l).0 t in
      Contains-append_right (map Cell (below p.cells)) _ (Bind l)
      (Contains-append_right (flat_map (λ n. map (Forward n) (below (pred (hops p n)))) (below p.messages)) _ (Bind l)
      (contains_map Bind (below p.links) l (contains_below l p.links facts.0)))

  pub enabled_is : (x : Actor) → (array_can p mc cap a x ≡ true) ↔ Contains (enabled p mc cap a) x
  enabled_is x = (
    λ t. let c = is_actor x t in contains_filter (array_can p mc cap a) (actors p) x c.0 c.1 c.2 t,
    λ c. passes (array_can p mc cap a) (actors p) x c.0 c.1 c.2,
  )
