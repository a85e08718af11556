-- How often a write or a read stands in a list, and where.
use Rattle.std.proofs.Common.{◌≡◌, ◌≢◌, ℕ, zero, suc, ◌+◌, ◌<◌, ◌≤◌, true, ◌⊎◌, inl, inr, List, [], ◌∷◌, length, take, get_or, refl, sym, ap, arith, take_all}
use Rattle.std.proofs.lemmas.Bool.{cases_lt}
use Rattle.std.proofs.lemmas.Bool.Decides.{nat_tests}
use Rattle.std.proofs.lemmas.List.{get_or_past}
use Rattle.array_runs.specs.Frame.{Action, Halt, Work, Write, Read}
use Rattle.array_runs.specs.Orders.{count, events, is_event, same}
use Rattle.array_runs.specs.States.{one_at}

-- a number is the one that is meant, or another one
pub one_at_tells : (i j : ℕ) → ((i ≡ j) × (one_at i j ≡ 1)) ⊎ ((i ≢ j) × (one_at i j ≡ 0))
one_at_tells i j = grind (arith, nat_tests)

pub one_at_self : (i : ℕ) → one_at i i ≡ 1
one_at_self i = omega (arith, one_at_tells i i)

pub same_halt : (e : Action) → same e Halt ≡ 0
same_halt Halt = refl
same_halt Work = refl
same_halt (Write m) = refl
same_halt (Read m) = refl

pub same_work : (e : Action) → same e Work ≡ 0
same_work Halt = refl
same_work Work = refl
same_work (Write m) = refl
same_work (Read m) = refl

same_numbers : (f : ℕ → Action) (m k : ℕ) → (one_at m k ≡ 0) ⊎ ((one_at m k ≡ 1) × (f m ≡ f k))
same_numbers f m k = elim (one_at_tells m k) [ inl t ↦ inr (t.1, ap f t.0) | inr t ↦ inl t.1 ]

-- two actions are one write or one read, or they are not the same
pub same_tells : (e x : Action) → (same e x ≡ 0) ⊎ ((same e x ≡ 1) × (e ≡ x))
same_tells (Write m) (Write k) = same_numbers Write m k
same_tells (Read m) (Read k) = same_numbers Read m k
same_tells _ _ = inl refl

pub same_self : (e : Action) → is_event e ≡ true → same e e ≡ 1
same_self Halt h = absurd (cc)
same_self Work h = absurd (cc)
same_self (Write m) h = one_at_self m
same_self (Read m) h = one_at_self m

-- one entry more
pub count_more : (e : Action) (xs : List Action) (n : ℕ)
    → count e (take (suc n) xs) ≡ count e (take n xs) + same e (get_or xs n Halt)
count_more e [] zero = omega (arith, same_halt e)
count_more e [] (suc n) = omega (arith, same_halt e)
count_more e (x ∷ xs) zero = omega arith
count_more e (x ∷ xs) (suc n) = omega (arith, count_more e xs n)

pub count_within : (e : Action) (xs : List Action) (i j : ℕ) → i ≤ j → count e (take i xs) ≤ count e (take j xs)
count_within e xs zero j h = omega arith
count_within e xs (suc i) zero h = absurd (omega arith)
count_within e [] (suc i) (suc j) h = omega arith
count_within e (x ∷ xs) (suc i) (suc j) h = omega (arith, count_within e xs i j (omega arith))

pub count_le : (e : Action) (xs : List Action) (i : ℕ) → count e (take i xs) ≤ count e xs
count_le e xs zero = omega arith
count_le e [] (suc i) = omega arith
count_le e (x ∷ xs) (suc i) = omega (arith, count_le e xs i)

pub count_all : (e : Action) (xs : List Action) (n : ℕ) → length xs ≤ n → count e (take n xs) ≡ count e xs
count_all e xs n h = ap (count e) (take_all n xs h)

-- an entry that is counted in a prefix: where it stands, with just so many before it
pub record Found (e : Action) (xs : List Action) (j n : ℕ) : Type 0 where
  pub place : ℕ
  pub before : place < j
  pub inside : place < length xs
  pub is : get_or xs place Halt ≡ e
  pub so_far : count e (take place xs) ≡ n

pub inside_list : (e : Action) (xs : List Action) (j : ℕ) → same e (get_or xs j Halt) ≡ 1 → j < length xs
inside_list e xs j h =
    elim (cases_lt j (length xs)) [
      | inl l ↦ l
      | inr l ↦ absurd (omega (arith, same_halt e, ap (same e) (get_or_past xs j Halt l)))
    ]

pub find_event : (e : Action) (xs : List Action) (j n : ℕ) → n < count e (take j xs) → Found e xs j n
find_event e xs zero n h = absurd (omega arith)
find_event e xs (suc j) n h =
    let ih : n < count e (take j xs) → Found e xs j n = find_event e xs j n in
    elim (cases_lt n (count e (take j xs))) [
      | inl l ↦
          let f = ih l in
          record { place = f.place; before = omega arith; inside = f.inside; is = f.is; so_far = f.so_far }
      | inr l ↦ elim (same_tells e (get_or xs j Halt)) [
        | inl z ↦ absurd (omega (arith, count_more e xs j))
        | inr t ↦
            record {
              place = j;
              before = omega arith;
              inside = inside_list e xs j t.0;
              is = sym t.1;
              so_far = omega (arith, count_more e xs j);
            }
      ]
    ]

-- the writes and reads of a list have each of them as often
pub count_events : (e : Action) (xs : List Action) → count e (events xs) ≡ count e xs
count_events e [] = refl
count_events e (Halt ∷ xs) = omega (arith, same_halt e, count_events e xs)
count_events e (Work ∷ xs) = omega (arith, same_work e, count_events e xs)
count_events e (Write m ∷ xs) = omega (arith, count_events e xs)
count_events e (Read m ∷ xs) = omega (arith, count_events e xs)

-- a write or a read at a place, among the writes and reads
pub record AmongEvents (xs : List Action) (n : ℕ) : Type 0 where
  pub inside : length (events (take n xs)) < length (events xs)
  pub is : get_or (events xs) (length (events (take n xs))) Halt ≡ get_or xs n Halt
  pub so_far : take (length (events (take n xs))) (events xs) ≡ events (take n xs)

among_more : (x : Action) (xs : List Action) (n : ℕ) → AmongEvents xs n → AmongEvents (x ∷ xs) (suc n)
among_more Halt xs n h = record { inside = h.inside; is = h.is; so_far = h.so_far }
among_more Work xs n h = record { inside = h.inside; is = h.is; so_far = h.so_far }
among_more (Write m) xs n h = record {
  inside = omega (
    arith,
    h.inside,
  );
  is = h.is;
  so_far = ap (λ l. Write m ∷ l) h.so_far;
}
among_more (Read m) xs n h = record {
  inside = omega (
    arith,
    h.inside,
  );
  is = h.is;
  so_far = ap (λ l. Read m ∷ l) h.so_far;
}

pub among_events : (xs : List Action) (n : ℕ) → is_event (get_or xs n Halt) ≡ true → AmongEvents xs n
among_events [] n h = absurd (cc)
among_events (Halt ∷ xs) zero h = absurd (cc)
among_events (Work ∷ xs) zero h = absurd (cc)
among_events (Write m ∷ xs) zero h = record { inside = omega arith; is = refl; so_far = refl }
among_events (Read m ∷ xs) zero h = record { inside = omega arith; is = refl; so_far = refl }
among_events (x ∷ xs) (suc n) h = among_more x xs n (among_events xs n h)
