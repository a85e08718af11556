-- The writes and reads of one cell in an order.
use Rattle.std.proofs.Common.{ap₂, ne_eqb, subst₂, take_all, le_of_eq, ◌≡◌, ◌≢◌, ℕ, zero, suc, ◌+◌, ◌<◌, ◌≤◌, cond, inl, inr, List, [], ◌∷◌, length, take, get_or, refl, sym, ap, ◌∙◌, arith, eq-eqb}
use Rattle.std.proofs.lemmas.Bool.{cases_eq, cases_lt}
use Rattle.array_runs.specs.Frame.{Action, Halt, Frame}
use Rattle.array_runs.specs.Orders.{count, home, part_of, same}
use Rattle.array_runs.specs.Regular.{label_of, Rises}
use Rattle.array_runs.proofs.Counts.{same_tells}

part_kept : (p : Frame) (c : ℕ) (x : Action) (xs : List Action) → home p x ≡ c
    → part_of p c (x ∷ xs) ≡ x ∷ part_of p c xs
part_kept p c x xs h = ap (λ b. cond b (x ∷ part_of p c xs) (part_of p c xs)) (eq-eqb _ _ h)

part_passed : (p : Frame) (c : ℕ) (x : Action) (xs : List Action) → home p x ≢ c
    → part_of p c (x ∷ xs) ≡ part_of p c xs
part_passed p c x xs h = ap (λ b. cond b (x ∷ part_of p c xs) (part_of p c xs)) (ne_eqb _ _ h)

-- the part of a cell has each of its writes and reads as often as the whole
pub count_part : (p : Frame) (c : ℕ) (e : Action) → home p e ≡ c → (xs : List Action)
    → count e (part_of p c xs) ≡ count e xs
count_part p c e h [] = refl
count_part p c e h (x ∷ xs) =
    let ih : count e (part_of p c xs) ≡ count e xs = count_part p c e h xs in
    elim (cases_eq (home p x) c) [
      | inl t ↦ ap (count e) (part_kept p c x xs t) ∙ ap (λ n. same e x + n) ih
      | inr f ↦ elim (same_tells e x) [
        | inl z ↦ omega (arith, ap (count e) (part_passed p c x xs f), z, ih)
        | inr s ↦ absurd (f (sym (ap (home p) s.1) ∙ h))
      ]
    ]

-- an entry of a cell's part: where it stands in the whole, and what stands before it there
pub record Standing (p : Frame) (c : ℕ) (xs : List Action) (n : ℕ) : Type 0 where
  pub place : ℕ
  pub inside : place < length xs
  pub is : get_or xs place Halt ≡ get_or (part_of p c xs) n Halt
  pub so_far : part_of p c (take place xs) ≡ take n (part_of p c xs)

standing_kept : (p : Frame) (c : ℕ) (x : Action) (xs : List Action) (n : ℕ) → home p x ≡ c
    → ((k : ℕ) → k < length (part_of p c xs) → Standing p c xs k) → n < length (part_of p c (x ∷ xs))
    → Standing p c (x ∷ xs) n
standing_kept p c x xs zero t ih h =
    record {
      place = 0;
      inside = omega arith;
      is = sym (ap (λ l. get_or l 0 Halt) (part_kept p c x xs t));
      so_far = refl;
    }
standing_kept p c x xs (suc n) t ih h =
    let s : Standing p c xs n = ih n (omega (arith, ap length (part_kept p c x xs t))) in
    record {
      place = suc s.place;
      inside = omega (arith, s.inside);
      is = s.is ∙ sym (ap (λ l. get_or l (suc n) Halt) (part_kept p c x xs t));
      so_far = part_kept p c x (take s.place xs) t ∙ ap (λ l. x ∷ l) s.so_far
          ∙ sym (ap (take (suc n)) (part_kept p c x xs t));
    }

standing_passed : (p : Frame) (c : ℕ) (x : Action) (xs : List Action) (n : ℕ) → home p x ≢ c
    → Standing p c xs n → Standing p c (x ∷ xs) n
standing_passed p c x xs n f s =
    record {
      place = suc s.place;
      inside = omega (arith, s.inside);
      is = s.is ∙ sym (ap (λ l. get_or l n Halt) (part_passed p c x xs f));
      so_far = part_passed p c x (take s.place xs) f ∙ s.so_far ∙ sym (ap (take n) (part_passed p c x xs f));
    }

pub find_part : (p : Frame) (c : ℕ) (xs : List Action) (n : ℕ) → n < length (part_of p c xs) → Standing p c xs n
find_part p c [] n h = absurd (omega arith)
find_part p c (x ∷ xs) n h =
    let ih : (k : ℕ) → k < length (part_of p c xs) → Standing p c xs k = find_part p c xs in
    elim (cases_eq (home p x) c) [
      | inl t ↦ standing_kept p c x xs n t ih h
      | inr f ↦ standing_passed p c x xs n f (ih n (omega (arith, ap length (part_passed p c x xs f))))
    ]

-- where an entry of a cell stands in its part: behind those of the cell before it
pub part_at : (p : Frame) (c : ℕ) (xs : List Action) (j : ℕ) → j < length xs → home p (get_or xs j Halt) ≡ c
    → get_or (part_of p c xs) (length (part_of p c (take j xs))) Halt ≡ get_or xs j Halt
part_at p c [] j h t = absurd (omega arith)
part_at p c (x ∷ xs) zero h t = ap (λ l. get_or l 0 Halt) (part_kept p c x xs t)
part_at p c (x ∷ xs) (suc j) h t =
    let ih : get_or (part_of p c xs) (length (part_of p c (take j xs))) Halt ≡ get_or xs j Halt =
    part_at p c xs j (omega arith) t
    in
    elim (cases_eq (home p x) c) [
      | inl s ↦ ap₂ (λ l r. get_or l (length r) Halt) (part_kept p c x xs s) (part_kept p c x (take j xs) s) ∙ ih
      | inr f ↦ ap₂ (λ l r. get_or l (length r) Halt) (part_passed p c x xs f) (part_passed p c x (take j xs) f) ∙ ih
    ]

part_less : (p : Frame) (c : ℕ) (xs : List Action) (i j : ℕ) → i < j → i < length xs
    → home p (get_or xs i Halt) ≡ c → length (part_of p c (take i xs)) < length (part_of p c (take j xs))
part_less p c [] i j h l t = absurd (omega arith)
part_less p c (x ∷ xs) i zero h l t = absurd (omega arith)
part_less p c (x ∷ xs) zero (suc j) h l t = omega (arith, ap length (part_kept p c x (take j xs) t))
part_less p c (x ∷ xs) (suc i) (suc j) h l t =
    let ih : length (part_of p c (take i xs)) < length (part_of p c (take j xs)) =
    part_less p c xs i j (omega arith) (omega arith) t
    in
    elim (cases_eq (home p x) c) [
      | inl s ↦ omega (arith, ap length (part_kept p c x (take i xs) s), ap length (part_kept p c x (take j xs) s))
      | inr f ↦ omega (arith, ap length (part_passed p c x (take i xs) f), ap length (part_passed p c x (take j xs) f))
    ]

part_shorter : (p : Frame) (c : ℕ) (xs : List Action) (j : ℕ) → j < length xs → home p (get_or xs j Halt) ≡ c
    → length (part_of p c (take j xs)) < length (part_of p c xs)
part_shorter p c xs j l t =
    let h : length (part_of p c (take j xs)) < length (part_of p c (take (length xs) xs)) =
    part_less p c xs j (length xs) l l t
    in
    omega (arith, ap (λ r. length (part_of p c r)) (take_all (length xs) xs (omega arith)))

rises_along : (p : Frame) (list : List Action) (i j : ℕ) → Rises p list → i ≤ j → j < length list
    → label_of p (get_or list i Halt) ≤ label_of p (get_or list j Halt)
rises_along p list i zero r h l = le_of_eq (ap (λ n. label_of p (get_or list n Halt)) (omega arith))
rises_along p list i (suc j) r h l =
    let ih : i ≤ j → label_of p (get_or list i Halt) ≤ label_of p (get_or list j Halt) =
    λ below. rises_along p list i j r below (omega arith)
    in
    elim (cases_lt j i) [
      | inl g ↦ le_of_eq (ap (λ n. label_of p (get_or list n Halt)) (omega arith))
      | inr g ↦ omega (arith, ih g, r j l)
    ]

-- where labels rise in a cell's part, an earlier one in the whole is at most a later one
pub label_before : (p : Frame) (c : ℕ) (xs : List Action) (i j : ℕ) → Rises p (part_of p c xs) → i < j → j < length xs
    → home p (get_or xs i Halt) ≡ c → home p (get_or xs j Halt) ≡ c
    → label_of p (get_or xs i Halt) ≤ label_of p (get_or xs j Halt)
label_before p c xs i j r h l s t =
    let g = rises_along p (part_of p c xs) (length (part_of p c (take i xs))) (length (part_of p c (take j xs))) r
    (omega (arith, part_less p c xs i j h (omega arith) s)) (part_shorter p c xs j l t)
    in
    subst₂ (λ a b. label_of p a ≤ label_of p b) (part_at p c xs i (omega arith) s) (part_at p c xs j l t) g
