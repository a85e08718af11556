-- The greedy rule gives one list of operations.
use Rattle.std.proofs.Common.{◌≡◌, ℕ, zero, suc, ◌+◌, List, [], ◌∷◌, ◌++◌, Option, None, Some, length, take, slice_get, sym, ◌∙◌, ap, subst, refl, arith}
use Rattle.std.proofs.lemmas.List.{take_all}
use Rattle.comm_sequence.specs.Sequences.{Sequences}
use Rattle.comm_sequence.specs.declared.comm.Comm.{Comm}
use Rattle.comm_sequence.specs.declared.comm.Comm.TheVariants.{Write, Read}
use Rattle.crossing_off.specs.Greedy.{GoesFirst, IsChosen, IsCrossed}
use Rattle.crossing_off.proofs.Runs.{past_next, take_next, take_past}

-- of two operations each of which goes first there is one
one_first : (a b : Comm) → GoesFirst a b → GoesFirst b a → a ≡ b
one_first (Read m) (Read n) h k = let e : m ≡ n = omega arith in ap Read e
one_first (Read m) (Write n) h k = absurd k
one_first (Write m) (Read n) h k = absurd h
one_first (Write m) (Write n) h k = let e : m ≡ n = omega arith in ap Write e

-- two lists of the greedy rule have the same operation next
same_next : (s : Sequences) (buffer : ℕ) (a b : List Comm) (k : ℕ) → IsCrossed s buffer a → IsCrossed s buffer b → take k a ≡ take k b
    → slice_get a k ≡ slice_get b k
same_next s buffer a b k h j front = at (slice_get a k) (slice_get b k) refl refl
  where
    at : (x y : Option Comm) → slice_get a k ≡ x → slice_get b k ≡ y → slice_get a k ≡ slice_get b k
    at None None e f = e ∙ sym f
    at (Some x) None e f =
        let P : List Comm → Type 0 = λ es. IsChosen s buffer es x in
        absurd (j.stuck x (subst P (front ∙ take_past b k f) (h.greedy k x e)).may)
    at None (Some y) e f =
        let P : List Comm → Type 0 = λ es. IsChosen s buffer es y in
        absurd (h.stuck y (subst P (sym front ∙ take_past a k e) (j.greedy k y f)).may)
    at (Some x) (Some y) e f =
        let P : List Comm → Type 0 = λ es. IsChosen s buffer es x in
        let p = subst P front (h.greedy k x e) in
        let q = j.greedy k y f in
        e ∙ ap Some (one_first x y (p.first y q.may) (q.first x p.may)) ∙ sym f

-- so their front parts are the same
same_front : (s : Sequences) (buffer : ℕ) (a b : List Comm) (k : ℕ) → IsCrossed s buffer a → IsCrossed s buffer b → take k a ≡ take k b
same_front s buffer a b zero h j = refl
same_front s buffer a b (suc k) h j = at (same_front s buffer a b k h j) (slice_get a k) refl
  where
    at : take k a ≡ take k b → (o : Option Comm) → slice_get a k ≡ o → take (suc k) a ≡ take (suc k) b
    at front (Some x) e =
        take_next a k x e ∙ ap (λ xs. xs ++ x ∷ []) front
        ∙ sym (take_next b k x (sym (same_next s buffer a b k h j front) ∙ e))
    at front None e =
        let f : slice_get b k ≡ None = sym (same_next s buffer a b k h j front) ∙ e in
        take_past a (suc k) (past_next a k e) ∙ sym (take_past a k e) ∙ front
        ∙ take_past b k f ∙ sym (take_past b (suc k) (past_next b k f))

-- two lists of the greedy rule are equal
pub one_order : (s : Sequences) (buffer : ℕ) (a b : List Comm) → IsCrossed s buffer a → IsCrossed s buffer b → a ≡ b
one_order s buffer a b h k =
    let n = length a + length b in
    sym (take_all n a (omega arith)) ∙ same_front s buffer a b n h k ∙ take_all n b (omega arith)
