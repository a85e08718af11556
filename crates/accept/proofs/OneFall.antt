-- Labels fall first at one place.
use Rattle.std.proofs.Common.{ℕ, ◌≡◌, List, [], Some, inl, inr, slice_get, sym, ap, subst, ◌∙◌}
use Rattle.std.specs.Prelude.{slice_index_or, option_map}
use Rattle.std.proofs.lemmas.Bool.{cases_order}
use Rattle.comm_sequence.specs.Sequences.{message_of}
use Rattle.comm_sequence.specs.declared.comm.Comm.{Comm}
use Rattle.labelling.specs.Falls.{FallsAt, IsFall}
use Rattle.labelling.specs.declared.falls.Fall.{Fall}

-- what is there is one value
same_some : {A : Type 0} (x y : A) → Some x ≡ Some y → x ≡ y
same_some x y e = cc

-- a place has one fall at most
same_fall : (list : List Comm) (labels : List ℕ) (at a b c d : ℕ) → FallsAt list labels at a b → FallsAt list labels at c d
    → (a ≡ c) × (b ≡ d)
same_fall list labels at a b c d h k =
    let place : h.place ≡ k.place = cc in (
      same_some a c (sym h.first ∙ ap (λ n. option_map message_of (slice_get list n)) place ∙ k.first),
      same_some b d (sym h.second ∙ k.second),
    )

module _ (lists : List (List Comm)) (labels : List ℕ) where
  -- the first falls are in one cell
  one_cell : (f g : Fall) → IsFall lists labels f → IsFall lists labels g → f.cell ≡ g.cell
  one_cell f g h k = elim (cases_order f.cell g.cell) as (λ _. f.cell ≡ g.cell) [
    | inl same ↦ same
    | inr (inl less) ↦ absurd (k.least_cell f.cell less f.at f.before f.after h.falls)
    | inr (inr more) ↦ absurd (h.least_cell g.cell more g.at g.before g.after k.falls)
  ]

  -- and at one place of its list
  one_place : (f g : Fall) → f.cell ≡ g.cell → IsFall lists labels f → IsFall lists labels g → f.at ≡ g.at
  one_place f g same h k =
      let falls_f : FallsAt (slice_index_or lists g.cell []) labels f.at f.before f.after =
      subst (λ c. FallsAt (slice_index_or lists c []) labels f.at f.before f.after) same h.falls in
      let falls_g : FallsAt (slice_index_or lists f.cell []) labels g.at g.before g.after =
      subst (λ c. FallsAt (slice_index_or lists c []) labels g.at g.before g.after) (sym same) k.falls in
      elim (cases_order f.at g.at) as (λ _. f.at ≡ g.at) [
        | inl at ↦ at
        | inr (inl less) ↦ absurd (k.first_place f.at f.before f.after less falls_f)
        | inr (inr more) ↦ absurd (h.first_place g.at g.before g.after more falls_g)
      ]

  -- so there is one first fall at most
  pub one_fall : (f g : Fall) → IsFall lists labels f → IsFall lists labels g → f ≡ g
  one_fall f g h k =
      let cell : f.cell ≡ g.cell = one_cell f g h k in
      let at : f.at ≡ g.at = one_place f g cell h k in
      let moved : FallsAt (slice_index_or lists g.cell []) labels g.at f.before f.after =
      subst (λ n. FallsAt (slice_index_or lists g.cell []) labels n f.before f.after) at
      (subst (λ c. FallsAt (slice_index_or lists c []) labels f.at f.before f.after) cell h.falls) in
      let ends = same_fall (slice_index_or lists g.cell []) labels g.at f.before f.after g.before g.after moved k.falls in
      λ i. record { cell = cell i; at = at i; before = ends.0 i; after = ends.1 i }
