-- A message is bound where the number of its group is below that of the bound groups.
use Rattle.std.proofs.Common.{◌≡◌, ◌↔◌, ℕ, zero, suc, ◌<◌, true, cond, List, [], ◌∷◌, take, ap, arith, inl, inr}
use Rattle.std.specs.List.{concat}
use Rattle.std.proofs.lemmas.Bool.{both_ways, cases_Bool}
use Rattle.sys_base.specs.Groups.{is_one_of}
use Rattle.array_runs.specs.GroupOf.{group_of}
use Rattle.array_runs.proofs.Flows.{has_append, has_append_left, has_append_right}

pub held_group : (m : ℕ) (gs : List (List ℕ)) (n : ℕ) → is_one_of (concat gs) m ≡ true
    → (is_one_of (concat (take n gs)) m ≡ true) ↔ (group_of m gs < n)
held_group m [] n h = absurd (cc)
held_group m (g ∷ gs) zero h = (λ t. absurd (cc t), λ t. absurd (omega arith))
held_group m (g ∷ gs) (suc n) h =
    let ih : is_one_of (concat gs) m ≡ true → (is_one_of (concat (take n gs)) m ≡ true) ↔ (group_of m gs < n) =
    held_group m gs n
    in
    elim (cases_Bool (is_one_of g m)) [
      | inl t ↦
          let first : group_of m (g ∷ gs) ≡ 0 = ap (λ b. cond b 0 (suc (group_of m gs))) t in
          (λ u. omega (arith, first), λ u. has_append_left m g (concat (take n gs)) t)
      | inr f ↦
          let later : group_of m (g ∷ gs) ≡ suc (group_of m gs) = ap (λ b. cond b 0 (suc (group_of m gs))) f in
          let rest : is_one_of (concat gs) m ≡ true =
          elim (has_append m g (concat gs) h) [ inl t ↦ absurd (both_ways _ f t) | inr t ↦ t ]
          in (
            λ u. elim (has_append m g (concat (take n gs)) u) [
              | inl t ↦ absurd (both_ways _ f t)
              | inr t ↦ let below = (ih rest).0 t in omega (arith, later, below)
            ],
            λ u. has_append_right m g (concat (take n gs)) ((ih rest).1 (omega (arith, later))),
          )
    ]
