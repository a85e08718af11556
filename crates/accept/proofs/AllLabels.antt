-- Too few queues for all consistent labels.
use Rattle.std.proofs.Common.{◌≡◌, ℕ, ◌*◌, ◌<◌, ◌≤◌, ◌↔◌, List, [], ◌∷◌, length, map, slice_get, slice_index, refl, sym, ap, subst, ◌∙◌, le_trans, arith}
use Rattle.std.proofs.lemmas.Option.{none-some}
use Rattle.sys_base.specs.Grid.{cell_count}
use Rattle.cell_types.specs.Code.{ProgramCode}
use Rattle.cell_types.specs.Groups.{greatest, lengths_of}
use Rattle.comm_sequence.specs.Labels.{IsConsistent, IsProposal}
use Rattle.comm_sequence.specs.Sequences.{sequences_of}
use Rattle.queue_plan.specs.Grouping.{all_groups, groups_at}
use Rattle.queue_plan.specs.Lacks.{lacks}
use Rattle.queue_plan.specs.declared.lack.Lack.{Lack}
use Rattle.refusals.specs.declared.refusal.Refusal.{Refusal}
use Rattle.accept.specs.FirstRefusal.{HasTooFewQueues}
use Rattle.accept.specs.Labelled.{AreLabels, IsLabelled, lacks_of, members_of}
use Rattle.accept.specs.Needs.{FitQueues, need_of}
use Rattle.accept.specs.Told.{lack_refusal}
use Rattle.accept.proofs.FirstLack.{at_link, count_links}

-- The laws of needs.
module _
    (least : (p : ProgramCode) (proposed labels : List ℕ) (link : ℕ) → IsProposal (sequences_of p).lists (length p.messages) proposed
    → IsConsistent (sequences_of p).lists labels → need_of p proposed link ≤ need_of p labels link)
    (fit : (links : List (List (ℕ × List ℕ))) (queues : List ℕ)
    → ((lacks links queues ≡ []) ↔ ((link : ℕ) → link < length links
    → greatest (map (λ (g : ℕ × List ℕ). length g.1) (groups_at links link)) ≤ slice_index queues link))) (p : ProgramCode) where
  -- the size of the largest group of a link is its need
  need_at_link : (labels : List ℕ) (link : ℕ) → link < 4 * cell_count p.grid
      → greatest (map (λ (g : ℕ × List ℕ). length g.1) (groups_at (all_groups p labels (lengths_of p)) link)) ≡ need_of p labels link
  need_at_link labels link l = ap (λ gs. greatest (map (λ (g : ℕ × List ℕ). length g.1) gs)) (at_link p labels link l)

  -- where all needs fit, no link lacks queues
  none_lacks : (labels : List ℕ) → FitQueues p labels → lacks_of p labels ≡ []
  none_lacks labels fits =
      (fit (all_groups p labels (lengths_of p)) p.queues).1
      (λ link l.
      let inside : link < 4 * cell_count p.grid = omega (arith, l, count_links p labels) in
      subst (λ n. n ≤ slice_index p.queues link) (sym (need_at_link labels link inside)) (fits link inside))

  -- and the other way round
  fits_all : (labels : List ℕ) → lacks_of p labels ≡ [] → FitQueues p labels
  fits_all labels none link inside =
      subst (λ n. n ≤ slice_index p.queues link) (need_at_link labels link inside)
      ((fit (all_groups p labels (lengths_of p)) p.queues).0 none link (omega (arith, inside, count_links p labels)))

  -- where labels don't fit, a link lacks queues
  first_of_all : (own : List ℕ) → AreLabels p own → (found : List Lack) → lacks_of p own ≡ found → (FitQueues p own → ⊥)
      → (r : Refusal) × HasTooFewQueues p r
  first_of_all own are [] none never = absurd (never (fits_all own none))
  first_of_all own are (lack ∷ rest) is never =
      let r : Refusal = lack_refusal p lack (members_of p own lack.link lack.label) in
      (r, (own, are, lack, ap (λ ls. slice_get ls 0) is, refl))

  -- too few for the own labels, and for all
  pub for_all : (own : List ℕ) → (IsLabelled p → ⊥) → AreLabels p own → IsConsistent (sequences_of p).lists own
      → (((r : Refusal) × HasTooFewQueues p r)
      ↔ ((labels : List ℕ) → IsConsistent (sequences_of p).lists labels → FitQueues p labels → ⊥))
  for_all own never are consistent = (
    λ found labels rises fits.
        let (r, (proposed, them, lack, first, same)) = found in
        let none = none_lacks proposed
        (λ link l. le_trans (least p proposed labels link (them.proposed never) rises) (fits link l)) in
        none-some lack (sym (ap (λ ls. slice_get ls 0) none) ∙ first),
    λ unfit. first_of_all own are (lacks_of p own) refl (unfit own consistent),
  )
