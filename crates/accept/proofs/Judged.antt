-- The first refusal of a program, and what there is of a program that has none.
use Rattle.std.proofs.Common.{ℕ, ◌≡◌, ◌+◌, ◌<◌, ◌≤◌, false, List, [], ◌∷◌, Option, None, Some, inl, inr, is_none, is_some, length, map, sum_by, slice_get, refl, sym, ap, subst, ◌∙◌, arith}
use Rattle.std.specs.Prelude.{not, find, option_map, slice_index_or, if◌then◌else◌}
use Rattle.sys_base.specs.declared.limits.TheConstants.{STEPS}
use Rattle.cell_types.specs.Code.{ProgramCode}
use Rattle.cell_types.specs.Cost.{IsLimited, cells_cost}
use Rattle.cell_types.specs.Groups.{bound, forwards, lengths_of}
use Rattle.cell_types.specs.declared.program.Message.{Message}
use Rattle.comm_sequence.specs.Differing.{all_differing, IsFirst}
use Rattle.comm_sequence.specs.Labels.{IsConsistent}
use Rattle.comm_sequence.specs.Sequences.{sequences_of, message_of}
use Rattle.comm_sequence.specs.declared.comm.Comm.{Comm}
use Rattle.comm_sequence.specs.declared.error.CommError.{CommError}
use Rattle.comm_sequence.specs.declared.error.CommError.TheVariants as C
use Rattle.crossing_off.specs.Answer.{IsEmpty}
use Rattle.labelling.specs.Falls.{FallsAt}
use Rattle.queue_plan.specs.Grouping.{all_groups}
use Rattle.refusals.specs.declared.refusal.Refusal.{Refusal}
use Rattle.refusals.specs.declared.refusal.Refusal.TheVariants as R
use Rattle.accept.specs.bodies.Answers.{IsFound}
use Rattle.accept.specs.Built.{IsJudged}
use Rattle.accept.specs.FirstRefusal.{IsCostly, HasUnlikeArms, IsStalled, HasSomeLabels, HasFallingLabels, HasTooFewQueues, IsOverBound, cell_trials, naming_trials, label_trials, IsFirstOf, PassesAll}
use Rattle.accept.specs.Labelled.{AreLabels, has_label, first_unlabelled, lacks_of}
use Rattle.accept.specs.bodies.Laws.{Laws}
use Rattle.accept.specs.bodies.Reading.{unlike}
use Rattle.accept.specs.declared.building.AcceptError.{AcceptError}
use Rattle.accept.specs.declared.building.AcceptError.TheVariants as A
use Rattle.accept.proofs.OneRefusal.{unlikeness, stalling, lacking, none_some, one_labelling}

-- the trial never applies
abbrev Never : (ProgramCode → Refusal → Type 0) → ProgramCode → Type 0
Never Applies p = (q : Refusal) → Applies p q → ⊥

-- an error of one trial is one of another
found : (Given Wanted : ProgramCode → Refusal → Type 0) (p : ProgramCode) (e : AcceptError)
    → ((r : Refusal) → Given p r → Wanted p r) → IsFound Given p e → IsFound Wanted p e
found Given Wanted p (A.Refused r) on h = on r h
found Given Wanted p A.Memory on h = tt

-- a cost that is not above the limit
pub within_limit : (cost : ℕ) (o : Option ℕ) → IsLimited cost o → is_none o ≡ false → cost ≤ STEPS
within_limit cost None limited some = cc
within_limit cost (Some steps) limited some = limited.1

-- where each message has a label, none is without one
all_labelled : (ms : List Message) (labels : List ℕ) → map (λ (m : Message). m.label) ms ≡ map Some labels → first_unlabelled ms ≡ None
all_labelled [] labels e = refl
all_labelled (m ∷ ms) [] e = absurd (cc)
all_labelled (m ∷ ms) (l ∷ ls) e =
    let first : m.label ≡ Some l = cc in
    let rest : map (λ (n : Message). n.label) ms ≡ map Some ls = cc in
    ap (λ o. option_map (λ (n : Message). n.name) (if not (is_some o) then Some m else find (λ n. not (has_label n)) ms)) first
    ∙ all_labelled ms ls rest

module _ (laws : Laws) (p : ProgramCode) where
  -- the bound, by the groups
  pub bound_is : (labels : List ℕ) (links : List (List (ℕ × List ℕ))) (n : ℕ) → links ≡ all_groups p labels (lengths_of p)
      → n ≡ cells_cost p + forwards p + sum_by length links → n ≡ bound p labels
  bound_is labels links n groups sum =
      sum ∙ ap (λ k. cells_cost p + forwards p + k) (ap (sum_by length) groups ∙ laws.groups p labels)

  -- the cells that cost too much come first
  pub costly_first : STEPS < cells_cost p → IsFirstOf cell_trials p R.CellSteps
  costly_first many = inl (many, refl)

  module _ (few : cells_cost p ≤ STEPS) where
    -- cells within the limit don't cost too much
    pub not_costly : Never IsCostly p
    not_costly q (many, _) = absurd (omega (arith, few, many))

    -- arms that differ come next
    pub unlike_first : (e : CommError) → IsFirst (all_differing p) e → IsFound (IsFirstOf cell_trials) p (unlike e)
    unlike_first (C.ArmsDiffer cell line) h = inr (not_costly, inl (cell, h))
    unlike_first C.Memory h = tt

    module _ (alike : all_differing p ≡ []) where
      -- arms that are alike don't differ
      pub not_unlike : Never HasUnlikeArms p
      not_unlike q h =
          let (line, (cell, there), same) = unlikeness p q h in
          none_some (cell, line) (subst (λ ds. slice_get ds 0 ≡ Some (cell, line)) alike there)

      -- a stall comes next
      pub stalled_first : (e : AcceptError) → IsFound IsStalled p e → IsFound (IsFirstOf cell_trials) p e
      stalled_first e h = found IsStalled (IsFirstOf cell_trials) p e (λ r k. inr (not_costly, inr (not_unlike, inl k))) h

      module _ (order : List Comm) (empty : IsEmpty (sequences_of p) p.buffer order) where
        -- a program with an order for its buffer isn't stalled
        not_stalled : Never IsStalled p
        not_stalled q h =
            let stuck = (stalling p q h).2 in
            stuck.1.no_order order empty.is_order

        -- then none of these trials applies
        pub cells_pass : PassesAll cell_trials p
        cells_pass = (not_costly, (not_unlike, (not_stalled, tt)))

  -- a message without a label comes first of the labels, the queues and the bound
  pub lacking_first : (e : AcceptError) → IsFound HasSomeLabels p e → IsFound (IsFirstOf naming_trials) p e
  lacking_first e h = found HasSomeLabels (IsFirstOf naming_trials) p e (λ r k. inl k) h

  module _ (labels : List ℕ) (are : AreLabels p labels) where
    -- where there are labels, each message has one, or none has
    not_lacking : Never HasSomeLabels p
    not_lacking q h =
        let (name, (some, first), same) = lacking p q h in
        none_some name (sym (all_labelled p.messages labels (are.given some)) ∙ first)

    -- a fall comes next
    pub falling_first : (e : AcceptError) → IsFound HasFallingLabels p e → IsFound (IsFirstOf naming_trials) p e
    falling_first e h = found HasFallingLabels (IsFirstOf naming_trials) p e (λ r k. inr (not_lacking, inl k)) h

    module _ (consistent : IsConsistent (sequences_of p).lists labels) where
      -- consistent labels don't fall
      not_falling : Never HasFallingLabels p
      not_falling q (others, them, fall, falls, same) =
          let one : others ≡ labels = one_labelling laws p others labels them are in
          let at : FallsAt (slice_index_or (sequences_of p).lists fall.cell []) labels fall.at fall.before fall.after =
          subst (λ ls. FallsAt (slice_index_or (sequences_of p).lists fall.cell []) ls fall.at fall.before fall.after) one falls.falls in
          let second = subst (λ n. option_map message_of (slice_get (slice_index_or (sequences_of p).lists fall.cell []) n) ≡ Some fall.after) at.next at.second in
          let rises = consistent fall.before fall.after
          (record { cell = fall.cell; place = at.place; first = at.first; second = second }) in
          absurd (omega (arith, at.lower, rises))

      -- then none of the trials of labels applies
      pub names_pass : PassesAll naming_trials p
      names_pass = (not_lacking, (not_falling, tt))

      -- a lack of queues comes next
      pub few_first : (e : AcceptError) → IsFound HasTooFewQueues p e → IsFound (IsFirstOf label_trials) p e
      few_first e h =
          found HasTooFewQueues (IsFirstOf label_trials) p e (λ r k. inr (not_lacking, inr (not_falling, inl k))) h

      module _ (enough : lacks_of p labels ≡ []) where
        -- where no link lacks queues, there is no first lack
        not_few : Never HasTooFewQueues p
        not_few q (others, them, lack, first, same) =
            let one : others ≡ labels = one_labelling laws p others labels them are in
            none_some lack (sym (ap (λ ls. slice_get (lacks_of p ls) 0) one ∙ ap (λ ls. slice_get ls 0) enough) ∙ first)

        -- a bound above the limit comes last
        pub over_first : (n : ℕ) (e : AcceptError) → n ≡ bound p labels → (STEPS < n) × (e ≡ A.Refused (R.Bound n))
            → IsFound (IsFirstOf label_trials) p e
        over_first n e is (over, same) =
            let last : IsOverBound p (R.Bound n) = (labels, are, subst (λ k. STEPS < k) is over, ap (λ k. R.Bound k) is) in
            subst (IsFound (IsFirstOf label_trials) p) (sym same)
            (inr (not_lacking, inr (not_falling, inr (not_few, inl last))))

        module _ (n : ℕ) (is : n ≡ bound p labels) (within : n ≤ STEPS) where
          -- a bound within the limit isn't above it
          not_over : Never IsOverBound p
          not_over q (others, them, over, same) =
              let one : others ≡ labels = one_labelling laws p others labels them are in
              absurd (omega (arith, subst (λ ls. STEPS < bound p ls) one over, is, within))

          -- then none of these trials applies
          pub passes : PassesAll label_trials p
          passes = (not_lacking, (not_falling, (not_few, (not_over, tt))))

          -- and this is what there is, with an order for the buffer
          pub judged : (order : List Comm) → IsEmpty (sequences_of p) p.buffer order → IsJudged p order labels n
          judged order empty = record {
            ordered = empty.is_order;
            crossed = empty.rule;
            labels_are = are;
            consistent = consistent;
            enough = enough;
            bound_is = is;
            within = within;
          }
