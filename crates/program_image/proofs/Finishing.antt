-- Where every run goes well, some run is finished.
use Rattle.std.proofs.Common.{◌≡◌, ℕ, zero, suc, ◌+◌, ◌<◌, true, List, [], ◌∷◌, ◌++◌, Option, None, Some, length, option_and_then, is_some, refl, sym, ap, ◌∙◌, inl, inr, true≢false, arith}
use Rattle.std.proofs.lemmas.List.{length-append}
use Rattle.std.proofs.lemmas.Option.{none-some}
use Rattle.sys_base.specs.declared.actor.Actor.{Actor}
use Rattle.cell_code.specs.declared.image.Image.{Image}
use Rattle.array_model.specs.Runs.{GoesWell, IsFinished, IsRun, after}
use Rattle.array_model.specs.States.{ArrayState, Inputs, opening}
use Rattle.array_model.specs.Steps.{step}

module _ (image : Image) (inputs : Inputs) (cap : ℕ) where
  -- a run that is finished
  pub record FinishedRun : Type 0 where
    pub run : List Actor
    pub last : ArrayState
    pub is : IsRun image inputs cap run last
    pub finished : IsFinished image last

  longer : (s mid next : ArrayState) (run : List Actor) (a : Actor) → after image inputs cap s run ≡ Some mid
      → step image inputs cap mid a ≡ Some next → after image inputs cap s (run ++ a ∷ []) ≡ Some next
  longer s mid next [] a h e =
      ap (λ o. option_and_then (λ t. after image inputs cap t []) (option_and_then (λ t. step image inputs cap t a) o)) h
      ∙ ap (option_and_then (λ t. after image inputs cap t [])) e
  longer s mid next (b ∷ run) a h e =
      go (λ t k. longer t mid next run a k e) (step image inputs cap s b) h
    where
      go : ((t : ArrayState) → after image inputs cap t run ≡ Some mid → after image inputs cap t (run ++ a ∷ []) ≡ Some next)
          → (o : Option ArrayState) → option_and_then (λ t. after image inputs cap t run) o ≡ Some mid
          → option_and_then (λ t. after image inputs cap t (run ++ a ∷ [])) o ≡ Some next
      go on None k = absurd (none-some mid k)
      go on (Some t) k = on t k

  module _ (well : (run : List Actor) (last : ArrayState) → IsRun image inputs cap run last → GoesWell image inputs cap run last) where
    some_step : (o : Option ArrayState) → is_some o ≡ true → (next : ArrayState) × (o ≡ Some next)
    some_step None h = absurd (true≢false (sym h))
    some_step (Some next) h = (next, refl)

    finish : (fuel : ℕ) (run : List Actor) (last : ArrayState) → IsRun image inputs cap run last
        → image.bound < length run + fuel → FinishedRun
    finish zero run last is h = absurd (omega (arith, h, (well run last is).bounded))
    finish (suc fuel) run last is h =
        elim ((well run last is).never_stuck) [
          | inl f ↦ record { run = run; last = last; is = is; finished = f }
          | inr some ↦
              let next = some_step (step image inputs cap last some.0) some.1 in
              finish fuel (run ++ some.0 ∷ []) next.0 (longer (opening image) last next.0 run some.0 is next.1)
              (omega (arith, h, length-append run (some.0 ∷ [])))
        ]

    pub finished_run : FinishedRun
    finished_run = finish (suc image.bound) [] (opening image) refl (omega arith)
