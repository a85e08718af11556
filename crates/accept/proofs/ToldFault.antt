-- The first fault of a source is told by its refusal.
use Rattle.std.proofs.Common.{◌≡◌, List, [], ◌∷◌, Some, slice_get, sym, ap, subst, inl, inr}
use Rattle.cell_tree.specs.declared.source.Source.{Source}
use Rattle.cell_types.specs.Faults.{faults, IsFirst}
use Rattle.cell_types.specs.declared.error.StaticError.{StaticError}
use Rattle.cell_types.specs.declared.error.StaticError.TheVariants as S
use Rattle.refusals.specs.declared.refusal.Refusal.{Refusal}
use Rattle.accept.specs.Told.{static_refusal}
use Rattle.accept.proofs.OneRefusal.{none_some}

-- the first fault is told by its refusal
pub told_first : (s : Source) (e : StaticError) (r : Refusal) → IsFirst (faults s) e → static_refusal s.cols e ≡ Some r
    → (f : StaticError) × (slice_get (faults s) 0 ≡ Some f) × (static_refusal s.cols f ≡ Some r)
told_first s e r h told = (e, stands (faults s) h, told)
  where
    -- want of memory is told by none
    not_memory : e ≡ S.Memory → ⊥
    not_memory memory = none_some r (subst (λ f. static_refusal s.cols f ≡ Some r) memory told)

    -- what is first stands there
    stands : (fs : List StaticError) → IsFirst fs e → slice_get fs 0 ≡ Some e
    stands [] same = absurd (not_memory same)
    stands (f ∷ fs) (inl same) = ap Some (sym same)
    stands (f ∷ fs) (inr memory) = absurd (not_memory memory)
