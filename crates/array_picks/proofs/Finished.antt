-- Where nothing is enabled.
use Rattle.std.proofs.Common.{◌≡◌, ◌↔◌, ℕ, ◌<◌, ◌≤◌, max, inl, inr, List, [], ◌∷◌, None, length, get_or, refl, sym, ap, subst, ◌∙◌, arith, Contains}
use Rattle.std.proofs.lemmas.Option.{none-some}
use Rattle.sys_base.specs.declared.actor.Actor.{Actor}
use Rattle.cell_code.specs.Images.{IsShaped}
use Rattle.cell_code.specs.declared.image.Image.{Image}
use Rattle.array_model.specs.Runs.{IsFinished, IsRun, IsSure}
use Rattle.array_model.specs.States.{ArrayState, Inputs, IsCounted}
use Rattle.array_model.specs.Steps.{enabled, step}
use Rattle.array_model.proofs.Always.{listed}
use Rattle.array_picks.proofs.Turns.{listed_moves}

none_in : (list : List Actor) (a : Actor) → list ≡ [] → Contains list a → ⊥
none_in list a e c = omega (arith, ap length e, c.1)

module _ (image : Image) (inputs : Inputs) (cap : ℕ) where
  still_empty : (s : ArrayState) → ((a : Actor) → step image inputs cap s a ≡ None) → (list : List Actor)
      → enabled image inputs cap s ≡ list → list ≡ []
  still_empty s still [] e = refl
  still_empty s still (b ∷ list) e =
      let some : 0 < length (enabled image inputs cap s) = subst (λ (l : List Actor). 0 < length l) (sym e) (omega arith) in
      let m = listed_moves image inputs cap s 0 b some in
      absurd (none-some m.0 (sym (still (get_or (enabled image inputs cap s) 0 b)) ∙ m.1))

  pub ends_finished : (least : ℕ) (run : List Actor) (last : ArrayState) → IsShaped image → IsSure image least → IsCounted image inputs
      → max 1 least ≤ cap → IsRun image inputs cap run last
      → ((enabled image inputs cap last ≡ []) ↔ IsFinished image last)
  ends_finished least run last shaped sure counted enough is =
      let well = sure inputs cap run last counted enough is in (
        λ e. elim well.never_stuck [
          | inl f ↦ f
          | inr m ↦ absurd (none_in (enabled image inputs cap last) m.0 e ((listed image inputs cap last m.0 shaped).0 m.1))
        ],
        λ f. still_empty last (well.ends_clean f).still (enabled image inputs cap last) refl,
      )
