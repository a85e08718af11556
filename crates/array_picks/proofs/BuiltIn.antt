-- What the built-in schedules pick: always one place, inside the list.
use Rattle.std.proofs.Common.{◌≡◌, ℕ, ◌-◌, ◌%◌, ◌<◌, ◌≤◌, max, Bool, List, Option, Some, None, length, refl, sym, ◌∙◌, arith}
use Rattle.std.specs.List.{position, slice_get}
use Rattle.std.specs.Option.{unwrap_or}
use Rattle.std.proofs.lemmas.List.Quantifiers.{position-Some}
use Rattle.std.proofs.lemmas.Nat.{mod_below}
use Rattle.rand_pcg.specs.Lcg.{Lcg}
use Rattle.rand_pcg.specs.Pcg.{pcg32}
use Rattle.sys_base.specs.Actors.{is_before}
use Rattle.sys_base.specs.declared.actor.Actor.{Actor}
use Rattle.sys_base.specs.declared.actor.Actor.TheVariants.{Cell}
use Rattle.cell_code.specs.declared.image.Image.{Image}
use Rattle.array_model.specs.Runs.{IsRun, IsSure}
use Rattle.array_model.specs.States.{ArrayState, Inputs, IsCounted}
use Rattle.schedules.specs.Picks.{PicksDrawn, PicksRound, round_place}
use Rattle.schedules.specs.declared.chooser.Pick.{Pick}
use Rattle.schedules.specs.declared.chooser.Pick.TheVariants.{At, Stop}
use Rattle.schedules.specs.declared.sides.High.{High}
use Rattle.schedules.specs.declared.sides.Low.{Low}
use Rattle.array_picks.specs.Picked.{PicksOneRun}
use Rattle.array_picks.proofs.Turns.{one_run}

same_place : (p q n : ℕ) → At p ≡ At n → At q ≡ At n → p ≡ q
same_place p q n h k = cc

pub no_stop : (n : ℕ) → Stop ≡ At n → ⊥
no_stop n h = cc

found_inside : (p : Actor → Bool) (list : List Actor) (o : Option ℕ) → 0 < length list → position p list ≡ o → unwrap_or o 0 < length list
found_inside p list None some e = some
found_inside p list (Some i) some e = (position-Some p list i (Cell 0) e).0

round_inside : (last : Option Actor) (list : List Actor) → 0 < length list → round_place last list < length list
round_inside None list some = some
round_inside (Some last) list some = found_inside (is_before last) list (position (is_before last) list) some refl

module _ (image : Image) (least cap : ℕ) (inputs : Inputs) (sure : IsSure image least) (counted : IsCounted image inputs)
    (enough : max 1 least ≤ cap) where
  bounded : (run : List Actor) (last : ArrayState) → IsRun image inputs cap run last → length run ≤ image.bound
  bounded run last is = (sure inputs cap run last counted enough is).bounded

  pub low : (schedule : Low) → PicksOneRun (λ (_ : Low) (enabled : List Actor) (pick : Pick) (_ : Low). pick ≡ At 0) image inputs cap schedule
  low = one_run image inputs cap _ (λ v list some. (0, v, refl, some)) bounded (λ v list p q x y h k. (same_place p q 0 h k, refl))

  pub high : (schedule : High)
      → PicksOneRun (λ (_ : High) (enabled : List Actor) (pick : Pick) (_ : High). pick ≡ At (length enabled - 1)) image inputs cap schedule
  high =
      one_run image inputs cap _ (λ v list some. (length list - 1, v, refl, omega arith)) bounded
      (λ v list p q x y h k. (same_place p q (length list - 1) h k, refl))

  pub round : (last : Option Actor) → PicksOneRun PicksRound image inputs cap last
  round =
      one_run image inputs cap PicksRound
      (λ v list some. (round_place v list, slice_get list (round_place v list), record { place = refl; taken = refl }, round_inside v list some))
      bounded
      (λ v list p q x y h k. (same_place p q (round_place v list) h.place k.place, h.taken ∙ sym k.taken))

  pub seeded : (generator : Lcg) → PicksOneRun PicksDrawn image inputs cap generator
  seeded =
      one_run image inputs cap PicksDrawn
      (λ v list some. ((pcg32 v).0 % length list, (pcg32 v).1, record { place = refl; drawn = refl }, mod_below (pcg32 v).0 (length list) some))
      bounded
      (λ v list p q x y h k. (same_place p q ((pcg32 v).0 % length list) h.place k.place, h.drawn ∙ sym k.drawn))
