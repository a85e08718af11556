-- Every run of a regular image goes well.
use Rattle.std.proofs.Common.{◌≡◌, ℕ, ◌<◌, ◌≤◌, max, true, false, ◌⊎◌, inl, inr, List, [], Option, Some, None, length, slice_get, refl, sym, ap, subst, ◌∙◌}
use Rattle.std.specs.Option.{is_some}
use Rattle.sys_base.specs.Held.{Streams}
use Rattle.sys_base.specs.declared.actor.Actor.{Actor}
use Rattle.sys_base.specs.declared.word.Word.{Word}
use Rattle.array_runs.specs.Alone.{IsRegularArray, RunsAlike}
use Rattle.array_runs.specs.Alone as M
use Rattle.array_runs.specs.Frame as F
use Rattle.array_runs.specs.Machines.{Machine, IsArrayClean, IsArrayFinished, IsArraySure, array_can}
use Rattle.array_runs.specs.Meaning.{HasOneMeaning, IsOutput, KeepsMeaning}
use Rattle.array_runs.proofs.Agreed.{keeps_meaning}
use Rattle.array_runs.proofs.Arrays.{array_sure}
use Rattle.array_runs.proofs.Unique as U
use Rattle.cell_code.specs.Rows.{State, Stands, row_of}
use Rattle.cell_code.specs.declared.image.Image.{Image}
use Rattle.array_model.specs.Regular.{IsRegular}
use Rattle.array_model.specs.Runs.{GoesWell, IsAtRest, IsFinished, IsRun, IsSure}
use Rattle.array_model.specs.States.{ArrayState, Inputs, IsCounted, cells, code_of, opening}
use Rattle.array_model.specs.Steps.{step}
use Rattle.array_model.proofs.CellsAlone.{Halting, halting}
use Rattle.array_model.proofs.Links.{none_past}
use Rattle.array_model.proofs.Listed.{lists, ordered, regular}
use Rattle.array_model.proofs.Mapped.{Follows, action_of, array, enabled_same, follows, frame, machine, start}

none_from : {A : Type 0} (o : Option A) → is_some o ≡ false → o ≡ None
none_from None e = refl
none_from (Some x) e = absurd (cc)

module _ (image : Image) (buffer : ℕ) (h : IsRegular image buffer) (inputs : Inputs) (counted : IsCounted image inputs) where
  abbrev p : F.Frame
  p = frame image

  abbrev mc : Machine State Word
  mc = machine image inputs

  -- how each cell comes to its halt by itself
  pub halts_alone : (v : Streams) (c : ℕ) → c < cells image → Halting image inputs v c (h.cost c) (h.lists c)
  halts_alone v c l =
      let e = h.alone c (inputs c) v l (counted c l) in
      subst (Halting image inputs v c (h.cost c)) e.2 (halting image inputs v c (h.cost c) e.0 e.1)

  pub alike : RunsAlike p mc (start image) (lists image buffer h) h.cost
  alike = record { halts = λ v c l. (halts_alone v c l).halts; alike = λ v c l. (halts_alone v c l).alike }

  pub regular_array : IsRegularArray p mc (start image) (lists image buffer h) h.cost buffer
  regular_array = record { cells = alike; regular = regular image buffer h }

  pub meaning : HasOneMeaning p mc (start image)
  meaning = U.one_meaning p mc (start image) (lists image buffer h) h.cost buffer alike (ordered image buffer h)

  abbrev nothing : State → List Word
  nothing x = []

  no_output : IsOutput mc nothing
  no_output = record { worked = λ c x. ([], refl); wrote = λ c x. ([], refl); got = λ c x w. ([], refl) }

  module _ (cap : ℕ) (enough : max 1 buffer ≤ cap) (run : List Actor) (last : ArrayState) (is : IsRun image inputs cap run last) where
    pub by : Follows image inputs cap run last (array (opening image))
    by = follows image inputs cap (none_past image h.shaped) (opening image) run last is

    sure : IsArraySure p mc (start image) h.cost buffer
    sure = array_sure p mc (start image) (lists image buffer h) h.cost buffer regular_array

    kept : KeepsMeaning p mc (start image) nothing meaning.streams (array last)
    kept =
        subst (KeepsMeaning p mc (start image) nothing meaning.streams) by.1
        (keeps_meaning p mc (start image) (lists image buffer h) h.cost buffer regular_array meaning.streams meaning.agree cap
        nothing no_output run by.0)

    -- where the machines halt, the cells are at `halt`
    finished : IsArrayFinished p mc (array last) → IsFinished image last
    finished f c l =
        let one = kept.is_alone c l in
        let there : M.action_alone mc meaning.streams (start image) c one.steps ≡ F.Halt =
        ap (mc.action c) (sym one.state) ∙ f c l
        in
        ap (λ (s : State). slice_get (code_of image c) s.at) one.state
        ∙ (halts_alone meaning.streams c l).at_halt one.steps there

    pub array_finished : IsFinished image last → IsArrayFinished p mc (array last)
    array_finished f c l =
        ap (λ o. action_of (elim o [ None ↦ Stands | Some i ↦ row_of c (inputs c) (last.cell c) i ])) (f c l)

    moves : IsFinished image last ⊎ ((a : Actor) × (is_some (step image inputs cap last a) ≡ true))
    moves =
        elim (subst (λ a. IsArrayFinished p mc a ⊎ ((x : Actor) × (array_can p mc cap a x ≡ true))) by.1
        (sure.never_stuck cap run enough by.0)) [
          | inl f ↦ inl (finished f)
          | inr m ↦ inr (m.0, enabled_same image inputs cap (none_past image h.shaped) last m.0 ∙ m.1)
        ]

    rests : IsFinished image last → IsAtRest image inputs cap last
    rests f =
        let clean : IsArrayClean p mc cap (array last) =
        subst (λ a. IsArrayFinished p mc a → IsArrayClean p mc cap a) by.1 (sure.ends_clean cap run enough by.0)
        (array_finished f)
        in
        record {
          still = λ a. none_from _ (enabled_same image inputs cap (none_past image h.shaped) last a ∙ clean.still a);
          empty = λ m hop l g. clean.empty m hop l g;
        }

    pub goes_well : GoesWell image inputs cap run last
    goes_well =
        record {
          bounded = subst (λ n. length run ≤ n) (sym h.bound) (sure.bounded cap run enough by.0);
          never_stuck = moves;
          ends_clean = rests;
        }

pub regular_sure : (image : Image) (buffer : ℕ) → IsRegular image buffer → IsSure image buffer
regular_sure image buffer h inputs cap run last counted enough is =
    goes_well image buffer h inputs counted cap enough run last is
