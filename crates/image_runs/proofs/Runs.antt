-- What a schedule has made of a simulation at its opening state.
use Rattle.std.proofs.Common.{◌≡◌, ℕ, ◌+◌, List, [], ◌∷◌, ◌++◌, length, refl, sym, ap, subst, ◌∙◌, arith}
use Rattle.sys_base.specs.declared.actor.Actor.{Actor}
use Rattle.array_model.specs.States.{ArrayState, opening}
use Rattle.array_model.specs.Steps.{enabled}
use Rattle.schedules.specs.declared.chooser.Pick.{Pick}
use Rattle.schedules.specs.Picks.{HasReason, PicksRecorded}
use Rattle.schedules.specs.Recording.{Recording}
use Rattle.schedules.specs.declared.recorded.Standing.{Standing}
use Rattle.schedules.specs.declared.recorded.Standing.TheVariants as S
use Rattle.array_picks.specs.Picked.{PicksRun, PicksWhole}
use Rattle.array_picks.specs.Replays.{PicksNext, Replays}
use Rattle.array_picks.proofs.Entries.{entries_are, recorded_counts, recorded_ends, recorded_takes}
use Rattle.array_sim.specs.Simulations.{IsAfter, Simulation, cap_in, inputs_in}
use Rattle.array_drive.specs.Driven.{Drives, EndsBy, Follows}
use Rattle.array_drive.specs.Driving.{Recorded as Notes}
use Rattle.array_drive.specs.declared.driving.Driven.{Driven}
use Rattle.array_drive.specs.declared.driving.Driven.TheVariants.{Finished, Stopped}
use Rattle.run_words.specs.Schedules.{Finished as Finishes, Unfinished as Unfinishes, NotEnabled, ending_of}
use Rattle.image_runs.specs.Made.{IsReady}

module _ {S : Type 0} (picks : S → List Actor → Pick → S → Type 0) (sim new : Simulation) (notes noted : Notes)
    (value : S) (ready : IsReady sim notes) where
  -- what was picked, and that the simulation is after it
  pub record Picked (left : S) : Type 0 where
    pub last : ArrayState
    pub after : IsAfter new noted.entries last
    pub picked :
        PicksRun picks sim.array.image (inputs_in sim.array) (cap_in sim.array) (opening sim.array.image) value
        noted.entries last left

  abbrev pub picked : (left : S) → Follows picks sim value notes [] (opening sim.array.image) new left noted → Picked left
  picked left f =
      let same : f.more ≡ noted.entries = sym (f.entries ∙ ap (λ (xs : List Actor). xs ++ f.more) ready.fresh) in
      record {
        last = f.end;
        after = subst (λ (run : List Actor). IsAfter new run f.end) same f.after;
        picked = subst (λ (run : List Actor). PicksRun picks sim.array.image (inputs_in sim.array) (cap_in sim.array)
            (opening sim.array.image) value run f.end left) same f.picked;
      }

  -- what was picked to the end of the run
  pub record Whole (left : S) : Type 0 where
    pub last : ArrayState
    pub after : IsAfter new noted.entries last
    pub whole : PicksWhole picks sim.array.image (inputs_in sim.array) (cap_in sim.array) value noted.entries last left

  pub whole : (left : S) (driven : Driven) → driven ≡ Finished
      → Drives picks sim value notes [] (opening sim.array.image) driven new left noted → Whole left
  whole left driven finished d =
      let p = picked d.before d.follows in
      let ends : EndsBy picks sim d.follows.end d.before Finished left =
      subst (λ (e : Driven). EndsBy picks sim d.follows.end d.before e left) finished d.ends in
      record {
        last = p.last;
        after = p.after;
        whole =
            record {
              picked = subst (λ (v : S). PicksRun picks sim.array.image (inputs_in sim.array) (cap_in sim.array)
                  (opening sim.array.image) value noted.entries p.last v) (sym ends.1) p.picked;
              ended = ends.0;
            };
      }

-- ---- recorded entries

-- how a run of entries ends
pub ends_finished : (taken : ℕ) (left : List Actor) → length left ≡ 0 → Finishes ≡ ending_of taken left S.Running
ends_finished taken [] none = refl
ends_finished taken (a ∷ rest) none = absurd (omega (arith, none))

pub ends_early : (taken entry : ℕ) (left : List Actor) → (length left ≡ 0 → ⊥) → entry ≡ taken + 1
    → NotEnabled entry ≡ ending_of taken left S.Running
ends_early taken entry [] some is = absurd (some refl)
ends_early taken entry (a ∷ rest) some is = ap NotEnabled is

pub ends_not_enabled : (taken entry : ℕ) (left : List Actor) (why : Standing) → why ≡ S.NotEnabled entry
    → NotEnabled entry ≡ ending_of taken left why
ends_not_enabled taken entry [] why is = ap (ending_of taken []) (sym is)
ends_not_enabled taken entry (a ∷ rest) why is = ap (ending_of taken (a ∷ rest)) (sym is)

pub ends_unfinished : (taken : ℕ) (left : List Actor) (why : Standing) → (why ≡ S.Running → ⊥)
    → ((entry : ℕ) → why ≡ S.NotEnabled entry → ⊥) → Unfinishes ≡ ending_of taken left why
ends_unfinished taken left S.Running h k = absurd (h refl)
ends_unfinished taken [] S.Ended h k = refl
ends_unfinished taken (a ∷ rest) S.Ended h k = refl
ends_unfinished taken left (S.NotEnabled n) h k = absurd (k n refl)

module _ (sim new : Simulation) (notes noted : Notes) (entries : List Actor) (value left : Recording)
    (ready : IsReady sim notes)
    (start : value ≡ record { left = entries; taken = 0; standing = S.Running; stops = 0 }) where
  -- The entries have made a run, for a reason that they lead no further.
  pub record Replayed (why : Standing) : Type 0 where
    pub last : ArrayState
    pub after : IsAfter new noted.entries last
    pub replays :
        Replays sim.array.image (inputs_in sim.array) (cap_in sim.array) entries noted.entries last left.left why

  abbrev Taken : ArrayState → List Actor → List Actor → Type 0
  Taken last before rest =
      PicksRun PicksNext sim.array.image (inputs_in sim.array) (cap_in sim.array) (opening sim.array.image) before
      noted.entries last rest

  pub replayed_whole : (driven : Driven) → driven ≡ Finished
      → Drives PicksRecorded sim value notes [] (opening sim.array.image) driven new left noted → Replayed S.Running
  replayed_whole driven finished d =
      let w = whole PicksRecorded sim new notes noted value ready left driven finished d in
      record {
        last = w.last;
        after = w.after;
        replays =
            record {
              taken = subst (λ (before : List Actor). Taken w.last before left.left)
                  (ap (λ (r : Recording). r.left) start)
                  (recorded_takes sim.array.image (inputs_in sim.array) (cap_in sim.array) (opening sim.array.image) value
                  noted.entries w.last left w.whole.picked);
              ends = w.whole.ended;
            };
      }

  -- the entries are those of the run and those that are left
  pub all_entries : (why : Standing) (r : Replayed why) → entries ≡ noted.entries ++ left.left
  all_entries why r =
      entries_are sim.array.image (inputs_in sim.array) (cap_in sim.array) (opening sim.array.image) entries noted.entries
      r.last left.left r.replays.taken

  pub replayed_stopped : (driven : Driven) → driven ≡ Stopped
      → Drives PicksRecorded sim value notes [] (opening sim.array.image) driven new left noted
      → Replayed left.standing
  replayed_stopped driven stopped d =
      let p = picked PicksRecorded sim new notes noted value ready d.before d.follows in
      let ends : EndsBy PicksRecorded sim d.follows.end d.before Stopped left =
      subst (λ (e : Driven). EndsBy PicksRecorded sim d.follows.end d.before e left) stopped d.ends in
      let stops = ends.1 in
      record {
        last = p.last;
        after = p.after;
        replays =
            record {
              taken = subst (λ (rest : List Actor). Taken p.last entries rest) (sym stops.same_left)
                  (subst (λ (before : List Actor). Taken p.last before d.before.left)
                  (ap (λ (r : Recording). r.left) start)
                  (recorded_takes sim.array.image (inputs_in sim.array) (cap_in sim.array) (opening sim.array.image) value
                  noted.entries p.last d.before p.picked));
              ends = recorded_ends sim.array.image (inputs_in sim.array) (cap_in sim.array)
                  (enabled sim.array.image (inputs_in sim.array) (cap_in sim.array) p.last)
                  (length noted.entries) d.before left left.standing refl
                  (omega (
                    arith,
                    ap (λ (r : Recording). r.taken) start,
                    recorded_counts sim.array.image (inputs_in sim.array)
                        (cap_in sim.array) (opening sim.array.image) value noted.entries p.last d.before p.picked,
                  ))
                  ends.0 stops;
            };
      }

  pub not_running : (driven : Driven) → driven ≡ Stopped
      → Drives PicksRecorded sim value notes [] (opening sim.array.image) driven new left noted
      → left.standing ≡ S.Running → ⊥
  not_running driven stopped d running =
      let ends : EndsBy PicksRecorded sim d.follows.end d.before Stopped left =
      subst (λ (e : Driven). EndsBy PicksRecorded sim d.follows.end d.before e left) stopped d.ends in
      subst (λ (why : Standing). HasReason d.before
      (enabled sim.array.image (inputs_in sim.array) (cap_in sim.array) d.follows.end) why) running ends.1.reason
