-- One pick, and picks one after the other.
use Rattle.std.proofs.Common.{◌≡◌, ℕ, ◌+◌, ◌<◌, ◌≤◌, List, [], ◌∷◌, ◌++◌, Some, length, get_or, slice_get, refl, sym, ap, subst, ◌∙◌, arith, length-append}
use Rattle.std.proofs.lemmas.Option.{slice_get_within, get_or_from_slice_get}
use Rattle.std.proofs.lemmas.List.{append_assoc, append-nil}
use Rattle.sys_base.specs.declared.actor.Actor.{Actor}
use Rattle.cell_code.specs.declared.image.Image.{Image}
use Rattle.array_model.specs.Runs.{IsRun}
use Rattle.array_model.specs.States.{ArrayState, Inputs, IsCounted, opening}
use Rattle.array_model.specs.Steps.{enabled, step}
use Rattle.schedules.specs.declared.chooser.Pick.{Pick}
use Rattle.schedules.specs.declared.chooser.Pick.TheVariants.{At, Stop}
use Rattle.array_picks.specs.Picked.{NeverStops, PicksRun}
use Rattle.array_picks.proofs.Turns.{after_both, after_one, listed_moves, picked_both}
use Rattle.array_sim.specs.Simulations.{IsAfter, IsReached, Simulation, cap_in, inputs_in}
use Rattle.array_drive.specs.Driving.{IsSureAt, Recorded}
use Rattle.array_drive.specs.Driven.{Drives, EndsBy, Follows, enabled_in}
use Rattle.array_drive.specs.declared.driving.Driven.{Driven}
use Rattle.array_drive.specs.declared.driving.Driven.TheVariants.{Finished, Stopped}

-- what stands in the list has a step
pub moves_there : (image : Image) (inputs : Inputs) (cap : ℕ) (s : ArrayState) (list : List Actor) (place : ℕ) (a : Actor)
    → list ≡ enabled image inputs cap s → slice_get list place ≡ Some a
    → (next : ArrayState) × (step image inputs cap s a ≡ Some next)
moves_there image inputs cap s list place a is there =
    let here : slice_get (enabled image inputs cap s) place ≡ Some a = ap (λ (l : List Actor). slice_get l place) (sym is) ∙ there in
    let inside : place < length (enabled image inputs cap s) = slice_get_within (enabled image inputs cap s) place a here in
    let m = listed_moves image inputs cap s place a inside in
    (m.0, ap (step image inputs cap s) (sym (get_or_from_slice_get (enabled image inputs cap s) place a a here)) ∙ m.1)

-- a sure image, where a run is as long as the bound
pub none_left : (image : Image) (inputs : Inputs) (cap : ℕ) (run : List Actor) (last : ArrayState) → IsSureAt image cap → 1 ≤ cap
    → IsCounted image inputs → IsRun image inputs cap run last → image.bound ≤ length run
    → (list : List Actor) → enabled image inputs cap last ≡ list → list ≡ []
none_left image inputs cap run last sure some counted is long [] e = refl
none_left image inputs cap run last sure some counted is long (b ∷ list) e =
    let inside : 0 < length (enabled image inputs cap last) = subst (λ (l : List Actor). 0 < length l) (sym e) (omega arith) in
    let m = listed_moves image inputs cap last 0 b inside in
    let a = get_or (enabled image inputs cap last) 0 b in
    let well = sure.sure inputs cap (run ++ a ∷ []) m.0 counted (omega (arith, sure.enough, some))
    (after_both image inputs cap (opening image) run (a ∷ []) last m.0 is (after_one image inputs cap last a m.0 m.1))
    in
    absurd (omega (arith, well.bounded, length-append run (a ∷ []), long))

module _ {S : Type 0} (picks : S → List Actor → Pick → S → Type 0) where
  -- one pick
  pub follows_one : (sim new : Simulation) (value left : S) (noted notes : Recorded) (list : List Actor) (place : ℕ) (a : Actor)
      (run : List Actor) (last : ArrayState) → list ≡ enabled_in picks sim last → picks value list (At place) left
      → slice_get list place ≡ Some a
      → ((next : ArrayState) → step sim.array.image (inputs_in sim.array) (cap_in sim.array) last a ≡ Some next
      → IsAfter new (run ++ a ∷ []) next)
      → notes.entries ≡ noted.entries ++ a ∷ [] → notes.room + 1 ≡ noted.room
      → Follows picks sim value noted run last new left notes
  follows_one sim new value left noted notes list place a run last is picked there after entries room =
      let m = moves_there sim.array.image (inputs_in sim.array) (cap_in sim.array) last list place a is there in
      record {
        more = a ∷ [];
        end = m.0;
        picked = (
          m.0,
          left,
          record {
            place = place;
            picked = subst (λ (l : List Actor). picks value l (At place) left) is picked;
            there = ap (λ (l : List Actor). slice_get l place) (sym is) ∙ there;
            moves = m.1;
          },
          (refl, refl),
        );
        after = after m.0 m.1;
        entries = entries;
        room = room;
      }

  -- no pick
  pub follows_none : (sim : Simulation) (value : S) (noted : Recorded) (run : List Actor) (last : ArrayState) → IsAfter sim run last
      → Follows picks sim value noted run last sim value noted
  follows_none sim value noted run last after =
      record {
        more = [];
        end = last;
        picked = (refl, refl);
        after = subst (λ (r : List Actor). IsAfter sim r last) (sym (append-nil run)) after;
        entries = sym (append-nil noted.entries);
        room = omega arith;
      }

  -- the array is the same but for its state
  pub record IsSameArray (sim new : Simulation) : Type 0 where
    pub image : new.array.image ≡ sim.array.image
    pub cap : cap_in new.array ≡ cap_in sim.array
    pub inputs : inputs_in new.array ≡ inputs_in sim.array

  -- picks that go on behind others
  pub follows_both : (sim mid new : Simulation) (value between left : S) (noted halfway notes : Recorded) (run : List Actor)
      (last : ArrayState) → IsSameArray sim mid → Follows picks sim value noted run last mid between halfway
      → ((run : List Actor) (last : ArrayState) → IsAfter mid run last → Follows picks mid between halfway run last new left notes)
      → Follows picks sim value noted run last new left notes
  follows_both sim mid new value between left noted halfway notes run last same f on =
      let k = on (run ++ f.more) f.end f.after in
      let there : PicksRun picks sim.array.image (inputs_in sim.array) (cap_in sim.array) f.end between k.more k.end left =
      subst (λ (i : Image). PicksRun picks i (inputs_in sim.array) (cap_in sim.array) f.end between k.more k.end left) same.image
      (subst (λ (n : Inputs). PicksRun picks mid.array.image n (cap_in sim.array) f.end between k.more k.end left) same.inputs
      (subst (λ (n : ℕ). PicksRun picks mid.array.image (inputs_in mid.array) n f.end between k.more k.end left) same.cap k.picked))
      in
      record {
        more = f.more ++ k.more;
        end = k.end;
        picked =
            picked_both sim.array.image (inputs_in sim.array) (cap_in sim.array) picks last value f.more k.more f.end between k.end left
            f.picked there;
        after = subst (λ (r : List Actor). IsAfter new r k.end) (append_assoc run f.more k.more) k.after;
        entries = k.entries ∙ ap (λ (l : List Actor). l ++ k.more) f.entries ∙ append_assoc noted.entries f.more k.more;
        room = omega (arith, k.room, f.room, length-append f.more k.more);
      }

  -- the end of a run, in the same array
  pub ends_same : (sim mid : Simulation) (end : ArrayState) (value : S) (driven : Driven) (left : S) → IsSameArray sim mid
      → EndsBy picks mid end value driven left → EndsBy picks sim end value driven left
  ends_same sim mid end value driven left same h =
      let list : enabled_in picks mid end ≡ enabled_in picks sim end =
      ap (λ (i : Image). enabled i (inputs_in mid.array) (cap_in mid.array) end) same.image
      ∙ ap (λ (n : Inputs). enabled sim.array.image n (cap_in mid.array) end) same.inputs
      ∙ ap (λ (n : ℕ). enabled sim.array.image (inputs_in sim.array) n end) same.cap
      in
      by_end driven list h
    where
      by_end : (driven : Driven) → enabled_in picks mid end ≡ enabled_in picks sim end
          → EndsBy picks mid end value driven left → EndsBy picks sim end value driven left
      by_end Finished list h = (sym list ∙ h.0, h.1)
      by_end Stopped list h =
          subst (λ (l : List Actor). (0 < length l) × picks value l Stop left) list h

  -- what never stops ends finished
  pub never_stopped : (sim : Simulation) (end : ArrayState) (value : S) (driven : Driven) (left : S) → NeverStops picks
      → EndsBy picks sim end value driven left → driven ≡ Finished
  never_stopped sim end value Finished left never h = refl
  never_stopped sim end value Stopped left never h = absurd (never value left (enabled_in picks sim end) h.1)

  -- a run that has ended
  pub drives_by : (sim mid new : Simulation) (value between left : S) (noted halfway notes : Recorded) (run : List Actor)
      (last : ArrayState) (driven : Driven) → IsSameArray sim mid → Follows picks sim value noted run last mid between halfway
      → ((run : List Actor) (last : ArrayState) → IsAfter mid run last → EndsBy picks mid last between driven left)
      → new ≡ mid → notes ≡ halfway → Drives picks sim value noted run last driven new left notes
  drives_by sim mid new value between left noted halfway notes run last driven same f ends sim_is notes_are =
      subst (λ (n : Simulation). Drives picks sim value noted run last driven n left notes) (sym sim_is)
      (subst (λ (n : Recorded). Drives picks sim value noted run last driven mid left n) (sym notes_are)
      (record {
        before = between;
        follows = f;
        ends = ends_same sim mid f.end between driven left same (ends (run ++ f.more) f.end f.after);
      }))

  -- a run that is as long as the bound
  pub drives_out : (sim mid : Simulation) (value between : S) (noted halfway : Recorded) (run : List Actor) (last : ArrayState)
      → IsSameArray sim mid → IsSureAt sim.array.image (cap_in sim.array) → IsReached mid → sim.array.image.bound ≤ mid.steps
      → Follows picks sim value noted run last mid between halfway
      → Drives picks sim value noted run last Finished mid between halfway
  drives_out sim mid value between noted halfway run last same sure reached long f =
      let sure_there : IsSureAt mid.array.image (cap_in mid.array) =
      subst (λ (i : Image). IsSureAt i (cap_in mid.array)) (sym same.image)
      (subst (λ (n : ℕ). IsSureAt sim.array.image n) (sym same.cap) sure)
      in
      record {
        before = between;
        follows = f;
        ends =
            ends_same sim mid f.end between Finished between same (
              none_left mid.array.image (inputs_in mid.array) (cap_in mid.array) (run ++ f.more) f.end sure_there reached.some_words
                  reached.counted f.after.is_run (omega (arith, ap (λ (i : Image). i.bound) same.image, long, f.after.counted))
                  (enabled_in picks mid f.end) refl,
              refl,
            );
      }
