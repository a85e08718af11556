-- Every run of a regular array of machines is bounded, never stuck, and ends clean.
use Rattle.std.proofs.Common.{◌≡◌, ℕ, suc, ◌-◌, ◌<◌, ◌≤◌, max, true, ◌⊎◌, inl, inr, List, [], length, take, drop, refl, sym, ap, subst, ◌∙◌, arith}
use Rattle.array_runs.specs.Frame.{Action, Frame}
use Rattle.array_runs.specs.Machines.{Array, Machine, IsArrayClean, IsArrayFinished, IsArrayRun, IsArraySure, array_can, array_end, array_opening}
use Rattle.array_runs.specs.Queues.{slice}
use Rattle.array_runs.specs.Runs.{IsClean, IsFinished, IsSure, bound}
use Rattle.array_runs.specs.Steps.{can, next}
use Rattle.sys_base.specs.declared.actor.Actor.{Actor}
use Rattle.array_runs.specs.Alone.{IsPrefix, IsRegularArray, action_alone}
use Rattle.array_runs.proofs.Sums.{bound_is, sum_le}
use Rattle.array_runs.proofs.Match.{Followed, Match, at, follows, next_is, same_can}
use Rattle.array_runs.proofs.Prefixes.{prefix_refl}
use Rattle.array_runs.proofs.Steps.{opening_holds}
use Rattle.array_runs.proofs.Streams.{regular_actions, actions, ends, halt_by_le, length_first, shaped_actions, steps}
use Rattle.array_runs.proofs.Sure.{sure}

bound_le : (p : Frame) (f g : ℕ → ℕ) → ((c : ℕ) → c < p.cells → f c ≤ g c) → bound p f ≤ bound p g
bound_le p f g h = omega (arith, sum_le f g p.cells h, bound_is p f, bound_is p g)

module _ {X W : Type 0} (p : Frame) (mc : Machine X W) (start : ℕ → X) (lists : ℕ → List Action) (cost : ℕ → ℕ) (d : ℕ) (h : IsRegularArray p mc start lists cost d) (v : ℕ → List W) (cap : ℕ) where
  -- in the opening state every cell is where it is alone, and nothing was written
  pub opening_match : Match p mc start v (steps p mc start lists cost d h v) cap (array_opening start) (λ c. 0)
  opening_match =
      record {
        cell = λ c. refl;
        known = λ m l. (v m, refl);
        written = λ m l. refl;
        long = λ m. refl;
        holds = opening_holds p (actions p mc start lists cost d h v) cap (shaped_actions p mc start lists cost d h v);
      }

  pub followed : (run : List Actor) → IsArrayRun p mc cap (array_opening start) run
      → ((m : ℕ) → m < p.messages → IsPrefix ((array_end p mc (array_opening start) run).history m) (v m))
      → Followed p mc start v (steps p mc start lists cost d h v) cap (ends p mc start lists cost d h v)
      (shaped_actions p mc start lists cost d h v) (array_opening start) (λ c. 0) run
  followed run r known =
      follows p mc start v (steps p mc start lists cost d h v) cap (ends p mc start lists cost d h v)
      (shaped_actions p mc start lists cost d h v) (array_opening start) (λ c. 0) run opening_match r known

slice_none : {W : Type 0} (xs : List W) (i j : ℕ) → i ≡ j → slice xs j i ≡ []
slice_none xs i j e =
    let none : i - j ≡ 0 = omega arith in
    ap (λ n. take n (drop j xs)) none

module _ {X W : Type 0} (p : Frame) (mc : Machine X W) (start : ℕ → X) (lists : ℕ → List Action) (cost : ℕ → ℕ) (d : ℕ) (h : IsRegularArray p mc start lists cost d) (cap : ℕ) (run : List Actor) (enough : max 1 d ≤ cap) (r : IsArrayRun p mc cap (array_opening start) run) where
  abbrev last : Array X W
  last = array_end p mc (array_opening start) run

  abbrev acts : ℕ → List Action
  acts = actions p mc start lists cost d h last.history

  abbrev by : Followed p mc start last.history (steps p mc start lists cost d h last.history) cap
      (ends p mc start lists cost d h last.history) (shaped_actions p mc start lists cost d h last.history)
      (array_opening start) (λ c. 0) run
  by = followed p mc start lists cost d h last.history cap run r (λ m l. prefix_refl (last.history m))

  law : IsSure p acts d
  law = sure p acts d (regular_actions p mc start lists cost d h last.history)

  array_bounded : length run ≤ bound p cost
  array_bounded =
      let most : bound p (λ c. length (acts c)) ≤ bound p cost =
      bound_le p (λ c. length (acts c)) cost (λ c l.
      omega (
        arith,
        length_first (action_alone mc last.history start c) (steps p mc start lists cost d h last.history c),
        halt_by_le (action_alone mc last.history start c) (cost c),
      ))
      in
      omega (arith, most, law.bounded cap run enough by.is)

  same_next : (c : ℕ) → c < p.cells → next acts (at last by.places) c ≡ mc.action c (last.cell c)
  same_next c l =
      next_is p mc start last.history (steps p mc start lists cost d h last.history) cap
      (ends p mc start lists cost d h last.history) (shaped_actions p mc start lists cost d h last.history)
      last by.places c l by.match

  can_same : (x : Actor) → array_can p mc cap last x ≡ can p acts cap (at last by.places) x
  can_same x =
      same_can p mc start last.history (steps p mc start lists cost d h last.history) cap
      (ends p mc start lists cost d h last.history) (shaped_actions p mc start lists cost d h last.history)
      last by.places x by.match

  array_moves : IsArrayFinished p mc last ⊎ ((x : Actor) × (array_can p mc cap last x ≡ true))
  array_moves =
      let there : IsFinished p acts (at last by.places) ⊎ ((x : Actor) × (can p acts cap
      (at last by.places) x ≡ true)) =
      subst (λ s. IsFinished p acts s ⊎ ((x : Actor) × (can p acts cap s x ≡ true))) by.ends_at
      (law.never_stuck cap run enough by.is)
      in
      elim there [
        | inl f ↦ inl (λ c l. sym (same_next c l) ∙ f c l)
        | inr m ↦ inr (m.0, can_same m.0 ∙ m.1)
      ]

  array_clean : IsArrayFinished p mc last → IsArrayClean p mc cap last
  array_clean f =
      let there : IsFinished p acts (at last by.places) = λ c l. same_next c l ∙ f c l in
      let clean : IsClean p acts cap (at last by.places) =
      subst (λ s. IsFinished p acts s → IsClean p acts cap s) by.ends_at (law.ends_clean cap run enough by.is) there
      in
      record {
        still = λ x. can_same x ∙ clean.still x;
        empty = λ m i l g. slice_none (last.history m) (last.mark m i) (last.mark m (suc i)) (clean.empty m i l g);
      }

pub array_sure : {X W : Type 0} (p : Frame) (mc : Machine X W) (start : ℕ → X) (lists : ℕ → List Action)
    (cost : ℕ → ℕ) (d : ℕ)
    → IsRegularArray p mc start lists cost d → IsArraySure p mc start cost d
array_sure p mc start lists cost d h =
    record {
      bounded = λ cap run enough r. array_bounded p mc start lists cost d h cap run enough r;
      never_stuck = λ cap run enough r. array_moves p mc start lists cost d h cap run enough r;
      ends_clean = λ cap run enough r. array_clean p mc start lists cost d h cap run enough r;
    }
