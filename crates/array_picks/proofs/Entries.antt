-- The runs that entries make.
use Rattle.std.proofs.Common.{◌≡◌, ℕ, ◌+◌, ◌<◌, ◌⊎◌, inl, inr, List, [], ◌∷◌, ◌++◌, Some, length, get_or, slice_get, Contains, refl, sym, ap, subst, ◌∙◌, arith}
use Rattle.std.specs.Option.{is_some}
use Rattle.std.proofs.lemmas.Option.{none-some, option_and_then_some, same_Some, slice_get_within, get_or_from_slice_get}
use Rattle.sys_base.specs.declared.actor.Actor.{Actor}
use Rattle.cell_code.specs.Images.{IsShaped}
use Rattle.cell_code.specs.declared.image.Image.{Image}
use Rattle.array_model.specs.Runs.{after, IsRun}
use Rattle.array_model.specs.States.{ArrayState, Inputs, opening}
use Rattle.array_model.specs.Steps.{enabled, step}
use Rattle.array_model.proofs.Always.{listed}
use Rattle.schedules.specs.Picks.{HasReason, IsFirstPlace, PicksRecorded}
use Rattle.schedules.specs.Recording.{Recording}
use Rattle.schedules.specs.declared.chooser.Pick.{Pick}
use Rattle.schedules.specs.declared.chooser.Pick.TheVariants.{At, Stop}
use Rattle.schedules.specs.declared.recorded.Standing.{Standing}
use Rattle.schedules.specs.declared.recorded.Standing.TheVariants.{Running, Ended, NotEnabled}
use Rattle.array_picks.specs.Picked.{PicksRun, PicksStep}
use Rattle.array_picks.specs.Replays.{LeadsNoFurther, PicksNext, Replays, ReplaysOnce}
use Rattle.array_picks.proofs.Places.{contains_at, find_first, first_same}
use Rattle.array_picks.proofs.Turns.{listed_moves, same_run}

same_next : (v list : List Actor) (p q : ℕ) (x y : List Actor) → PicksNext v list (At p) x → PicksNext v list (At q) y
    → (p ≡ q) × (x ≡ y)
same_next v list p q x y h k =
    let e : h.0 ≡ k.0 = cc (h.1, k.1) in
    (first_same list k.0 p q (subst (λ (a : Actor). IsFirstPlace list p a) e h.2) k.2, cc (h.1, k.1))

-- there is just one reason
same_reason : (list : List Actor) (taken : ℕ) (left : List Actor) (r q : Standing) → LeadsNoFurther list taken left r
    → LeadsNoFurther list taken left q → r ≡ q
same_reason list taken left Running Running h k = refl
same_reason list taken left Running Ended h k = absurd (omega (arith, ap length h, k.0))
same_reason list taken left Running (NotEnabled n) h k = absurd (omega (arith, ap length h, k.0))
same_reason list taken left Ended Running h k = absurd (omega (arith, ap length k, h.0))
same_reason list taken left Ended Ended h k = refl
same_reason list taken left Ended (NotEnabled n) h k =
    absurd (none-some k.2 (ap (λ (l : List Actor). slice_get l 0) (sym h.1) ∙ k.3))
same_reason list taken left (NotEnabled n) Running h k = absurd (omega (arith, ap length k, h.0))
same_reason list taken left (NotEnabled n) Ended h k =
    absurd (none-some h.2 (ap (λ (l : List Actor). slice_get l 0) (sym k.1) ∙ h.3))
same_reason list taken left (NotEnabled n) (NotEnabled m) h k = ap NotEnabled (h.1 ∙ sym k.1)

-- entries that lead no further pick nothing
no_place : (list : List Actor) (taken : ℕ) (entries : List Actor) (r : Standing) (p : ℕ) (x : List Actor)
    → LeadsNoFurther list taken entries r → PicksNext entries list (At p) x → ⊥
no_place list taken entries Running p x h k =
    none-some k.0 (ap (λ (l : List Actor). slice_get l p) (sym h) ∙ k.2.here)
no_place list taken entries Ended p x h k = absurd (cc (h.1, k.1))
no_place list taken entries (NotEnabled n) p x h k =
    let e : h.2 ≡ k.0 = same_Some h.2 k.0 (sym h.3 ∙ ap (λ (l : List Actor). slice_get l 0) k.1) in
    h.4 (subst (Contains list) (sym e) (contains_at list p k.0 k.2.here))

module _ (image : Image) (inputs : Inputs) (cap : ℕ) where
  abbrev Runs : ArrayState → List Actor → List Actor → ArrayState → List Actor → Type 0
  Runs = PicksRun PicksNext image inputs cap

  -- ---- just one run

  -- a run that entries make from a state on, after some were taken
  record Made (taken : ℕ) (s : ArrayState) (entries : List Actor) : Type 0 where
    run : List Actor
    last : ArrayState
    left : List Actor
    reason : Standing
    is : Runs s entries run last left
    ends : LeadsNoFurther (enabled image inputs cap last) (taken + length run) left reason

  still : (taken : ℕ) (s : ArrayState) (entries : List Actor) (reason : Standing)
      → LeadsNoFurther (enabled image inputs cap s) taken entries reason → Made taken s entries
  still taken s entries reason h =
      record {
        run = [];
        last = s;
        left = entries;
        reason = reason;
        is = (refl, refl);
        ends = subst (λ (n : ℕ). LeadsNoFurther (enabled image inputs cap s) n entries reason) (omega arith) h;
      }

  -- the step of the actor at a place of the list
  next_step : (s : ArrayState) (place : ℕ) (a : Actor) (rest : List Actor) → IsFirstPlace (enabled image inputs cap s) place a
      → (next : ArrayState) × PicksStep PicksNext image inputs cap s (a ∷ rest) a next rest
  next_step s place a rest f =
      let inside : place < length (enabled image inputs cap s) = slice_get_within (enabled image inputs cap s) place a f.here in
      let m = listed_moves image inputs cap s place a inside in
      let is : get_or (enabled image inputs cap s) place a ≡ a =
      get_or_from_slice_get (enabled image inputs cap s) place a a f.here
      in (
        m.0,
        record {
          place = place;
          picked = (a, refl, f);
          there = f.here;
          moves = ap (step image inputs cap s) (sym is) ∙ m.1;
        },
      )

  some_enabled : (list : List Actor) → (list ≡ []) ⊎ (0 < length list)
  some_enabled [] = inl refl
  some_enabled (x ∷ list) = inr (omega arith)

  made : (taken : ℕ) (s : ArrayState) (entries : List Actor) → Made taken s entries
  made taken s [] =
      elim (some_enabled (enabled image inputs cap s)) [
        | inl none ↦ still taken s [] Running none
        | inr some ↦ still taken s [] Ended (some, refl)
      ]
  made taken s (a ∷ entries) =
      elim (some_enabled (enabled image inputs cap s)) [
        | inl none ↦ still taken s (a ∷ entries) Running none
        | inr some ↦ elim (find_first a (enabled image inputs cap s)) [
          | inl f ↦
              let n = next_step s f.0 a entries f.1 in
              let m = made (taken + 1) n.0 entries in
              record {
                run = a ∷ m.run;
                last = m.last;
                left = m.left;
                reason = m.reason;
                is = (n.0, entries, n.1, m.is);
                ends = subst (λ (n : ℕ). LeadsNoFurther (enabled image inputs cap m.last) n m.left m.reason) (omega arith) m.ends;
              }
          | inr missing ↦ still taken s (a ∷ entries) (NotEnabled (taken + 1)) (some, refl, a, refl, missing)
        ]
      ]

  abbrev Ends : ArrayState → List Actor → Type 0
  Ends s entries = (taken : ℕ) × (reason : Standing) × LeadsNoFurther (enabled image inputs cap s) taken entries reason

  pub once : (entries : List Actor) → ReplaysOnce image inputs cap entries
  once entries =
      let m : Made 0 (opening image) entries = made 0 (opening image) entries in
      let ends : LeadsNoFurther (enabled image inputs cap m.last) (length m.run) m.left m.reason =
      subst (λ (n : ℕ). LeadsNoFurther (enabled image inputs cap m.last) n m.left m.reason) (omega arith) m.ends
      in
      record {
        run = m.run;
        last = m.last;
        left = m.left;
        reason = m.reason;
        replays = record { taken = m.is; ends = ends };
        only = λ others end rest why k. others_same m ends others end rest why k;
      }
    where
      others_same : (m : Made 0 (opening image) entries) → LeadsNoFurther (enabled image inputs cap m.last) (length m.run) m.left m.reason
          → (others : List Actor) (end : ArrayState) (rest : List Actor) (why : Standing)
          → Replays image inputs cap entries others end rest why
          → (others ≡ m.run) × (end ≡ m.last) × (rest ≡ m.left) × (why ≡ m.reason)
      others_same m ends others end rest why k =
          let e = same_run image inputs cap PicksNext same_next Ends
          (λ s v a next x h j. no_place (enabled image inputs cap s) h.0 v h.1 j.place x h.2 j.picked)
          (opening image) entries m.run others m.last end m.left rest m.is (length m.run, m.reason, ends) k.taken
          (length others, why, k.ends)
          in
          let there : LeadsNoFurther (enabled image inputs cap m.last) (length m.run) m.left why =
          subst (λ (l : List Actor). LeadsNoFurther (enabled image inputs cap m.last) (length m.run) l why) e.2
          (subst (λ (l : List Actor). LeadsNoFurther (enabled image inputs cap m.last) (length l) rest why) e.0
          (subst (λ (t : ArrayState). LeadsNoFurther (enabled image inputs cap t) (length others) rest why) e.1 k.ends))
          in
          (e.0, e.1, e.2, same_reason (enabled image inputs cap m.last) (length m.run) m.left why m.reason there ends)

  -- ---- the first entries

  pub entries_are : (s : ArrayState) (entries run : List Actor) (last : ArrayState) (left : List Actor) → Runs s entries run last left
      → entries ≡ run ++ left
  entries_are s entries [] last left h = h.1
  entries_are s entries (a ∷ run) last left h =
      let e : h.2.picked.0 ≡ a = same_Some h.2.picked.0 a (sym h.2.picked.2.here ∙ h.2.there) in
      cc (h.2.picked.1, e, entries_are h.0 h.1 run last left h.3)

  -- ---- a run as entries

  -- the run's actors are listed each in its turn
  module _ (listed_one : (s : ArrayState) (a : Actor) (next : ArrayState) → step image inputs cap s a ≡ Some next
      → Contains (enabled image inputs cap s) a) where
    itself : (s : ArrayState) (run : List Actor) (last : ArrayState) → after image inputs cap s run ≡ Some last → Runs s run run last []
    itself s [] last h = (same_Some s last h, refl)
    itself s (a ∷ run) last h =
        option_and_then_some (λ t. after image inputs cap t run) (step image inputs cap s a) last h
        (λ next e g. elim (find_first a (enabled image inputs cap s)) [
          | inl f ↦ (next, run, record { place = f.0; picked = (a, refl, f.1); there = f.1.here; moves = e }, itself next run last g)
          | inr missing ↦ absurd (missing (listed_one s a next e))
        ])

  pub run_itself : IsShaped image → (run : List Actor) (last : ArrayState) → IsRun image inputs cap run last
      → Runs (opening image) run run last []
  run_itself shaped run last is =
      itself (λ s a next e. (listed image inputs cap s a shaped).0 (ap is_some e)) (opening image) run last is

  pub picked_itself : {S : Type 0} (picks : S → List Actor → Pick → S → Type 0) (s : ArrayState) (value : S) (run : List Actor)
      (last : ArrayState) (left : S) → PicksRun picks image inputs cap s value run last left → Runs s run run last []
  picked_itself picks s value [] last left h = (h.0, refl)
  picked_itself picks s value (a ∷ run) last left h =
      elim (find_first a (enabled image inputs cap s)) [
        | inl f ↦ (
          h.0,
          run,
          record { place = f.0; picked = (a, refl, f.1); there = f.1.here; moves = h.2.moves },
          picked_itself picks h.0 h.1 run last left h.3,
        )
        | inr missing ↦ absurd (missing (contains_at (enabled image inputs cap s) h.2.place a h.2.there))
      ]

  -- ---- recorded schedules

  pub recorded_takes : (s : ArrayState) (before : Recording) (run : List Actor) (last : ArrayState) (now : Recording)
      → PicksRun PicksRecorded image inputs cap s before run last now → Runs s before.left run last now.left
  recorded_takes s before [] last now h = (h.0, ap (λ (r : Recording). r.left) h.1)
  recorded_takes s before (a ∷ run) last now h =
      let t = h.2.picked.1 in (
        h.0,
        h.1.left,
        record { place = h.2.place; picked = (h.2.picked.0, t.next, t.place_of_entry); there = h.2.there; moves = h.2.moves },
        recorded_takes h.0 h.1 run last now h.3,
      )

  pub recorded_counts : (s : ArrayState) (before : Recording) (run : List Actor) (last : ArrayState) (now : Recording)
      → PicksRun PicksRecorded image inputs cap s before run last now → now.taken ≡ before.taken + length run
  recorded_counts s before [] last now h = omega (arith, ap (λ (r : Recording). r.taken) h.1)
  recorded_counts s before (a ∷ run) last now h =
      omega (arith, h.2.picked.1.one_more, recorded_counts h.0 h.1 run last now h.3)

  pub recorded_ends : (list : List Actor) (taken : ℕ) (before now : Recording) (why : Standing) → now.standing ≡ why → before.taken ≡ taken
      → 0 < length list → PicksRecorded before list Stop now → LeadsNoFurther list taken now.left why
  recorded_ends list taken before now Running e f some h =
      absurd (subst (λ (w : Standing). HasReason before list w) e h.reason)
  recorded_ends list taken before now Ended e f some h =
      (some, h.same_left ∙ subst (λ (w : Standing). HasReason before list w) e h.reason)
  recorded_ends list taken before now (NotEnabled n) e f some h =
      let r : HasReason before list (NotEnabled n) = subst (λ (w : Standing). HasReason before list w) e h.reason in
      (some, omega (arith, f, r.0), r.1, ap (λ (l : List Actor). slice_get l 0) h.same_left ∙ r.2, r.3)
