-- One pick after the other.
use Rattle.std.proofs.Common.{◌≡◌, ℕ, zero, suc, ◌+◌, ◌<◌, ◌≤◌, true, List, [], ◌∷◌, ◌++◌, Option, Some, None, length, get_or, slice_get, refl, sym, ap, subst, ◌∙◌, arith, length-append}
use Rattle.std.specs.Option.{is_some, option_and_then}
use Rattle.std.proofs.lemmas.List.Elements.{filter_passes}
use Rattle.std.proofs.lemmas.Option.{none-some, option_and_then_some, same_Some, slice_get-get_or}
use Rattle.sys_base.specs.declared.actor.Actor.{Actor}
use Rattle.cell_code.specs.declared.image.Image.{Image}
use Rattle.array_model.specs.Runs.{after, IsRun}
use Rattle.array_model.specs.States.{ArrayState, Inputs, opening}
use Rattle.array_model.specs.Steps.{actors, enabled, is_enabled, step}
use Rattle.schedules.specs.declared.chooser.Pick.{Pick}
use Rattle.schedules.specs.declared.chooser.Pick.TheVariants.{At}
use Rattle.array_picks.specs.Picked.{PicksOneRun, PicksRun, PicksStep}

some_from : {A : Type 0} (o : Option A) → is_some o ≡ true → (x : A) × (o ≡ Some x)
some_from None e = absurd (cc)
some_from (Some x) e = (x, refl)

module _ (image : Image) (inputs : Inputs) (cap : ℕ) where
  -- a run that is followed by another one
  pub after_both : (s : ArrayState) (run rest : List Actor) (mid last : ArrayState) → after image inputs cap s run ≡ Some mid
      → after image inputs cap mid rest ≡ Some last → after image inputs cap s (run ++ rest) ≡ Some last
  after_both s [] rest mid last h k = subst (λ t. after image inputs cap t rest ≡ Some last) (sym (same_Some _ _ h)) k
  after_both s (a ∷ run) rest mid last h k =
      option_and_then_some (λ t. after image inputs cap t run) (step image inputs cap s a) mid h
      (λ next e g. ap (option_and_then (λ t. after image inputs cap t (run ++ rest))) e ∙ after_both next run rest mid last g k)

  pub after_one : (s : ArrayState) (a : Actor) (next : ArrayState) → step image inputs cap s a ≡ Some next
      → after image inputs cap s (a ∷ []) ≡ Some next
  after_one s a next e = ap (option_and_then (λ t. after image inputs cap t [])) e

  -- what stands in the list of the enabled actors has a step
  pub listed_moves : (s : ArrayState) (place : ℕ) (d : Actor) → place < length (enabled image inputs cap s)
      → (next : ArrayState) × (step image inputs cap s (get_or (enabled image inputs cap s) place d) ≡ Some next)
  listed_moves s place d inside =
      some_from (step image inputs cap s (get_or (enabled image inputs cap s) place d))
      (filter_passes (is_enabled image inputs cap s) (actors image) place d inside)

  module _ {S : Type 0} (picks : S → List Actor → Pick → S → Type 0) where
    -- a run that is picked is a run
    pub picked_after : (s : ArrayState) (value : S) (run : List Actor) (last : ArrayState) (left : S)
        → PicksRun picks image inputs cap s value run last left → after image inputs cap s run ≡ Some last
    picked_after s value [] last left h = ap Some h.0
    picked_after s value (a ∷ rest) last left h =
        ap (option_and_then (λ t. after image inputs cap t rest)) h.2.moves ∙ picked_after h.0 h.1 rest last left h.3

    -- picks that go on behind others
    pub picked_both : (s : ArrayState) (value : S) (run rest : List Actor) (mid : ArrayState) (between : S) (last : ArrayState) (left : S)
        → PicksRun picks image inputs cap s value run mid between → PicksRun picks image inputs cap mid between rest last left
        → PicksRun picks image inputs cap s value (run ++ rest) last left
    picked_both s value [] rest mid between last left h k =
        subst (λ (v : S). PicksRun picks image inputs cap s v rest last left) (sym h.1)
        (subst (λ (t : ArrayState). PicksRun picks image inputs cap t between rest last left) (sym h.0) k)
    picked_both s value (a ∷ run) rest mid between last left h k =
        (h.0, h.1, h.2, picked_both h.0 h.1 run rest mid between last left h.3 k)

    -- ---- just one run

    -- each pick has one place and leaves one value
    module _ (one : (v : S) (list : List Actor) (p q : ℕ) (x y : S) → picks v list (At p) x → picks v list (At q) y
        → (p ≡ q) × (x ≡ y)) where
      same_step : (s : ArrayState) (v : S) (a b : Actor) (next other : ArrayState) (x y : S)
          → PicksStep picks image inputs cap s v a next x → PicksStep picks image inputs cap s v b other y
          → (b ≡ a) × (other ≡ next) × (y ≡ x)
      same_step s v a b next other x y h k =
          let o = one v (enabled image inputs cap s) h.place k.place x y h.picked k.picked in
          let e : b ≡ a = same_Some b a (sym k.there ∙ ap (slice_get (enabled image inputs cap s)) (sym o.0) ∙ h.there) in
          (e, same_Some other next (sym k.moves ∙ ap (step image inputs cap s) e ∙ h.moves), sym o.1)

      -- where nothing more is picked
      module _ (Ends : ArrayState → S → Type 0)
          (stops : (s : ArrayState) (v : S) (a : Actor) (next : ArrayState) (x : S) → Ends s v
          → PicksStep picks image inputs cap s v a next x → ⊥) where
        pub same_run : (s : ArrayState) (v : S) (run others : List Actor) (last end : ArrayState) (left rest : S)
            → PicksRun picks image inputs cap s v run last left → Ends last left
            → PicksRun picks image inputs cap s v others end rest → Ends end rest
            → (others ≡ run) × (end ≡ last) × (rest ≡ left)
        same_run s v [] [] last end left rest h f k g = (refl, sym k.0 ∙ h.0, sym k.1 ∙ h.1)
        same_run s v [] (b ∷ others) last end left rest h f k g =
            absurd (stops s v b k.0 k.1 (subst (λ (x : S). Ends s x) (sym h.1) (subst (λ (t : ArrayState). Ends t left) (sym h.0) f)) k.2)
        same_run s v (a ∷ run) [] last end left rest h f k g =
            absurd (stops s v a h.0 h.1 (subst (λ (x : S). Ends s x) (sym k.1) (subst (λ (t : ArrayState). Ends t rest) (sym k.0) g)) h.2)
        same_run s v (a ∷ run) (b ∷ others) last end left rest h f k g =
            let same = same_step s v a b h.0 k.0 h.1 k.1 h.2 k.2 in
            let there : PicksRun picks image inputs cap h.0 h.1 others end rest =
            subst (λ (x : S). PicksRun picks image inputs cap h.0 x others end rest) same.2
            (subst (λ (t : ArrayState). PicksRun picks image inputs cap t k.1 others end rest) same.1 k.3)
            in
            let r = same_run h.0 h.1 run others last end left rest h.3 f there g in
            (cc (same.0, r.0), r.1, r.2)

    -- ---- some run

    pub record Whole (s : ArrayState) (value : S) : Type 0 where
      pub run : List Actor
      pub last : ArrayState
      pub left : S
      pub picked : PicksRun picks image inputs cap s value run last left
      pub ended : enabled image inputs cap last ≡ []

    module _ (always : (v : S) (list : List Actor) → 0 < length list
        → (place : ℕ) × (x : S) × picks v list (At place) x × (place < length list))
        (bounded : (run : List Actor) (last : ArrayState) → IsRun image inputs cap run last → length run ≤ image.bound) where
      -- on by one pick, where an actor is enabled
      one_more : (done : List Actor) (s : ArrayState) (v : S) → IsRun image inputs cap done s
          → ((more : List Actor) (next : ArrayState) (x : S) → IsRun image inputs cap more next → length more ≡ length done + 1 → Whole next x)
          → (list : List Actor) → enabled image inputs cap s ≡ list → Whole s v
      one_more done s v is on [] e = record { run = []; last = s; left = v; picked = (refl, refl); ended = e }
      one_more done s v is on (b ∷ list) e =
          let some : 0 < length (enabled image inputs cap s) = subst (λ (l : List Actor). 0 < length l) (sym e) (omega arith) in
          let p = always v (enabled image inputs cap s) some in
          let a = get_or (enabled image inputs cap s) p.0 b in
          let moves = listed_moves s p.0 b p.3 in
          let rest : Whole moves.0 p.1 = on (done ++ a ∷ []) moves.0 p.1
          (after_both (opening image) done (a ∷ []) s moves.0 is (after_one s a moves.0 moves.1))
          (omega (arith, length-append done (a ∷ [])))
          in
          record {
            run = a ∷ rest.run;
            last = rest.last;
            left = rest.left;
            picked = (
              moves.0,
              p.1,
              record {
                place = p.0;
                picked = p.2;
                there = slice_get-get_or (enabled image inputs cap s) p.0 b p.3;
                moves = moves.1;
              },
              rest.picked,
            );
            ended = rest.ended;
          }

      whole_from : (fuel : ℕ) (done : List Actor) (s : ArrayState) (v : S) → IsRun image inputs cap done s
          → image.bound < length done + fuel → Whole s v
      whole_from zero done s v is h = absurd (omega (arith, bounded done s is))
      whole_from (suc fuel) done s v is h =
          one_more done s v is (λ more next x there long. whole_from fuel more next x there (omega arith))
          (enabled image inputs cap s) refl

      -- the schedule picks just one whole run
      pub one_run : ((v : S) (list : List Actor) (p q : ℕ) (x y : S) → picks v list (At p) x → picks v list (At q) y
          → (p ≡ q) × (x ≡ y)) → (v : S) → PicksOneRun picks image inputs cap v
      one_run one v =
          let w : Whole (opening image) v = whole_from (suc image.bound) [] (opening image) v refl (omega arith) in
          record {
            run = w.run;
            last = w.last;
            left = w.left;
            whole = record { picked = w.picked; ended = w.ended };
            only = λ others end rest k.
                same_run one (λ s x. enabled image inputs cap s ≡ []) nothing_more (opening image) v w.run others w.last end w.left rest
                w.picked w.ended k.picked k.ended;
          }
        where
          nothing_more : (s : ArrayState) (x : S) (a : Actor) (next : ArrayState) (y : S) → enabled image inputs cap s ≡ []
              → PicksStep picks image inputs cap s x a next y → ⊥
          nothing_more s x a next y e k =
              none-some a (ap (λ (l : List Actor). slice_get l k.place) (sym e) ∙ k.there)
