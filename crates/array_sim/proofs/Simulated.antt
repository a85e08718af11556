-- The run that has led a simulation to its state.
use Rattle.std.proofs.Common.{◌≡◌, ℕ, ◌+◌, ◌*◌, ◌<◌, ◌≤◌, max, true, List, [], ◌∷◌, ◌++◌, Option, Some, None, map, filter, refl, ap, sym, subst, ◌∙◌, arith}
use mathlib.Core.Path.{fun_ext}
use Rattle.std.specs.Option.{is_some, option_and_then, option_map_or}
use Rattle.std.proofs.lemmas.List.{length_push, map_push, nil_from_length}
use Rattle.std.proofs.lemmas.List.Sums.{fold_push}
use Rattle.std.proofs.lemmas.Option.{none-some, same_Some}
use Rattle.sys_base.specs.Groups.{greatest}
use Rattle.sys_base.specs.Held.{Streams}
use Rattle.sys_base.specs.declared.actor.Actor.{Actor}
use Rattle.cell_code.specs.Images.{IsShaped}
use Rattle.cell_code.specs.Marks.{Marks}
use Rattle.cell_code.specs.Rows.{State}
use Rattle.cell_code.specs.declared.image.Image.{Image}
use Rattle.array_model.specs.Runs.{IsRun, after, peak, states, words_on}
use Rattle.array_model.specs.States.{ArrayState, Inputs, IsCounted, cells, opening}
use Rattle.array_model.specs.Steps.{is_enabled, step}
use Rattle.link_queues.specs.Fabrics.{words_in}
use Rattle.link_queues.specs.Tables.{queues}
use Rattle.array_sim.specs.Simulations.{Contents, IsAfter, IsReached, Simulation, StandsFor, cap_in, inputs_in, peak_in}
use Rattle.array_sim.specs.bodies.Inside.{AreEnabled, HasStepped, scanned}
use Rattle.array_sim.proofs.Listing.{enabled_is}
use Rattle.array_sim.proofs.Words.{words_open, words_stand}

-- ---- runs with one step more

module _ (image : Image) (inputs : Inputs) (cap : ℕ) (a : Actor) (last next : ArrayState)
    (on : step image inputs cap last a ≡ Some next) where
  then_after : (rest : List Actor)
      → ((n : ArrayState) → after image inputs cap n rest ≡ Some last
      → after image inputs cap n (rest ++ a ∷ []) ≡ Some next)
      → (o : Option ArrayState) → option_and_then (λ n. after image inputs cap n rest) o ≡ Some last
      → option_and_then (λ n. after image inputs cap n (rest ++ a ∷ [])) o ≡ Some next
  then_after rest more None e = absurd (none-some _ e)
  then_after rest more (Some n) e = more n e

  then_states : (rest : List Actor)
      → ((n : ArrayState) → after image inputs cap n rest ≡ Some last
      → states image inputs cap n (rest ++ a ∷ []) ≡ states image inputs cap n rest ++ next ∷ [])
      → (o : Option ArrayState) → option_and_then (λ n. after image inputs cap n rest) o ≡ Some last
      → option_map_or (λ n. states image inputs cap n (rest ++ a ∷ [])) o []
      ≡ option_map_or (λ n. states image inputs cap n rest) o [] ++ next ∷ []
  then_states rest more None e = absurd (none-some _ e)
  then_states rest more (Some n) e = more n e

  after_more : (s : ArrayState) (run : List Actor) → after image inputs cap s run ≡ Some last
      → after image inputs cap s (run ++ a ∷ []) ≡ Some next
  after_more s [] is =
      subst (λ x. after image inputs cap x (a ∷ []) ≡ Some next) (sym (same_Some s last is))
      (ap (option_and_then (λ n. after image inputs cap n [])) on)
  after_more s (b ∷ rest) is = then_after rest (λ n. after_more n rest) (step image inputs cap s b) is

  states_more : (s : ArrayState) (run : List Actor) → after image inputs cap s run ≡ Some last
      → states image inputs cap s (run ++ a ∷ []) ≡ states image inputs cap s run ++ next ∷ []
  states_more s [] is =
      subst (λ x. states image inputs cap x (a ∷ []) ≡ x ∷ (next ∷ [])) (sym (same_Some s last is))
      (ap (λ o. last ∷ option_map_or (λ n. states image inputs cap n []) o []) on)
  states_more s (b ∷ rest) is =
      ap (λ xs. s ∷ xs) (then_states rest (λ n. states_more n rest) (step image inputs cap s b) is)

  peak_more : (run : List Actor) (l : ℕ) → IsRun image inputs cap run last
      → peak image inputs cap (run ++ a ∷ []) l ≡ max (peak image inputs cap run l) (words_on image l next)
  peak_more run l is =
      let before = states image inputs cap (opening image) run in
      ap (λ xs. greatest (map (words_on image l) xs)) (states_more (opening image) run is)
      ∙ ap greatest (map_push (words_on image l) before next)
      ∙ fold_push max 0 (map (words_on image l) before) (words_on image l next)

-- ---- a step of the simulation

some_of : (o : Option ArrayState) → is_some o ≡ true → (x : ArrayState) × (o ≡ Some x)
some_of None e = absurd (cc)
some_of (Some x) e = (x, refl)

-- the peaks by the words of the model's state
pub peaks_by : (old new : Contents) (actor : Actor) (next : ArrayState) (l : ℕ) → HasStepped old actor new
    → StandsFor new next
    → l < 4 * cells old.image → peak_in new l ≡ max (peak_in old l) (words_on old.image l next)
peaks_by old new actor next l stepped stands k =
    let words : words_in (queues new.fabric) l ≡ words_on old.image l next =
    words_stand (queues new.fabric) next l stands.queues ∙ ap (λ i. words_on i l next) stepped.queues_are
    in
    omega (arith, stepped.peaks l k, words)

module _ (old new : Simulation) (actor : Actor) (stepped : HasStepped old.array actor new.array)
    (counts : new.steps ≡ old.steps + 1) where
  abbrev At : (Image → Inputs → ℕ → Type 0) → Type 0
  At P = P old.array.image (inputs_in old.array) (cap_in old.array)

  carried : (P : Image → Inputs → ℕ → Type 0) → At P → P new.array.image (inputs_in new.array) (cap_in new.array)
  carried P h =
      subst (λ i. P i (inputs_in new.array) (cap_in new.array)) (sym stepped.image_is)
      (subst (λ x. P old.array.image x (cap_in new.array)) (sym stepped.inputs_are)
      (subst (P old.array.image (inputs_in old.array)) (sym stepped.cap_is) h))

  pub after_step : (run : List Actor) (last next : ArrayState) → IsAfter old run last
      → step old.array.image (inputs_in old.array) (cap_in old.array) last actor ≡ Some next
      → IsAfter new (run ++ actor ∷ []) next
  after_step run last next before on =
      let led = stepped.leads last next before.stands on in
      record {
        is_run =
            carried (λ image inputs cap. IsRun image inputs cap (run ++ actor ∷ []) next)
            (after_more old.array.image (inputs_in old.array) (cap_in old.array) actor last next on
            (opening old.array.image) run before.is_run);
        stands = led;
        counted = omega (arith, length_push run actor, before.counted, counts);
        peaks = λ l k.
            let inside : l < 4 * cells old.array.image = subst (λ i. l < 4 * cells i) stepped.image_is k in
            carried (λ image inputs cap. peak_in new.array l ≡ peak image inputs cap (run ++ actor ∷ []) l)
            (peaks_by old.array new.array actor next l stepped led inside
            ∙ ap (λ n. max n (words_on old.array.image l next)) (before.peaks l inside)
            ∙ sym (peak_more old.array.image (inputs_in old.array)
            (cap_in old.array) actor last next on run l before.is_run));
      }

  pub still_reached : IsReached old
      → ((s : ArrayState) → StandsFor old.array s
      → true ≡ is_enabled old.array.image (inputs_in old.array) (cap_in old.array) s actor)
      → IsReached new
  still_reached before can =
      let on = some_of _ (sym (can before.last before.after.stands)) in
      record {
        shaped = subst IsShaped (sym stepped.image_is) before.shaped;
        some_words = subst (λ n. 1 ≤ n) (sym stepped.cap_is) before.some_words;
        most_words = subst (λ n. n ≤ 64) (sym stepped.cap_is) before.most_words;
        counted = carried (λ image inputs cap. IsCounted image inputs) before.counted;
        run = before.run ++ actor ∷ [];
        last = on.0;
        after = after_step before.run before.last on.0 before.after on.1;
      }

-- ---- the opening

same_state : (s t : ArrayState) → s.cell ≡ t.cell → s.history ≡ t.history → s.marks ≡ t.marks → s.bound ≡ t.bound
    → s ≡ t
same_state s t cell history marks bound =
    ap (λ (x : ℕ → State). record { cell = x; history = s.history; marks = s.marks; bound = s.bound }) cell
    ∙ ap (λ (x : Streams). record { cell = t.cell; history = x; marks = s.marks; bound = s.bound }) history
    ∙ ap (λ (x : Marks). record { cell = t.cell; history = t.history; marks = x; bound = s.bound }) marks
    ∙ ap (λ (x : ℕ → ℕ). record { cell = t.cell; history = t.history; marks = t.marks; bound = x }) bound

-- a new array stands for the opening state alone
pub opening_alone : (a : Contents) (image : Image) (s : ArrayState) → StandsFor a (opening image) → StandsFor a s
    → s ≡ opening image
opening_alone a image s starts other =
    let marks : s.marks ≡ (opening image).marks = other.queues.marks ∙ sym starts.queues.marks in
    same_state s (opening image) (other.cells ∙ sym starts.cells)
    (fun_ext (λ m. nil_from_length (s.history m) (other.queues.long m ∙ ap (λ (f : Marks). f m 0) marks)))
    marks (other.queues.bound ∙ sym starts.queues.bound)

pub opening_after : (sim : Simulation) (image : Image) → sim.array.image ≡ image → sim.steps ≡ 0
    → StandsFor sim.array (opening image)
    → ((l : ℕ) → peak_in sim.array l ≡ 0) → IsAfter sim [] (opening image)
opening_after sim image same none stands peaks =
    record {
      is_run = ap (λ i. Some (opening i)) same;
      stands = stands;
      counted = sym none;
      peaks = λ l k. peaks l ∙ sym (ap (λ n. max 0 n) (words_open sim.array.image l));
    }

pub opening_reached : (sim : Simulation) (image : Image) (inputs : Inputs) (cap : ℕ) → IsShaped image → 1 ≤ cap
    → cap ≤ 64
    → IsCounted image inputs → sim.array.image ≡ image → cap_in sim.array ≡ cap → inputs_in sim.array ≡ inputs
    → IsAfter sim [] (opening image) → IsReached sim
opening_reached sim image inputs cap shaped some most counted same_image same_cap same_inputs starts =
    record {
      shaped = subst IsShaped (sym same_image) shaped;
      some_words = subst (λ n. 1 ≤ n) (sym same_cap) some;
      most_words = subst (λ n. n ≤ 64) (sym same_cap) most;
      counted =
          subst (λ i. IsCounted i (inputs_in sim.array)) (sym same_image)
          (subst (IsCounted image) (sym same_inputs) counted);
      run = [];
      last = opening image;
      after = starts;
    }

-- the listed actors are the enabled ones
pub listed_are : (array : Contents) (actors list : List Actor) → IsShaped array.image → actors ≡ scanned array.image
    → ((s : ArrayState) → StandsFor array s
    → list ≡ filter (is_enabled array.image (inputs_in array) (cap_in array) s) actors)
    → AreEnabled array list
listed_are array actors list shaped all scan s stands =
    scan s stands ∙ ap (filter (is_enabled array.image (inputs_in array) (cap_in array) s)) all
    ∙ enabled_is array.image shaped (inputs_in array) (cap_in array) s
