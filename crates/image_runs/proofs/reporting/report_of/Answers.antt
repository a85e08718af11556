use Rattle.std.proofs.Common.{◌≡◌, ◌<◌, ◌*◌, ◌↔◌, ℕ, IsTrue, List, [], ◌∷◌, All, length, map, slice_get, refl, ap, sym, subst, ◌∙◌}
use Rattle.std.proofs.lemmas.List.Elements.{All-head, All-tail}
use Rattle.std.proofs.lemmas.List.FromFn.{length-map-range_with_len}
use Rattle.sys_base.specs.Groups.{below}
use Rattle.sys_base.specs.declared.actor.Actor.{Actor}
use Rattle.cell_code.specs.Images.{IsShaped}
use Rattle.cell_code.specs.Rows.{State}
use Rattle.cell_code.specs.declared.image.CellImage.{CellImage}
use Rattle.cell_code.specs.declared.image.Image.{Image}
use Rattle.cell_code.specs.declared.image.LinkImage.{LinkImage}
use Rattle.array_model.specs.Runs.{IsFinished, peak}
use Rattle.array_model.specs.States.{ArrayState, cells}
use Rattle.array_model.specs.Steps.{enabled}
use Rattle.array_sim.specs.Simulations.{IsAfter, Simulation, StandsFor, cap_in, inputs_in, peak_in, states_in}
use Rattle.stream_io.specs.declared.report.Report.{Report}
use Rattle.run_words.specs.Results.{Tells}
use Rattle.image_runs.proofs.Links.{links_fit}
use Rattle.image_runs.proofs.reporting.report_of.Goals as goal

-- Two functions that agree on each element have the same values.
map_agree : {X Y : Type 0} (P : X → Type 0) (f g : X → Y) → ((x : X) → P x → f x ≡ g x) → (xs : List X) → All P xs → map f xs ≡ map g xs
map_agree P f g agree [] all = refl
map_agree {X} {Y} P f g agree (x ∷ xs) all =
    ap (λ (y : Y). y ∷ map f xs) (agree x (All-head P x xs all))
    ∙ ap (λ (ys : List Y). g x ∷ ys) (map_agree P f g agree xs (All-tail P x xs all))

-- the peaks are those of the run
run_peaks : (image : Image) (sim : Simulation) (run : List Actor) (last : ArrayState) → sim.array.image ≡ image → IsShaped image
    → IsAfter sim run last
    → map {B = ℕ × ℕ} (λ (link : LinkImage). (link.link, peak_in sim.array link.link)) image.links
    ≡ map {B = ℕ × ℕ} (λ (link : LinkImage). (link.link, peak image (inputs_in sim.array) (cap_in sim.array) run link.link)) image.links
run_peaks image sim run last same shaped after =
    map_agree (λ (link : LinkImage). link.link < 4 * cells image) _ _
    (λ link fits. ap {B = ℕ × ℕ} (λ (p : ℕ). (link.link, p))
    (after.peaks link.link (subst (λ (i : Image). link.link < 4 * cells i) (sym same) fits)
    ∙ ap (λ (i : Image). peak i (inputs_in sim.array) (cap_in sim.array) run link.link) same))
    image.links (links_fit image shaped)

-- The report tells of each run that may have led to here.
tells : (image : Image) (sim : Simulation) (report : Report) → sim.array.image ≡ image → IsShaped image
    → ((s : ArrayState) → StandsFor sim.array s → IsTrue report.finished ↔ IsFinished sim.array.image s)
    → ((s : ArrayState) → StandsFor sim.array s
    → report.next ≡ slice_get (enabled sim.array.image (inputs_in sim.array) (cap_in sim.array) s) 0)
    → report.outputs.cells ≡ map (λ c. (states_in sim.array c).held.output) (below (cells image))
    → report.emits ≡ map (λ (cell : CellImage). cell.emits) image.cells
    → report.peaks ≡ map {B = ℕ × ℕ} (λ (link : LinkImage). (link.link, peak_in sim.array link.link)) image.links
    → report.steps ≡ sim.steps
    → (run : List Actor) (last : ArrayState) → IsAfter sim run last → Tells image (inputs_in sim.array) (cap_in sim.array) run last report
tells image sim report same shaped finished next outputs emits peaks steps run last after =
    record {
      finished =
          subst (λ (i : Image). IsTrue report.finished ↔ IsFinished i last) same (finished last after.stands);
      next =
          next last after.stands
          ∙ ap (λ (i : Image). slice_get (enabled i (inputs_in sim.array) (cap_in sim.array) last) 0) same;
      outputs =
          outputs
          ∙ ap (λ (st : ℕ → State). map (λ c. (st c).held.output) (below (cells image))) (sym after.stands.cells);
      emits = emits;
      peaks = peaks ∙ run_peaks image sim run last same shaped after;
      steps = steps ∙ sym after.counted;
    }

pub returns-clause-tells : goal.returns-clause-tells
returns-clause-tells c =
    tells c.args.image.now c.args.sim.now _ c.requires.same c.requires.shaped
    c.finished.ensures.finished
    (λ s stands. c.copied.ensures ∙ c.first.ensures.value ∙ ap (λ (actors : List Actor). slice_get actors 0) (c.enabled.ensures.listed s stands))
    c.in_ok-outputs_of.ensures
    (c.from_vec.ensures
    ∙ c.in_ok-emits.ensures
    ∙ ap (λ (cs : List CellImage). map (λ (cell : CellImage). cell.emits) cs) c.as_slice.ensures)
    c.in_ok-peaks_of.ensures.peaks
    c.steps.ensures.steps

pub returns-clause-outputs : goal.returns-clause-outputs
returns-clause-outputs c =
    ap (λ ls. length ls) c.in_ok-outputs_of.ensures ∙ length-map-range_with_len _ 0 (cells c.args.image.now)
