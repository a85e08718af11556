use Rattle.std.proofs.Common.{◌≡◌, ◌<◌, ◌≤◌, ◌*◌, ◌+◌, ℕ, List, [], ◌∷◌, ◌++◌, All, length, map, take, get_or, ap, sym, subst, ◌∙◌}
use Rattle.std.proofs.lemmas.List.{map_more, take_all}
use Rattle.std.proofs.lemmas.List.Elements.{All-map, All-same}
use Rattle.cell_code.specs.Images.{IsShaped}
use Rattle.cell_code.specs.declared.image.Image.{Image}
use Rattle.cell_code.specs.declared.image.LinkImage.{LinkImage}
use Rattle.array_model.specs.States.{cells}
use Rattle.array_sim.specs.Simulations.{Contents, peak_in}
use Rattle.image_runs.proofs.Links.{links_fit}
use Rattle.image_runs.proofs.reporting.peaks_of.Goals as goal

-- one more value
one_more : {X Y : Type 0} (f : X → Y) (xs : List X) (i : ℕ) (x : X) (old new : List Y) → i < length xs → x ≡ get_or xs i x
    → old ≡ map f (take i xs) → new ≡ old ++ f x ∷ [] → new ≡ map f (take (i + 1) xs)
one_more {X} {Y} f xs i x old new inside is so_far pushed =
    pushed
    ∙ ap (λ (ys : List Y). ys ++ f x ∷ []) so_far
    ∙ ap (λ (z : X). map f (take i xs) ++ f z ∷ []) is
    ∙ sym (map_more f xs i x inside)

pub peak-requires : goal.peak-requires
peak-requires c =
    subst (λ (image : Image). c.loop-link-item.result.link < 4 * cells image) (sym c.requires.same)
    (subst (λ (link : LinkImage). link.link < 4 * cells c.args.image.now) (sym c.loop-link-item.is)
    (subst (λ (links : List LinkImage). All (λ (link : LinkImage). link.link < 4 * cells c.args.image.now) links)
    (sym c.as_slice-link-items.ensures)
    (links_fit c.args.image.now c.requires.shaped)
    c.loop-link.link-index c.loop-link-item.result c.loop-link-test.true))

pub loop-link-preserved : goal.loop-link-preserved
loop-link-preserved c =
    one_more (λ (l : LinkImage). (l.link, peak_in c.args.sim.now.array l.link)) c.as_slice-link-items.result.now
    c.loop-link.link-index c.loop-link-item.result c.loop-link.peaks _ c.loop-link-test.true c.loop-link-item.is
    c.loop-link.invariant
    (c.in_ok-push.ensures.ok
    ∙ ap (λ (peak : ℕ). c.loop-link.peaks ++ (c.loop-link-item.result.link, peak) ∷ []) c.peak.ensures.peak)

-- the peaks of all links
whole : (array : Contents) (items links : List LinkImage) (i : ℕ) (peaks : List (ℕ × ℕ))
    → peaks ≡ map (λ (l : LinkImage). (l.link, peak_in array l.link)) (take i items) → length items ≤ i → items ≡ links
    → peaks ≡ map (λ (l : LinkImage). (l.link, peak_in array l.link)) links
whole array items links i peaks same past are =
    same
    ∙ ap (λ (ls : List LinkImage). map (λ (l : LinkImage). (l.link, peak_in array l.link)) ls) (take_all i items past ∙ are)

-- so they are of links of the grid
whole_fit : (image : Image) (array : Contents) (peaks : List (ℕ × ℕ)) → IsShaped image
    → peaks ≡ map (λ (l : LinkImage). (l.link, peak_in array l.link)) image.links
    → All (λ (peak : ℕ × ℕ). peak.0 < 4 * cells image) peaks
whole_fit image array peaks shaped same =
    All-same (λ (peak : ℕ × ℕ). peak.0 < 4 * cells image) peaks _ same
    (All-map (λ (peak : ℕ × ℕ). peak.0 < 4 * cells image) _ _ (links_fit image shaped))

pub returns-clause-peaks : goal.returns-clause-peaks
returns-clause-peaks c =
    whole c.args.sim.now.array _ _ _ _ c.loop-link.invariant c.loop-link-test.false c.as_slice-link-items.ensures

pub returns-clause-links : goal.returns-clause-links
returns-clause-links c =
    whole_fit c.args.image.now c.args.sim.now.array c.loop-link.peaks c.requires.shaped
    (whole c.args.sim.now.array _ _ _ _ c.loop-link.invariant c.loop-link-test.false c.as_slice-link-items.ensures)
