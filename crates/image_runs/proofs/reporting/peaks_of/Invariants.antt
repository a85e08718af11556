use Rattle.std.proofs.Common.{◌≡◌, map, take}
use Rattle.cell_code.specs.declared.image.LinkImage.{LinkImage}
use Rattle.array_sim.specs.Simulations.{peak_in}
use Rattle.image_runs.proofs.reporting.peaks_of.Given as goal

abbrev pub invariant-loop-link : goal.invariant-loop-link
invariant-loop-link l =
    l.peaks ≡ map (λ (link : LinkImage). (link.link, peak_in l.sim.array link.link)) (take l.link-index l.link-items)
