-- New queues are empty, and so is each peak.
use Rattle.std.proofs.Common.{ℕ, ◌≤◌, Fits, w64, ◌≡◌, ◌*◌, slice_index, ap, sym, subst, ◌∙◌, arith}
use Rattle.link_queues.specs.Fabrics.{Queues}
use Rattle.array_sim.proofs.Openings.{new_wired, no_peak}
use Rattle.array_sim.proofs.wires.Wires.new.Goals as goal

few : (count cells : ℕ) → count ≡ cells → cells ≤ 256 → Fits w64 (4 * count)
few count cells same most = omega arith

pub overflow_mul-from : goal.overflow_mul-from
overflow_mul-from c = few _ _ c.from.ensures c.cells.ensures.most

pub invariant_of-result : goal.invariant_of-result
invariant_of-result c =
    new_wired c.args.image.now c.args.cap _ c.in_ok-fabric.fabric c.in_ok-peaks.peaks.items
    c.in_ok-fabric.ensures.after
    c.in_ok-fabric.ensures.kept (ap (λ k. 4 * k) (c.from.ensures ∙ c.cells.ensures.cells)) c.in_ok-peaks.ensures

pub returns-clause-wired : goal.returns-clause-wired
returns-clause-wired c =
    new_wired c.args.image.now c.args.cap _ c.in_ok-fabric.fabric c.in_ok-peaks.peaks.items
    c.in_ok-fabric.ensures.after
    c.in_ok-fabric.ensures.kept (ap (λ k. 4 * k) (c.from.ensures ∙ c.cells.ensures.cells)) c.in_ok-peaks.ensures

pub returns-clause-cap : goal.returns-clause-cap
returns-clause-cap c = ap (λ (q : Queues). q.cap) c.in_ok-fabric.ensures.after

pub returns-clause-stands : goal.returns-clause-stands
returns-clause-stands c = c.in_ok-fabric.ensures.stands

pub returns-clause-peaks : goal.returns-clause-peaks
returns-clause-peaks c l = subst (λ xs. slice_index xs l ≡ 0) (sym c.in_ok-peaks.ensures) (no_peak _ l)
