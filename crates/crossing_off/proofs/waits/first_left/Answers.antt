use Rattle.std.proofs.Common.{◌≡◌, Bool, true, false, not, Option, Some, None, is_some, get_or, slice_get, sym, ◌∙◌, ap, refl, arith}
use Rattle.std.proofs.lemmas.Option.{slice_get_within, slice_get-get_or}
use Rattle.comm_sequence.specs.declared.comm.Comm.{Comm}
use Rattle.crossing_off.proofs.waits.first_left.Goals as goal

-- a value that is there
there : (o : Option Comm) → is_some o ≡ true → (e : Comm) × (o ≡ Some e)
there None h = absurd (cc h)
there (Some e) h = (e, refl)

-- a test that is false
yes : (b : Bool) → b ≡ false → not b ≡ true
yes b h = ap not h

pub returns : goal.returns
returns c =
    let fronts = c.args.fronts.now in
    let cell = c.loop-cell.cell in
    let some = c.requires.some in
    let low = c.loop-cell.invariant some.0 some.1 some.2 in
    let within = slice_get_within fronts some.0 (Some some.1) some.2 in
    let h = there (get_or fronts c.from.result None) (c.is_none.ensures ∙ yes c.is_none.result c.loop-cell-test.false) in
    let at : slice_get fronts cell ≡ Some (get_or fronts cell None) = slice_get-get_or fronts cell None (omega arith) in
    record {
      something = (h.0, at ∙ ap Some (ap (λ k. get_or fronts k None) (sym c.from.ensures) ∙ h.1));
      least = c.loop-cell.invariant;
    }
