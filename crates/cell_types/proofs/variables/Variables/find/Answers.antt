use Rattle.std.proofs.Common.{◌≡◌, sym, ap, ◌∙◌, slice_get}
use Rattle.std.specs.Option.{option_map, option_and_then}
use Rattle.cell_types.specs.bodies.Scopes.{names_in, variable_with}
use Rattle.cell_types.proofs.Places.{slot_got, variable_at_place}
use Rattle.cell_types.proofs.variables.Variables.find.Goals as goal

pub returns-in_err-place : goal.returns-in_err-place
returns-in_err-place c =
    ap (option_map (variable_with c.args.name.now)) c.from_residual.ensures
    ∙ sym (variable_at_place (names_in c.args.self.now.names) c.args.self.now.slots.items c.args.name.now
    ∙ ap (λ o. option_map (variable_with c.args.name.now) (option_and_then (slice_get c.args.self.now.slots.items) o)) (sym c.place.ensures ∙ c.in_err-place.was))

pub returns : goal.returns
returns c =
    let e : c.copied.result ≡ slice_get c.args.self.now.slots.items c.in_ok-place.place =
    c.copied.ensures ∙ slot_got _ _ _ c.get.ensures.lookup.0 c.get.ensures.lookup.1 ∙ ap (λ slots. slice_get slots c.in_ok-place.place) c.deref.ensures.value in
    ap (option_map (variable_with c.args.name.now)) e
    ∙ sym (variable_at_place (names_in c.args.self.now.names) c.args.self.now.slots.items c.args.name.now
    ∙ ap (λ o. option_map (variable_with c.args.name.now) (option_and_then (slice_get c.args.self.now.slots.items) o)) (sym c.place.ensures ∙ c.in_ok-place.was))
