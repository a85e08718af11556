use Rattle.std.proofs.Common.{sym, ap, ◌∙◌, arith}
use Rattle.std.specs.Option.{option_map}
use Rattle.cell_types.specs.bodies.Tables.{entry_as_message}
use Rattle.cell_types.specs.declared.table.Entry.{Entry}
use Rattle.cell_types.proofs.TableNames.{named_index, named_message_at, no_message_named, index_below}
use Rattle.cell_types.proofs.table.MessageTable.find.Goals as goal

pub index-ends-requires : goal.index-ends-requires
index-ends-requires c =
    let below = index_below c.args.self.now.names.names.keys c.args.self.now.ends.items c.args.name.now c.args.self.now.even
    c.in_ok-index.index (sym c.place.ensures ∙ c.in_ok-index.was) in
    let count = c.args.self.now.ends.ok.0 in
    omega arith

pub returns-in_err-index-clause-index : goal.returns-in_err-index-clause-index
returns-in_err-index-clause-index c =
    ap (option_map (λ (e : Entry). e.index)) c.from_residual.ensures
    ∙ sym (sym (named_index _ _ _ c.args.self.now.even) ∙ sym c.place.ensures ∙ c.in_err-index.was)

pub returns-in_err-index-clause-message : goal.returns-in_err-index-clause-message
returns-in_err-index-clause-message c =
    ap (option_map (entry_as_message c.args.name.now)) c.from_residual.ensures
    ∙ sym (no_message_named _ _ _ c.args.self.now.even (sym c.place.ensures ∙ c.in_err-index.was))

pub returns-clause-index : goal.returns-clause-index
returns-clause-index c = sym c.in_ok-index.was ∙ c.place.ensures ∙ named_index _ _ _ c.args.self.now.even

pub returns-clause-message : goal.returns-clause-message
returns-clause-message c =
    named_message_at _ _ _ c.args.self.now.even _ _ (sym c.place.ensures ∙ c.in_ok-index.was) c.index-ends.ensures
