use Rattle.std.proofs.Common.{not, ap, ◌∙◌}
use Rattle.cell_types.proofs.Places.{any-keys, keys-insert}
use Rattle.cell_types.proofs.names.NameSet.add.Goals as goal

pub returns-clause-new : goal.returns-clause-new
returns-clause-new c = c.in_ok-insert.ensures.added ∙ ap not (any-keys _ _ _ c.bytes.ensures.bytes)

pub returns-clause-names : goal.returns-clause-names
returns-clause-names c =
    keys-insert c.args.self.now.names.keys _ c.bytes.result _ _ c.bytes.ensures.bytes c.in_ok-insert.ensures.added
    c.in_ok-insert.ensures.keys
