use Rattle.std.proofs.Common.{◌∙◌}
use Rattle.cell_types.proofs.Places.{position-keys}
use Rattle.cell_types.proofs.names.NameSet.place.Goals as goal

pub returns : goal.returns
returns c = c.get_index_of.ensures.index ∙ position-keys _ _ _ c.bytes.ensures.bytes
