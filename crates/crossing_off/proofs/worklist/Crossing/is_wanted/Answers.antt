use Rattle.crossing_off.proofs.Tests.{cell_there, wanted_first}
use Rattle.comm_sequence.specs.declared.comm.Comm.TheVariants.{Read}
use Rattle.crossing_off.proofs.worklist.Crossing.is_wanted.Goals as goal

pub is_first-requires : goal.is_first-requires
is_first-requires c = cell_there c.args.seqs.now c.args.buffer c.args.self.now (Read c.args.message) c.cell_of.result c.requires.under_way c.cell_of.ensures

pub returns-then-buffer-eq0 : goal.returns-then-buffer-eq0
returns-then-buffer-eq0 c =
    wanted_first c.args.seqs.now c.args.buffer c.args.self.now c.args.message c.cell_of.result c.is_first.result c.requires.under_way
    c.if-buffer-eq0.true c.cell_of.ensures c.is_first.ensures
