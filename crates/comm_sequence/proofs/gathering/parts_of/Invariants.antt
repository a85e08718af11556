use Rattle.std.proofs.Common.{◌≡◌, ◌≤◌, All, map, take, drop}
use Rattle.std.specs.Global.{Vec}
use Rattle.cell_types.specs.Code.{CellCode}
use Rattle.cell_types.specs.Communications.{block_communications}
use Rattle.cell_types.specs.Typed.{plain, plain_cell}
use Rattle.comm_sequence.specs.Differing.{all_differing, differing_from}
use Rattle.comm_sequence.specs.Gathered.{all_unrolled}
use Rattle.comm_sequence.specs.Parts.{loops}
use Rattle.comm_sequence.specs.declared.part.Part.{Part}
use Rattle.comm_sequence.proofs.gathering.parts_of.Given as goal

abbrev pub invariant-loop-index : goal.invariant-loop-index
invariant-loop-index l =
    record {
      cells : all_unrolled l.cells.items ≡ map (λ (c : CellCode). block_communications c.body) (map plain_cell (take l.index l.cell-items));
      differing : differing_from l.index (map plain_cell (drop l.index l.cell-items)) ≡ all_differing (plain l.program);
      deep : All (λ (parts : Vec Part). loops parts.items ≤ 16) l.cells.items;
    }
