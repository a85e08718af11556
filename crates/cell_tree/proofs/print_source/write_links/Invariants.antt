use Rattle.std.proofs.Common.{◌≡◌, ◌++◌, take}
use Rattle.std.specs.List.{flat_map}
use Rattle.cell_tree.specs.Canonical.{link_pieces}
use Rattle.cell_tree.specs.Pieces.{joined}
use Rattle.cell_tree.proofs.print_source.write_links.Given as goal

abbrev pub invariant-loop-link : goal.invariant-loop-link
invariant-loop-link l = l.out.items ≡ l.fn.out.items ++ joined (flat_map link_pieces (take l.link-index l.links))
