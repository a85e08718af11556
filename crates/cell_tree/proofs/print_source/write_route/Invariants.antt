use Rattle.std.proofs.Common.{◌≡◌, ◌++◌, take}
use Rattle.std.specs.List.{flat_map}
use Rattle.sys_base.specs.Key.{key_text}
use Rattle.sys_base.specs.declared.key.Key.TheVariants as K
use Rattle.cell_tree.specs.Canonical.{dir_text}
use Rattle.cell_tree.specs.Pieces.{joined, after, space}
use Rattle.cell_tree.proofs.print_source.write_route.Given as goal

abbrev pub invariant-loop-dir : goal.invariant-loop-dir
invariant-loop-dir l =
    l.out.items ≡ l.fn.out.items
    ++ joined (after space (key_text K.Route) ++ flat_map (λ dir. after space (dir_text dir)) (take l.dir-index l.route))
