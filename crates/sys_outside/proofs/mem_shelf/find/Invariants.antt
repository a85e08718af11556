use Rattle.std.proofs.Common.{◌≡◌, length}
use Rattle.sys_outside.specs.Files.{files_of, named}
use Rattle.sys_outside.proofs.mem_shelf.find.Given as goal

-- what was passed over has other names
abbrev pub invariant-loop-rest : goal.invariant-loop-rest
invariant-loop-rest l = named (files_of l.rest) l.name ≡ named (files_of l.fn.files) l.name

abbrev pub decreases-loop-rest : goal.decreases-loop-rest
decreases-loop-rest l = length l.rest
