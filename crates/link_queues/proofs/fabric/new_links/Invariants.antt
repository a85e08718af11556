use Rattle.std.proofs.Common.{◌≡◌, map}
use Rattle.sys_base.specs.Groups.{below}
use Rattle.link_queues.specs.Tables.{first_link}
use Rattle.link_queues.proofs.fabric.new_links.Given as goal

-- the links so far are there
abbrev pub invariant-loop-link : goal.invariant-loop-link
invariant-loop-link l = l.links.items ≡ map (first_link l.image l.cap) (below l.link)
