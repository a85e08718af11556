use Rattle.std.proofs.Common.{◌≡◌, ℕ, ◌-◌, ◌≤◌, List, None, length, nat_eq, find, take}
use Rattle.queue_plan.specs.Grouping.{groups_at}
use Rattle.accept.proofs.queues.members_of.Given as goal

abbrev pub invariant-loop-other : goal.invariant-loop-other
invariant-loop-other l = record {
  within : l.place ≤ length (groups_at l.groups l.link);
  none : find (λ (g : ℕ × List ℕ). nat_eq g.0 l.label) (take l.place (groups_at l.groups l.link)) ≡ None;
}

abbrev pub decreases-loop-other : goal.decreases-loop-other
decreases-loop-other l = length (groups_at l.groups l.link) - l.place
