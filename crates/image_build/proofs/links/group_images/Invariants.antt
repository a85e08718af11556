use Rattle.std.proofs.Common.{◌≡◌, ◌≤◌, ◌-◌, length, map, take}
use Rattle.queue_plan.specs.Grouping.{groups_at}
use Rattle.program_image.specs.ImageOf.{group_image}
use Rattle.image_build.proofs.links.group_images.Given as goal

abbrev pub invariant-loop-label : goal.invariant-loop-label
invariant-loop-label l = record {
  within : l.place ≤ length (groups_at l.groups l.link);
  made : l.images ≡ map group_image (take l.place (groups_at l.groups l.link));
}

abbrev pub decreases-loop-label : goal.decreases-loop-label
decreases-loop-label l = length (groups_at l.groups l.link) - l.place
