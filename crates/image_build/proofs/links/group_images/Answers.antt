use Rattle.std.proofs.Common.{◌∙◌, ◌++◌, ◌∷◌, [], List, ap, arith, map, sym}
use Rattle.queue_plan.specs.Grouping.{groups_at}
use Rattle.cell_code.specs.declared.image.Group.{Group}
use Rattle.program_image.specs.ImageOf.{group_image}
use Rattle.image_build.proofs.EachGroup.{all_there, group_there}
use Rattle.image_build.proofs.links.group_images.Goals as goal

pub loop-label-preserved : goal.loop-label-preserved
loop-label-preserved c =
    let more = group_there (groups_at c.args.groups.now c.args.link) c.loop-label.place c.in-Some.label _
    c.in-Some.ensures.label (c.in_ok-members.ensures ∙ c.members.ensures.members) in
    let inside = more.0 in
    record {
      within = omega (arith, inside);
      made = c.in_ok-push.ensures.ok
          ∙ ap (λ (gs : List Group). gs ++ record { label = c.in-Some.label; members = c.in_ok-members.members } ∷ []) c.loop-label.invariant.made
          ∙ sym more.1;
    }

pub returns : goal.returns
returns c =
    c.loop-label.invariant.made
    ∙ ap (map group_image) (all_there (groups_at c.args.groups.now c.args.link) c.loop-label.place c.in_default.ensures.label c.loop-label.invariant.within)
