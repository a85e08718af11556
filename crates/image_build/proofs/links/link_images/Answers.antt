use Rattle.std.proofs.Common.{◌≡◌, ◌∙◌, ◌+◌, ℕ, List, get_or, length, refl, true≢false, map, slice_index, ap, subst, sym, arith}
use Rattle.cell_types.specs.Groups.{lengths_of}
use Rattle.cell_types.specs.Typed.{plain}
use Rattle.program_image.specs.ImageOf.{link_image}
use Rattle.cell_code.specs.declared.image.LinkImage.{LinkImage}
use Rattle.image_build.proofs.Grouped.{grouped_before}
use Rattle.image_build.proofs.EachLink.{in_groups, link_more, link_passed, links_are}
use Rattle.image_build.proofs.links.link_images.Goals as goal
use Rattle.image_build.proofs.links.link_images.Goals.{then-not-is_empty+in_ok-push, else-not-is_empty}

pub group_images-requires : goal.group_images-requires
group_images-requires c =
    in_groups (plain c.args.program.now) c.args.labels.now c.args.groups.now c.queues-queues.result.now c.loop-link.link
    c.requires.groups c.queues-queues.ensures.queues c.queues-queues.ensures.sound.links c.loop-link-test.true

pub loop-link-preserved : goal.loop-link-preserved
loop-link-preserved c =
    let p = plain c.args.program.now in
    let n = c.loop-link.link in
    let its = c.in_ok-groups.ensures in
    elim c.if-not-is_empty.branch [
      | then-not-is_empty+in_ok-push w ↦
          let queue =
          ap (λ (qs : List ℕ). get_or qs w.from.result 0) c.queues-queues.ensures.queues
          ∙ ap (λ k. slice_index c.args.program.now.queues k) w.from.ensures in
          link_more p c.args.groups.now n _ c.in_ok-groups.groups c.loop-link.links _ its
          (λ none. absurd (true≢false (sym (w.if-not-is_empty.ensures.1 none)))) queue
          c.loop-link.invariant (w.links-is ∙ w.in_ok-push.ensures.ok)
      | else-not-is_empty w ↦
          subst (λ (ls : List LinkImage). ls ≡ map (link_image p) (grouped_before c.args.groups.now (n + 1))) (sym w.links-is)
          (link_passed p c.args.groups.now n c.in_ok-groups.groups c.loop-link.links its (w.if-not-is_empty.ensures.0 refl)
          c.loop-link.invariant)
    ]

pub returns : goal.returns
returns c =
    let p = plain c.args.program.now in
    let labels = c.args.labels.now in
    let parts = c.messages_keep_their_parts.ensures in
    c.loop-link.invariant
    ∙ ap (map (link_image p))
    (links_are p labels c.args.groups.now c.loop-link.link (parts.routes p labels) (parts.labels p labels c.requires.labels)
    (parts.lengths p labels) c.requires.groups (c.groups_by_link.ensures.at p labels (lengths_of p))
    (omega (
      arith,
      c.loop-link-test.false,
      c.loop-link.auto.link-end,
      ap length c.queues-queues.ensures.queues,
      c.queues-queues.ensures.sound.links,
    )))
