use Rattle.std.proofs.Common.{◌≡◌, List, get_or, position, rules, tests, sym, ap, ◌∙◌}
use Rattle.std.proofs.lemmas.Iterator.{YieldsList-from_slice}
use Rattle.std.proofs.lemmas.Iterator.Search.{position_from_yields_List}
use Rattle.cell_code.specs.declared.image.LinkImage.{LinkImage}
use Rattle.link_queues.proofs.Found.{is_link, link_found, link_made, link_not_found}
use Rattle.link_queues.proofs.fabric.new_link.Goals as goal
use Rattle.link_queues.proofs.fabric.new_link.Goals.{in-Some, in-None}

pub returns : goal.returns
returns c =
    let found : c.position-entry.result ≡ position (is_link c.args.link) c.args.image.now.links =
    position_from_yields_List (is_link c.args.link) _ _ _ c.position-entry.ensures.ran
    (YieldsList-from_slice _ c.iter.ensures.rest) (λ x b q k. search (rules, tests))
    in
    let links : List LinkImage = c.args.image.now.links in
    elim c.match-entry.branch [
      | in-Some w ↦
          link_made c.args.image.now c.args.cap c.args.link c.match-entry.entry c.match-entry.queues c.in_ok-slots.slots
          (w.entry-is ∙ sym w.in-Some.is ∙ found)
          (w.queues-is
          ∙ ap (λ (ls : List LinkImage). (get_or ls w.in-Some.entry w.index-as_slice-entry.result).queues) w.as_slice.ensures
          ∙ ap (λ (x : LinkImage). x.queues)
          ((link_found links c.args.link w.in-Some.entry (sym found ∙ w.in-Some.is)).1 w.index-as_slice-entry.result))
          c.in_ok-slots.ensures
      | in-None w ↦
          link_made c.args.image.now c.args.cap c.args.link c.match-entry.entry c.match-entry.queues c.in_ok-slots.slots
          (w.entry-is ∙ found)
          (w.queues-is
          ∙ sym (ap (λ (x : LinkImage). x.queues) (link_not_found links c.args.link (sym found ∙ w.in-None.is))))
          c.in_ok-slots.ensures
    ]
