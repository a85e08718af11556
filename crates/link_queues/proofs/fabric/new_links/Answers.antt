use Rattle.std.proofs.Common.{List, [], ◌∷◌, ◌++◌, map, sym, ap, ◌∙◌, arith}
use Rattle.std.proofs.lemmas.List.FromFn.{map-range_with_len_more}
use Rattle.sys_base.specs.Groups.{below}
use Rattle.link_queues.specs.Tables.{first_link}
use Rattle.link_queues.specs.declared.link.Link.{Link}
use Rattle.link_queues.proofs.fabric.new_links.Goals as goal

pub loop-link-preserved : goal.loop-link-preserved
loop-link-preserved c =
    c.in_ok-push.ensures.items ∙ ap (λ (xs : List Link). xs ++ c.in_ok-link.link ∷ []) c.loop-link.invariant
    ∙ ap (λ (x : Link). map (first_link c.args.image.now c.args.cap) (below c.loop-link.link) ++ x ∷ []) c.in_ok-link.ensures
    ∙ sym (map-range_with_len_more (first_link c.args.image.now c.args.cap) 0 c.loop-link.link c.loop-link.link (omega arith))
