use Rattle.std.proofs.Common.{◌<◌, All, length, map, sym, ap, ap₂, subst, ◌∙◌}
use Rattle.cell_types.specs.Typed.{plain}
use Rattle.queue_plan.specs.Grouping.{groups_at}
use Rattle.refusals.specs.declared.refusal.Refusal.TheVariants as R
use Rattle.sys_base.specs.Grid.{Extent}
use Rattle.sys_base.specs.Names.{link_name}
use Rattle.accept.specs.Told.{message_name}
use Rattle.accept.proofs.FirstLack.{is_of, members_known}
use Rattle.accept.proofs.queues.lack_refusal.Goals as goal

pub names_of-requires : goal.names_of-requires
names_of-requires c =
    subst (All (λ m. m < length c.args.program.now.messages)) (sym c.members_of-members.ensures)
    (members_known (is_of c.args.lack.label) (groups_at c.args.groups.now c.args.lack.link) (length c.args.program.now.messages)
    c.requires.known)

pub returns : goal.returns
returns c =
    let link = c.link_name.ensures ∙ ap (λ (g : Extent). link_name g.cols c.args.lack.link) c.grid.ensures.grid in
    let names =
    c.in_ok-names_of.ensures ∙ ap (map (message_name (plain c.args.program.now))) c.members_of-members.ensures in
    ap₂ (λ l ns. R.TooFew l c.args.lack.label c.args.lack.need c.args.lack.has ns) link names
