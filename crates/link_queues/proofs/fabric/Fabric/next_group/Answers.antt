use Rattle.std.proofs.Common.{◌≡◌, ◌<◌, None, Some, List, map, length, get_or, option_map, position, slice_get, sym, ap, ◌∙◌, arith}
use Rattle.cell_code.specs.Marks.{groups_of, link_of as link_named}
use Rattle.cell_code.specs.declared.image.Group.{Group}
use Rattle.cell_code.specs.declared.image.LinkImage.{LinkImage}
use Rattle.link_queues.specs.Tables.{Laid, link_of}
use Rattle.link_queues.specs.declared.link.Link.{Link}
use Rattle.link_queues.specs.declared.fabric.Fabric.TheInside.{Inside}
use Rattle.link_queues.proofs.Found.{is_link, item_members, link_found, no_next, the_link}
use Rattle.link_queues.proofs.Opened.{entry_seen, link_seen}
use Rattle.link_queues.proofs.fabric.Fabric.next_group.Goals as goal

pub returns-in_err-entry-clause-members : goal.returns-in_err-entry-clause-members
returns-in_err-entry-clause-members c =
    let link : c.index-link.result.now ≡ link_of c.args.self.now.table c.args.link =
    link_seen c.self.inside.image.now c.self.inside.cap c.self.inside.tables c.args.self.now c.self.view_is c.self.invariant
    _ (ap (λ (u : Inside). u.tables.links) c.self-inside.view_is) c.args.link c.from.result c.index-link.result.now c.requires
    c.from.ensures c.index-link.ensures
    in
    let none : position (is_link c.args.link) c.args.self.now.image.links ≡ None =
    sym (entry_seen c.self.inside.image.now c.self.inside.cap c.self.inside.tables c.args.self.now c.self.view_is
    c.self.invariant c.args.link c.requires)
    ∙ ap (λ (x : Link). x.entry) (sym link) ∙ c.in_err-entry.was
    in
    ap (option_map _) c.from_residual.ensures
    ∙ sym (no_next c.args.self.now.image c.args.link (link_of c.args.self.now.table c.args.link).bound none)

pub offset_bounds-as_slice-entry : goal.offset_bounds-as_slice-entry
offset_bounds-as_slice-entry c =
    let link : c.index-link.result.now ≡ link_of c.args.self.now.table c.args.link =
    link_seen c.self.inside.image.now c.self.inside.cap c.self.inside.tables c.args.self.now c.self.view_is c.self.invariant
    _ (ap (λ (u : Inside). u.tables.links) c.self-inside.view_is) c.args.link c.from.result c.index-link.result.now c.requires
    c.from.ensures c.index-link.ensures
    in
    let found : position (is_link c.args.link) c.args.self.now.image.links ≡ Some c.in_ok-entry.entry =
    sym (entry_seen c.self.inside.image.now c.self.inside.cap c.self.inside.tables c.args.self.now c.self.view_is
    c.self.invariant c.args.link c.requires)
    ∙ ap (λ (x : Link). x.entry) (sym link) ∙ c.in_ok-entry.was
    in
    let all : c.as_slice.result.now ≡ c.args.self.now.image.links =
    c.as_slice.ensures ∙ ap (λ (u : Inside). u.image.now.links) c.self-inside.view_is
    ∙ ap (λ (f : Laid). f.image.links) c.self.view_is
    in
    let inside : c.in_ok-entry.entry < length c.as_slice.result.now =
    omega (
      arith,
      (link_found c.args.self.now.image.links c.args.link c.in_ok-entry.entry found).0,
      ap (λ (ls : List LinkImage). length ls) all,
    )
    in
    omega (arith, inside, c.as_slice.type_inv.1)

pub returns-clause-members : goal.returns-clause-members
returns-clause-members c =
    let link : c.index-link.result.now ≡ link_of c.args.self.now.table c.args.link =
    link_seen c.self.inside.image.now c.self.inside.cap c.self.inside.tables c.args.self.now c.self.view_is c.self.invariant
    _ (ap (λ (u : Inside). u.tables.links) c.self-inside.view_is) c.args.link c.from.result c.index-link.result.now c.requires
    c.from.ensures c.index-link.ensures
    in
    let found : position (is_link c.args.link) c.args.self.now.image.links ≡ Some c.in_ok-entry.entry =
    sym (entry_seen c.self.inside.image.now c.self.inside.cap c.self.inside.tables c.args.self.now c.self.view_is
    c.self.invariant c.args.link c.requires)
    ∙ ap (λ (x : Link). x.entry) (sym link) ∙ c.in_ok-entry.was
    in
    let all : c.as_slice.result.now ≡ c.args.self.now.image.links =
    c.as_slice.ensures ∙ ap (λ (u : Inside). u.image.now.links) c.self-inside.view_is
    ∙ ap (λ (f : Laid). f.image.links) c.self.view_is
    in
    let there : get_or c.as_slice.result.now c.in_ok-entry.entry c.index-as_slice-entry.result
    ≡ link_named c.args.self.now.image.links c.args.link =
    sym c.index-as_slice-entry.is
    ∙ (the_link c.args.self.now.image c.args.link c.in_ok-entry.entry c.as_slice.result.now c.index-as_slice-entry.result
    found all c.index-as_slice-entry.is).1
    in
    item_members c.as_slice-groups.result.now c.index-link.result.now.bound c.get.result c.get.ensures.lookup
    ∙ ap (λ (gs : List Group). slice_get (map (λ (g : Group). g.members) gs) c.index-link.result.now.bound)
    c.as_slice-groups.ensures
    ∙ ap (λ (x : LinkImage). slice_get (map (λ (g : Group). g.members) x.groups) c.index-link.result.now.bound) there
    ∙ ap (λ (x : Link). slice_get (groups_of c.args.self.now.image c.args.link) x.bound) link
