use Rattle.std.proofs.Common.{◌≡◌, Some, is_some, nat_eq, position, rules, tests, sym, ap, ◌∙◌}
use Rattle.std.proofs.lemmas.Iterator.{YieldsList-from_slice}
use Rattle.std.proofs.lemmas.Iterator.Search.{position_from_yields_List}
use Rattle.std.proofs.lemmas.Option.{same_Some}
use Rattle.cell_code.specs.Marks.{hop_on, message_of}
use Rattle.cell_code.specs.declared.image.MessageImage.{MessageImage}
use Rattle.link_queues.proofs.Found.{hop_found, message_seen}
use Rattle.link_queues.proofs.fabric.hop_on.Goals as goal

pub unwrap-requires : goal.unwrap-requires
unwrap-requires c =
    let here : c.index-as_slice-from.result ≡ message_of c.args.image.now c.args.message =
    message_seen c.args.image.now c.args.message c.from.result c.as_slice.result.now c.index-as_slice-from.result
    c.requires.message c.as_slice.ensures c.from.ensures c.index-as_slice-from.is
    in
    let found : c.position.result ≡ Some (hop_on c.args.image.now c.args.link c.args.message) =
    position_from_yields_List (λ y. nat_eq y c.args.link) _ _ _ c.position.ensures.ran
    (YieldsList-from_slice _ c.iter.ensures.rest) (λ x b q k. search (rules, tests))
    ∙ ap (λ (m : MessageImage). position (λ y. nat_eq y c.args.link) m.route) (sym c.index-as_slice-from.is ∙ here)
    ∙ hop_found c.args.link (message_of c.args.image.now c.args.message).route c.requires.uses
    in
    ap is_some found

pub returns : goal.returns
returns c =
    let here : c.index-as_slice-from.result ≡ message_of c.args.image.now c.args.message =
    message_seen c.args.image.now c.args.message c.from.result c.as_slice.result.now c.index-as_slice-from.result
    c.requires.message c.as_slice.ensures c.from.ensures c.index-as_slice-from.is
    in
    let found : c.position.result ≡ Some (hop_on c.args.image.now c.args.link c.args.message) =
    position_from_yields_List (λ y. nat_eq y c.args.link) _ _ _ c.position.ensures.ran
    (YieldsList-from_slice _ c.iter.ensures.rest) (λ x b q k. search (rules, tests))
    ∙ ap (λ (m : MessageImage). position (λ y. nat_eq y c.args.link) m.route) (sym c.index-as_slice-from.is ∙ here)
    ∙ hop_found c.args.link (message_of c.args.image.now c.args.message).route c.requires.uses
    in
    same_Some _ _ (sym c.unwrap.ensures ∙ found)
