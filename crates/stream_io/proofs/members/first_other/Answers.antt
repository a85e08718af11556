use Rattle.std.proofs.Common.{◌∙◌, List, not, ap, sym}
use Rattle.std.specs.List.{position}
use Rattle.std.specs.Option.{is_some}
use Rattle.serde_json.specs.View.{view}
use Rattle.serde_json.specs.declared.value.Value.{Value}
use Rattle.stream_io.specs.Reading.{integer_of}
use Rattle.stream_io.proofs.Lists.{first_other-view, no_other}
use Rattle.stream_io.proofs.members.first_other.Goals as goal

pub returns-in-Some : goal.returns-in-Some
returns-in-Some c =
    c.other_among.ensures
    ∙ ap (λ (l : List Value). position (λ v. not (is_some (integer_of (view v)))) l) c.deref.ensures.value
    ∙ sym (first_other-view (view c.args.value.now) c.in-Some.list.now.items c.in-Some.ensures)

pub returns-in-None : goal.returns-in-None
returns-in-None c = no_other (view c.args.value.now) c.in-None.ensures
