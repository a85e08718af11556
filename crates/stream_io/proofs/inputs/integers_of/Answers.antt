use Rattle.std.proofs.Common.{◌∙◌, List, ap, sym}
use Rattle.std.specs.List.{filter_map}
use Rattle.serde_json.specs.View.{view}
use Rattle.serde_json.specs.declared.value.Value.{Value}
use Rattle.stream_io.specs.Reading.{integer_of}
use Rattle.stream_io.proofs.Lists.{integers_at-view, no_integers}
use Rattle.stream_io.proofs.inputs.integers_of.Goals as goal

pub returns-in_ok-integers_among-in-Some : goal.returns-in_ok-integers_among-in-Some
returns-in_ok-integers_among-in-Some c =
    c.from_vec.ensures ∙ c.in_ok-integers_among-in-Some.ensures
    ∙ ap (λ (l : List Value). filter_map (λ v. integer_of (view v)) l) c.deref.ensures.value
    ∙ sym (integers_at-view (view c.args.value.now) c.in-Some.list.now.items c.in-Some.ensures)

pub returns-in-None : goal.returns-in-None
returns-in-None c = c.new.ensures ∙ sym (no_integers (view c.args.value.now) c.in-None.ensures)
