use Rattle.std.proofs.Common.{◌≡◌, ◌≢◌, ◌∙◌, [], ap, rules}
use Rattle.std.proofs.lemmas.List.{nil_from_length}
use Rattle.cell_types.specs.Communications.{copies}
use Rattle.comm_sequence.specs.Parts.{unrolled}
use Rattle.comm_sequence.proofs.Grown.{grown_loop, grown_nothing, no_copies}
use Rattle.comm_sequence.proofs.trimming.push_loop.Goals.{then-turns-eq0-via-then-turns-eq0, then-turns-eq0-via-else-turns-eq0+then-is_empty}
use Rattle.comm_sequence.proofs.trimming.push_loop.Goals as goal

pub returns-then-turns-eq0 : goal.returns-then-turns-eq0
returns-then-turns-eq0 c =
    let items = c.args.parts.items in
    let none : copies c.args.turns (unrolled items) ≡ [] = elim c.then-turns-eq0.branch [
      | then-turns-eq0-via-then-turns-eq0 w ↦ ap (λ n. copies n (unrolled items)) w.if-turns-eq0.true
      | then-turns-eq0-via-else-turns-eq0+then-is_empty w ↦
          let empty : items ≡ [] = nil_from_length items (search (rules, w.is_empty.ensures, w.if-is_empty.true, c.args.parts.ok)) in
          ap (λ xs. copies c.args.turns (unrolled xs)) empty ∙ no_copies c.args.turns
    ] in
    grown_nothing c.args.list.now.items c.args.turns items _ none

pub returns : goal.returns
returns c =
    let some : c.args.parts.items ≢ [] = λ e. search (rules, e, c.is_empty.ensures, c.if-is_empty.false, c.args.parts.ok) in
    grown_loop c.args.list.now.items c.push.new.self.items c.args.turns c.args.parts c.if-turns-eq0.false some c.requires c.in_ok-push.ensures.items
