use Rattle.std.proofs.Common.{ℕ, ◌<◌, sym, subst}
use Rattle.std.proofs.lemmas.Result.{err_from_is_err_and}
use Rattle.serde_json.specs.View.{view}
use Rattle.stream_io.specs.Checking.{entries_list}
use Rattle.stream_io.proofs.Lists.{members_refused, counts_refused, has_members}
use Rattle.stream_io.proofs.inputs.read_inputs.Goals as goal

pub returns-in_err-check_members-clause-refused : goal.returns-in_err-check_members-clause-refused
returns-in_err-check_members-clause-refused c =
    let p = err_from_is_err_and c.from_residual-in_err-check_members.result c.from_residual-in_err-check_members.ensures.1 in
    rw (p.1, p.2) (members_refused c.args.bytes.now c.args.grid.now c.args.takes.now (view c.in_ok-value.value) c.in-Some.map.now.entries
    c.in_err-check_members.field-0.0 c.in_ok-value.ensures.ok c.in-Some.ensures c.in_err-check_members.ensures.broken)

pub returns-in_err-check_counts-clause-refused : goal.returns-in_err-check_counts-clause-refused
returns-in_err-check_counts-clause-refused c =
    let p = err_from_is_err_and c.from_residual-in_err-check_counts.result c.from_residual-in_err-check_counts.ensures.1 in
    rw (p.1, p.2) (counts_refused c.args.bytes.now c.args.grid.now c.args.takes.now (view c.in_ok-value.value) c.in-Some.map.now.entries
    c.in_ok-inputs.inputs.cells c.in_err-check_counts.field-0.0 c.in_ok-value.ensures.ok c.in-Some.ensures c.in_ok-check_members.ensures.good
    c.in_ok-inputs.ensures.lists c.in_err-check_counts.ensures.err)

pub returns-clause-inputs : goal.returns-clause-inputs
returns-clause-inputs c = record {
  reading = (
    view c.in_ok-value.value,
    entries_list c.in-Some.map.now.entries,
    c.in_ok-value.ensures.ok,
    has_members (view c.in_ok-value.value) c.in-Some.map.now.entries c.in-Some.ensures,
    c.in_ok-check_members.ensures.good,
    c.in_ok-inputs.ensures.lists,
  );
  counts = λ cell inside. c.in_ok-check_counts.ensures.ok cell (subst (λ (n : ℕ). cell < n) (sym c.requires) inside);
}
