use Rattle.std.proofs.Common.{List, ℕ, subst}
use Rattle.std.proofs.lemmas.Result.{err_from_is_err_and}
use Rattle.serde_json.specs.View.{view}
use Rattle.stream_io.specs.Checking.{BreaksMember}
use Rattle.stream_io.specs.Reading.{IsGood}
use Rattle.stream_io.proofs.Lists.{one_more, broken_here}
use Rattle.stream_io.proofs.members.check_members.Goals as goal

pub loop-key-preserved : goal.loop-key-preserved
loop-key-preserved c =
    one_more c.args.grid.now c.args.map.now.entries c.loop-key.key-iterator c.next.new.self (c.in-Some.key.now, c.in-Some.value.now)
    c.loop-key.invariant c.in-Some.ensures.steps
    (subst (λ (k : List ℕ). IsGood c.args.grid.now k (view c.in-Some.value.now)) c.as_str.ensures.value c.in_ok-check_member.ensures.good)

pub returns-in_err-check_member-clause-broken : goal.returns-in_err-check_member-clause-broken
returns-in_err-check_member-clause-broken c =
    let p = err_from_is_err_and c.from_residual.result c.from_residual.ensures.1 in
    rw (p.1, p.2) (broken_here c.args.grid.now c.args.map.now.entries c.loop-key.key-iterator c.next.new.self
    (c.in-Some.key.now, c.in-Some.value.now) c.in_err-check_member.field-0.0 c.loop-key.invariant c.in-Some.ensures.steps
    (subst (λ (k : List ℕ). BreaksMember c.args.grid.now k (view c.in-Some.value.now) c.in_err-check_member.field-0.0) c.as_str.ensures.value
    c.in_err-check_member.ensures.broken))
