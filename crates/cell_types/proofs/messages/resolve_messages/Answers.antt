use Rattle.std.proofs.Common.{[]}
use Rattle.std.proofs.lemmas.Result.{err_from_is_err_and}
use Rattle.cell_types.specs.Faults.{faults_behind, message_faults}
use Rattle.cell_types.specs.bodies.Scopes.{names_in}
use Rattle.cell_types.proofs.FirstFaults.{first_memory}
use Rattle.cell_types.proofs.MessageLoop.{name_stops, ends_stop, way_stops, messages_more, messages_named}
use Rattle.cell_types.proofs.messages.resolve_messages.Goals as goal

pub returns-in_err-add_name-clause-list : goal.returns-in_err-add_name-clause-list
returns-in_err-add_name-clause-list c =
    let p = err_from_is_err_and c.from_residual.result c.from_residual.ensures.1 in
    rw (p.1, p.2) (name_stops c.args.grid.now c.args.declared.now (names_in c.loop-message.names) _ _ c.loop-message.message-index
    c.message-item.result c.loop-message.invariant c.loop-message-test.true c.message-item.is _ c.in_err-add_name.ensures.names)

pub returns-in_err-between-clause-list : goal.returns-in_err-between-clause-list
returns-in_err-between-clause-list c =
    let p = err_from_is_err_and c.from_residual-in_err-between.result c.from_residual-in_err-between.ensures.1 in
    rw (p.1, p.2) (ends_stop c.args.grid.now c.args.declared.now (names_in c.loop-message.names) _ _ c.loop-message.message-index
    c.message-item.result c.loop-message.invariant c.loop-message-test.true c.message-item.is _ c.in_ok-add_name.ensures.names.0 c.in_err-between.ensures.ends)

pub returns-in_err-resolve_message-clause-list : goal.returns-in_err-resolve_message-clause-list
returns-in_err-resolve_message-clause-list c =
    let p = err_from_is_err_and c.from_residual-in_err-resolve_message.result c.from_residual-in_err-resolve_message.ensures.1 in
    rw (p.1, p.2) (way_stops c.args.grid.now c.args.declared.now (names_in c.loop-message.names) _ _ c.loop-message.message-index
    c.message-item.result c.loop-message.invariant c.loop-message-test.true c.message-item.is _ c.in_ok-between.between
    c.in_ok-add_name.ensures.names.0 c.in_ok-between.ensures.ends.0 c.in_ok-between.ensures.ends.1 c.in_err-resolve_message.ensures)

pub returns-in_err-push-clause-list : goal.returns-in_err-push-clause-list
returns-in_err-push-clause-list c =
    let p = err_from_is_err_and c.from_residual-in_err-push.result c.from_residual-in_err-push.ensures.1 in
    rw (p.1, p.2) (first_memory (faults_behind (message_faults c.args.grid.now) [] c.args.declared.now))

pub returns-in_err-push-2-clause-list : goal.returns-in_err-push-2-clause-list
returns-in_err-push-2-clause-list c =
    let p = err_from_is_err_and c.from_residual-in_err-push-2.result c.from_residual-in_err-push-2.ensures.1 in
    rw (p.1, p.2) (first_memory (faults_behind (message_faults c.args.grid.now) [] c.args.declared.now))

pub loop-message-preserved : goal.loop-message-preserved
loop-message-preserved c =
    messages_more c.args.grid.now c.args.declared.now (names_in c.loop-message.names) _ _ c.loop-message.message-index c.message-item.result
    c.loop-message.invariant c.loop-message-test.true c.message-item.is c.in_ok-between.between c.in_ok-resolve_message.field-0 _ _ _
    c.in_ok-add_name.ensures.names.0 c.in_ok-between.ensures.ends.0 c.in_ok-between.ensures.ends.1 c.in_ok-resolve_message.ensures.0
    c.in_ok-resolve_message.ensures.1 c.in_ok-add_name.ensures.few c.in_ok-add_name.ensures.names.1 c.in_ok-push-2.ensures.items c.in_ok-push.ensures.items

pub returns-clause-table : goal.returns-clause-table
returns-clause-table c =
    messages_named c.args.grid.now c.args.declared.now c.loop-message.names.names.keys _ _ c.loop-message.message-index c.loop-message.invariant
    c.loop-message-test.false
