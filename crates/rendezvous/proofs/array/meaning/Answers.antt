use Rattle.std.proofs.Common.{◌≡◌, ◌∙◌, ap, drop, get_or, length, subst, sym, take, [], arith}
use Rattle.std.proofs.lemmas.List.{drop_all, take_all}
use Rattle.std.proofs.lemmas.Option.{slice_get-get_or}
use Rattle.std.proofs.lemmas.Result.{IfOk-weaker}
use Rattle.cell_types.specs.Typed.{plain}
use Rattle.comm_sequence.specs.Meaning.{IsMeaning}
use Rattle.comm_sequence.specs.declared.comm.Comm.TheVariants.{Write}
use Rattle.rendezvous.specs.bodies.UnderWay.{AllEnd, AreOn, IsOwner}
use Rattle.rendezvous.proofs.Ending.{means}
use Rattle.rendezvous.proofs.Opened.{all_opening}
use Rattle.rendezvous.proofs.Turning.{cell_inside, next_is, on_after, word_is}
use Rattle.rendezvous.proofs.array.meaning.Goals as goal

pub loop-event-init : goal.loop-event-init
loop-event-init c =
    let contents = c.args.program.now in
    let cells = c.in_ok-cells.cells in
    let streams = c.in_ok-streams.streams in
    all_opening contents c.args.inputs.now.cells contents.buffer c.args.order.now cells.items streams.items
    c.messages-messages.ensures.sound c.requires.alike c.requires.cost c.requires.order
    (omega (arith, c.in_ok-cells.ensures.count, cells.ok))
    (omega (arith, c.in_ok-streams.ensures.count, streams.ok, ap length c.messages-messages.ensures.messages))
    c.in_ok-cells.ensures.opening c.in_ok-streams.ensures.empty

pub index_mut-runner-requires : goal.index_mut-runner-requires
index_mut-runner-requires c =
    let program = plain c.args.program.now in
    let x = get_or c.args.order.now c.loop-event.event-index (Write 0) in
    let owner = subst (IsOwner program.messages x) (sym c.from.ensures)
    (subst (λ ms. IsOwner ms x c.owner.result) c.messages-messages.ensures.messages c.owner.ensures) in
    omega (
      arith,
      cell_inside program c.args.inputs.now.cells program.buffer c.args.order.now c.loop-event.event-index
          c.loop-event.cells.items c.loop-event.streams.items c.messages-messages.ensures.sound c.requires.order
          c.loop-event.invariant c.loop-event-test.true c.from.result owner,
      c.loop-event.cells.ok,
    )

pub exchange-requires-clause-ready : goal.exchange-requires-clause-ready
exchange-requires-clause-ready c =
    let program = plain c.args.program.now in
    let x = get_or c.args.order.now c.loop-event.event-index (Write 0) in
    let owner = subst (IsOwner program.messages x) (sym c.from.ensures)
    (subst (λ ms. IsOwner ms x c.owner.result) c.messages-messages.ensures.messages c.owner.ensures) in
    (next_is program c.args.inputs.now.cells program.buffer c.args.order.now c.loop-event.event-index
    c.loop-event.cells.items c.loop-event.streams.items c.messages-messages.ensures.sound c.requires.order
    c.loop-event.invariant c.loop-event-test.true c.from.result owner c.from-in-loop-event.result
    (c.from-in-loop-event.ensures ∙ c.message.ensures) c.index_mut-runner.result.now c.index_mut-stream.result.now
    c.index_mut-runner.ensures.value c.index_mut-stream.ensures.value).ready

pub exchange-requires-clause-alike : goal.exchange-requires-clause-alike
exchange-requires-clause-alike c =
    let program = plain c.args.program.now in
    let x = get_or c.args.order.now c.loop-event.event-index (Write 0) in
    let owner = subst (IsOwner program.messages x) (sym c.from.ensures)
    (subst (λ ms. IsOwner ms x c.owner.result) c.messages-messages.ensures.messages c.owner.ensures) in
    (next_is program c.args.inputs.now.cells program.buffer c.args.order.now c.loop-event.event-index
    c.loop-event.cells.items c.loop-event.streams.items c.messages-messages.ensures.sound c.requires.order
    c.loop-event.invariant c.loop-event-test.true c.from.result owner c.from-in-loop-event.result
    (c.from-in-loop-event.ensures ∙ c.message.ensures) c.index_mut-runner.result.now c.index_mut-stream.result.now
    c.index_mut-runner.ensures.value c.index_mut-stream.ensures.value).alike

pub exchange-requires-clause-word : goal.exchange-requires-clause-word
exchange-requires-clause-word c =
    let program = plain c.args.program.now in
    let x = get_or c.args.order.now c.loop-event.event-index (Write 0) in
    let owner = subst (IsOwner program.messages x) (sym c.from.ensures)
    (subst (λ ms. IsOwner ms x c.owner.result) c.messages-messages.ensures.messages c.owner.ensures) in
    word_is program c.args.inputs.now.cells program.buffer c.args.order.now c.loop-event.event-index
    c.loop-event.cells.items c.loop-event.streams.items c.messages-messages.ensures.sound c.requires.order
    c.loop-event.invariant c.loop-event-test.true c.from.result owner c.from-in-loop-event.result
    (c.from-in-loop-event.ensures ∙ c.message.ensures) c.index_mut-runner.result.now c.index_mut-stream.result.now
    c.index_mut-runner.ensures.value c.index_mut-stream.ensures.value

pub loop-event-preserved : goal.loop-event-preserved
loop-event-preserved c =
    let program = plain c.args.program.now in
    let x = get_or c.args.order.now c.loop-event.event-index (Write 0) in
    let owner = subst (IsOwner program.messages x) (sym c.from.ensures)
    (subst (λ ms. IsOwner ms x c.owner.result) c.messages-messages.ensures.messages c.owner.ensures) in
    let next = next_is program c.args.inputs.now.cells program.buffer c.args.order.now c.loop-event.event-index
    c.loop-event.cells.items c.loop-event.streams.items c.messages-messages.ensures.sound c.requires.order
    c.loop-event.invariant c.loop-event-test.true c.from.result owner c.from-in-loop-event.result
    (c.from-in-loop-event.ensures ∙ c.message.ensures) c.index_mut-runner.result.now c.index_mut-stream.result.now
    c.index_mut-runner.ensures.value c.index_mut-stream.ensures.value in
    on_after program c.args.inputs.now.cells program.buffer c.args.order.now c.loop-event.event-index
    c.loop-event.cells.items c.loop-event.streams.items c.messages-messages.ensures.sound c.requires.order
    c.loop-event.invariant c.loop-event-test.true c.from.result owner c.from-in-loop-event.result
    (c.from-in-loop-event.ensures ∙ c.message.ensures) c.index_mut-runner.result.now c.index_mut-stream.result.now
    c.index_mut-runner.ensures.value c.index_mut-stream.ensures.value c.exchange.new.runner c.exchange.new.stream
    (c.in_ok-exchange.ensures x next)

pub outputs-requires : goal.outputs-requires
outputs-requires c = λ k d low.
    (c.loop-event.invariant.on k (get_or c.loop-event.cells.items k d) (slice_get-get_or c.loop-event.cells.items k d low)).ready

pub returns : goal.returns
returns c =
    let program = plain c.args.program.now in
    let inputs = c.args.inputs.now.cells in
    let order = c.args.order.now in
    let k = c.loop-event.event-index in
    let cells = c.loop-event.cells.items in
    let streams = c.loop-event.streams.items in
    let all : take k order ≡ order = take_all k order c.loop-event-test.false in
    let none : drop k order ≡ [] = drop_all k order c.loop-event-test.false in
    let on : AreOn program inputs order [] cells streams =
    subst (λ xs. AreOn program inputs order xs cells streams) none
    (subst (λ xs. AreOn program inputs xs (drop k order) cells streams) all c.loop-event.invariant) in
    IfOk-weaker c.outputs.result (λ o. AllEnd cells o.cells) (λ o. IsMeaning program inputs o.cells)
    (λ o ends. means program inputs order cells streams o.cells c.messages-messages.ensures.sound c.requires.cost
    c.sound_programs_have_sequences.ensures program.buffer c.requires.order on ends)
    c.outputs.ensures
