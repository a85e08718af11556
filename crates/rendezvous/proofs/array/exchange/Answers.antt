use Rattle.std.proofs.Common.{◌+◌, ◌∙◌, Some, ap, refl, subst, arith}
use Rattle.std.proofs.lemmas.List.{get_or_read}
use Rattle.std.specs.Prelude.{pos}
use Rattle.sys_base.specs.declared.word.Word.TheVariants.{Num}
use Rattle.rendezvous.specs.bodies.Running.{Goes}
use Rattle.rendezvous.specs.declared.array.Stream.{Stream}
use Rattle.rendezvous.specs.declared.runner.Runner.{Runner}
use Rattle.rendezvous.proofs.Exchanging.{read_it, there_is, wrote_it}
use Rattle.rendezvous.proofs.array.exchange.Goals as goal

pub index-word-requires : goal.index-word-requires
index-word-requires c =
    let old = c.args.runner.now in
    let stop = c.next.new.self in
    let goes = subst (Goes old stop) (c.in-Some-Reads.is ∙ ap Some c.in-Some-Reads.field-0-is) c.in_ok-word.ensures.goes in
    there_is old stop c.args.stream.now c.in-Some-Reads.field-0-0 c.in-Some-Reads.variable c.requires.ready c.requires.alike goes
    c.requires.word

pub overflow_add-stream : goal.overflow_add-stream
overflow_add-stream c =
    let old = c.args.runner.now in
    let stop = c.next.new.self in
    let goes = subst (Goes old stop) (c.in-Some-Reads.is ∙ ap Some c.in-Some-Reads.field-0-is) c.in_ok-word.ensures.goes in
    let some = there_is old stop c.args.stream.now c.in-Some-Reads.field-0-0 c.in-Some-Reads.variable c.requires.ready
    c.requires.alike goes c.requires.word in
    omega (arith, some)

pub returns-in_ok-push-in-Some-Writes : goal.returns-in_ok-push-in-Some-Writes
returns-in_ok-push-in-Some-Writes c =
    let old = c.args.runner.now in
    let new = c.next.new.self in
    let w = c.in-Some-Writes in
    let goes = subst (Goes old new) (w.is ∙ ap Some w.field-0-is) c.in_ok-word.ensures.goes in
    let is : Stream = record { words = c.push.new.self; read = c.args.stream.now.read } in
    wrote_it old new c.args.stream.now is w.field-0-0 w.word goes c.in_ok-word.ensures.ready
    c.in_ok-push-in-Some-Writes.ensures.items refl

pub returns-in-Some-Reads : goal.returns-in-Some-Reads
returns-in-Some-Reads c =
    let old = c.args.runner.now in
    let stop = c.next.new.self in
    let w = c.in-Some-Reads in
    let was = c.args.stream.now in
    let goes = subst (Goes old stop) (w.is ∙ ap Some w.field-0-is) c.in_ok-word.ensures.goes in
    let some = there_is old stop was w.field-0-0 w.variable c.requires.ready c.requires.alike goes c.requires.word in
    let new : Runner = record { store = c.set.new.self; input = stop.input; tasks = stop.tasks } in
    let is : Stream = record { words = was.words; read = was.read + 1 } in
    read_it old stop new was is w.field-0-0 w.variable c.index-word.result.now goes c.in_ok-word.ensures.ready
    c.set.ensures.size refl refl c.set.ensures.held
    (get_or_read was.words.items was.read c.index-word.result.now (omega (arith, some, was.words.ok)) c.index-word.ensures
    (Num (pos 0))) refl refl
