use Rattle.std.proofs.Common.{◌≡◌, ℕ, ◌<◌, List, [], ◌∷◌, ◌++◌, length, get_or, sym, ap, ap₂, ◌∙◌, arith}
use Rattle.std.proofs.lemmas.List.{map_more}
use Rattle.std.proofs.lemmas.Option.{slice_get-get_or}
use Rattle.std.specs.Option.{option_map_or}
use Rattle.cell_types.specs.Code.{ProgramCode}
use Rattle.cell_types.specs.Typed.{plain}
use Rattle.cell_types.specs.declared.program.Message.{Message}
use Rattle.accept.specs.Told.{message_name}
use Rattle.accept.proofs.queues.names_of.Goals as goal

-- the name of a message that is read
name_read : (p : ProgramCode) (messages : List Message) (message : ℕ) (other : Message) → messages ≡ p.messages
    → message < length p.messages → (get_or messages message other).name ≡ message_name p message
name_read p messages message other all within =
    ap (λ ms. (get_or ms message other).name) all
    ∙ ap (λ o. option_map_or (λ (m : Message). m.name) o []) (sym (slice_get-get_or p.messages message other within))

pub loop-message-preserved : goal.loop-message-preserved
loop-message-preserved c =
    let p = plain c.args.program.now in
    let within = c.requires c.loop-message.message-index 0 (omega arith) in
    let named =
    name_read p c.messages.result.now c.from.result c.index-messages-from.result c.messages.ensures.messages (omega arith) in
    c.in_ok-push.ensures.ok
    ∙ ap₂ (λ names name. names ++ name ∷ []) c.loop-message.invariant
    (c.in_ok-copy.ensures ∙ named ∙ ap (message_name p) c.from.ensures)
    ∙ sym (map_more (message_name p) c.args.messages.now c.loop-message.message-index 0 (omega arith))
