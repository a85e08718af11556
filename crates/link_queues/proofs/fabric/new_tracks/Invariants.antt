use Rattle.std.proofs.Common.{◌≡◌, length, map, take}
use Rattle.cell_code.specs.declared.image.MessageImage.{MessageImage}
use Rattle.link_queues.specs.Tracks.{new_way}
use Rattle.link_queues.proofs.fabric.new_tracks.Given as goal

-- the messages so far have their tracks
abbrev pub invariant-loop-message : goal.invariant-loop-message
invariant-loop-message l =
    l.tracks.items ≡ map (λ (m : MessageImage). new_way m.length (length m.route)) (take l.message-index l.messages)
