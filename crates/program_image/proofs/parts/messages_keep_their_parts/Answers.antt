use Rattle.program_image.proofs.Messages.{labels_are, lengths_are, routes_are}
use Rattle.program_image.proofs.parts.messages_keep_their_parts.Goals as goal

pub returns : goal.returns
returns c = record { routes = routes_are; labels = labels_are; lengths = lengths_are }
