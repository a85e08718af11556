use Rattle.std.proofs.Common.{map, string_bytes, arith}
use Rattle.std.proofs.lemmas.List.{length-map}
use Rattle.systole_top.proofs.Shapes.{more_words}
use Rattle.systole_top.proofs.words.recorded_in.Goals as goal

pub returns-in_default : goal.returns-in_default
returns-in_default c =
    more_words (map string_bytes c.args.words.now) (omega (arith, c.in_default.len_at_least, length-map c.args.words.now string_bytes))
