use Rattle.std.proofs.Common.{map, string_bytes, arith}
use Rattle.std.proofs.lemmas.List.{length-map}
use Rattle.systole_top.proofs.Shapes.{few_words}
use Rattle.systole_top.proofs.words.read_long.Goals as goal

pub returns-in_default-clause-shape : goal.returns-in_default-clause-shape
returns-in_default-clause-shape c =
    few_words (map string_bytes c.args.words.now) (omega (arith, c.in_default.len_below, length-map c.args.words.now string_bytes))
