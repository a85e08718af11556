use Rattle.object_io.proofs.LineWords.{line_cut}
use Rattle.object_io.proofs.laws.lines_have_their_words.Goals as goal

pub returns : goal.returns
returns c = λ first second others more rest left f s o m e. line_cut first second others more rest left f s o m e
