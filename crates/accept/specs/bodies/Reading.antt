-- What is answered for what the layers below find wrong.
use Rattle.cell_lexer.specs.declared.error.LexError.{LexError}
use Rattle.cell_lexer.specs.declared.error.LexError.TheVariants as L
use Rattle.cell_parser.specs.declared.error.ParseError.{ParseError}
use Rattle.cell_parser.specs.declared.error.ParseError.TheVariants as P
use Rattle.comm_sequence.specs.declared.error.CommError.{CommError}
use Rattle.comm_sequence.specs.declared.error.CommError.TheVariants as C
use Rattle.refusals.specs.declared.refusal.Refusal.TheVariants as R
use Rattle.accept.specs.declared.building.AcceptError.{AcceptError}
use Rattle.accept.specs.declared.building.AcceptError.TheVariants as A

-- the answer for a text that has no tokens
abbrev pub misspelt : LexError → AcceptError
misspelt (L.BadByte at) = A.Refused (R.BadByte at)
misspelt (L.BigNumber line) = A.Refused (R.BigNumber line)
misspelt (L.LongName line) = A.Refused (R.LongName line)
misspelt L.Memory = A.Memory

-- the answer for tokens that are no source, or are refused
abbrev pub misplaced : ParseError → AcceptError
misplaced (P.LongPiece line) = A.Refused (R.LongPiece line)
misplaced (P.Braces line) = A.Refused (R.Braces line)
misplaced (P.Unexpected line column) = A.Refused (R.Unexpected line column)
misplaced P.Memory = A.Memory

-- the answer for a program that has no sequences
abbrev pub unlike : CommError → AcceptError
unlike (C.ArmsDiffer cell line) = A.Refused (R.ArmsDiffer line)
unlike C.Memory = A.Memory
