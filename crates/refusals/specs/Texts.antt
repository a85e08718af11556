-- The line of each refusal.
use Rattle.std.specs.Prelude.{ℕ, Bool, true, false, ◌==◌, List, ◌++◌, codes, if◌then◌else◌}
use Rattle.std.specs.Fmt.{decimal}
use Rattle.sys_base.specs.Names.{cell_text, link_text}
use Rattle.sys_base.specs.declared.kinds.Limit.{Limit}
use Rattle.sys_base.specs.declared.kinds.Limit.TheVariants as L
use Rattle.sys_base.specs.declared.limits.TheConstants.{BUFFER, LABEL, MESSAGES, NAME_BYTES, QUEUES, SIDE}
use Rattle.sys_base.specs.declared.limits.TheConstants.{SOURCE_BYTES, STEPS, TURNS, VARIABLES, WORDS}
use Rattle.cell_lexer.specs.declared.limits.TheConstants.{GREATEST_NUMBER, OPEN_BRACES, PIECE_TOKENS}
use Rattle.refusals.specs.declared.refusal.Refusal.{Refusal}
use Rattle.refusals.specs.declared.refusal.Refusal.TheVariants as R
use Rattle.refusals.specs.declared.refusal.Twice.{Twice}
use Rattle.refusals.specs.declared.refusal.Twice.TheVariants as T

-- what a limit of the language allows
unfoldable pub allowed : Limit → List ℕ
allowed L.Rows = codes "rows are 1 to " ++ decimal SIDE
allowed L.Columns = codes "columns are 1 to " ++ decimal SIDE
allowed L.Queues = codes "queues are 1 to " ++ decimal QUEUES
allowed L.Messages = codes "messages are at most " ++ decimal MESSAGES
allowed L.Label = codes "labels are 0 to " ++ decimal LABEL
allowed L.Names = codes "variables are at most " ++ decimal VARIABLES ++ codes " in a cell"
allowed L.Words = codes "words are 1 to " ++ decimal WORDS ++ codes " in a cell"
allowed L.Turns = codes "loop counts are 0 to " ++ decimal TURNS
allowed L.Buffer = codes "the buffer is 0 to " ++ decimal BUFFER

-- what stands twice
abbrev pub twice_text : Twice → List ℕ
twice_text (T.Link link) = link_text link
twice_text (T.Cell cell) = cell_text cell
twice_text (T.Named name) = name

-- what a cell at the wrong end does not do: the sender's part where it writes, the receiver's where it reads
abbrev pub end_words : Bool → List ℕ
end_words true = codes "send"
end_words false = codes "receive"

-- what a name is, by the number of its kind
abbrev pub kind_words : ℕ → List ℕ
kind_words found =
    if found == 0 then codes "a message" else (
    if found == 1 then codes "a variable" else (
    if found == 2 then codes "an array" else codes "a counter"))

-- a message and its label
unfoldable pub labelled : List ℕ → ℕ → List ℕ
labelled name label = name ++ codes " with label " ++ decimal label

-- the line of a refusal, without its newline
unfoldable pub text_of : Refusal → List ℕ
text_of (R.BadByte at) = codes "E01 byte at " ++ decimal at ++ codes " is not part of the language"
text_of (R.Unexpected line column) =
    codes "E02 line " ++ decimal line ++ codes " column " ++ decimal column ++ codes ": not expected here"
text_of (R.BigNumber line) =
    codes "E03 line " ++ decimal line ++ codes ": the number is more than " ++ decimal GREATEST_NUMBER
text_of (R.LongName line) =
    codes "E04 line " ++ decimal line ++ codes ": the name has more than " ++ decimal NAME_BYTES ++ codes " bytes"
text_of R.LongSource = codes "E05 the source has more than " ++ decimal SOURCE_BYTES ++ codes " bytes"
text_of (R.LongPiece line) =
    codes "E06 line " ++ decimal line ++ codes ": more than " ++ decimal PIECE_TOKENS
    ++ codes " tokens without ; { or }"
text_of (R.Braces line) =
    codes "E07 line " ++ decimal line ++ codes ": more than " ++ decimal OPEN_BRACES ++ codes " braces are open"
text_of (R.Limit limit line) = codes "E10 line " ++ decimal line ++ codes ": " ++ allowed limit
text_of (R.Twice what line) =
    codes "E11 line " ++ decimal line ++ codes ": " ++ twice_text what ++ codes " stands twice"
text_of (R.OutsideGrid line) = codes "E12 line " ++ decimal line ++ codes ": outside the grid"
text_of (R.SelfMessage name line) =
    codes "E13 line " ++ decimal line ++ codes ": " ++ name ++ codes " goes to its own sender"
text_of (R.Unknown name line) = codes "E14 line " ++ decimal line ++ codes ": " ++ name ++ codes " is not declared"
text_of (R.ArmsDiffer line) = codes "E15 line " ++ decimal line ++ codes ": the arms communicate differently"
text_of (R.WrongEnd name row col sends line) =
    codes "E16 line " ++ decimal line ++ codes ": cell " ++ cell_text (record { row = row; col = col })
    ++ codes " does not " ++ end_words sends ++ codes " " ++ name
text_of (R.WrongKind name found line) =
    codes "E17 line " ++ decimal line ++ codes ": " ++ name ++ codes " is " ++ kind_words found
text_of (R.RouteLeaves name line) =
    codes "E18 line " ++ decimal line ++ codes ": the route of " ++ name ++ codes " leaves the grid"
text_of (R.RouteEnd name line) =
    codes "E19 line " ++ decimal line ++ codes ": the route of " ++ name ++ codes " does not end at its receiver"
text_of (R.RouteTwice name link line) =
    codes "E20 line " ++ decimal line ++ codes ": the route of " ++ name ++ codes " uses link " ++ link_text link
    ++ codes " twice"
text_of (R.Crossing left walk) = codes "E30 crossing-off leaves " ++ decimal left ++ codes " operations"
text_of (R.Fall row col at before first after second) =
    codes "E40 cell " ++ cell_text (record { row = row; col = col }) ++ codes " at " ++ decimal at ++ codes ": "
    ++ labelled after second ++ codes " follows " ++ labelled before first
text_of (R.SomeLabels name) = codes "E41 " ++ name ++ codes " has no label and another message has one"
text_of (R.TooFew link label need has group) =
    codes "E50 link " ++ link_text link ++ codes " label " ++ decimal label ++ codes " needs " ++ decimal need
    ++ codes " queues and has " ++ decimal has
text_of R.CellSteps = codes "E60 the cells take more than " ++ decimal STEPS ++ codes " steps"
text_of (R.Bound bound) = codes "E61 the bound " ++ decimal bound ++ codes " is more than " ++ decimal STEPS
