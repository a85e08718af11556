-- The text of an image, and how its lines are spelt.
use Rattle.std.specs.Prelude.{ℕ, List, [], ◌∷◌, ◌++◌, codes, map}
use Rattle.std.specs.List.{flat_map, enumerate_from}
use Rattle.std.specs.Fmt.{decimal, signed_decimal}
use Rattle.sys_base.specs.Grid.{Extent}
use Rattle.sys_base.specs.declared.kinds.Op.{Op}
use Rattle.sys_base.specs.declared.kinds.Op.TheVariants.{Add, Sub, Mul, Div, Rem, Less, AtMost, Same, Differ}
use Rattle.cell_code.specs.declared.image.CellImage.{CellImage}
use Rattle.cell_code.specs.declared.image.Group.{Group}
use Rattle.cell_code.specs.declared.image.Image.{Image}
use Rattle.cell_code.specs.declared.image.LinkImage.{LinkImage}
use Rattle.cell_code.specs.declared.image.MessageImage.{MessageImage}
use Rattle.cell_code.specs.declared.instruction.Instr.{Instr}
use Rattle.cell_code.specs.declared.instruction.Instr.TheVariants.{Push, Load, LoadAt, Counter, Neg, Bin, Store, StoreAt, Write, Read, Take, Emit, Loop, Next, IfZero, Jump, Halt}

-- ---- lines

-- words, each after a space
abbrev pub spaced : List (List ℕ) → List ℕ
spaced = flat_map (λ word. codes " " ++ word)

-- numbers in decimals, each after a space
abbrev pub numbers : List ℕ → List ℕ
numbers ns = spaced (map decimal ns)

-- a line: its words one space apart, and the newline that ends it
abbrev pub line : List ℕ → List (List ℕ) → List ℕ
line first others = first ++ spaced others ++ codes "\n"

-- numbers in decimals, each after a comma
abbrev pub behind_commas : List ℕ → List ℕ
behind_commas = flat_map (λ n. codes "," ++ decimal n)

-- numbers in decimals, one comma apart
abbrev pub with_commas : List ℕ → List ℕ
with_commas [] = []
with_commas (n ∷ ns) = decimal n ++ behind_commas ns

-- ---- instructions

-- how an operator is spelt
abbrev pub op_text : Op → List ℕ
op_text Add = codes "add"
op_text Sub = codes "sub"
op_text Mul = codes "mul"
op_text Div = codes "div"
op_text Rem = codes "rem"
op_text Less = codes "less"
op_text AtMost = codes "atmost"
op_text Same = codes "same"
op_text Differ = codes "differ"

-- the line of an instruction: how it is spelt, and its numbers
abbrev pub instruction_line : Instr → List ℕ
instruction_line (Push number) = line (codes "push") (signed_decimal number ∷ [])
instruction_line (Load word) = line (codes "load") (map decimal (word ∷ []))
instruction_line (LoadAt base len at) = line (codes "loadat") (map decimal (base ∷ len ∷ at ∷ []))
instruction_line (Counter k) = line (codes "counter") (map decimal (k ∷ []))
instruction_line (Neg at) = line (codes "neg") (map decimal (at ∷ []))
instruction_line (Bin op at) = line (op_text op) (map decimal (at ∷ []))
instruction_line (Store word) = line (codes "store") (map decimal (word ∷ []))
instruction_line (StoreAt base len at) = line (codes "storeat") (map decimal (base ∷ len ∷ at ∷ []))
instruction_line (Write message) = line (codes "write") (map decimal (message ∷ []))
instruction_line (Read message word) = line (codes "read") (map decimal (message ∷ word ∷ []))
instruction_line (Take word) = line (codes "take") (map decimal (word ∷ []))
instruction_line Emit = line (codes "emit") []
instruction_line (Loop k turns exit) = line (codes "loop") (map decimal (k ∷ turns ∷ exit ∷ []))
instruction_line (Next k turns body) = line (codes "next") (map decimal (k ∷ turns ∷ body ∷ []))
instruction_line (IfZero target) = line (codes "ifzero") (map decimal (target ∷ []))
instruction_line (Jump target) = line (codes "jump") (map decimal (target ∷ []))
instruction_line Halt = line (codes "halt") []

-- ---- the parts of an image

-- the line of a grid: its rows and its columns
abbrev pub array_line : Extent → List ℕ
array_line grid = line (codes "array") (decimal grid.rows ∷ codes "x" ∷ decimal grid.cols ∷ [])

-- the lines before those of the messages
abbrev pub header : Image → List ℕ
header image =
    line (codes "systole") (map decimal (2 ∷ []))
    ++ array_line image.grid
    ++ line (codes "buffer") (map decimal (image.buffer ∷ []))
    ++ line (codes "bound") (map decimal (image.bound ∷ []))

-- the ends of a message
abbrev pub end_words : MessageImage → List (List ℕ)
end_words message = codes "from" ∷ decimal message.from ∷ codes "to" ∷ decimal message.to ∷ []

-- the length of a message and its label
abbrev pub measure_words : MessageImage → List (List ℕ)
measure_words message = codes "length" ∷ decimal message.length ∷ codes "label" ∷ decimal message.label ∷ []

-- the line of a message, by its index: its ends, its length, its label, and the links of its route
abbrev pub message_line : ℕ × MessageImage → List ℕ
message_line (index, message) =
    line (codes "message")
    (decimal index ∷ end_words message ++ measure_words message ++ codes "route" ∷ map decimal message.route)

-- a group: its label, a colon, and its members
abbrev pub group_text : Group → List ℕ
group_text group = decimal group.label ++ codes ":" ++ with_commas group.members

-- the line of a link: its id, its queues and its groups
abbrev pub link_line : LinkImage → List ℕ
link_line link =
    line (codes "link")
    (decimal link.link ∷ codes "queues" ∷ decimal link.queues ∷ codes "groups" ∷ map group_text link.groups)

-- how many words a cell takes and emits
abbrev pub count_words : CellImage → List (List ℕ)
count_words cell = codes "takes" ∷ decimal cell.takes ∷ codes "emits" ∷ decimal cell.emits ∷ []

-- how many words, counters and places of its stack a cell needs
abbrev pub need_words : CellImage → List (List ℕ)
need_words cell =
    codes "words" ∷ decimal cell.words ∷ codes "counters" ∷ decimal cell.counters
    ∷ codes "stack" ∷ decimal cell.stack ∷ []

-- the line of a cell, by its index: what it takes and emits, and what it needs
abbrev pub cell_line : ℕ → CellImage → List ℕ
cell_line index cell = line (codes "cell") (decimal index ∷ count_words cell ++ need_words cell)

-- the lines of a cell, by its index: its own, and those of its instructions
abbrev pub cell_lines : ℕ × CellImage → List ℕ
cell_lines (index, cell) = cell_line index cell ++ flat_map instruction_line cell.code

-- the text of an image: its header, its messages, its links, its cells, and the last line
abbrev pub object_text : Image → List ℕ
object_text image =
    header image
    ++ flat_map message_line (enumerate_from 0 image.messages)
    ++ flat_map link_line image.links
    ++ flat_map cell_lines (enumerate_from 0 image.cells)
    ++ line (codes "end") []
