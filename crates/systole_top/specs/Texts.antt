-- What the commands print.
use Rattle.std.specs.Prelude.{ℕ, List, [], ◌++◌, codes}
use Rattle.std.specs.Fmt.{decimal}
use Rattle.refusals.specs.Texts.{text_of}
use Rattle.refusals.specs.declared.refusal.Refusal.{Refusal}
use Rattle.stream_io.specs.declared.error.InputError.{InputError}
use Rattle.stream_io.specs.declared.error.InputError.TheVariants as Input
use Rattle.sys_base.specs.Grid.{Extent}
use Rattle.sys_base.specs.Names.{cell_name, cell_text}
use Rattle.sys_base.specs.declared.limits.TheConstants.{INPUT_BYTES}

-- of words that are no command
unfoldable pub usage_line : List ℕ
usage_line = codes "usage: systole COMMAND WORDS\n"

-- of a file that can't be read
unfoldable pub cannot_read : List ℕ → List ℕ
cannot_read name = codes "cannot read " ++ name ++ codes "\n"

-- of want of memory
unfoldable pub out_of_memory : List ℕ
out_of_memory = codes "out of memory\n"

-- of a source that is accepted
unfoldable pub accepted_line : List ℕ
accepted_line = codes "accepted\n"

-- of a source that is refused
unfoldable pub refusal_line : Refusal → List ℕ
refusal_line r = text_of r ++ codes "\n"

-- of an input file that is longer than an input may be
unfoldable pub long_input_line : List ℕ
long_input_line = codes "input: longer than " ++ decimal INPUT_BYTES ++ codes " bytes\n"

-- of an input file that breaks this rule, for the cells of this grid; want of memory has no line of its own
unfoldable pub input_line : Extent → InputError → List ℕ
input_line grid Input.NotJson = codes "input: not JSON\n"
input_line grid Input.NotObject = codes "input: not an object\n"
input_line grid (Input.UnknownCell key) = codes "input: " ++ key ++ codes " is not a cell\n"
input_line grid (Input.NotList key) = codes "input: " ++ key ++ codes " is not a list\n"
input_line grid (Input.NotInteger key at) =
    codes "input: " ++ key ++ codes " at " ++ decimal at ++ codes " is no integer\n"
input_line grid (Input.Count cell need has) =
    codes "input: cell " ++ cell_text (cell_name grid.cols cell) ++ codes " needs " ++ decimal need
    ++ codes " words and has " ++ decimal has ++ codes "\n"
input_line grid Input.Memory = []
