-- What is known of an input file, and of the words of a command, by those who use them.
use Rattle.std.specs.Prelude.{ℕ, ◌≡◌, ◌<◌, ◌≤◌, ⊤, length}
use Rattle.array_model.specs.States.{IsCounted, cells}
use Rattle.cell_code.specs.declared.image.Image.{Image}
use Rattle.program_image.specs.Faithful.{inputs_of}
use Rattle.stream_io.specs.declared.error.InputError.{InputError}
use Rattle.stream_io.specs.declared.error.InputError.TheVariants as Input
use Rattle.sys_base.specs.Grid.{Extent, cell_count}
use Rattle.systole_top.specs.declared.given.Given.{Given}
use Rattle.systole_top.specs.declared.given.Given.TheVariants.{Taken, Bad}
use Rattle.systole_top.specs.declared.request.TheConstants.{CAPACITY}
use Rattle.systole_top.specs.declared.words.Command.{Command}

-- Inputs have a list for each cell of the image, with the words that it takes.
abbrev pub IsCountedIn : Image → Given → Type 0
IsCountedIn image (Taken inputs) = (length inputs.cells ≡ cells image) × IsCounted image (inputs_of inputs.cells)
IsCountedIn image (Bad line) = ⊤

-- A cell that an error names is one of the grid.
abbrev pub IsPlaced : Extent → InputError → Type 0
IsPlaced grid (Input.Count cell need has) = cell < cell_count grid
IsPlaced grid _ = ⊤

-- Queues may have this capacity.
abbrev pub IsCapacity : ℕ → Type 0
IsCapacity words = (1 ≤ words) × (words ≤ CAPACITY)

-- A run that is asked for has such a capacity.
abbrev pub CanBeAsked : Command → Type 0
CanBeAsked (Command.Run words) = IsCapacity words.capacity
CanBeAsked _ = ⊤
