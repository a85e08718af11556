-- What an input file gives to a run, or the rule that it breaks.
use Rattle.std.specs.Prelude.{ℕ, ◌≡◌, ◌≢◌, ℤ, List, map, Option, None, Some}
use Rattle.cell_code.specs.declared.image.CellImage.{CellImage}
use Rattle.cell_code.specs.declared.image.Image.{Image}
use Rattle.stream_io.specs.Reading.{HasInputs, Refuses}
use Rattle.stream_io.specs.declared.error.InputError.{InputError}
use Rattle.stream_io.specs.declared.error.InputError.TheVariants.{Memory}
use Rattle.systole_top.specs.Texts.{input_line, long_input_line}

-- What an input file gives: the inputs of the cells, or the line on the first rule that it breaks.
pub data Given : Type 0 where
  Taken : (inputs : List (List ℤ)) → Given
  Bad : (line : List ℕ) → Given

-- how many words each cell of an image takes
abbrev pub takes_of : Image → List ℕ
takes_of image = map (λ (c : CellImage). c.takes) image.cells

-- how many words each cell of an image emits
abbrev pub emits_of : Image → List ℕ
emits_of image = map (λ (c : CellImage). c.emits) image.cells

-- These are the inputs that the bytes give to the cells of an image.
abbrev pub AreGiven : Image → List ℕ → List (List ℤ) → Type 0
AreGiven image bytes inputs = HasInputs bytes image.grid (takes_of image) inputs

-- This is the line on the first rule that the bytes break.
abbrev pub IsBroken : Image → List ℕ → List ℕ → Type 0
IsBroken image bytes line =
    (e : InputError) × (e ≢ Memory) × Refuses bytes image.grid (takes_of image) e × (line ≡ input_line image.grid e)

-- What an input file gives. Nothing stands for a file that is longer than an input may be.
abbrev pub IsGiven : Image → Option (List ℕ) → Given → Type 0
IsGiven image None given = given ≡ Bad long_input_line
IsGiven image (Some bytes) (Taken inputs) = AreGiven image bytes inputs
IsGiven image (Some bytes) (Bad line) = IsBroken image bytes line
