-- The image of a program: what an array runs for it.
use Rattle.std.specs.Prelude.{ℕ, ◌+◌, List, [], ◌∷◌, length, map, slice_index}
use Rattle.cell_code.specs.Images.{grouped_links}
use Rattle.cell_code.specs.declared.image.CellImage.{CellImage}
use Rattle.cell_code.specs.declared.image.Group.{Group}
use Rattle.cell_code.specs.declared.image.Image.{Image}
use Rattle.cell_code.specs.declared.image.LinkImage.{LinkImage}
use Rattle.cell_code.specs.declared.image.MessageImage.{MessageImage}
use Rattle.cell_codegen.specs.Emission.{body_code}
use Rattle.cell_codegen.specs.Shapes.{cell_image}
use Rattle.cell_types.specs.Code.{ProgramCode}
use Rattle.cell_types.specs.Communications.{length_of}
use Rattle.cell_types.specs.Groups.{below, bound}
use Rattle.cell_types.specs.Solo.{code_of}
use Rattle.cell_types.specs.declared.program.Message.{Message}

-- the image of a message of a program by its index: its ends and its route, how often it is written, and its label
-- among these
abbrev pub message_image : ProgramCode → List ℕ → ℕ → Message → MessageImage
message_image program labels index message =
    record {
      from = message.from;
      to = message.to;
      length = length_of program index;
      label = slice_index labels index;
      route = message.route;
    }

-- the images of messages of a program that are numbered from this one on
abbrev pub messages_from : ProgramCode → List ℕ → ℕ → List Message → List MessageImage
messages_from program labels index [] = []
messages_from program labels index (message ∷ messages) =
    message_image program labels index message ∷ messages_from program labels (index + 1) messages

-- the images of all messages of a program, where these are their labels
abbrev pub messages_of : ProgramCode → List ℕ → List MessageImage
messages_of program labels = messages_from program labels 0 program.messages

-- a group by its label and its members
abbrev pub group_image : ℕ × List ℕ → Group
group_image group = record { label = group.0; members = group.1 }

-- the image of a link with its groups, by its id: it has the queues of the program's link
abbrev pub link_image : ProgramCode → ℕ × List (ℕ × List ℕ) → LinkImage
link_image program link =
    record { link = link.0; queues = slice_index program.queues link.0; groups = map group_image link.1 }

-- the image of a cell of a program by its index, with the code of its statements
abbrev pub cell_of : ProgramCode → ℕ → CellImage
cell_of program cell = cell_image program cell (body_code (code_of program cell).body)

-- the image of a program, where these are the labels of its messages: its grid and its buffer, the bound on its
-- steps, its messages, its links with their groups, and its cells
abbrev pub image_of : ProgramCode → (labels : List ℕ) → Image
image_of program labels =
    record {
      grid = program.grid;
      buffer = program.buffer;
      bound = bound program labels;
      messages = messages_of program labels;
      links = map (link_image program) (grouped_links program.grid (messages_of program labels));
      cells = map (cell_of program) (below (length program.cells));
    }
