-- What holds of every program that comes from a source without faults.
use Rattle.std.specs.Prelude.{◌-◌, ℕ, ◌≡◌, ◌≢◌, ◌+◌, ◌*◌, ◌<◌, ◌≤◌, ⊤, List, length, All, AllPairs, slice_get, slice_index, Some, IsSomeAnd, IfSome, MatchOption}
use Rattle.sys_base.specs.Grid.{Extent, IsExtent, cell_count, neighbour_of, link_id}
use Rattle.sys_base.specs.declared.kinds.Dir.{Dir}
use Rattle.sys_base.specs.declared.limits.TheConstants.{BUFFER, LABEL, MESSAGES, QUEUES, TURNS, WORDS}
use Rattle.cell_lexer.specs.declared.limits.TheConstants.{GREATEST_NUMBER, PIECE_TOKENS, OPEN_BRACES}
use Rattle.routes.specs.Walks.{IsPath}
use Rattle.cell_types.specs.Code.{Expression, Number, Variable, Counter, Element, Negated, Applied, Action, Set, SetAt, Write, Read, Take, Emit, For, If, Block, End, Then, CellCode, ProgramCode}
use Rattle.cell_types.specs.Depth.{block_stack, block_loops}
use Rattle.cell_types.specs.declared.program.Message.{Message}

-- what a cell's statements may use: the messages, by the index of the cell, and its words and counters, by how many
-- there are
pub record Means : Type 0 where
  pub messages : List Message
  pub cell : ℕ
  pub words : ℕ
  pub counters : ℕ

-- The word is one of the cell's.
abbrev pub HasWord : Means → ℕ → Type 0
HasWord means word = word < means.words

-- The array is not empty, and it is among the cell's words.
abbrev pub HasArray : Means → ℕ → ℕ → Type 0
HasArray means base len = (1 ≤ len) × (base + len ≤ means.words)

-- There is such a message, and the cell is its sender.
abbrev pub Sends : Means → ℕ → Type 0
Sends means message = IsSomeAnd (slice_get means.messages message) (λ (m : Message). m.from ≡ means.cell)

-- There is such a message, and the cell is its receiver.
abbrev pub Receives : Means → ℕ → Type 0
Receives means message = IsSomeAnd (slice_get means.messages message) (λ (m : Message). m.to ≡ means.cell)

-- An expression inside this many loops uses only what there is, and its numbers are those of the language.
abbrev pub SoundExpression : Means → ℕ → Expression → Type 0
SoundExpression means depth (Number number) = number ≤ GREATEST_NUMBER
SoundExpression means depth (Variable word) = HasWord means word
SoundExpression means depth (Counter counter) = counter < depth
SoundExpression means depth (Element base len index) = HasArray means base len × SoundExpression means depth index
SoundExpression means depth (Negated operand) = SoundExpression means depth operand
SoundExpression means depth (Applied op left right) =
    SoundExpression means depth left × SoundExpression means depth right

abbrev mutual
  -- An action inside this many loops uses only what there is; a loop counts with the counter of its depth, and has no
  -- more turns than a loop may have.
  pub SoundAction : Means → ℕ → Action → Type 0
  SoundAction means depth (Set word value) = HasWord means word × SoundExpression means depth value
  SoundAction means depth (SetAt base len index value) =
      HasArray means base len × SoundExpression means depth index × SoundExpression means depth value
  SoundAction means depth (Write message value) = Sends means message × SoundExpression means depth value
  SoundAction means depth (Read message word) = Receives means message × HasWord means word
  SoundAction means depth (Take word) = HasWord means word
  SoundAction means depth (Emit value) = SoundExpression means depth value
  SoundAction means depth (For counter turns body) =
      (counter ≡ depth) × (counter < means.counters) × (turns ≤ TURNS) × SoundBlock means (depth + 1) body
  SoundAction means depth (If test first second) =
      SoundExpression means depth test × SoundBlock means depth first × SoundBlock means depth second

  -- The same for some statements.
  pub SoundBlock : Means → ℕ → Block → Type 0
  SoundBlock means depth End = ⊤
  SoundBlock means depth (Then line action rest) = SoundAction means depth action × SoundBlock means depth rest

-- A cell's code keeps the limits, and uses only what there is.
pub record IsSoundCell (messages : List Message) (index : ℕ) (cell : CellCode) : Type 0 where
  pub words : cell.words ≤ WORDS
  pub counters : cell.counters ≤ OPEN_BRACES - 1
  pub stack : cell.stack ≤ PIECE_TOKENS
  pub loops : cell.counters ≡ block_loops cell.body
  pub depth : cell.stack ≡ block_stack cell.body
  pub body : SoundBlock
      (record { messages = messages; cell = index; words = cell.words; counters = cell.counters }) 0 cell.body

-- A message goes from one cell of the grid to another one, over a path of at least one link of the grid.
pub record IsSoundMessage (g : Extent) (message : Message) : Type 0 where
  pub sender : message.from < cell_count g
  pub receiver : message.to < cell_count g
  pub apart : message.from ≢ message.to
  pub path : IsPath g message.from message.route message.to
  pub some : 0 < length message.route
  pub short : length message.route ≤ PIECE_TOKENS
  pub links : All (λ link. link < 4 * cell_count g) message.route
  pub label : IfSome message.label (λ label. label ≤ LABEL)

-- Each link has some queues and not too many, and there are none where the grid has no link.
abbrev pub HaveQueues : Extent → List ℕ → Type 0
HaveQueues g queues =
    (cell : ℕ) (dir : Dir) → cell < cell_count g
    → MatchOption (neighbour_of g cell dir) (slice_index queues (link_id cell dir) ≡ 0)
    (λ _. (1 ≤ slice_index queues (link_id cell dir)) × (slice_index queues (link_id cell dir) ≤ QUEUES))

-- What the type of a program keeps.
pub record IsSound (program : ProgramCode) : Type 0 where
  pub grid : IsExtent program.grid
  pub links : length program.queues ≡ 4 * cell_count program.grid
  pub queues : HaveQueues program.grid program.queues
  pub few : length program.messages ≤ MESSAGES
  pub names : AllPairs (λ (a b : Message). a.name ≢ b.name) program.messages
  pub messages : All (IsSoundMessage program.grid) program.messages
  pub all : length program.cells ≡ cell_count program.grid
  pub cells : (index : ℕ) (cell : CellCode)
      → slice_get program.cells index ≡ Some cell → IsSoundCell program.messages index cell
  pub buffer : program.buffer ≤ BUFFER
