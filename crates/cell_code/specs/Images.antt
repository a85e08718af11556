-- Whole images: those that have a text, and those whose parts fit together.
use Rattle.std.specs.List.Sorted.{IsStrictlyIncreasing}
use Rattle.std.specs.Prelude.{ℕ, ◌*◌, ◌≡◌, ◌≢◌, ◌<◌, ◌≤◌, ⊤, nat_lt, List, [], map, filter, All, Some, length, slice_get}
use Rattle.sys_base.specs.Grid.{Extent, cell_count}
use Rattle.sys_base.specs.Groups.{below, groups}
use Rattle.sys_base.specs.Paths.{IsPath}
use Rattle.sys_base.specs.declared.limits.TheConstants.{BUFFER, MESSAGES}
use Rattle.cell_code.specs.declared.image.CellImage.{CellImage}
use Rattle.cell_code.specs.declared.image.Group.{Group}
use Rattle.cell_code.specs.declared.image.Image.{Image}
use Rattle.cell_code.specs.declared.image.LinkImage.{LinkImage}
use Rattle.cell_code.specs.declared.image.MessageImage.{MessageImage}
use Rattle.cell_code.specs.declared.instruction.Instr.{Instr}
use Rattle.cell_code.specs.declared.instruction.Instr.TheVariants.{Write, Read}
use Rattle.cell_code.specs.ShapedCells.{EndsInHalt, IsShapedCell}

-- ---- images that have a text

-- An image is listed: what its text says in its order. It has at most 512 messages, and each has a route. Its links
-- stand in strictly rising order of id, and each has a group. The groups of a link stand in strictly rising order of
-- label, and each has a member. There is one cell image for each cell, and each code ends in its only `halt`.
pub record IsListed (image : Image) : Type 0 where
  pub buffer : image.buffer ≤ BUFFER
  pub messages : length image.messages ≤ MESSAGES
  pub routes : All (λ (m : MessageImage). m.route ≢ []) image.messages
  pub links_rise : IsStrictlyIncreasing (map (λ (l : LinkImage). l.link) image.links)
  pub groups : All (λ (l : LinkImage). l.groups ≢ []) image.links
  pub labels_rise :
      All (λ (l : LinkImage). IsStrictlyIncreasing (map (λ (g : Group). g.label) l.groups)) image.links
  pub members : All (λ (l : LinkImage). All (λ (g : Group). g.members ≢ []) l.groups) image.links
  pub cells : length image.cells ≡ cell_count image.grid
  pub codes : All (λ (c : CellImage). EndsInHalt c.code) image.cells

-- ---- images whose parts fit together

-- A message goes from one cell of the grid to another one, and its route leads there over existing links, none twice.
pub record IsShapedMessage (grid : Extent) (m : MessageImage) : Type 0 where
  pub from : m.from < cell_count grid
  pub to : m.to < cell_count grid
  pub apart : m.from ≢ m.to
  pub path : IsPath grid m.from m.route m.to

-- the groups that the links of a grid have by the messages' routes, labels and lengths: each link with a group, in
-- rising order of id
abbrev pub grouped_links : Extent → List MessageImage → List (ℕ × List (ℕ × List ℕ))
grouped_links grid messages =
    let routes = map (λ (m : MessageImage). m.route) messages in
    let labels = map (λ (m : MessageImage). m.label) messages in
    let lengths = map (λ (m : MessageImage). m.length) messages in
    filter (λ link. nat_lt 0 (length link.1))
    (map (λ link. (link, groups routes labels lengths link)) (below (4 * cell_count grid)))

-- a link's id and groups, each group by its label and its members
abbrev pub link_groups : LinkImage → ℕ × List (ℕ × List ℕ)
link_groups link = (link.link, map (λ (g : Group). (g.label, g.members)) link.groups)

-- A cell writes only messages that it sends, and reads only messages that it receives.
abbrev pub UsesItsEnds : List MessageImage → ℕ → Instr → Type 0
UsesItsEnds messages cell (Write message) =
    (m : MessageImage) × (slice_get messages message ≡ Some m) × (m.from ≡ cell)
UsesItsEnds messages cell (Read message word) =
    (m : MessageImage) × (slice_get messages message ≡ Some m) × (m.to ≡ cell)
UsesItsEnds messages cell _ = ⊤

-- An image is shaped: its messages, links and cells fit together.
pub record IsShaped (image : Image) : Type 0 where
  pub buffer : image.buffer ≤ BUFFER
  pub most_messages : length image.messages ≤ MESSAGES
  pub messages : All (IsShapedMessage image.grid) image.messages
  pub links : map link_groups image.links ≡ grouped_links image.grid image.messages
  pub cells : length image.cells ≡ cell_count image.grid
  pub shapes : All IsShapedCell image.cells
  pub ends : (cell : ℕ) (c : CellImage) (at : ℕ) (instr : Instr) → slice_get image.cells cell ≡ Some c →
      slice_get c.code at ≡ Some instr → UsesItsEnds image.messages cell instr
