-- What the parts of a source come to.
use Rattle.std.proofs.Common.{ℕ, ◌≡◌, List, [], ◌++◌, map, sym, ap, ◌∙◌}
use Rattle.sys_base.specs.Grid.{Extent}
use Rattle.cell_tree.specs.declared.source.LinkDecl.{LinkDecl}
use Rattle.cell_tree.specs.declared.source.MessageDecl.{MessageDecl}
use Rattle.cell_tree.specs.declared.source.Source.{Source}
use Rattle.cell_types.specs.bodies.Declarations.{count_faults, buffer_faults}
use Rattle.cell_types.specs.Faults.{array_faults, queues_faults, faults_behind, link_faults, message_faults, cell_faults, faults}
use Rattle.cell_types.specs.Names.{extent_of}
use Rattle.cell_types.specs.Resolved.{program_of, resolved_message}
use Rattle.cell_types.specs.Typed.{plain, plain_cell}
use Rattle.cell_types.specs.Written.{WrittenSource, written}
use Rattle.cell_types.specs.declared.error.StaticError.{StaticError}
use Rattle.cell_types.specs.declared.program.Message.{Message}
use Rattle.cell_types.specs.declared.cell.Cell.{Cell}
use Rattle.cell_types.proofs.FirstFaults.{none_joined}

module _ (source : Source) where
  abbrev s : WrittenSource
  s = written source

  abbrev g : Extent
  g = extent_of s

  abbrev links : List StaticError
  links = faults_behind (link_faults g) [] s.links

  abbrev messages : List StaticError
  messages = faults_behind (message_faults g) [] s.messages

  abbrev cells : List StaticError
  cells = faults_behind (cell_faults s) [] s.cells

  abbrev counted : List StaticError
  counted = count_faults source.queues source.queues_line

  abbrev buffered : List StaticError
  buffered = buffer_faults source.buffer source.buffer_line

  module _ (grid : Extent) (usual buffer : ℕ) (lines : List LinkDecl) (declared : List MessageDecl) (queues : List ℕ) (list : List Message) (made : List Cell)
      (extent : (array_faults s ≡ []) × (grid ≡ g)) (count : (counted ≡ []) × (usual ≡ source.queues))
      (kept : (buffered ≡ []) × (buffer ≡ source.buffer))
      (same_lines : lines ≡ source.links) (same_messages : declared ≡ source.messages)
      (linked : faults_behind (link_faults grid) [] lines ≡ [])
      (named : (faults_behind (message_faults grid) [] declared ≡ []) × (list ≡ map (resolved_message grid) declared))
      (programmed : (cells ≡ []) × (map plain_cell made ≡ (program_of source).cells)) where
    -- no part of the source has a fault
    no_faults : faults source ≡ []
    no_faults =
        let queued = none_joined counted buffered count.0 kept.0 in
        let no_links : links ≡ [] =
        ap (λ h. faults_behind (link_faults h) [] source.links) (sym extent.1)
        ∙ ap (λ ls. faults_behind (link_faults grid) [] ls) (sym same_lines) ∙ linked in
        let no_messages : messages ≡ [] =
        ap (λ h. faults_behind (message_faults h) [] source.messages) (sym extent.1)
        ∙ ap (λ ms. faults_behind (message_faults grid) [] ms) (sym same_messages) ∙ named.0 in
        none_joined (array_faults s ++ queues_faults s ++ links ++ messages) cells
        (none_joined (array_faults s ++ queues_faults s ++ links) messages
        (none_joined (array_faults s ++ queues_faults s) links (none_joined (array_faults s) (queues_faults s) extent.0 queued) no_links) no_messages)
        programmed.0

    -- its parts make the program
    program_made : queues ≡ (program_of source).queues
        → plain (record { grid = grid; queues = queues; messages = list; cells = made; buffer = buffer }) ≡ program_of source
    program_made filled =
        let all : list ≡ (program_of source).messages =
        named.1 ∙ ap (map (resolved_message grid)) same_messages ∙ ap (λ h. map (resolved_message h) source.messages) extent.1 in
        λ i. record { grid = extent.1 i; queues = filled i; messages = all i; cells = programmed.1 i; buffer = kept.1 i }

    -- the source has no fault, and this is its program
    pub whole : queues ≡ (program_of source).queues → (faults source ≡ [])
        × (plain (record { grid = grid; queues = queues; messages = list; cells = made; buffer = buffer }) ≡ program_of source)
    whole filled = (no_faults, program_made filled)
