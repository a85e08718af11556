-- The source of its parts.
use Rattle.std.proofs.Common.{◌≡◌, ℕ, List, [], map, ap, ◌∙◌}
use Rattle.sys_base.specs.Groups.{below}
use Rattle.cell_tree.specs.declared.source.CellDecl.{CellDecl}
use Rattle.cell_tree.specs.declared.source.LinkDecl.{LinkDecl}
use Rattle.cell_tree.specs.declared.source.MessageDecl.{MessageDecl}
use Rattle.cell_tree.specs.declared.source.Source.{Source}
use Rattle.pair_gen.specs.Generated.{message_decl, cell_decl, source_of, generated}
use Rattle.pair_gen.specs.Pairs.{messages_drawn}

-- the source with these links, messages and cells
abbrev pub with_parts : List LinkDecl → List MessageDecl → List CellDecl → Source
with_parts links messages cells =
    record {
      rows = 4;
      cols = 4;
      array_line = 1;
      queues = 24;
      queues_line = 2;
      buffer = 0;
      buffer_line = 0;
      links = links;
      messages = messages;
      cells = cells;
    }

pub made : (seed pairs : ℕ) (drawn passed : List ℕ) (links : List LinkDecl) (messages : List MessageDecl) (cells : List CellDecl)
    → drawn ≡ messages_drawn seed pairs → passed ≡ drawn → links ≡ [] → messages ≡ map message_decl (below 24)
    → cells ≡ map (cell_decl passed) (below 16)
    → with_parts links messages cells ≡ generated seed pairs
unfolding source_of
made seed pairs drawn passed links messages cells draws same none declared are =
    ap (λ ls. with_parts ls messages cells) none
    ∙ ap (λ ms. with_parts [] ms cells) declared
    ∙ ap (λ cs. with_parts [] (map message_decl (below 24)) cs) are
    ∙ ap source_of (same ∙ draws)
