-- Words that only proofs need: the laws of the layers below, on which the laws of generated pairs stand.
use Rattle.std.specs.Prelude.{ℕ, ◌≡◌, ◌*◌, ◌<◌, ◌≤◌, ◌↔◌, List, [], length, map, slice_index, All}
use Rattle.sys_base.specs.Grid.{cell_count}
use Rattle.sys_base.specs.Groups.{greatest, groups}
use Rattle.sys_base.specs.declared.limits.TheConstants.{STEPS}
use Rattle.cell_lexer.specs.Tokens.{TokensOf}
use Rattle.cell_lexer.specs.declared.token.Token.{Token}
use Rattle.cell_parser.specs.Grammar.{Reads}
use Rattle.cell_parser.specs.Lexeme.{lexemes}
use Rattle.cell_parser.specs.Limits.{KeepLimits}
use Rattle.cell_parser.specs.Printed.{unlined}
use Rattle.cell_tree.specs.Canonical.{canonical}
use Rattle.cell_tree.specs.Printable.{IsPrintable}
use Rattle.cell_tree.specs.declared.source.Source.{Source}
use Rattle.cell_types.specs.Code.{ProgramCode}
use Rattle.cell_types.specs.Cost.{cells_cost}
use Rattle.cell_types.specs.Faults.{faults}
use Rattle.cell_types.specs.Groups.{routes_of}
use Rattle.cell_types.specs.Resolved.{program_of}
use Rattle.cell_types.specs.Sound.{IsSound}
use Rattle.comm_sequence.specs.Labels.{IsConsistent, IsProposal}
use Rattle.comm_sequence.specs.Sequences.{IsSequences, message_of, sequences_of}
use Rattle.comm_sequence.specs.declared.comm.Comm.{Comm}
use Rattle.queue_plan.specs.Grouping.{all_groups, groups_at}
use Rattle.queue_plan.specs.Lacks.{lacks}

-- A printable source has a text with tokens, which keep the limits and read to the source but for its lines; what is
-- read is printable; a printable source without faults has a sound program; a sound program within the limit has
-- sequences; labels are proposed, and they are consistent; the groups at a link are those of the link; and no link
-- lacks queues where each has as many as it needs.
pub record LawsBelow : Type 0 where
  pub tokens : (s : Source) → IsPrintable s → (ts : List Token) × TokensOf (canonical s) ts
  pub reads : (s : Source) → IsPrintable s → (ts : List Token) → TokensOf (canonical s) ts
      → (t : Source) × Reads (lexemes (canonical s) ts) t × (unlined t ≡ unlined s)
  pub keeps : (s : Source) → IsPrintable s → (ts : List Token) → TokensOf (canonical s) ts → KeepLimits ts
  pub printable : (text : List ℕ) (ts : List Token) (s : Source)
      → TokensOf text ts → KeepLimits ts → Reads (lexemes text ts) s → IsPrintable s
  pub sound : (s : Source) → IsPrintable s → faults s ≡ [] → IsSound (program_of s)
  pub sequences : (program : ProgramCode) → IsSound program → cells_cost program ≤ STEPS
      → IsSequences (sequences_of program)
  pub proposal : (lists : List (List Comm)) (count : ℕ) → All (λ list. All (λ comm. message_of comm < count) list) lists
      → (labels : List ℕ) × IsProposal lists count labels
  pub consistent : (lists : List (List Comm)) (count : ℕ) (labels : List ℕ)
      → All (λ list. All (λ comm. message_of comm < count) list) lists
      → IsProposal lists count labels → IsConsistent lists labels
  pub at : (program : ProgramCode) (labels lengths : List ℕ) (link : ℕ) → link < 4 * cell_count program.grid
      → groups_at (all_groups program labels lengths) link ≡ groups (routes_of program) labels lengths link
  pub fit : (links : List (List (ℕ × List ℕ))) (queues : List ℕ)
      → ((lacks links queues ≡ []) ↔ ((link : ℕ) → link < length links
      → greatest (map (λ (group : ℕ × List ℕ). length group.1) (groups_at links link)) ≤ slice_index queues link))
