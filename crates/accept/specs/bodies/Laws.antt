-- The laws of the layers below, on which the laws of the first refusal stand.
use Rattle.std.specs.Prelude.{ℕ, ◌≡◌, ◌≢◌, ◌<◌, ◌≤◌, ◌⊎◌, ◌↔◌, List, [], Option, Some, length, slice_get, sum_by, All}
use Rattle.sys_base.specs.declared.limits.TheConstants.{STEPS}
use Rattle.cell_lexer.specs.declared.error.LexError.{LexError}
use Rattle.cell_lexer.specs.declared.token.Token.{Token}
use Rattle.cell_lexer.specs.Faults.{FirstFault}
use Rattle.cell_lexer.specs.Tokens.{TokensOf}
use Rattle.cell_parser.specs.FirstWrong.{FirstWrong}
use Rattle.cell_parser.specs.Grammar.{Reads}
use Rattle.cell_parser.specs.Lexeme.{Lexeme, lexemes}
use Rattle.cell_parser.specs.Limits.{KeepLimits, FirstOver}
use Rattle.cell_parser.specs.Refusal.{WrongAt}
use Rattle.cell_parser.specs.declared.error.ParseError.{ParseError}
use Rattle.cell_codegen.specs.Emission.{body_code}
use Rattle.cell_tree.specs.Nodes.{source_nodes}
use Rattle.cell_tree.specs.Printable.{IsPrintable}
use Rattle.cell_tree.specs.declared.source.Source.{Source}
use Rattle.cell_types.specs.Alike.{Alike}
use Rattle.cell_types.specs.Code.{CellCode, ProgramCode}
use Rattle.cell_types.specs.Cost.{cells_cost}
use Rattle.cell_types.specs.Faults.{faults}
use Rattle.cell_types.specs.Groups.{group_count, lengths_of}
use Rattle.cell_types.specs.Resolved.{program_of}
use Rattle.cell_types.specs.Size.{block_size, cell_size}
use Rattle.cell_types.specs.Sound.{IsSound}
use Rattle.cell_types.specs.declared.error.StaticError.{StaticError}
use Rattle.cell_types.specs.declared.error.StaticError.TheVariants as S
use Rattle.comm_sequence.specs.BufferedOrder.{IsBufferedOrder}
use Rattle.comm_sequence.specs.Differing.{all_differing}
use Rattle.comm_sequence.specs.Labels.{IsConsistent, IsProposal}
use Rattle.comm_sequence.specs.Sequences.{Sequences, IsSequences, message_of, sequences_of}
use Rattle.comm_sequence.specs.declared.comm.Comm.{Comm}
use Rattle.crossing_off.specs.Greedy.{fronts, left, IsCrossed}
use Rattle.crossing_off.specs.Walk.{IsWalkOver}
use Rattle.crossing_off.specs.declared.waits.Wait.{Wait}
use Rattle.crossing_off.specs.declared.waits.WalkEnd.{WalkEnd}
use Rattle.labelling.specs.Falls.{IsFall}
use Rattle.labelling.specs.declared.falls.Fall.{Fall}
use Rattle.queue_plan.specs.Grouping.{all_groups}

-- A text has at most one list of tokens or one first fault; tokens are at most one source or have one first wrong
-- place; arms are alike exactly where no `if` is listed; the greedy rule gives one list at most; there is one walk at
-- most; the same labels are proposed for the same lists; and all links have as many groups as the bound counts.
pub record Laws : Type 0 where
  pub tokens : (text : List ℕ) (ts us : List Token) → TokensOf text ts → TokensOf text us → ts ≡ us
  pub faults : (text : List ℕ) (e f : LexError) → FirstFault text e → FirstFault text f → e ≡ f
  pub apart : (text : List ℕ) (ts : List Token) (e : LexError) → TokensOf text ts → FirstFault text e → ⊥
  pub program : (ts : List Lexeme) (s t : Source) → Reads ts s → Reads ts t → s ≡ t
  pub wrong : (ts : List Lexeme) (a b : ℕ) → FirstWrong ts a → FirstWrong ts b → a ≡ b
  pub none_wrong : (ts : List Lexeme) (s : Source) (at : ℕ) → Reads ts s → FirstWrong ts at → ⊥
  pub alike : (program : ProgramCode) → (Alike program ↔ (all_differing program ≡ []))
  pub order : (s : Sequences) (buffer : ℕ) (a b : List Comm) → IsCrossed s buffer a → IsCrossed s buffer b → a ≡ b
  pub walk : (s : Sequences) (fs : List (Option Comm)) (a b : List Wait) (x y : WalkEnd)
      → IsWalkOver s fs a x → IsWalkOver s fs b y → (a ≡ b) × (x ≡ y)
  pub proposal : (lists : List (List Comm)) (count : ℕ) (a b : List ℕ)
      → IsProposal lists count a → IsProposal lists count b → a ≡ b
  pub groups : (program : ProgramCode) (labels : List ℕ)
      → sum_by length (all_groups program labels (lengths_of program)) ≡ group_count program labels

-- A text has tokens or a first fault; tokens keep the limits or one is the first over one; those that keep them read
-- to a source, which is printable, or have a first wrong place; a source has a first fault or a sound program; a sound
-- program has sequences; the greedy rule has a list over these for each buffer, which leaves nothing where there is an
-- order for the buffer; where it leaves something there is a walk; labels are proposed, and they are consistent or fall
-- first somewhere.
pub record Existence : Type 0 where
  pub tokens : (text : List ℕ) → ((ts : List Token) × TokensOf text ts) ⊎ ((e : LexError) × FirstFault text e)
  pub limits : (ts : List Token) → KeepLimits ts ⊎ ((e : ParseError) × FirstOver ts e)
  pub source : (text : List ℕ) (ts : List Token) → KeepLimits ts
      → ((s : Source) × Reads (lexemes text ts) s) ⊎ ((line : ℕ) × (column : ℕ) × WrongAt text ts line column)
  pub printable : (text : List ℕ) (ts : List Token) (s : Source)
      → TokensOf text ts → KeepLimits ts → Reads (lexemes text ts) s → IsPrintable s
  pub fault : (s : Source) → (faults s ≡ []) ⊎ ((e : StaticError) × (slice_get (faults s) 0 ≡ Some e) × (e ≢ S.Memory))
  pub sound : (s : Source) → IsPrintable s → faults s ≡ [] → IsSound (program_of s)
  pub sequences : (program : ProgramCode) → IsSound program → cells_cost program ≤ STEPS
      → IsSequences (sequences_of program)
  pub order : (s : Sequences) (buffer : ℕ) → IsSequences s → (crossed : List Comm) × IsCrossed s buffer crossed
  pub emptied : (s : Sequences) (buffer : ℕ) (order crossed : List Comm) → IsSequences s
      → IsBufferedOrder s.lists s.ends buffer order → IsCrossed s buffer crossed → left s crossed ≡ 0
  pub walk : (s : Sequences) (crossed : List Comm) → IsSequences s → 1 ≤ left s crossed
      → (waits : List Wait) × (end : WalkEnd) × IsWalkOver s (fronts s crossed) waits end
  pub proposal : (lists : List (List Comm)) (count : ℕ) → All (λ list. All (λ comm. message_of comm < count) list) lists
      → (labels : List ℕ) × IsProposal lists count labels
  pub fall : (lists : List (List Comm)) (labels : List ℕ)
      → IsConsistent lists labels ⊎ ((f : Fall) × IsFall lists labels f)

-- A source has no more nodes than its text has bytes; a cell has no more instructions to its statements than its
-- source has nodes; and the code of a cell is as long as is counted.
pub record CodeLaws : Type 0 where
  pub nodes : (text : List ℕ) (ts : List Token) (s : Source) → TokensOf text ts → Reads (lexemes text ts) s
      → source_nodes s ≤ length text
  pub instructions : (source : Source)
      → All (λ (c : CellCode). block_size c.body ≤ source_nodes source) (program_of source).cells
  pub sized : (cell : CellCode) → length (body_code cell.body) ≡ cell_size cell
