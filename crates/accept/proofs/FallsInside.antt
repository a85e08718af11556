-- Labels fall at cells of a program, between its messages.
use Rattle.std.proofs.Common.{◌≡◌, ℕ, ◌<◌, List, [], Option, None, Some, inl, inr, All, length, slice_get, refl, ap, subst, ◌∙◌, arith}
use Rattle.std.proofs.lemmas.Bool.{cases_lt}
use Rattle.std.proofs.lemmas.List.{get_or_past, length-map}
use Rattle.std.proofs.lemmas.List.Elements.{All-get_or}
use Rattle.std.proofs.lemmas.List.FromFn.{length-map-range_with_len}
use Rattle.std.proofs.lemmas.Option.{slice_get_within}
use Rattle.std.specs.Prelude.{slice_index_or, option_map}
use Rattle.sys_base.specs.Grid.{cell_count}
use Rattle.cell_types.specs.Code.{ProgramCode}
use Rattle.cell_types.specs.Communications.{communications}
use Rattle.cell_types.specs.Sound.{IsSound}
use Rattle.cell_types.specs.declared.program.Message.{Message}
use Rattle.comm_sequence.specs.Sequences.{Sequences, comms, sequences_of, message_of, IsSequences}
use Rattle.comm_sequence.specs.declared.comm.Comm.{Comm}
use Rattle.labelling.specs.Falls.{IsFall}
use Rattle.labelling.specs.declared.falls.Fall.{Fall}
use Rattle.accept.specs.bodies.Answers.{IsFallOf}
use Rattle.accept.proofs.Waits.{all_at}

-- The cell is one of those with lists, and the message is one of those with ends.
record IsOfSequences (s : Sequences) (cell message : ℕ) : Type 0 where
  has_cell : cell < length s.lists
  has_message : message < length s.ends

-- a message in the list of a cell
listed : (s : Sequences) → IsSequences s → (cell place m : ℕ) (o : Option Comm) → slice_get (slice_index_or s.lists cell []) place ≡ o
    → option_map message_of o ≡ Some m → IsOfSequences s cell m
listed s kept cell place m None at none = cc
listed s kept cell place m (Some operation) at here =
    elim (cases_lt cell (length s.lists)) as (λ _. IsOfSequences s cell m) [
      | inl inside ↦
          let same : message_of operation ≡ m = cc in
          let list = slice_index_or s.lists cell [] in
          let all = All-get_or (λ xs. All (λ x. message_of x < length s.ends) xs) s.lists cell [] inside kept.known in
          let known = all_at (λ x. message_of x < length s.ends) list place operation all at in
          record { has_cell = inside; has_message = subst (λ k. k < length s.ends) same known }
      | inr past ↦
          let within = slice_get_within (slice_index_or s.lists cell []) place operation at in
          let none : length (slice_index_or s.lists cell []) ≡ 0 = ap length (get_or_past s.lists cell [] past) in
          absurd (omega (arith, within, none))
    ]

-- a fall is at a cell of the grid, between two of the program's messages
pub fall_inside : (p : ProgramCode) → IsSound p → IsSequences (sequences_of p) → (labels : List ℕ) (fall : Fall)
    → IsFall (sequences_of p).lists labels fall → IsFallOf p fall
fall_inside p sound kept labels fall is =
    let s : Sequences = sequences_of p in
    let list : List Comm = slice_index_or s.lists fall.cell [] in
    let before = listed s kept fall.cell is.falls.place fall.before (slice_get list is.falls.place) refl is.falls.first in
    let after = listed s kept fall.cell fall.at fall.after (slice_get list fall.at) refl is.falls.second in
    let cells : length s.lists ≡ cell_count p.grid =
    length-map-range_with_len (λ cell. comms (communications p cell)) 0 (length p.cells) ∙ sound.all in
    let messages : length s.ends ≡ length p.messages = length-map p.messages (λ (m : Message). (m.from, m.to)) in
    record {
      cell = subst (λ n. fall.cell < n) cells before.has_cell;
      before = subst (λ n. fall.before < n) messages before.has_message;
      after = subst (λ n. fall.after < n) messages after.has_message;
    }
