-- What the parts of acceptance answer, each of a source or a program.
use Rattle.std.specs.Prelude.{ℕ, ◌≡◌, ◌<◌, ◌≤◌, List, [], find, length, nat_eq, slice_get, All, Some}
use Rattle.std.specs.Option.{option_map_or}
use Rattle.sys_base.specs.Grid.{cell_count}
use Rattle.sys_base.specs.declared.limits.TheConstants.{SOURCE_BYTES}
use Rattle.cell_tree.specs.declared.source.Source.{Source}
use Rattle.cell_types.specs.Code.{ProgramCode}
use Rattle.cell_types.specs.Faults.{faults}
use Rattle.cell_types.specs.Resolved.{program_of}
use Rattle.cell_types.specs.declared.error.StaticError.{StaticError}
use Rattle.cell_types.specs.declared.program.Message.{Message}
use Rattle.comm_sequence.specs.Sequences.{message_of}
use Rattle.crossing_off.specs.declared.waits.Wait.{Wait}
use Rattle.crossing_off.specs.declared.waits.WalkEnd.{WalkEnd}
use Rattle.crossing_off.specs.declared.waits.WalkEnd.TheVariants.{Again, NothingLeft}
use Rattle.labelling.specs.declared.falls.Fall.{Fall}
use Rattle.queue_plan.specs.Grouping.{groups_at}
use Rattle.refusals.specs.declared.refusal.Refusal.{Refusal}
use Rattle.refusals.specs.declared.refusal.Refusal.TheVariants as R
use Rattle.accept.specs.FirstRefusal.{IsFirstOf, text_trials}
use Rattle.accept.specs.Labelled.{first_unlabelled}
use Rattle.accept.specs.Source.{IsSource}
use Rattle.accept.specs.Told.{static_refusal}
use Rattle.accept.specs.declared.building.AcceptError.{AcceptError}
use Rattle.accept.specs.declared.building.AcceptError.TheVariants as A

-- The error is the refusal of the source's first fault, or memory ran out.
abbrev pub IsFaultTold : Source → AcceptError → Type 0
IsFaultTold s (A.Refused r) =
    (e : StaticError) × (slice_get (faults s) 0 ≡ Some e) × (static_refusal s.cols e ≡ Some r)
IsFaultTold s A.Memory = Unit {0}

-- The cells of the wait are in the grid, and its message is one of the program's.
pub record IsWaitOf (program : ProgramCode) (wait : Wait) : Type 0 where
  pub cell : wait.cell < cell_count program.grid
  pub partner : wait.partner < cell_count program.grid
  pub message : message_of wait.front < length program.messages

-- The walk ends at a cell of the grid.
abbrev pub IsEndOf : ProgramCode → WalkEnd → Type 0
IsEndOf program (Again cell) = cell < cell_count program.grid
IsEndOf program (NothingLeft cell) = cell < cell_count program.grid

-- The error is a refusal that applies to the program, or memory ran out.
abbrev pub IsFound : (ProgramCode → Refusal → Type 0) → ProgramCode → AcceptError → Type 0
IsFound Applies program (A.Refused r) = Applies program r
IsFound Applies program A.Memory = Unit {0}

-- The error is the first refusal of the text and of its source, or memory ran out.
abbrev pub IsUnread : List ℕ → AcceptError → Type 0
IsUnread text (A.Refused r) = IsFirstOf text_trials text r
IsUnread text A.Memory = Unit {0}

-- The text and its source have no refusal, and this is the program of the source.
pub record IsProgramOf (text : List ℕ) (program : ProgramCode) : Type 0 where
  pub short : length text ≤ SOURCE_BYTES
  pub source : Source
  pub is : IsSource text source
  pub faultless : faults source ≡ []
  pub program_is : program ≡ program_of source

-- The name is that of the first message without a label, or memory ran out.
abbrev pub IsUnlabelled : List Message → AcceptError → Type 0
IsUnlabelled messages (A.Refused (R.SomeLabels name)) = first_unlabelled messages ≡ Some name
IsUnlabelled messages (A.Refused _) = ⊥
IsUnlabelled messages A.Memory = Unit {0}

-- The fall is at a cell of the grid, between two of the program's messages.
pub record IsFallOf (program : ProgramCode) (fall : Fall) : Type 0 where
  pub cell : fall.cell < cell_count program.grid
  pub before : fall.before < length program.messages
  pub after : fall.after < length program.messages

-- the members of the first group with this label on a link, none where it has no such group
abbrev pub members_at : List (List (ℕ × List ℕ)) → ℕ → ℕ → List ℕ
members_at links link label =
    option_map_or (λ (g : ℕ × List ℕ). g.1) (find (λ (g : ℕ × List ℕ). nat_eq g.0 label) (groups_at links link)) []

-- All members of the groups of a link are among this number of messages.
abbrev pub AreKnown : List (List (ℕ × List ℕ)) → ℕ → ℕ → Type 0
AreKnown links link messages = All (λ (g : ℕ × List ℕ). All (λ message. message < messages) g.1) (groups_at links link)
