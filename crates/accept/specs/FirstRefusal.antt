-- The first refusal of a text, and acceptance.
use Rattle.std.specs.Prelude.{ℕ, ◌≡◌, ◌<◌, ◌≤◌, ◌⊎◌, List, length, slice_get, Some}
use Rattle.sys_base.specs.declared.limits.TheConstants.{SOURCE_BYTES, STEPS}
use Rattle.cell_lexer.specs.Faults.{FirstFault}
use Rattle.cell_lexer.specs.Tokens.{TokensOf}
use Rattle.cell_lexer.specs.declared.error.LexError.TheVariants as L
use Rattle.cell_lexer.specs.declared.token.Token.{Token}
use Rattle.cell_parser.specs.Limits.{FirstOver}
use Rattle.cell_parser.specs.Refusal.{WrongAt}
use Rattle.cell_parser.specs.declared.error.ParseError.TheVariants as P
use Rattle.cell_tree.specs.declared.source.Source.{Source}
use Rattle.cell_types.specs.Code.{ProgramCode}
use Rattle.cell_types.specs.Cost.{cells_cost}
use Rattle.cell_types.specs.Faults.{faults}
use Rattle.cell_types.specs.Groups.{bound}
use Rattle.cell_types.specs.Resolved.{program_of}
use Rattle.cell_types.specs.declared.error.StaticError.{StaticError}
use Rattle.comm_sequence.specs.BufferedOrder.{IsBufferedOrder}
use Rattle.comm_sequence.specs.Differing.{all_differing}
use Rattle.comm_sequence.specs.Sequences.{Sequences, sequences_of}
use Rattle.comm_sequence.specs.declared.comm.Comm.{Comm}
use Rattle.crossing_off.specs.Greedy.{fronts, IsCrossed}
use Rattle.crossing_off.specs.Greedy.{left as left_of}
use Rattle.crossing_off.specs.Walk.{IsWalkOver}
use Rattle.crossing_off.specs.declared.waits.Wait.{Wait}
use Rattle.crossing_off.specs.declared.waits.WalkEnd.{WalkEnd}
use Rattle.labelling.specs.Falls.{IsFall}
use Rattle.labelling.specs.declared.falls.Fall.{Fall}
use Rattle.queue_plan.specs.declared.lack.Lack.{Lack}
use Rattle.refusals.specs.declared.refusal.Refusal.{Refusal}
use Rattle.refusals.specs.declared.refusal.Refusal.TheVariants as R
use Rattle.accept.specs.Labelled.{IsLabelled, AreLabels, first_unlabelled, lacks_of, members_of}
use Rattle.accept.specs.Source.{IsSource}
use Rattle.accept.specs.Told.{static_refusal, walk_lines, fall_refusal, lack_refusal}

-- E05: the text is longer than a source may be.
abbrev pub IsLong : List ℕ → Refusal → Type 0
IsLong text r = (SOURCE_BYTES < length text) × (r ≡ R.LongSource)

-- E01, E03, E04: the first byte or token that the language doesn't have.
abbrev pub IsMisspelt : List ℕ → Refusal → Type 0
IsMisspelt text (R.BadByte at) = FirstFault text (L.BadByte at)
IsMisspelt text (R.BigNumber line) = FirstFault text (L.BigNumber line)
IsMisspelt text (R.LongName line) = FirstFault text (L.LongName line)
IsMisspelt text _ = ⊥

-- E06, E07: the first token that breaks a limit on pieces and braces.
abbrev pub IsOver : List ℕ → Refusal → Type 0
IsOver text (R.LongPiece line) = (ts : List Token) × TokensOf text ts × FirstOver ts (P.LongPiece line)
IsOver text (R.Braces line) = (ts : List Token) × TokensOf text ts × FirstOver ts (P.Braces line)
IsOver text _ = ⊥

-- E02: the first token that can't stand where it stands, or the end of the text.
abbrev pub IsMisplaced : List ℕ → Refusal → Type 0
IsMisplaced text (R.Unexpected line column) = (ts : List Token) × TokensOf text ts × WrongAt text ts line column
IsMisplaced text _ = ⊥

-- E10 to E14 and E16 to E20: the first static fault of the source, in file order.
abbrev pub IsFaulty : List ℕ → Refusal → Type 0
IsFaulty text r =
    (s : Source) × IsSource text s
    × (e : StaticError) × (slice_get (faults s) 0 ≡ Some e) × (static_refusal s.cols e ≡ Some r)

-- E60: the cells take more steps than are allowed.
abbrev pub IsCostly : ProgramCode → Refusal → Type 0
IsCostly program r = (STEPS < cells_cost program) × (r ≡ R.CellSteps)

-- E15: the first `if` whose arms communicate differently.
abbrev pub HasUnlikeArms : ProgramCode → Refusal → Type 0
HasUnlikeArms program (R.ArmsDiffer line) = (cell : ℕ) × (slice_get (all_differing program) 0 ≡ Some (cell, line))
HasUnlikeArms program _ = ⊥

-- These are the operations that the greedy rule crosses for the buffer, something is left, and there is no order for
-- the buffer of any kind.
pub record StopsShort (s : Sequences) (buffer : ℕ) (crossed : List Comm) : Type 0 where
  pub rule : IsCrossed s buffer crossed
  pub some : 1 ≤ left_of s crossed
  pub no_order : (order : List Comm) → IsBufferedOrder s.lists s.ends buffer order → ⊥

-- E30: for the program's buffer the greedy rule stops short, this number of operations is left, and these lines tell
-- the walk.
abbrev pub IsStalled : ProgramCode → Refusal → Type 0
IsStalled program (R.Crossing left lines) =
    (crossed : List Comm) × StopsShort (sequences_of program) program.buffer crossed
    × (left ≡ left_of (sequences_of program) crossed)
    × (waits : List Wait) × (end : WalkEnd)
    × IsWalkOver (sequences_of program) (fronts (sequences_of program) crossed) waits end
    × (lines ≡ walk_lines program waits end)
IsStalled program _ = ⊥

-- E41: the first message without a label, where another one has a label.
abbrev pub HasSomeLabels : ProgramCode → Refusal → Type 0
HasSomeLabels program (R.SomeLabels name) = IsLabelled program × (first_unlabelled program.messages ≡ Some name)
HasSomeLabels program _ = ⊥

-- E40: the first fall of a label.
abbrev pub HasFallingLabels : ProgramCode → Refusal → Type 0
HasFallingLabels program r =
    (labels : List ℕ) × AreLabels program labels
    × (fall : Fall) × IsFall (sequences_of program).lists labels fall × (r ≡ fall_refusal program labels fall)

-- E50: the first group of messages with one label that has more members than its link has queues.
abbrev pub HasTooFewQueues : ProgramCode → Refusal → Type 0
HasTooFewQueues program r =
    (labels : List ℕ) × AreLabels program labels
    × (lack : Lack) × (slice_get (lacks_of program labels) 0 ≡ Some lack)
    × (r ≡ lack_refusal program lack (members_of program labels lack.link lack.label))

-- E61: the bound on the steps is more than is allowed.
abbrev pub IsOverBound : ProgramCode → Refusal → Type 0
IsOverBound program r =
    (labels : List ℕ) × AreLabels program labels × (STEPS < bound program labels) × (r ≡ R.Bound (bound program labels))

-- refusals of texts, or of programs, in the order in which they are tried
pub data Trials (A : Type 0) : Type 1 where
  Passed : Trials A
  Try : (Applies : A → Refusal → Type 0) → (rest : Trials A) → Trials A

-- some trials, and then others
abbrev pub then_ : {A : Type 0} → Trials A → Trials A → Trials A
then_ Passed others = others
then_ (Try Applies rest) others = Try Applies (then_ rest others)

-- the refusals of what the cells of a program do
abbrev pub cell_trials : Trials ProgramCode
cell_trials =
    Try IsCostly (
    Try HasUnlikeArms (
    Try IsStalled Passed))

-- the refusals of a program's labels alone
abbrev pub naming_trials : Trials ProgramCode
naming_trials =
    Try HasSomeLabels (
    Try HasFallingLabels Passed)

-- the refusals of what a program takes of the array: of its queues and its bound
abbrev pub room_trials : Trials ProgramCode
room_trials =
    Try HasTooFewQueues (
    Try IsOverBound Passed)

-- the refusals of a program's labels, queues and bound
abbrev pub label_trials : Trials ProgramCode
label_trials = then_ naming_trials room_trials

-- the refusals of a program
abbrev pub program_trials : Trials ProgramCode
program_trials = then_ cell_trials label_trials

-- The refusal applies to the program of the text's source.
abbrev pub OfSource : (ProgramCode → Refusal → Type 0) → List ℕ → Refusal → Type 0
OfSource Applies text r = (s : Source) × IsSource text s × Applies (program_of s) r

-- refusals of a program as those of its text
abbrev pub of_source : Trials ProgramCode → Trials (List ℕ)
of_source Passed = Passed
of_source (Try Applies rest) = Try (OfSource Applies) (of_source rest)

-- the refusals of what a text is, and of its source
abbrev pub text_trials : Trials (List ℕ)
text_trials =
    Try IsLong (
    Try IsMisspelt (
    Try IsOver (
    Try IsMisplaced (
    Try IsFaulty Passed))))

-- the refusals of a text: of what it is, of its source, and of the program of its source
abbrev pub trials : Trials (List ℕ)
trials = then_ text_trials (of_source program_trials)

-- the refusals of a text but for those of its queues and its bound
abbrev pub need_trials : Trials (List ℕ)
need_trials = then_ text_trials (of_source (then_ cell_trials naming_trials))

-- The first of the trials that applies gives this refusal.
abbrev pub IsFirstOf : {A : Type 0} → Trials A → A → Refusal → Type 0
IsFirstOf Passed a r = ⊥
IsFirstOf (Try Applies rest) a r = Applies a r ⊎ (((q : Refusal) → Applies a q → ⊥) × IsFirstOf rest a r)

-- None of the trials applies.
abbrev pub PassesAll : {A : Type 0} → Trials A → A → Type 0
PassesAll Passed a = Unit {0}
PassesAll (Try Applies rest) a = ((q : Refusal) → Applies a q → ⊥) × PassesAll rest a

-- The first refusal of the text is this one.
abbrev pub FirstRefusal : List ℕ → Refusal → Type 0
FirstRefusal = IsFirstOf trials

-- The text has no refusal.
abbrev pub Accepts : List ℕ → Type 0
Accepts = PassesAll trials
