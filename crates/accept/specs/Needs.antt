-- What each link of a program needs, and what is answered for a text.
use Rattle.std.specs.Prelude.{ℕ, ◌≡◌, ◌*◌, ◌<◌, ◌≤◌, Bool, List, ◌++◌, codes, filter, is_some, map, slice_get, slice_index}
use Rattle.std.specs.Fmt.{decimal}
use Rattle.std.specs.List.{flat_map}
use Rattle.sys_base.specs.Grid.{cell_count}
use Rattle.sys_base.specs.Names.{link_name, link_text}
use Rattle.cell_tree.specs.declared.source.Source.{Source}
use Rattle.cell_types.specs.Code.{ProgramCode}
use Rattle.cell_types.specs.Groups.{groups_on, lengths_of, link_ids, need, routes_of}
use Rattle.cell_types.specs.Resolved.{program_of}
use Rattle.refusals.specs.declared.refusal.Refusal.{Refusal}
use Rattle.refusals.specs.declared.refusal.Refusal.TheVariants as R
use Rattle.accept.specs.FirstRefusal.{need_trials, IsFirstOf, PassesAll}
use Rattle.accept.specs.Labelled.{AreLabels}
use Rattle.accept.specs.Source.{IsSource}
use Rattle.accept.specs.declared.building.AcceptError.{AcceptError}
use Rattle.accept.specs.declared.building.AcceptError.TheVariants as A
use Rattle.accept.specs.declared.needing.NeedLine.{NeedLine}

-- ---- the lines

-- the need of a link, the size of its largest group, where these are the labels of the program's messages
abbrev pub need_of : ProgramCode → List ℕ → ℕ → ℕ
need_of program labels link = need (routes_of program) labels (lengths_of program) link

-- whether a link has a group
abbrev pub has_group : ProgramCode → List ℕ → ℕ → Bool
has_group program labels link = is_some (slice_get (groups_on program labels link) 0)

-- the name of a link, its need and its queues
abbrev pub line_of : ProgramCode → List ℕ → ℕ → NeedLine
line_of program labels link =
    let name = link_name program.grid.cols link in
    record {
      row = name.cell.row;
      col = name.cell.col;
      dir = name.dir;
      need = need_of program labels link;
      has = slice_index program.queues link;
    }

-- the lines of the links that have a group, in order of id
abbrev pub lines_of : ProgramCode → List ℕ → List NeedLine
lines_of program labels = map (line_of program labels) (filter (has_group program labels) (link_ids program))

-- the text of a line, without its newline
unfoldable pub need_text : NeedLine → List ℕ
need_text line =
    codes "link " ++ link_text (record { cell = record { row = line.row; col = line.col }; dir = line.dir })
    ++ codes " need " ++ decimal line.need ++ codes " has " ++ decimal line.has

-- the text of lines, a newline after each
abbrev pub need_lines : List NeedLine → List ℕ
need_lines = flat_map (λ line. need_text line ++ codes "\n")

-- ---- the answer for a text

-- The refusal is the first one of the text, but for those of queues and of the bound.
abbrev pub IsNeedRefused : List ℕ → Refusal → Type 0
IsNeedRefused = IsFirstOf need_trials

-- The text has no refusal but of its queues and its bound, and these are the lines of the program of its source.
pub record AreNeeds (text : List ℕ) (lines : List NeedLine) : Type 0 where
  pub passes : PassesAll need_trials text
  pub source : Source
  pub is : IsSource text source
  pub labels : List ℕ
  pub labels_are : AreLabels (program_of source) labels
  pub lines_are : lines ≡ lines_of (program_of source) labels

-- The error is that refusal, or memory ran out.
abbrev pub HasNoNeeds : List ℕ → AcceptError → Type 0
HasNoNeeds text (A.Refused r) = IsNeedRefused text r
HasNoNeeds text A.Memory = Unit {0}

-- ---- room

-- Each link has at least as many queues as its largest group has members, where these are the labels.
abbrev pub FitQueues : ProgramCode → List ℕ → Type 0
FitQueues program labels =
    (link : ℕ) → link < 4 * cell_count program.grid → need_of program labels link ≤ slice_index program.queues link

-- The refusal is E50: a link has too few queues.
abbrev pub IsTooFew : Refusal → Type 0
IsTooFew (R.TooFew link label need has group) = Unit {0}
IsTooFew _ = ⊥

-- The refusal is of the room that a program takes: E50, or E61, the bound on its steps.
abbrev pub IsForRoom : Refusal → Type 0
IsForRoom (R.TooFew link label need has group) = Unit {0}
IsForRoom (R.Bound bound) = Unit {0}
IsForRoom _ = ⊥
