-- What is printed of a run and of a meaning.
use Rattle.std.specs.Prelude.{ℕ, zero, suc, ◌≡◌, ◌≢◌, ◌==◌, All, Bool, true, false, List, [], ◌++◌, map, codes, fold, slice_index, slice_index_or, if◌then◌else◌, Option, Some, None}
use Rattle.std.specs.Fmt.{decimal}
use Rattle.serde_json.specs.Data.{Data, boolean, number, unsigned, string, array, object, Members, no_members, member, put}
use Rattle.serde_json.specs.Find.{of_integer}
use Rattle.serde_json.specs.View.{items_of}
use Rattle.serde_json.specs.Written.{compact_text}
use Rattle.sys_base.specs.Actors.{actor_text}
use Rattle.sys_base.specs.Grid.{Extent, cell_count}
use Rattle.sys_base.specs.Names.{link_name, link_text}
use Rattle.sys_base.specs.declared.actor.Actor.{Actor}
use Rattle.sys_base.specs.declared.kinds.Kind.{Kind}
use Rattle.sys_base.specs.declared.kinds.Kind.TheVariants as K
use Rattle.sys_base.specs.declared.word.Fault.{Fault}
use Rattle.sys_base.specs.declared.word.Word.{Word}
use Rattle.sys_base.specs.declared.word.Word.TheVariants.{Num, Fault as Faulty}
use Rattle.stream_io.specs.Reading.{key_of}
use Rattle.stream_io.specs.declared.report.Report.{Report}

-- ---- words

-- the letter of a kind
abbrev pub kind_letter : Kind → List ℕ
kind_letter K.O = codes "O"
kind_letter K.Z = codes "Z"
kind_letter K.X = codes "X"

-- a fault as it is printed: its kind, the index of its cell and its line
abbrev pub fault_text : Fault → List ℕ
fault_text fault = codes "!" ++ kind_letter fault.kind ++ codes "@" ++ decimal fault.cell ++ codes ":" ++ decimal fault.line

-- a word as JSON: an integer, or the text of a fault
abbrev pub word_data : Word → Data
word_data (Num n) = number (of_integer n)
word_data (Faulty fault) = string (fault_text fault)

-- a list of words as JSON
abbrev pub words_data : List Word → Data
words_data words = array (items_of (map word_data words))

-- ---- members, which `put` keeps in byte order of their keys

-- the outputs of the cells below a number: of each cell that emits a word, its words at its key
abbrev pub outputs_below : Extent → List (List Word) → List ℕ → ℕ → Members
outputs_below g outputs emits zero = no_members
outputs_below g outputs emits (suc n) =
    if slice_index emits n == 0 then outputs_below g outputs emits n
    else put (key_of g n) (words_data (slice_index_or outputs n [])) (outputs_below g outputs emits n)

-- the outputs of all cells
abbrev pub outputs_data : Extent → List (List Word) → List ℕ → Data
outputs_data g outputs emits = object (outputs_below g outputs emits (cell_count g))

-- the peaks of links, each at the name of its link
abbrev pub peaks_among : Extent → List (ℕ × ℕ) → Members
peaks_among g peaks = fold (λ ms peak. put (link_text (link_name g.cols peak.0))
    (number (unsigned peak.1)) ms) no_members peaks

abbrev pub peaks_data : Extent → List (ℕ × ℕ) → Data
peaks_data g peaks = object (peaks_among g peaks)

-- the least enabled actor, which only an unfinished run has
abbrev pub with_next : Bool → Option Actor → Members → Members
with_next false (Some actor) ms = member (codes "next") (string (actor_text actor)) ms
with_next false None ms = ms
with_next true next ms = ms

-- the result of a run
abbrev pub result_data : Extent → Report → Data
result_data g report =
    object (member (codes "finished") (boolean report.finished) (with_next report.finished report.next
    (member (codes "outputs") (outputs_data g report.outputs.cells report.emits)
    (member (codes "peaks") (peaks_data g report.peaks) (member (codes "steps") (number (unsigned report.steps)) no_members)))))

-- what a meaning says: the outputs alone
abbrev pub meaning_data : Extent → List (List Word) → List ℕ → Data
meaning_data g outputs emits = object (member (codes "outputs") (outputs_data g outputs emits) no_members)

-- JSON on a line of its own
abbrev pub line_of : Data → List ℕ
line_of value = compact_text value ++ codes "\n"

-- The text is one line that begins with `{`: its one newline is its last byte.
pub record IsObjectLine (text : List ℕ) : Type 0 where
  pub front : List ℕ
  pub ends : text ≡ front ++ codes "\n"
  pub begins : slice_index front 0 ≡ 123
  pub plain : All (λ b. b ≢ 10) front
