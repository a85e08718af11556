-- What is said of a refusal beside its line.
use Rattle.std.specs.Prelude.{ℕ, List, [], ◌++◌, codes}
use Rattle.std.specs.List.{flat_map}
use Rattle.sys_base.specs.Names.{cell_text}
use Rattle.refusals.specs.Texts.{text_of}
use Rattle.refusals.specs.declared.refusal.Refusal.{Refusal}
use Rattle.refusals.specs.declared.refusal.Refusal.TheVariants as R
use Rattle.refusals.specs.declared.walk.WalkLine.{WalkLine}
use Rattle.refusals.specs.declared.walk.WalkLine.TheVariants as W

-- a line of a walk, without its newline
unfoldable pub walk_text : WalkLine → List ℕ
walk_text (W.WaitsToWrite cell message receiver) =
    cell_text cell ++ codes " waits to write " ++ message ++ codes " to " ++ cell_text receiver
walk_text (W.WaitsToRead cell message sender) =
    cell_text cell ++ codes " waits to read " ++ message ++ codes " from " ++ cell_text sender
walk_text (W.Again cell) = cell_text cell ++ codes " again"
walk_text (W.NothingLeft cell) = cell_text cell ++ codes " has nothing left"

-- the lines of a walk
abbrev pub walk_lines : List WalkLine → List ℕ
walk_lines = flat_map (λ line. walk_text line ++ codes "\n")

-- the line of a group: the names of its members in order, each after a space
unfoldable pub group_text : List (List ℕ) → List ℕ
group_text names = codes "group" ++ flat_map (λ name. codes " " ++ name) names ++ codes "\n"

-- the lines of a refusal beside its own: of E30 those of the walk, of E50 the one of the group, of any other none
abbrev pub further_lines : Refusal → List ℕ
further_lines (R.Crossing left walk) = walk_lines walk
further_lines (R.TooFew link label need has group) = group_text group
further_lines _ = []

-- the explanation of a refusal: its line and then its further lines, a newline after each
abbrev pub explanation : Refusal → List ℕ
explanation refusal = (text_of refusal ++ codes "\n") ++ further_lines refusal
