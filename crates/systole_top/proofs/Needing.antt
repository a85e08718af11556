-- Lines are written one by one.
use Rattle.std.proofs.Common.{◌≡◌, ℕ, ◌+◌, ◌<◌, ◌≤◌, List, [], ◌∷◌, ◌++◌, take, length, get_or, codes, ap, ◌∙◌, append-nil}
use Rattle.std.proofs.lemmas.Grind.{flat_map-append}
use Rattle.std.proofs.lemmas.List.{take_all, take_more}
use Rattle.accept.specs.Needs.{need_lines, need_text}
use Rattle.accept.specs.declared.needing.NeedLine.{NeedLine}

-- the text of one more line
pub lines_more : (lines : List NeedLine) (i : ℕ) (d : NeedLine) → i < length lines
    → need_lines (take (i + 1) lines) ≡ need_lines (take i lines) ++ (need_text (get_or lines i d) ++ codes "\n")
lines_more lines i d inside = rw (take_more lines i d inside)
    (flat_map-append (λ line. need_text line ++ codes "\n") (take i lines) (get_or lines i d ∷ [])
    ∙ ap (λ (r : List ℕ). need_lines (take i lines) ++ r) (append-nil (need_text (get_or lines i d) ++ codes "\n")))

-- all lines are written
pub lines_whole : (text : List ℕ) (lines : List NeedLine) (i : ℕ) → text ≡ need_lines (take i lines) → length lines ≤ i → text ≡ need_lines lines
lines_whole text lines i same past = same ∙ ap need_lines (take_all i lines past)
