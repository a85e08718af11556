-- The limits on runs of words and on open braces, at their bounds.
use Rattle.std.proofs.Common.{◌≡◌, ℕ, List, [], ◌∷◌, true, false, refl}
use Rattle.std.specs.Prelude.{codes}
use Rattle.cell_tree.specs.Printable.{runs_fit, braces_fit, open_after}

abbrev words : List (List ℕ)
words = codes "x" ∷ codes "=" ∷ codes "1" ∷ codes ";" ∷ []

-- The 256th word of a run fits, and the 257th does not.
run_of_256 : runs_fit 253 words ≡ true
run_of_256 = refl

run_of_257 : runs_fit 254 words ≡ false
run_of_257 = refl

-- `;`, `{` and `}` end a run, and belong to none.
runs_end : runs_fit 256 (codes "}" ∷ codes "{" ∷ words) ≡ true
runs_end = refl

-- The 17th brace opens, and the 18th does not.
brace_17 : braces_fit 16 (codes "{" ∷ []) ≡ true
brace_17 = refl

brace_18 : braces_fit 17 (codes "{" ∷ []) ≡ false
brace_18 = refl

-- A closing brace gives room, and takes nothing from a count of 0.
brace_again : braces_fit 17 (codes "}" ∷ codes "{" ∷ []) ≡ true
brace_again = refl

none_open : open_after 0 (codes "}") ≡ 0
none_open = refl
