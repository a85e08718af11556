-- How many entries a schedule file has.
use Rattle.std.proofs.Common.{◌≡◌, ℕ, ◌+◌, ◌==◌, ◌≤◌, Bool, true, false, List, [], ◌∷◌, length, map, ap, arith, if◌then◌else◌, length-drop}
use Rattle.std.proofs.lemmas.List.{length-map}
use Rattle.std.specs.List.{onto_first}
use Rattle.sys_base.specs.Actors.{actor_text}
use Rattle.sys_base.specs.declared.actor.Actor.{Actor}
use Rattle.schedules.specs.Entries.{HasEntries, entry_lines, lines, passed_over}

-- one more byte makes at most one more line
one_more : (newline : Bool) (b : ℕ) (rest : List (List ℕ))
    → length (if newline then [] ∷ rest else onto_first b rest) ≤ length rest + 1
one_more true b rest = omega arith
one_more false b [] = omega arith
one_more false b (line ∷ rest) = omega arith

few_lines : (bytes : List ℕ) → length (lines bytes) ≤ length bytes
few_lines [] = omega arith
few_lines (b ∷ bytes) = omega (arith, one_more (b == 10) b (lines bytes), few_lines bytes)

-- there are no more entries than bytes
pub few_entries : (bytes : List ℕ) (entries : List Actor) → HasEntries bytes entries → length entries ≤ length bytes
few_entries bytes entries has =
    let count : length (entry_lines bytes) ≡ length (map actor_text entries) = ap (λ (xs : List (List ℕ)). length xs) has.texts in
    omega (arith, count, length-map entries actor_text, length-drop (passed_over bytes) (lines bytes), few_lines bytes)
