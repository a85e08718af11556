-- A file that was fetched whole.
use Rattle.std.proofs.Common.{◌≡◌, ◌≤◌, ℕ, List, Option, Some, IfSome, length, refl, sym, ap, ◌∙◌, inl, inr, arith}
use Rattle.std.proofs.lemmas.Bool.Decides.{nat_tests}
use Rattle.std.proofs.lemmas.Option.{IfSome_then}
use Rattle.systole_top.specs.Tree.{Gives, Reads, within}
use Rattle.systole_top.specs.bodies.Runs.{Gave, Steps}

pub within-whole : (limit : ℕ) (file : List ℕ) → length file ≤ limit → within limit file ≡ Some file
within-whole limit file short = grind (arith, nat_tests)

pub step_whole : {told told_now : List ℕ → Option (List ℕ)} {before now : List ℕ → ℕ} {name : List ℕ} (limit : ℕ) (bytes : List ℕ)
    → told_now ≡ told → ((other : List ℕ) → before other ≤ now other) → length bytes ≤ limit → IfSome (told name) (λ file. file ≡ bytes)
    → Steps told told_now before now (Reads name limit Gives) (Gave (Some bytes))
step_whole {told} {told_now} {before} {now} {name} limit bytes held later short same =
    record {
      held = held;
      later = later;
      runs = inr (inr (Some bytes, IfSome_then (told name) same (λ file is. sym (ap (within limit) is ∙ within-whole limit bytes short)), inl refl));
    }
