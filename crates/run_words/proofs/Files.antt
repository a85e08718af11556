-- Each schedule file is read as just one thing.
use Rattle.std.proofs.Common.{◌≡◌, ◌⊎◌, inl, inr, ℕ, List, Option, Some, None, refl, sym, ap, ◌∙◌}
use Rattle.sys_base.specs.declared.actor.Actor.{Actor}
use Rattle.schedules.specs.Entries.{HasEntries, IsFirstBadLine}
use Rattle.run_words.specs.Answers.{ReadsSchedule, Reading, Fits, Breaks, long_schedule, malformed_line}
use Rattle.run_words.specs.Once.{HasJustOne}

-- from what is known of any bytes
module _ (some : (bytes : List ℕ)
    → ((entries : List Actor) × HasEntries bytes entries) ⊎ ((n : ℕ) × IsFirstBadLine bytes n))
    (one_list : (bytes : List ℕ) (es fs : List Actor) → HasEntries bytes es → HasEntries bytes fs → es ≡ fs)
    (one_bad : (bytes : List ℕ) (m n : ℕ) → IsFirstBadLine bytes m → IsFirstBadLine bytes n → m ≡ n)
    (apart : (bytes : List ℕ) (es : List Actor) (n : ℕ) → HasEntries bytes es → IsFirstBadLine bytes n → ⊥) where
  entries_only : (bytes : List ℕ) (es : List Actor) → HasEntries bytes es → (other : Reading)
      → ReadsSchedule (Some bytes) other → Fits es ≡ other
  entries_only bytes es h (Fits fs) k = ap Fits (one_list bytes es fs h k)
  entries_only bytes es h (Breaks line) (n, k, e) = absurd (apart bytes es n h k)

  bad_only : (bytes : List ℕ) (n : ℕ) → IsFirstBadLine bytes n → (other : Reading)
      → ReadsSchedule (Some bytes) other → Breaks (malformed_line n) ≡ other
  bad_only bytes n k (Fits es) h = absurd (apart bytes es n h k)
  bad_only bytes n k (Breaks line) (m, h, e) = ap Breaks (ap malformed_line (one_bad bytes n m k h) ∙ sym e)

  pub one_schedule : (file : Option (List ℕ)) → HasJustOne (ReadsSchedule file)
  one_schedule None = record { one = Breaks long_schedule; is = refl; only = λ other h. sym h }
  one_schedule (Some bytes) = elim (some bytes) [
    | inl read ↦ record { one = Fits read.0; is = read.1; only = entries_only bytes read.0 read.1 }
    | inr wrong ↦ record {
      one = Breaks (malformed_line wrong.0);
      is = (wrong.0, wrong.1, refl);
      only = bad_only bytes wrong.0 wrong.1;
    }
  ]
