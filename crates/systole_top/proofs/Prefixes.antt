-- What stands after a prefix.
use Rattle.std.proofs.Common.{◌≡◌, ℕ, Bool, true, false, if◌then◌else◌, List, ◌++◌, Option, None, Some, drop, take, length, bytes_eq, refl, sym, ap, ◌∙◌}
use Rattle.std.proofs.Math.Seq.{take-append_seam}
use Rattle.std.proofs.lemmas.List.{take-append-drop}
use Rattle.std.proofs.lemmas.Slice.Eq.{bytes_eq-Decides}
use Rattle.std.specs.Option.{MatchOption, option_map}
use Rattle.std.specs.Str.Pattern.{FindsTextPrefix, StripsPrefix}
use Rattle.systole_top.specs.Shape.{after_prefix}

-- where a test tells
where_so : (b : Bool) (rest : List ℕ) → b ≡ true → Some rest ≡ (if b then Some rest else None)
where_so true rest is = refl
where_so false rest is = absurd (cc)

where_not : (b : Bool) (rest : List ℕ) → (b ≡ true → ⊥) → None ≡ (if b then Some rest else None)
where_not true rest never = absurd (never refl)
where_not false rest never = refl

module _ (prefix word : List ℕ) where
  begins : (rest : List ℕ) → word ≡ prefix ++ rest → bytes_eq (take (length prefix) word) prefix ≡ true
  begins rest is = (bytes_eq-Decides (take (length prefix) word) prefix).1 (ap (take (length prefix)) is ∙ take-append_seam prefix rest)

  front : bytes_eq (take (length prefix) word) prefix ≡ true → word ≡ prefix ++ drop (length prefix) word
  front is =
      sym (take-append-drop (length prefix) word)
      ∙ ap (λ l. l ++ drop (length prefix) word) ((bytes_eq-Decides (take (length prefix) word) prefix).0 is)

  -- what is stripped of a word is what stands after the prefix
  pub stripped : {B : Type 0} (bytes : B → List ℕ) (r : Option B)
      → MatchOption r (FindsTextPrefix prefix word None) (λ x. StripsPrefix (FindsTextPrefix prefix) word (bytes x))
      → option_map bytes r ≡ after_prefix prefix word
  stripped {B} bytes None lacks =
      where_not (bytes_eq (take (length prefix) word) prefix) (drop (length prefix) word) (λ is. lacks (drop (length prefix) word) (front is))
  stripped {B} bytes (Some x) (n, found, rest, long) =
      ap Some (rest ∙ ap (λ k. drop k word) found.0)
      ∙ where_so (bytes_eq (take (length prefix) word) prefix) (drop (length prefix) word) (begins (drop n word) found.1)
