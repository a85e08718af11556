-- The one value of which a fact holds.
use Rattle.std.specs.Prelude.{◌≡◌}

-- The fact holds of x, and of nothing else.
pub record IsOnly {X : Type 0} (P : X → Type 0) (x : X) : Type 0 where
  pub holds : P x
  pub only : (y : X) → P y → x ≡ y
