-- The directions along a row or a column, one at a time.
use Rattle.std.proofs.Common.{ℕ, ◌≡◌, ◌+◌, ◌-◌, ◌<◌, [], ◌∷◌, suc, refl, arith}
use Rattle.sys_base.specs.declared.kinds.Dir.{Dir}
use Rattle.routes.specs.Walks.{straight}

-- the first direction onward, and the rest
pub straight_onward : (on back : Dir) (a b : ℕ) → a < b → straight on back a b ≡ on ∷ straight on back (a + 1) b
straight_onward on back a b lt =
    let e : b - a ≡ suc (b - (a + 1)) = omega arith in
    let n : a - b ≡ 0 = omega arith in
    let m : (a + 1) - b ≡ 0 = omega arith in
    rw (e, n, m) refl

-- the first direction back, and the rest
pub straight_back : (on back : Dir) (a b : ℕ) → b < a → straight on back a b ≡ back ∷ straight on back (a - 1) b
straight_back on back a b lt =
    let e : a - b ≡ suc ((a - 1) - b) = omega arith in
    let n : b - a ≡ 0 = omega arith in
    let m : b - (a - 1) ≡ 0 = omega arith in
    rw (e, n, m) refl

-- no direction leads from a row or a column to itself
pub straight_none : (on back : Dir) (a : ℕ) → straight on back a a ≡ []
straight_none on back a = let n : a - a ≡ 0 = omega arith in rw n refl
