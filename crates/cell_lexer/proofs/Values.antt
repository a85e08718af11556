-- The number that digits spell.
use Rattle.std.proofs.Common.{ℕ, ◌≡◌, ◌+◌, ◌-◌, ◌*◌, ◌<◌, ◌≤◌, List, [], ◌∷◌, length, get_or, drop, arith}
use Rattle.std.proofs.lemmas.List.{at_drop_more}
use Rattle.cell_lexer.specs.Forms.{value_after}

-- more digits spell no less
value_grows : (n : ℕ) (bs : List ℕ) → n ≤ value_after n bs
value_grows n [] = omega arith
value_grows n (b ∷ bs) = omega (arith, value_grows (10 * n + (b - 48)) bs)

-- once too great, always too great
pub value_above : (n i most : ℕ) (bs : List ℕ) → i < length bs → most < 10 * n + (get_or bs i 0 - 48) → most < value_after n (drop i bs)
value_above n i most bs lt h =
    let e : value_after n (drop i bs) ≡ value_after (10 * n + (get_or bs i 0 - 48)) (drop (i + 1) bs) = at_drop_more (value_after n) bs i 0 lt in
    omega (arith, e, value_grows (10 * n + (get_or bs i 0 - 48)) (drop (i + 1) bs))
