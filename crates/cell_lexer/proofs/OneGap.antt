-- A gap that goes as far as it can ends at one place.
use Rattle.std.proofs.Common.{ℕ, ◌≡◌, List, [], ◌∷◌, sym, refl, subst}
use Rattle.std.proofs.lemmas.Bool.{both_ways}
use Rattle.cell_lexer.specs.Gaps.{Comment, at_end, at_line, inside, Gap, none, space, comment}
use Rattle.cell_lexer.specs.Inner.Scanning.{IsSolid}
use Rattle.cell_lexer.proofs.ByteKinds.{hash_no_space}

one_comment : (us vs ws : List ℕ) → Comment us vs → Comment us ws → vs ≡ ws
one_comment us vs ws at_end at_end = refl
one_comment us vs ws (at_line e) (at_line f) = refl
one_comment us vs ws (at_line e) (inside n c) = absurd (n e)
one_comment us vs ws (inside n c) (at_line e) = absurd (n e)
one_comment us vs ws (inside {bytes = bs} n c) (inside m d) = one_comment bs vs ws c d

-- no gap goes on at the beginning of these bytes
abbrev pub Ends : List ℕ → Type 0
Ends [] = Unit {0}
Ends (b ∷ bs) = IsSolid b

pub one_gap : (us vs ws : List ℕ) → Gap us vs → Gap us ws → Ends vs → Ends ws → vs ≡ ws
one_gap us vs ws none none p q = refl
one_gap us vs ws none (space s g) p q = absurd (both_ways _ p.no_space s)
one_gap us vs ws none (comment e c g) p q = absurd (p.no_hash e)
one_gap us vs ws (space s g) none p q = absurd (both_ways _ q.no_space s)
one_gap us vs ws (space {bytes = bs} s g) (space t h) p q = one_gap bs vs ws g h p q
one_gap us vs ws (space s g) (comment e c h) p q = absurd (hash_no_space _ e s)
one_gap us vs ws (comment e c g) none p q = absurd (q.no_hash e)
one_gap us vs ws (comment e c g) (space s h) p q = absurd (hash_no_space _ e s)
one_gap us vs ws (comment {bytes = bs} {between = xs} e c g) (comment {between = ys} f d h) p q =
    one_gap xs vs ws g (subst (λ x. Gap x ws) (sym (one_comment bs xs ys c d)) h) p q

-- a gap and then a gap
pub gap_then : (us vs ws : List ℕ) → Gap us vs → Gap vs ws → Gap us ws
gap_then us vs ws none h = h
gap_then us vs ws (space {bytes = bs} s g) h = space s (gap_then bs vs ws g h)
gap_then us vs ws (comment {between = xs} e c g) h = comment e c (gap_then xs vs ws g h)
