-- Cells and messages before the first event.
use Rattle.std.proofs.Common.{◌≡◌, zero, suc, List, [], ◌∷◌, ◌++◌, refl}
use Rattle.rendezvous.specs.bodies.UnderWay.{AreEmpty}
use Rattle.rendezvous.specs.declared.array.Stream.{Stream}

-- one more message of which no word was written
pub empty_push : (xs : List Stream) (s : Stream) → AreEmpty xs → s.words.items ≡ [] → s.read ≡ 0 → AreEmpty (xs ++ s ∷ [])
empty_push [] s h words read zero = (words, read)
empty_push [] s h words read (suc m) = (refl, refl)
empty_push (x ∷ xs) s h words read zero = h 0
empty_push (x ∷ xs) s h words read (suc m) = empty_push xs s (λ n. h (suc n)) words read m
