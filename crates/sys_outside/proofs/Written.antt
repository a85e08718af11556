-- A writer that takes bytes part by part.
use Rattle.std.proofs.Common.{◌≡◌, ℕ, ◌∙◌, ap, sym, subst, List, ◌++◌, ◌+◌, length, Option, take, drop, append_assoc, take-append-drop}
use Rattle.std.proofs.Math.Seq.{take-append_seam, take-append-add}
use Rattle.std.specs.Io.KnownBytes.{Appends, Keeps}
use Rattle.std.proofs.KnownBytes.{Appends-trans, Appends-kept}
use Rattle.sys_outside.specs.Sink.{AppendsSome}

-- what was written, with the next part
pub written_more : (a b c : Option (List ℕ)) (all done rest next : List ℕ) (n : ℕ) → all ≡ done ++ rest → next ≡ drop n rest → Appends a b done → Appends b c (take n rest)
    → (more : List ℕ) × (all ≡ more ++ next) × Appends a c more
written_more a b c all done rest next n whole left before after =
    (done ++ take n rest, whole ∙ ap (λ l. done ++ l) (sym (take-append-drop n rest)) ∙ sym (append_assoc done (take n rest) (drop n rest)) ∙ ap (λ l. (done ++ take n rest) ++ l) (sym left), Appends-trans a b c done (take n rest) before after)

-- a writer that stops after the next part has the first bytes
pub written_some : (a b c : Option (List ℕ)) (all done rest : List ℕ) (n : ℕ) → all ≡ done ++ rest → Appends a b done → Appends b c (take n rest) → AppendsSome a c all
written_some a b c all done rest n whole before after =
    let first : take (length done + n) all ≡ done ++ take n rest = ap (take (length done + n)) whole ∙ take-append-add done rest n in
    (length done + n, subst (Appends a c) (sym first) (Appends-trans a b c done (take n rest) before after))

-- a writer that takes no more has the first bytes
pub written_first : (a b c : Option (List ℕ)) (all done rest : List ℕ) → all ≡ done ++ rest → Appends a b done → Keeps b c → AppendsSome a c all
written_first a b c all done rest whole before kept =
    let first : take (length done) all ≡ done = ap (take (length done)) whole ∙ take-append_seam done rest in
    (length done, subst (Appends a c) (sym first) (Appends-kept a b c done before kept))
