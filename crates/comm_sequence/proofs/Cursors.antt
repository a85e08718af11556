-- The steps of a cursor.
use Rattle.std.proofs.Common.{◌≡◌, ◌≤◌, List, [], ◌∷◌, Option, length, ap, sym, subst, ◌∙◌, arith}
use Rattle.std.proofs.lemmas.List.{length-map}
use Rattle.std.specs.Option.{MatchOption}
use Rattle.cell_types.specs.Communications.{Communication, Writes, Reads, Takes, Emits}
use Rattle.comm_sequence.specs.Parts.{communication}
use Rattle.comm_sequence.specs.Sequences.{comm_of, comms}
use Rattle.comm_sequence.specs.bodies.Walking.{operations}
use Rattle.comm_sequence.specs.declared.comm.Comm.{Comm}
use Rattle.comm_sequence.specs.declared.comm.Comm.TheVariants as C
use Rattle.comm_sequence.proofs.Counted.{fewer}

-- no more writes and reads than communications
operations_long : (xs : List Communication) → length (operations xs) ≤ length xs
operations_long xs = omega (arith, length-map (comms xs) communication, fewer xs)

-- what is behind the first of writes and reads alone
pub rest_alone : (x : Communication) (xs ys : List Communication) → operations xs ≡ xs → xs ≡ x ∷ ys → operations ys ≡ ys
rest_alone (Writes m) xs ys h is = cc (sym (ap operations is) ∙ h ∙ is)
rest_alone (Reads m) xs ys h is = cc (sym (ap operations is) ∙ h ∙ is)
rest_alone Takes xs ys h is = absurd (omega (arith, ap length (sym (ap operations is) ∙ h ∙ is), operations_long ys))
rest_alone Emits xs ys h is = absurd (omega (arith, ap length (sym (ap operations is) ∙ h ∙ is), operations_long ys))

-- the first of writes and reads alone is one
pub first_alone : (x : Communication) (xs ys : List Communication) (old new : List Comm) (result : Option Comm)
    → operations xs ≡ xs → xs ≡ x ∷ ys → result ≡ comm_of x → old ≡ comms xs → new ≡ comms ys
    → MatchOption result ((old ≡ []) × (new ≡ [])) (λ first. old ≡ first ∷ new)
first_alone (Writes m) xs ys old new result h is told before after =
    subst (λ o. MatchOption o ((old ≡ []) × (new ≡ [])) (λ first. old ≡ first ∷ new)) (sym told)
    (before ∙ ap comms is ∙ ap (λ cs. C.Write m ∷ cs) (sym after))
first_alone (Reads m) xs ys old new result h is told before after =
    subst (λ o. MatchOption o ((old ≡ []) × (new ≡ [])) (λ first. old ≡ first ∷ new)) (sym told)
    (before ∙ ap comms is ∙ ap (λ cs. C.Read m ∷ cs) (sym after))
first_alone Takes xs ys old new result h is told before after =
    absurd (omega (arith, ap length (sym (ap operations is) ∙ h ∙ is), operations_long ys))
first_alone Emits xs ys old new result h is told before after =
    absurd (omega (arith, ap length (sym (ap operations is) ∙ h ∙ is), operations_long ys))
