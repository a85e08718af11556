-- Some trials, and then others.
use Rattle.std.proofs.Common.{◌⊎◌, inl, inr}
use Rattle.cell_types.specs.Code.{ProgramCode}
use Rattle.refusals.specs.declared.refusal.Refusal.{Refusal}
use Rattle.accept.specs.FirstRefusal.{Trials, Passed, Try, then_, IsFirstOf, PassesAll}
use Rattle.accept.specs.bodies.Answers.{IsFound}
use Rattle.accept.specs.declared.building.AcceptError.{AcceptError}
use Rattle.accept.specs.declared.building.AcceptError.TheVariants as A

-- the first of some trials is the first of these and others
pub first_then : {A : Type 0} (ts us : Trials A) (a : A) (r : Refusal) → IsFirstOf ts a r → IsFirstOf (then_ ts us) a r
first_then Passed us a r h = absurd h
first_then (Try Applies rest) us a r (inl h) = inl h
first_then (Try Applies rest) us a r (inr h) = inr (h.0, first_then rest us a r h.1)

-- where none of them applies, the first of the others is
pub then_first : {A : Type 0} (ts us : Trials A) (a : A) (r : Refusal) → PassesAll ts a → IsFirstOf us a r → IsFirstOf (then_ ts us) a r
then_first Passed us a r p h = h
then_first (Try Applies rest) us a r p h = inr (p.0, then_first rest us a r p.1 h)

-- and where none of the others applies either, none does
pub then_passes : {A : Type 0} (ts us : Trials A) (a : A) → PassesAll ts a → PassesAll us a → PassesAll (then_ ts us) a
then_passes Passed us a p q = q
then_passes (Try Applies rest) us a p q = (p.0, then_passes rest us a p.1 q)

-- where none of all applies, none of the first ones does
pub passes_first : {A : Type 0} (ts us : Trials A) (a : A) → PassesAll (then_ ts us) a → PassesAll ts a
passes_first Passed us a p = tt
passes_first (Try Applies rest) us a p = (p.0, passes_first rest us a p.1)

-- the first of all is one of the first ones, or none of these applies and it is one of the others
pub first_cases : {A : Type 0} (ts us : Trials A) (a : A) (r : Refusal) → IsFirstOf (then_ ts us) a r
    → IsFirstOf ts a r ⊎ (PassesAll ts a × IsFirstOf us a r)
first_cases Passed us a r h = inr (tt, h)
first_cases (Try Applies rest) us a r (inl h) = inl (inl h)
first_cases (Try Applies rest) us a r (inr h) = behind (first_cases rest us a r h.1)
  where
    -- one more trial
    behind : IsFirstOf rest a r ⊎ (PassesAll rest a × IsFirstOf us a r)
        → IsFirstOf (Try Applies rest) a r ⊎ (PassesAll (Try Applies rest) a × IsFirstOf us a r)
    behind (inl first) = inl (inr (h.0, first))
    behind (inr others) = inr ((h.0, others.0), others.1)

-- where no trial applies, none is the first that applies
pub accepted_of : {A : Type 0} (ts : Trials A) (a : A) (r : Refusal) → PassesAll ts a → IsFirstOf ts a r → ⊥
accepted_of Passed a r p h = h
accepted_of (Try Applies rest) a r p (inl h) = p.0 r h
accepted_of (Try Applies rest) a r p (inr h) = accepted_of rest a r p.1 h.1

-- the same of errors
pub found_then : (ts us : Trials ProgramCode) (p : ProgramCode) (e : AcceptError) → IsFound (IsFirstOf ts) p e
    → IsFound (IsFirstOf (then_ ts us)) p e
found_then ts us p (A.Refused r) h = first_then ts us p r h
found_then ts us p A.Memory h = tt

pub then_found : (ts us : Trials ProgramCode) (p : ProgramCode) (e : AcceptError) → PassesAll ts p → IsFound (IsFirstOf us) p e
    → IsFound (IsFirstOf (then_ ts us)) p e
then_found ts us p (A.Refused r) passes h = then_first ts us p r passes h
then_found ts us p A.Memory passes h = tt
