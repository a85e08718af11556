-- Counts and lists of events.
use Rattle.std.proofs.Common.{◌≡◌, ℕ, ◌+◌, Bool, true, false, cond, nat_eq, List, [], ◌∷◌, ◌++◌, Some, filter, option_map, slice_get, sym, ap, ◌∙◌}
use Rattle.std.specs.Option.{option_map_or}
use Rattle.std.proofs.lemmas.Bool.{eq-eqb, ne_eqb}
use Rattle.std.proofs.lemmas.List.Sums.{sum_by_push}
use Rattle.std.proofs.lemmas.Option.{slice_get-map}
use Rattle.cell_types.specs.Code.{ProgramCode}
use Rattle.cell_types.specs.declared.program.Message.{Message}
use Rattle.comm_sequence.specs.BufferedOrder.{is_of, occurrences, same}
use Rattle.comm_sequence.specs.Sequences.{sequences_of}
use Rattle.comm_sequence.specs.declared.comm.Comm.{Comm}
use Rattle.comm_sequence.specs.declared.comm.Comm.TheVariants as C
use Rattle.rendezvous.specs.bodies.UnderWay.{IsOwner}

-- one event more
pub occurs_more : (x : Comm) (done : List Comm) (e : Comm)
    → occurrences x (done ++ e ∷ []) ≡ occurrences x done + cond (same x e) 1 0
occurs_more x done e = sum_by_push (λ y. cond (same x y) 1 0) done e

-- the ends of a message
pub ends_at : (program : ProgramCode) (m : ℕ) (x : Message) → slice_get program.messages m ≡ Some x
    → slice_get (sequences_of program).ends m ≡ Some (x.from, x.to)
ends_at program m x at =
    slice_get-map (λ (y : Message). (y.from, y.to)) program.messages m ∙ ap (option_map (λ (y : Message). (y.from, y.to))) at

-- an event is its owner's
pub of_owner : (program : ProgramCode) (e : Comm) (c : ℕ) → IsOwner program.messages e c
    → is_of (sequences_of program).ends c e ≡ true
of_owner program (C.Write m) c owner =
    ap (λ o. option_map_or (λ (e : ℕ × ℕ). nat_eq e.0 c) o false) (ends_at program m owner.0 owner.1)
    ∙ eq-eqb owner.0.from c owner.2
of_owner program (C.Read m) c owner =
    ap (λ o. option_map_or (λ (e : ℕ × ℕ). nat_eq e.1 c) o false) (ends_at program m owner.0 owner.1)
    ∙ eq-eqb owner.0.to c owner.2

-- and no other cell's
pub of_other : (program : ProgramCode) (e : Comm) (c d : ℕ) → IsOwner program.messages e c → (d ≡ c → ⊥)
    → is_of (sequences_of program).ends d e ≡ false
of_other program (C.Write m) c d owner other =
    ap (λ o. option_map_or (λ (e : ℕ × ℕ). nat_eq e.0 d) o false) (ends_at program m owner.0 owner.1)
    ∙ ne_eqb owner.0.from d (λ e. other (sym e ∙ owner.2))
of_other program (C.Read m) c d owner other =
    ap (λ o. option_map_or (λ (e : ℕ × ℕ). nat_eq e.1 d) o false) (ends_at program m owner.0 owner.1)
    ∙ ne_eqb owner.0.to d (λ e. other (sym e ∙ owner.2))

-- the events of a cell among some, where the first is its own, and where it is not
pub first_own : (p : Comm → Bool) (e : Comm) (rest : List Comm) → p e ≡ true → filter p (e ∷ rest) ≡ e ∷ filter p rest
first_own p e rest h = ap (λ b. cond b (e ∷ filter p rest) (filter p rest)) h

pub first_other : (p : Comm → Bool) (e : Comm) (rest : List Comm) → p e ≡ false → filter p (e ∷ rest) ≡ filter p rest
first_other p e rest h = ap (λ b. cond b (e ∷ filter p rest) (filter p rest)) h
