-- The test of two lists of communications, and entries as communications.
use Rattle.std.proofs.Common.{◌≡◌, Bool, true, ◌&&◌, List, [], ◌∷◌, refl, ap, sym, ◌∙◌}
use Rattle.std.specs.Cmp.{first_so, second_so}
use Rattle.std.proofs.lemmas.Bool.Decides.{Decides-eqb, same_from_decides}
use Rattle.std.specs.Bool.{Decides}
use Rattle.cell_types.specs.Communications.{Communication, Writes, Reads, Takes, Emits, same_communication}
use Rattle.comm_sequence.specs.contracts.entry.EntryPartialEq.TheImpl.{eq-value}
use Rattle.comm_sequence.specs.Differing.{same_list}
use Rattle.comm_sequence.specs.bodies.Unrolling.{communication_of}
use Rattle.comm_sequence.specs.declared.entry.Entry.{Entry}
use Rattle.comm_sequence.specs.declared.entry.Entry.TheVariants as E
use Rattle.comm_sequence.proofs.Entries.{same_entry}

-- two communications are equal where the test says so
pub same_is : (a b : Communication) → Decides (same_communication a b) (a ≡ b)
same_is (Writes m) (Writes n) = ((λ t. ap Writes ((Decides-eqb m n).0 t)), λ e. (Decides-eqb m n).1 (cc e))
same_is (Writes m) (Reads n) = ((λ t. absurd (cc t)), λ e. absurd (cc e))
same_is (Writes m) Takes = ((λ t. absurd (cc t)), λ e. absurd (cc e))
same_is (Writes m) Emits = ((λ t. absurd (cc t)), λ e. absurd (cc e))
same_is (Reads m) (Writes n) = ((λ t. absurd (cc t)), λ e. absurd (cc e))
same_is (Reads m) (Reads n) = ((λ t. ap Reads ((Decides-eqb m n).0 t)), λ e. (Decides-eqb m n).1 (cc e))
same_is (Reads m) Takes = ((λ t. absurd (cc t)), λ e. absurd (cc e))
same_is (Reads m) Emits = ((λ t. absurd (cc t)), λ e. absurd (cc e))
same_is Takes (Writes n) = ((λ t. absurd (cc t)), λ e. absurd (cc e))
same_is Takes (Reads n) = ((λ t. absurd (cc t)), λ e. absurd (cc e))
same_is Takes Takes = ((λ t. refl), λ e. refl)
same_is Takes Emits = ((λ t. absurd (cc t)), λ e. absurd (cc e))
same_is Emits (Writes n) = ((λ t. absurd (cc t)), λ e. absurd (cc e))
same_is Emits (Reads n) = ((λ t. absurd (cc t)), λ e. absurd (cc e))
same_is Emits Takes = ((λ t. absurd (cc t)), λ e. absurd (cc e))
same_is Emits Emits = ((λ t. refl), λ e. refl)

-- a list is the same as itself
pub same_self : (xs : List Communication) → same_list xs xs ≡ true
same_self [] = refl
same_self (x ∷ xs) =
    ap (λ b. b && same_list xs xs) ((same_is x x).1 refl) ∙ same_self xs

-- lists that the test calls the same are equal
pub same_equal : (xs ys : List Communication) → same_list xs ys ≡ true → xs ≡ ys
same_equal [] [] t = refl
same_equal [] (y ∷ ys) t = absurd (cc t)
same_equal (x ∷ xs) [] t = absurd (cc t)
same_equal (x ∷ xs) (y ∷ ys) t =
    ap (λ z. z ∷ xs) ((same_is x y).0 (first_so (same_communication x y) (same_list xs ys) t))
    ∙ ap (λ zs. y ∷ zs) (same_equal xs ys (second_so (same_communication x y) (same_list xs ys) t))

-- the entry of a communication
abbrev entry_of : Communication → Entry
entry_of (Writes m) = E.Write m
entry_of (Reads m) = E.Read m
entry_of Takes = E.Take
entry_of Emits = E.Emit

-- an entry is that of its communication
back : (e : Entry) → entry_of (communication_of e) ≡ e
back (E.Write m) = refl
back (E.Read m) = refl
back E.Take = refl
back E.Emit = refl

-- the test of entries is that of their communications
pub same_test : (a b : Entry) (r : Bool) → r ≡ eq-value.it a b → r ≡ same_communication (communication_of a) (communication_of b)
same_test a b r e =
    e ∙ same_from_decides (eq-value.it a b) (same_communication (communication_of a) (communication_of b)) (same_entry a b) (
      (λ t. sym (back a) ∙ ap entry_of ((same_is (communication_of a) (communication_of b)).0 t) ∙ back b),
      λ same. (same_is (communication_of a) (communication_of b)).1 (ap communication_of same),
    )
