-- What `==` of entries decides.
use Rattle.std.proofs.Common.{◌≡◌, refl, rules}
use Rattle.std.proofs.lemmas.Bool.Decides.{Decides-eqb}
use Rattle.std.specs.Bool.{Decides}
use Rattle.comm_sequence.specs.contracts.entry.EntryPartialEq.TheImpl.{eq-value}
use Rattle.comm_sequence.specs.declared.entry.Entry.{Entry}
use Rattle.comm_sequence.specs.declared.entry.Entry.TheVariants as E

-- two entries are equal where the test says so
pub same_entry : (a b : Entry) → Decides (eq-value.it a b) (a ≡ b)
same_entry (E.Write m) (E.Write n) = ((λ t. search (rules, Decides-eqb)), λ e. search (rules, Decides-eqb))
same_entry (E.Write m) (E.Read n) = ((λ t. cc t), λ e. absurd (cc e))
same_entry (E.Write m) E.Take = ((λ t. cc t), λ e. absurd (cc e))
same_entry (E.Write m) E.Emit = ((λ t. cc t), λ e. absurd (cc e))
same_entry (E.Read m) (E.Write n) = ((λ t. cc t), λ e. absurd (cc e))
same_entry (E.Read m) (E.Read n) = ((λ t. search (rules, Decides-eqb)), λ e. search (rules, Decides-eqb))
same_entry (E.Read m) E.Take = ((λ t. cc t), λ e. absurd (cc e))
same_entry (E.Read m) E.Emit = ((λ t. cc t), λ e. absurd (cc e))
same_entry E.Take (E.Write n) = ((λ t. cc t), λ e. absurd (cc e))
same_entry E.Take (E.Read n) = ((λ t. cc t), λ e. absurd (cc e))
same_entry E.Take E.Take = ((λ t. refl), λ e. refl)
same_entry E.Take E.Emit = ((λ t. cc t), λ e. absurd (cc e))
same_entry E.Emit (E.Write n) = ((λ t. cc t), λ e. absurd (cc e))
same_entry E.Emit (E.Read n) = ((λ t. cc t), λ e. absurd (cc e))
same_entry E.Emit E.Take = ((λ t. cc t), λ e. absurd (cc e))
same_entry E.Emit E.Emit = ((λ t. refl), λ e. refl)
