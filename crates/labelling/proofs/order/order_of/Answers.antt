use Rattle.std.proofs.Common.{◌≡◌, ℕ, ◌↔◌, List, ◌++◌, length, take, drop, ap, sym, subst, arith}
use Rattle.std.specs.Bool.{IsTrue}
use Rattle.comm_sequence.specs.Labels.{IsTable}
use Rattle.labelling.proofs.Closed.{below_from_sequences, closed_is_table}
use Rattle.labelling.proofs.Tables.{written_back, none_before}
use Rattle.labelling.specs.bodies.Sets.{is_before, Through}
use Rattle.labelling.specs.declared.sets.MessageSet.{MessageSet}
use Rattle.labelling.proofs.order.order_of.Goals as goal

pub close-requires : goal.close-requires
close-requires c =
    let few = c.in_ok-sets.ensures.kept.messages in
    let size = c.in_ok-sets.ensures.len in
    let same = ap length c.deref_mut.ensures.value in
    omega arith

pub returns-clause-order : goal.returns-clause-order
returns-clause-order c =
    let s = c.args.seqs.now in
    let near = c.in_ok-sets.sets.items in
    let closed = c.close.new.sets in
    let lent = c.deref_mut.ensures.value in
    let size = c.in_ok-sets.ensures.len in
    let P : List MessageSet → Type 0 = λ sets. IsTable s.lists (length s.ends) (is_before sets) in
    let Closes : List MessageSet → ℕ → Type 0 = λ sets n. (a b : ℕ) → (IsTrue (is_before closed a b) ↔ Through (is_before sets) n a b) in
    let Over : List MessageSet → Type 0 = λ sets. Closes sets (length sets) in
    let closes : Closes near (length s.ends) = subst (Closes near) size (subst Over lent c.close.ensures) in
    let same = ap length lent in
    let e : take c.in_ok-sets.sets.len (closed ++ drop (length closed) near) ≡ closed =
    written_back c.in_ok-sets.sets.len closed near (omega arith) (omega arith) in
    subst P (sym e)
    (closed_is_table s.lists (length s.ends) (below_from_sequences s c.in_ok-sets.ensures.kept) (is_before near) (is_before closed)
    c.in_ok-sets.ensures.sets (λ a b le. none_before near a b (omega arith)) closes)
