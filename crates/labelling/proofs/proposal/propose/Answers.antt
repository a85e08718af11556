use Rattle.std.proofs.Common.{◌≡◌, ℕ, List, subst, arith, length}
use Rattle.std.proofs.lemmas.Result.{IfOk-weaker}
use Rattle.std.specs.Result.{IfOk}
use Rattle.comm_sequence.specs.Labels.{IsProposal}
use Rattle.comm_sequence.specs.declared.comm.Comm.{Comm}
use Rattle.labelling.specs.bodies.Ranks.{AreKeys}
use Rattle.labelling.proofs.Firsts.{keys_by_sets}
use Rattle.labelling.proofs.proposal.propose.Goals as goal

pub ranks-requires : goal.ranks-requires
ranks-requires c =
    let s = c.args.seqs.now in
    let few = c.in_ok-sets.ensures.few in
    let all = keys_by_sets s.lists c.args.count (length s.ends) c.in_ok-sets.sets.items c.deref.result.now c.in_ok-keys.keys.items
    c.deref-2.result.now c.in_ok-sets.ensures.order c.requires c.in_ok-sets.ensures.len c.deref.ensures.value c.deref-2.ensures.value
    c.in_ok-keys.ensures.keys in
    let size : length c.deref-2.result.now ≡ c.args.count = all.0 in
    omega arith

pub returns : goal.returns
returns c =
    let s = c.args.seqs.now in
    let all = keys_by_sets s.lists c.args.count (length s.ends) c.in_ok-sets.sets.items c.deref.result.now c.in_ok-keys.keys.items
    c.deref-2.result.now c.in_ok-sets.ensures.order c.requires c.in_ok-sets.ensures.len c.deref.ensures.value c.deref-2.ensures.value
    c.in_ok-keys.ensures.keys in
    let n = length c.deref-2.result.now in
    let P : ℕ → Type 0 = λ k. IfOk c.ranks.result (λ labels. IsProposal s.lists k labels.items) in
    subst P all.0
    (IfOk-weaker c.ranks.result (λ labels. (lists : List (List Comm)) → AreKeys lists n c.deref-2.result.now → IsProposal lists n labels.items)
    (λ labels. IsProposal s.lists n labels.items) (λ labels h. h s.lists all.1) c.ranks.ensures)
