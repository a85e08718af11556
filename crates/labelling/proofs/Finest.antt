-- Messages with equal proposed labels have equal labels wherever labels are consistent.
use Rattle.std.proofs.Common.{◌≡◌, ℕ, ◌<◌, ◌≤◌, List, le_trans, arith}
use Rattle.std.specs.List.{slice_index}
use Rattle.comm_sequence.specs.Labels.{IsConsistent, Must, IsProposal}
use Rattle.comm_sequence.specs.Labels.Must.{Alone, Before}
use Rattle.comm_sequence.specs.declared.comm.Comm.{Comm}
use Rattle.labelling.proofs.Proposals.{equal_labels}

-- consistent labels rise along a chain of neighbours
rising : (lists : List (List Comm)) (labels : List ℕ) → IsConsistent lists labels → (a b : ℕ) → Must lists a b
    → slice_index labels a ≤ slice_index labels b
rising lists labels is _ _ (Alone a) = omega arith
rising lists labels is _ _ (Before a b c next h) = le_trans (is a b next) (rising lists labels is b c h)

-- so each must be at most the other where the proposed labels are equal
pub finest : (lists : List (List Comm)) (count : ℕ) (proposed labels : List ℕ) (a b : ℕ) → a < count → b < count
    → IsProposal lists count proposed → IsConsistent lists labels → slice_index proposed a ≡ slice_index proposed b
    → slice_index labels a ≡ slice_index labels b
finest lists count proposed labels a b la lb is consistent same =
    let both = (equal_labels lists count proposed a b la lb is).0 same in
    let up = rising lists labels consistent a b both.0 in
    let down = rising lists labels consistent b a both.1 in
    omega arith
