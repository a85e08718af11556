-- The steps over the parts of cells.
use Rattle.std.proofs.Common.{◌≡◌, ℕ, ◌+◌, ◌^◌, ◌<◌, ◌≤◌, List, [], ◌∷◌, ◌++◌, length, get_or, map, take, ap, sym, subst, ◌∙◌, arith}
use Rattle.std.proofs.lemmas.List.{map-append, take_more}
use Rattle.std.proofs.lemmas.List.Elements.{All-nil, All-cons, All-append, All-get_or}
use Rattle.std.proofs.lemmas.List.Sums.{sum_by_more_le_part, get_or-le-sum_by}
use Rattle.std.specs.Global.{Vec}
use Rattle.std.specs.List.{All, slice_index, sum_by}
use Rattle.cell_types.specs.Communications.{Writes, times}
use Rattle.comm_sequence.specs.Gathered.{all_unrolled}
use Rattle.comm_sequence.specs.Parts.{communication, unrolled, loops}
use Rattle.comm_sequence.specs.Sequences.{comms}
use Rattle.comm_sequence.specs.bodies.Walking.{operations, AreOperations, AreWalked, CanAdd, IsWritten}
use Rattle.comm_sequence.specs.declared.part.Part.{Part}
use Rattle.comm_sequence.proofs.Counted.{sum_mapped}
use Rattle.comm_sequence.proofs.Gathered.{all_unmap}
use Rattle.comm_sequence.proofs.Grown.{comms_back}
use Rattle.comm_sequence.proofs.TreeCounts.{times_within}

-- what is added to a list of which all holds
pub all_more : {X : Type 0} (Q : X → Type 0) (xs : List X) (x : X) → All Q xs → Q x → All Q (xs ++ x ∷ [])
all_more Q xs x all one = All-append Q xs (x ∷ []) all (All-cons Q x [] one (All-nil Q))

-- the writes and reads of parts that are not too deep are walked
pub walked_of : (parts kept : List Part) → AreOperations parts kept → loops parts ≤ 16 → AreWalked kept
walked_of parts kept h deep =
    record {
      room = (omega (arith, h.room, deep), h.full);
      alone = ap operations h.list ∙ ap (map communication) (comms_back (comms (unrolled parts))) ∙ sym h.list;
    }

-- the trees of one cell more
pub lists_more : (cells : List (Vec Part)) (i : ℕ) (d : Vec Part) (trees : List (List Part)) (kept : List Part) → i < length cells
    → map unrolled trees ≡ map operations (all_unrolled (take i cells)) → AreOperations (get_or cells i d).items kept
    → map unrolled (trees ++ kept ∷ []) ≡ map operations (all_unrolled (take (i + 1) cells))
lists_more cells i d trees kept lt so_far h =
    map-append unrolled trees (kept ∷ []) ∙ ap (λ xs. xs ++ unrolled kept ∷ []) so_far
    ∙ ap (λ x. map operations (all_unrolled (take i cells)) ++ x ∷ []) h.list
    ∙ sym (map-append operations (all_unrolled (take i cells)) (unrolled (get_or cells i d).items ∷ []))
    ∙ ap (map operations) (sym (map-append (λ (p : Vec Part). unrolled p.items) (take i cells) (get_or cells i d ∷ [])))
    ∙ ap (λ cs. map operations (all_unrolled cs)) (sym (take_more cells i d lt))

-- the communications of a cell are few
pub cell_few : (cells : List (Vec Part)) (i : ℕ) (d : Vec Part) → i < length cells
    → All (λ list. length list < 2 ^ 32) (all_unrolled cells) → length (unrolled (get_or cells i d).items) < 2 ^ 32
cell_few cells i d lt h =
    All-get_or (λ (p : Vec Part). length (unrolled p.items) < 2 ^ 32) cells i d lt
    (all_unmap (λ list. length list < 2 ^ 32) (λ (p : Vec Part). unrolled p.items) cells h)

-- there is room for the writes of one tree more
pub can_add_tree : (trees : List (List Part)) (i count : ℕ) (d : List Part) (now : List ℕ) → i < length trees → length now ≡ count
    → All (All (IsWritten count)) (map unrolled trees) → sum_by length (map unrolled trees) < 2 ^ 32
    → ((m : ℕ) → m < count → slice_index now m ≡ sum_by (times (Writes m)) (map unrolled (take i trees)))
    → CanAdd now 1 (unrolled (get_or trees i d))
can_add_tree trees i count d now lt size known few so_far =
    let size_of : List Part → ℕ = λ t. length (unrolled t) in
    let all : sum_by size_of trees < 2 ^ 32 = omega (arith, sum_mapped length unrolled trees, few) in
    record {
      messages = subst (λ n. All (IsWritten n) (unrolled (get_or trees i d))) (sym size)
          (All-get_or (λ t. All (IsWritten count) (unrolled t)) trees i d lt (all_unmap (All (IsWritten count)) unrolled trees known));
      some = λ e. absurd (omega (arith, e));
      few = omega (arith, get_or-le-sum_by size_of trees i d lt, all);
      room = λ m below.
          let part : sum_by (λ t. times (Writes m) (unrolled t)) (take i trees) + size_of (get_or trees i d) ≤ sum_by size_of trees =
          sum_by_more_le_part (λ t. times (Writes m) (unrolled t)) size_of trees i d lt (λ t. times_within (Writes m) (unrolled t)) in
          omega (arith, part, all, so_far m (omega (arith, below, size)), sum_mapped (times (Writes m)) unrolled (take i trees));
    }
