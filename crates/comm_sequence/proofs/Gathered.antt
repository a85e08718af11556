-- What is gathered from the communications of cells is sequences, and for a program it is the program's.
use Rattle.std.proofs.Common.{◌≡◌, ◌≢◌, ℕ, zero, suc, ◌+◌, ◌*◌, ◌^◌, ◌<◌, ◌≤◌, List, [], ◌∷◌, length, get_or, map, ap, sym, subst, refl, ◌∙◌, arith}
use Rattle.std.proofs.Math.Nat.{mul-le-mul}
use Rattle.std.proofs.lemmas.List.{length-map}
use Rattle.std.proofs.lemmas.List.Elements.{All-nil, All-cons, All-head, All-tail, All-map, All-weaker}
use Rattle.std.proofs.lemmas.List.FromFn.{length-map-range_with_len, get_or-map-range_with_len}
use Rattle.std.proofs.lemmas.List.Sums.{sum_by-cons, sum_by-le-sum_by, get_or-le-sum_by}
use Rattle.std.specs.List.{All, count_by, flat_map, sum_by}
use Rattle.std.specs.Option.{option_map_or}
use Rattle.sys_base.specs.declared.limits.TheConstants.{STEPS}
use Rattle.cell_types.specs.Code.{CellCode, ProgramCode}
use Rattle.cell_types.specs.Communications.{Communication, Writes, Takes, Emits, communications, times}
use Rattle.cell_types.specs.Cost.{cells_cost}
use Rattle.cell_types.specs.Groups.{below}
use Rattle.cell_types.specs.Sound.{IsSound, IsSoundMessage}
use Rattle.cell_types.specs.declared.program.Message.{Message}
use Rattle.comm_sequence.specs.Gathered.{gathered, AreCommunications}
use Rattle.comm_sequence.specs.Parts.{communication, unrolled}
use Rattle.comm_sequence.specs.Sequences.{Sequences, IsAtItsEnd, IsSequences, comms, message_of, sequences_of, writes}
use Rattle.comm_sequence.specs.bodies.Walking.{from_trees, operations, IsWritten}
use Rattle.comm_sequence.specs.declared.comm.Comm.{Comm}
use Rattle.comm_sequence.specs.declared.comm.Comm.TheVariants as C
use Rattle.comm_sequence.specs.declared.part.Part.{Part}
use Rattle.comm_sequence.proofs.Below.{at_below}
use Rattle.comm_sequence.proofs.Cells.{of_code}
use Rattle.comm_sequence.proofs.Counted.{AreFew, counted_comms, fewer, sum_mapped, sum_within}
use Rattle.comm_sequence.proofs.Grown.{comms_back}
use Rattle.comm_sequence.proofs.SoundSequences.{lists_are, lists_on, lists_own, lists_long}
use Rattle.comm_sequence.proofs.TreeCounts.{times_append}

-- a list that is mapped twice
map_twice : {A B D : Type 0} (f : B → D) (g : A → B) (xs : List A) → map f (map g xs) ≡ map (λ x. f (g x)) xs
map_twice f g [] = refl
map_twice f g (x ∷ xs) = ap (λ ys. f (g x) ∷ ys) (map_twice f g xs)

-- a list that is mapped by equal functions
map_same : {A B : Type 0} (f g : A → B) → ((x : A) → f x ≡ g x) → (xs : List A) → map f xs ≡ map g xs
map_same f g e [] = refl
map_same f g e (x ∷ xs) = ap (λ y. y ∷ map f xs) (e x) ∙ ap (λ ys. g x ∷ ys) (map_same f g e xs)

-- a sum of equal numbers
sum_same : {A : Type 0} (f g : A → ℕ) → ((x : A) → f x ≡ g x) → (xs : List A) → sum_by f xs ≡ sum_by g xs
sum_same f g e [] = refl
sum_same f g e (x ∷ xs) =
    sum_by-cons f x xs ∙ ap (λ k. k + sum_by f xs) (e x) ∙ ap (λ k. g x + k) (sum_same f g e xs) ∙ sym (sum_by-cons g x xs)

-- what holds of what elements are mapped to
pub all_unmap : {A B : Type 0} (Q : B → Type 0) (f : A → B) (xs : List A) → All Q (map f xs) → All (λ x. Q (f x)) xs
all_unmap Q f [] h = All-nil (λ x. Q (f x))
all_unmap Q f (x ∷ xs) h =
    All-cons (λ y. Q (f y)) x xs (All-head Q (f x) (map f xs) h) (all_unmap Q f xs (All-tail Q (f x) (map f xs) h))

-- the writes and reads of a cell
comms_at : (cells : List (List Communication)) (i : ℕ) → get_or (map comms cells) i [] ≡ comms (get_or cells i [])
comms_at [] i = refl
comms_at (c ∷ cells) zero = refl
comms_at (c ∷ cells) (suc i) = comms_at cells i

-- no more writes and reads than communications, in all cells
comms_few : (cells : List (List Communication)) → sum_by length (map comms cells) ≤ sum_by length cells
comms_few cells =
    omega (arith, sum_mapped length comms cells, sum_by-le-sum_by (λ list. length (comms list)) length cells fewer)

-- the writes of a message in all cells
writes_counted : (m : ℕ) (cells : List (List Communication))
    → sum_by (times (Writes m)) cells ≡ sum_by (count_by (writes m)) (map comms cells)
writes_counted m cells =
    sum_same (times (Writes m)) (λ list. count_by (writes m) (comms list)) (counted_comms m) cells
    ∙ sym (sum_mapped (count_by (writes m)) comms cells)

-- what is gathered is sequences
gathered_sound : (cells : List (List Communication)) (ends : List (ℕ × ℕ)) → AreCommunications cells ends
    → IsSequences (gathered cells ends)
gathered_sound cells ends h =
    let n : length (map comms cells) ≡ length cells = length-map cells comms in
    record {
      cells = omega (arith, n, h.cells);
      messages = h.messages;
      lengths = length-map-range_with_len (λ m. sum_by (times (Writes m)) cells) 0 (length ends);
      takes = length-map cells (times Takes) ∙ sym n;
      emits = length-map cells (times Emits) ∙ sym n;
      within = subst (λ k. All (λ (e : ℕ × ℕ). (e.0 < k) × (e.1 < k)) ends) (sym n) h.within;
      apart = h.apart;
      known = All-map (λ list. All (λ c. message_of c < length ends) list) comms cells h.known;
      owned = λ i lt. subst (All (IsAtItsEnd ends i)) (sym (comms_at cells i)) (h.owned i (omega (arith, lt, n)));
      counted = λ m lt.
          let within : m < length ends = omega (arith, lt, length-map-range_with_len (λ k. sum_by (times (Writes k)) cells) 0 (length ends)) in
          get_or-map-range_with_len (λ k. sum_by (times (Writes k)) cells) 0 (length ends) m m 0 within (omega arith) ∙ writes_counted m cells;
      few = omega (arith, comms_few cells, h.few);
    }

-- the writes and reads of operations
operations_comms : (xs : List Communication) → comms (operations xs) ≡ comms xs
operations_comms xs = comms_back (comms xs)

-- operations are written as often
operations_times : (m : ℕ) (xs : List Communication) → times (Writes m) (operations xs) ≡ times (Writes m) xs
operations_times m xs =
    counted_comms m (operations xs) ∙ ap (count_by (writes m)) (operations_comms xs) ∙ sym (counted_comms m xs)

-- the trees and the counts are what is gathered
pub trees_gathered : (cells : List (List Communication)) (ends : List (ℕ × ℕ)) (trees : List (List Part)) (lengths takes emits : List ℕ)
    (count : ℕ) → count ≡ length ends → map unrolled trees ≡ map operations cells
    → lengths ≡ map (λ m. sum_by (times (Writes m)) (map unrolled trees)) (below count)
    → takes ≡ map (times Takes) cells → emits ≡ map (times Emits) cells
    → from_trees trees lengths takes emits ends ≡ gathered cells ends
trees_gathered cells ends trees lengths takes emits count size lists long taken emitted =
    let q = gathered cells ends in
    let a : map (λ parts. comms (unrolled parts)) trees ≡ map comms cells =
    sym (map_twice comms unrolled trees) ∙ ap (map comms) lists ∙ map_twice comms operations cells
    ∙ map_same (λ xs. comms (operations xs)) comms operations_comms cells in
    let b : lengths ≡ map (λ m. sum_by (times (Writes m)) cells) (below (length ends)) =
    long ∙ ap (λ n. map (λ m. sum_by (times (Writes m)) (map unrolled trees)) (below n)) size
    ∙ map_same (λ m. sum_by (times (Writes m)) (map unrolled trees)) (λ m. sum_by (times (Writes m)) cells)
    (λ m. ap (sum_by (times (Writes m))) lists ∙ sum_mapped (times (Writes m)) operations cells
    ∙ sum_same (λ xs. times (Writes m) (operations xs)) (times (Writes m)) (operations_times m) cells) (below (length ends)) in
    ap (λ x. record { lists = x; lengths = lengths; takes = takes; emits = emits; ends = ends }) a
    ∙ ap (λ x. record { lists = q.lists; lengths = x; takes = takes; emits = emits; ends = ends }) b
    ∙ ap (λ x. record { lists = q.lists; lengths = q.lengths; takes = x; emits = emits; ends = ends }) taken
    ∙ ap (λ x. record { lists = q.lists; lengths = q.lengths; takes = q.takes; emits = x; ends = ends }) emitted

-- the trees and the counts are sequences
pub trees_sound : (cells : List (List Communication)) (ends : List (ℕ × ℕ)) (s : Sequences) → AreCommunications cells ends
    → s ≡ gathered cells ends → IsSequences s
trees_sound cells ends s h is = subst IsSequences (sym is) (gathered_sound cells ends h)

-- a write of a known message
known_written : (count : ℕ) (c : Comm) → message_of c < count → IsWritten count (communication c)
known_written count (C.Write m) h = h
known_written count (C.Read m) h = tt

-- the messages of the trees have lengths
pub trees_written : (cells : List (List Communication)) (ends : List (ℕ × ℕ)) (trees : List (List Part)) (count : ℕ)
    → count ≡ length ends → map unrolled trees ≡ map operations cells → AreCommunications cells ends
    → All (All (IsWritten count)) (map unrolled trees)
trees_written cells ends trees count size lists h =
    let K : List Communication → Type 0 = λ list. All (λ c. message_of c < length ends) (comms list) in
    let W : List Communication → Type 0 = λ list. All (IsWritten (length ends)) (operations list) in
    let all : All (All (IsWritten (length ends))) (map operations cells) =
    All-map (All (IsWritten (length ends))) operations cells (All-weaker K W (λ list k.
    All-map (IsWritten (length ends)) communication (comms list)
    (All-weaker (λ c. message_of c < length ends) (λ c. IsWritten (length ends) (communication c)) (known_written (length ends)) (comms list) k))
    cells h.known) in
    subst (λ n. All (All (IsWritten n)) (map unrolled trees)) (sym size) (subst (All (All (IsWritten (length ends)))) (sym lists) all)

-- the trees have no more entries than the cells have communications
pub trees_few : (cells : List (List Communication)) (ends : List (ℕ × ℕ)) (trees : List (List Part))
    → map unrolled trees ≡ map operations cells → AreCommunications cells ends → sum_by length (map unrolled trees) < 2 ^ 32
trees_few cells ends trees lists h =
    let le : sum_by (λ xs. length (operations xs)) cells ≤ sum_by length cells =
    sum_by-le-sum_by (λ xs. length (operations xs)) length cells (λ xs. omega (arith, length-map (comms xs) communication, fewer xs)) in
    omega (arith, ap (sum_by length) lists, sum_mapped length operations cells, le, h.few)

-- the communications of each cell are few
pub each_few : (cells : List (List Communication)) (ends : List (ℕ × ℕ)) → AreCommunications cells ends
    → All (λ list. length list < 2 ^ 32) cells
each_few cells ends h = λ k d lt. omega (arith, get_or-le-sum_by length cells k d lt, h.few)

-- the writes and reads of a program's cells
program_lists : (p : ProgramCode) → (sequences_of p).lists ≡ map comms (map of_code p.cells)
program_lists p = lists_are p ∙ sym (map_twice comms of_code p.cells)

-- the cells of a sound program within the limit communicate so
pub sound_communications : AreFew → (p : ProgramCode) → IsSound p → cells_cost p ≤ STEPS
    → AreCommunications (map of_code p.cells) (sequences_of p).ends
sound_communications few p sound cheap =
    let n : length (map of_code p.cells) ≡ length p.cells = length-map p.cells of_code in
    let all = sound.all in
    let grid = sound.grid in
    let area : p.grid.rows * p.grid.cols ≤ 16 * 16 = mul-le-mul grid.most_rows grid.most_cols in
    let Q : _ → Type 0 = λ (list : List Comm). All (λ c. message_of c < length (sequences_of p).ends) list in
    record {
      cells = omega (arith, area, all, n);
      messages = subst (λ k. k ≤ 512) (sym (length-map p.messages _)) sound.few;
      within = All-map (λ (e : ℕ × ℕ). (e.0 < length (map of_code p.cells)) × (e.1 < length (map of_code p.cells)))
          (λ (m : Message). (m.from, m.to)) p.messages
          (All-weaker (IsSoundMessage p.grid)
          (λ (m : Message). (m.from < length (map of_code p.cells)) × (m.to < length (map of_code p.cells)))
          (λ m s. (omega (arith, s.sender, n, all), omega (arith, s.receiver, n, all))) p.messages sound.messages);
      apart = All-map (λ (e : ℕ × ℕ). e.0 ≢ e.1) (λ (m : Message). (m.from, m.to)) p.messages
          (All-weaker (IsSoundMessage p.grid) (λ (m : Message). m.from ≢ m.to) (λ m s. s.apart) p.messages sound.messages);
      known = all_unmap Q comms (map of_code p.cells) (subst (All Q) (program_lists p) (lists_on p sound));
      owned = λ i lt.
          subst (All (IsAtItsEnd (sequences_of p).ends i))
          (ap (λ ls. get_or ls i []) (program_lists p) ∙ comms_at (map of_code p.cells) i)
          (lists_own p sound i (omega (arith, lt, n, lists_long p)));
      few = omega (arith, sum_mapped length of_code p.cells, sum_within p.cells (λ c. length (of_code c)) (λ c. few c.body), cheap);
    }

-- a communication in all cells
flat_times : (x : Communication) (cells : List CellCode) → times x (flat_map of_code cells) ≡ sum_by (times x) (map of_code cells)
flat_times x [] = refl
flat_times x (c ∷ cells) =
    times_append x (of_code c) (flat_map of_code cells) ∙ ap (λ k. times x (of_code c) + k) (flat_times x cells)
    ∙ sym (sum_by-cons (times x) (of_code c) (map of_code cells))

-- what is gathered for a program is the program's sequences
pub program_gathered : (p : ProgramCode) → gathered (map of_code p.cells) (sequences_of p).ends ≡ sequences_of p
program_gathered p =
    let s = gathered (map of_code p.cells) (sequences_of p).ends in
    let q = sequences_of p in
    let b : s.lengths ≡ q.lengths =
    ap (λ n. map (λ m. sum_by (times (Writes m)) (map of_code p.cells)) (below n)) (length-map p.messages _)
    ∙ map_same (λ m. sum_by (times (Writes m)) (map of_code p.cells)) (λ m. times (Writes m) (flat_map of_code p.cells))
    (λ m. sym (flat_times (Writes m) p.cells)) (below (length p.messages)) in
    ap (λ x. record { lists = x; lengths = s.lengths; takes = s.takes; emits = s.emits; ends = s.ends }) (sym (program_lists p))
    ∙ ap (λ x. record { lists = q.lists; lengths = x; takes = s.takes; emits = s.emits; ends = s.ends }) b
    ∙ ap (λ x. record { lists = q.lists; lengths = q.lengths; takes = x; emits = s.emits; ends = s.ends }) (counted_at p Takes)
    ∙ ap (λ x. record { lists = q.lists; lengths = q.lengths; takes = q.takes; emits = x; ends = s.ends }) (counted_at p Emits)
  where
    counted_at : (p : ProgramCode) (x : Communication)
        → map (times x) (map of_code p.cells) ≡ map (λ cell. times x (communications p cell)) (below (length p.cells))
    counted_at p x =
        map_twice (times x) of_code p.cells
        ∙ sym (at_below p.cells (λ cell. times x (communications p cell)) (λ c. times x (of_code c))
        (λ i c at. ap (λ o. times x (option_map_or of_code o [])) at))
