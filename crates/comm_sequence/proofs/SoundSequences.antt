-- The sequences of a sound program within the limit keep what the type of sequences keeps.
use Rattle.std.proofs.Common.{◌≡◌, ◌≢◌, ℕ, ◌*◌, ◌<◌, ◌≤◌, [], length, get_or, map, ap, sym, subst, ◌∙◌, arith}
use Rattle.std.proofs.Math.Nat.{mul-le-mul}
use Rattle.std.proofs.lemmas.List.{length-map}
use Rattle.std.proofs.lemmas.List.Elements.{All-map, All-weaker, All-from_get_or}
use Rattle.std.proofs.lemmas.List.FromFn.{length-map-range_with_len, get_or-map-range_with_len}
use Rattle.std.specs.List.{All, count_by, slice_get, sum_by}
use Rattle.std.specs.Option.{option_map_or}
use Rattle.sys_base.specs.declared.limits.TheConstants.{STEPS}
use Rattle.cell_types.specs.Code.{ProgramCode}
use Rattle.cell_types.specs.Communications.{communications, length_of, takes_of, emits_of}
use Rattle.cell_types.specs.Cost.{cells_cost}
use Rattle.cell_types.specs.Sound.{IsSound, IsSoundMessage}
use Rattle.cell_types.specs.declared.program.Message.{Message}
use Rattle.comm_sequence.specs.Sequences.{IsSequences, IsAtItsEnd, comms, message_of, sequences_of, writes}
use Rattle.comm_sequence.proofs.Below.{at_below}
use Rattle.comm_sequence.proofs.Cells.{of_code}
use Rattle.comm_sequence.proofs.Counted.{AreFew, counted_cells, fewer, sum_mapped, sum_within}
use Rattle.comm_sequence.proofs.Owned.{ends_of, on_message, own_at}

-- the writes and reads of the cells, one list for each
pub lists_are : (p : ProgramCode) → (sequences_of p).lists ≡ map (λ c. comms (of_code c)) p.cells
lists_are p =
    at_below p.cells (λ cell. comms (communications p cell)) (λ c. comms (of_code c))
    (λ i c at. ap (λ o. comms (option_map_or of_code o [])) at)

-- how many lists there are
pub lists_long : (p : ProgramCode) → length (sequences_of p).lists ≡ length p.cells
lists_long p = length-map-range_with_len (λ cell. comms (communications p cell)) 0 (length p.cells)

-- all lists together are within the cost
pub lists_few : AreFew → (p : ProgramCode) → sum_by length (sequences_of p).lists ≤ cells_cost p
lists_few few p =
    let e : sum_by length (sequences_of p).lists ≡ sum_by (λ c. length (comms (of_code c))) p.cells =
    ap (sum_by length) (lists_are p) ∙ sum_mapped length (λ c. comms (of_code c)) p.cells in
    let h : sum_by (λ c. length (comms (of_code c))) p.cells ≤ cells_cost p =
    sum_within p.cells (λ c. length (comms (of_code c))) (λ c. omega (arith, fewer (of_code c), few c.body)) in
    omega (arith, e, h)

-- the list of a cell is its own
pub lists_own : (p : ProgramCode) → IsSound p → (i : ℕ) → i < length (sequences_of p).lists
    → All (IsAtItsEnd (sequences_of p).ends i) (get_or (sequences_of p).lists i [])
lists_own p sound i lt =
    let n : i < length p.cells = omega (arith, lt, lists_long p) in
    let e : get_or (sequences_of p).lists i [] ≡ comms (communications p i) =
    get_or-map-range_with_len (λ cell. comms (communications p cell)) 0 (length p.cells) i i [] n (omega arith) in
    subst (All (IsAtItsEnd (ends_of p.messages) i)) (sym e)
    (own_at p.messages i (slice_get p.cells i) (λ c at. sound.cells i c at))

-- each entry of the lists is on a message
pub lists_on : (p : ProgramCode) → IsSound p
    → All (λ list. All (λ c. message_of c < length (sequences_of p).ends) list) (sequences_of p).lists
lists_on p sound =
    All-from_get_or (λ list. All (λ c. message_of c < length (sequences_of p).ends) list) (sequences_of p).lists []
    (λ i lt. All-weaker (IsAtItsEnd (sequences_of p).ends i) (λ c. message_of c < length (sequences_of p).ends)
    (λ c h. on_message (sequences_of p).ends i c h) (get_or (sequences_of p).lists i []) (lists_own p sound i lt))

-- the length of a message is how often the lists write it
pub lengths_count : (p : ProgramCode) (m : ℕ) → length_of p m ≡ sum_by (count_by (writes m)) (sequences_of p).lists
lengths_count p m = counted_cells m p.cells ∙ ap (sum_by (count_by (writes m))) (sym (lists_are p))

-- the sequences of a sound program within the limit are what the type keeps
pub sound_sequences : AreFew → (p : ProgramCode) → IsSound p → cells_cost p ≤ STEPS → IsSequences (sequences_of p)
sound_sequences few p sound cheap =
    let n = lists_long p in
    let all = sound.all in
    let grid = sound.grid in
    let area : p.grid.rows * p.grid.cols ≤ 16 * 16 = mul-le-mul grid.most_rows grid.most_cols in
    let cells : length p.cells ≤ 256 = omega (arith, area, all) in
    record {
      cells = omega (arith, n, cells);
      messages = subst (λ k. k ≤ 512) (sym (length-map p.messages _)) sound.few;
      lengths = length-map-range_with_len (length_of p) 0 (length p.messages) ∙ sym (length-map p.messages _);
      takes = length-map-range_with_len (takes_of p) 0 (length p.cells) ∙ sym n;
      emits = length-map-range_with_len (emits_of p) 0 (length p.cells) ∙ sym n;
      within = All-map (λ (e : ℕ × ℕ). (e.0 < length (sequences_of p).lists) × (e.1 < length (sequences_of p).lists))
          (λ (m : Message). (m.from, m.to)) p.messages
          (All-weaker (IsSoundMessage p.grid)
          (λ (m : Message). (m.from < length (sequences_of p).lists) × (m.to < length (sequences_of p).lists))
          (λ m s. (omega (arith, s.sender, n, all), omega (arith, s.receiver, n, all))) p.messages sound.messages);
      apart = All-map (λ (e : ℕ × ℕ). e.0 ≢ e.1) (λ (m : Message). (m.from, m.to)) p.messages
          (All-weaker (IsSoundMessage p.grid) (λ (m : Message). m.from ≢ m.to) (λ m s. s.apart) p.messages sound.messages);
      known = lists_on p sound;
      owned = lists_own p sound;
      counted = λ m lt.
          let within : m < length p.messages = omega (arith, lt, length-map-range_with_len (length_of p) 0 (length p.messages)) in
          get_or-map-range_with_len (length_of p) 0 (length p.messages) m m 0 within (omega arith) ∙ lengths_count p m;
      few = omega (arith, lists_few few p, cheap);
    }
