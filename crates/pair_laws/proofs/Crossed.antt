-- The writes and then the reads of the pairs, in order, are an order of the program for no buffer.
use Rattle.std.proofs.Common.{◌≡◌, ℕ, zero, suc, ◌+◌, ◌<◌, ◌++◌, Bool, true, false, cond, filter, List, [], ◌∷◌, Some, map, length, refl, sym, subst, ap, ap₂, ◌∙◌, arith, append_assoc, slice_get}
use Rattle.std.specs.Prelude.{nat_eq, if◌then◌else◌}
use Rattle.std.specs.List.{flat_map, filter_map, All, range_with_len, slice_index_or}
use Rattle.std.specs.Option.{option_map_or}
use Rattle.std.proofs.lemmas.List.{length-map}
use Rattle.std.proofs.lemmas.List.Elements.{All-head, All-tail, All-cons, filter-append, filter_map-append}
use Rattle.std.proofs.lemmas.List.FromFn.{get_or-map-range_with_len, length-map-range_with_len}
use Rattle.sys_base.specs.Groups.{below}
use Rattle.cell_types.specs.Code.{ProgramCode}
use Rattle.cell_types.specs.Communications.{Writes, Reads, Emits, block_communications, communications}
use Rattle.cell_types.specs.Resolved.{resolved_program}
use Rattle.cell_types.specs.declared.program.Message.{Message}
use Rattle.comm_sequence.specs.BufferedOrder.{sends, receives, is_of, IsBufferedOrder, KeepsBuffer}
use Rattle.comm_sequence.specs.Sequences.{comm_of, comms, message_of, sequences_of}
use Rattle.comm_sequence.specs.declared.comm.Comm.{Comm}
use Rattle.comm_sequence.specs.declared.comm.Comm.TheVariants.{Write, Read}
use Rattle.pair_gen.specs.Generated.{sender, receiver}
use Rattle.pair_laws.specs.Crossings.{crossing, crossings}
use Rattle.pair_laws.specs.bodies.Paired.{paired}
use Rattle.pair_laws.proofs.Order.{kept, whole, prefix}
use Rattle.pair_laws.proofs.Program.{body_code, bodies_are, pair_made, made_of, body_made}
use Rattle.pair_laws.proofs.Same.{IsBare, made_at, own_made, same_made}

-- an element of what is made of the numbers from one on
made_from : {X : Type 0} (f : ℕ → X) (n from i : ℕ) → i < n → slice_get (map f (range_with_len from n)) i ≡ Some (f (from + i))
made_from f zero from i within = absurd (omega arith)
made_from f (suc n) from zero within = ap (λ k. Some (f k)) (omega arith)
made_from {X} f (suc n) from (suc i) within =
    let same : from + 1 + i ≡ from + suc i = omega arith in
    made_from f n (from + 1) i (omega arith) ∙ ap (λ k. Some (f k)) same

-- and of the numbers below one
pub made_below : {X : Type 0} (f : ℕ → X) (n i : ℕ) → i < n → slice_get (map f (below n)) i ≡ Some (f i)
made_below f n i within =
    let same : 0 + i ≡ i = omega arith in
    made_from f n 0 i within ∙ ap (λ k. Some (f k)) same

-- the ends of the messages
abbrev pub pair_ends : List (ℕ × ℕ)
pair_ends = map (λ m. (sender m, receiver m)) (below 24)

-- what a cell writes and reads in a pair
abbrev pub pair_comms : ℕ → ℕ → List Comm
pair_comms cell m = (if nat_eq (sender m) cell then Write m ∷ [] else []) ++ (if nat_eq (receiver m) cell then Read m ∷ [] else [])

one_each : (b c : Bool) (m : ℕ) → filter_map comm_of ((if b then Writes m ∷ [] else []) ++ (if c then Reads m ∷ [] else []))
    ≡ (if b then Write m ∷ [] else []) ++ (if c then Read m ∷ [] else [])
one_each true true m = refl
one_each true false m = refl
one_each false true m = refl
one_each false false m = refl

-- what it writes and reads in all
cell_comms : (cell : ℕ) (ms : List ℕ) → comms (made_of ms cell) ≡ flat_map (pair_comms cell) ms
cell_comms cell [] = refl
cell_comms cell (m ∷ ms) =
    ap comms (append_assoc (pair_made cell m) (flat_map (pair_made cell) ms) (Emits ∷ []))
    ∙ filter_map-append comm_of (pair_made cell m) (made_of ms cell)
    ∙ ap₂ (λ (xs ys : List Comm). xs ++ ys) (one_each (nat_eq (sender m) cell) (nat_eq (receiver m) cell) m) (cell_comms cell ms)

one_pair : (b c : Bool) (m : ℕ) → cond b (Write m ∷ cond c (Read m ∷ []) []) (cond c (Read m ∷ []) [])
    ≡ (if b then Write m ∷ [] else []) ++ (if c then Read m ∷ [] else [])
one_pair true true m = refl
one_pair true false m = refl
one_pair false true m = refl
one_pair false false m = refl

-- and so it stands in the order
pair_filtered : (cell m : ℕ) → m < 24 → filter (is_of pair_ends cell) (crossing m) ≡ pair_comms cell m
pair_filtered cell m within =
    let at : slice_get pair_ends m ≡ Some (sender m, receiver m) = made_below (λ k. (sender k, receiver k)) 24 m within in
    let S : sends pair_ends cell m ≡ nat_eq (sender m) cell = ap (λ o. option_map_or (λ (e : ℕ × ℕ). nat_eq e.0 cell) o false) at in
    let R : receives pair_ends cell m ≡ nat_eq (receiver m) cell = ap (λ o. option_map_or (λ (e : ℕ × ℕ). nat_eq e.1 cell) o false) at in
    ap₂ (λ (b c : Bool). cond b (Write m ∷ cond c (Read m ∷ []) []) (cond c (Read m ∷ []) [])) S R
    ∙ one_pair (nat_eq (sender m) cell) (nat_eq (receiver m) cell) m

all_filtered : (cell : ℕ) (ms : List ℕ) → All (λ m. m < 24) ms → filter (is_of pair_ends cell) (crossings ms) ≡ flat_map (pair_comms cell) ms
all_filtered cell [] known = refl
all_filtered cell (m ∷ ms) known =
    filter-append (is_of pair_ends cell) (crossing m) (crossings ms)
    ∙ ap₂ (λ (xs ys : List Comm). xs ++ ys) (pair_filtered cell m (All-head (λ k. k < 24) m ms known))
    (all_filtered cell ms (All-tail (λ k. k < 24) m ms known))

all_known : (ms : List ℕ) → All (λ m. m < 24) ms → All (λ operation. message_of operation < 24) (crossings ms)
all_known [] known = λ i d within. absurd (omega arith)
all_known (m ∷ ms) known =
    let P : Comm → Type 0 = λ operation. message_of operation < 24 in
    let within : m < 24 = All-head (λ k. k < 24) m ms known in
    All-cons P (Write m) (Read m ∷ crossings ms) within (All-cons P (Read m) (crossings ms) within (all_known ms (All-tail (λ k. k < 24) m ms known)))

module _ (ms : List ℕ) (known : All (λ m. m < 24) ms) (p : ProgramCode) (is : IsBare (resolved_program (paired ms)) p) where
  -- there are 16 cells
  pub sixteen : length p.cells ≡ 16
  sixteen = sym (length-map p.cells _) ∙ sym (ap length is.bodies_are) ∙ ap length (bodies_are ms)

  -- a cell communicates what it does in the pairs
  pub made_is : (cell : ℕ) → cell < 16 → communications p cell ≡ made_of ms cell
  made_is cell within =
      same_made (resolved_program (paired ms)) p is cell
      ∙ sym (own_made (resolved_program (paired ms)).cells cell)
      ∙ ap (λ bs. made_at bs cell) (bodies_are ms)
      ∙ ap (λ o. option_map_or block_communications o []) (made_below (body_code ms) 16 cell within)
      ∙ body_made ms known cell

  -- the ends of the messages are the stated ones
  pub ends_are : (sequences_of p).ends ≡ pair_ends
  ends_are = ap (map (λ (m : Message). (m.from, m.to))) (sym is.messages)

  -- the list of a cell is what it writes and reads
  list_is : (cell : ℕ) → cell < 16 → slice_index_or (sequences_of p).lists cell [] ≡ flat_map (pair_comms cell) ms
  list_is cell within =
      get_or-map-range_with_len (λ c. comms (communications p c)) 0 (length p.cells) cell cell [] (omega (arith, sixteen)) (omega arith)
      ∙ ap comms (made_is cell within) ∙ cell_comms cell ms

  -- the pairs in order are an order of the program
  pub pairs_ordered : IsBufferedOrder (sequences_of p).lists (sequences_of p).ends p.buffer (crossings ms)
  pairs_ordered =
      let lists : List (List Comm) = (sequences_of p).lists in
      let Known : ℕ → Type 0 = λ n. All (λ operation. message_of operation < n) (crossings ms) in
      record {
        known = subst Known (sym (ap length ends_are)) (all_known ms known);
        each = λ cell within.
            let inside : cell < 16 = omega (arith, length-map-range_with_len (λ c. comms (communications p c)) 0 (length p.cells), sixteen) in
            ap (λ ends. filter (is_of ends cell) (crossings ms)) ends_are ∙ all_filtered cell ms known ∙ sym (list_is cell inside);
        prefix = λ n message. prefix ms n message;
        whole = λ message. whole ms message;
        kept = subst (λ d. KeepsBuffer d (crossings ms)) is.buffer (kept ms);
      }
