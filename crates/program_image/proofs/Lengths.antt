-- Each message of the image of a program is as long as its sender writes it.
use Rattle.std.proofs.Common.{◌≡◌, ℕ, ◌+◌, ◌<◌, ◌≤◌, cond, nat_eq, zero-add, List, [], ◌∷◌, None, Some, map, option_map, length, get_or, slice_get, sum_by, count_by, IsSomeAnd, All, refl, sym, ap, subst, ◌∙◌, inl, inr, arith}
use Rattle.std.proofs.lemmas.Bool.{cases_lt, ne_eqb}
use Rattle.std.proofs.lemmas.List.Elements.{All-head, All-tail}
use Rattle.std.proofs.lemmas.List.FromFn.{get_or-map-range_with_len, length-map-range_with_len}
use Rattle.std.proofs.lemmas.List.Sums.{sum_by-cons}
use Rattle.std.proofs.lemmas.Option.{get_or_from_slice_get, slice_get-map, slice_get_past}
use Rattle.std.specs.Option.{option_map_or}
use Rattle.sys_base.specs.Communications.{Communication, Writes, Reads, Takes, Emits, times}
use Rattle.sys_base.specs.declared.limits.TheConstants.{STEPS}
use Rattle.cell_code.specs.Marks.{message_of}
use Rattle.cell_types.specs.Code.{CellCode, ProgramCode}
use Rattle.cell_types.specs.Communications.{block_communications, communications, length_of}
use Rattle.cell_types.specs.Cost.{cells_cost}
use Rattle.cell_types.specs.Groups.{below, lengths_of}
use Rattle.cell_types.specs.Sound.{IsSound, IsSoundMessage}
use Rattle.cell_types.specs.declared.program.Message.{Message}
use Rattle.comm_sequence.specs.Sequences.{IsAtItsEnd, comms, sequences_of, writes}
use Rattle.comm_sequence.specs.declared.comm.Comm.{Comm}
use Rattle.comm_sequence.specs.declared.comm.Comm.TheVariants as C
use Rattle.program_image.specs.ImageOf.{image_of}
use Rattle.program_image.proofs.Layers.{ProgramsHaveSequences}
use Rattle.program_image.proofs.Lists.{sum_made, sum_one, there}
use Rattle.program_image.proofs.Messages.{message_is}

-- the writes of a message among communications are those among their writes and reads
counted_comms : (m : ℕ) (xs : List Communication) → times (Writes m) xs ≡ count_by (writes m) (comms xs)
counted_comms m [] = refl
counted_comms m (Writes n ∷ xs) =
    sum_by-cons _ (Writes n) xs ∙ ap (λ k. cond (nat_eq m n) 1 0 + k) (counted_comms m xs)
    ∙ sym (sum_by-cons _ (C.Write n) (comms xs))
counted_comms m (Reads n ∷ xs) =
    sum_by-cons _ (Reads n) xs ∙ ap (λ k. 0 + k) (counted_comms m xs) ∙ sym (sum_by-cons _ (C.Read n) (comms xs))
counted_comms m (Takes ∷ xs) = sum_by-cons _ Takes xs ∙ zero-add (times (Writes m) xs) ∙ counted_comms m xs
counted_comms m (Emits ∷ xs) = sum_by-cons _ Emits xs ∙ zero-add (times (Writes m) xs) ∙ counted_comms m xs

-- a cell that isn't the sender of a message doesn't write it
not_written : (ends : List (ℕ × ℕ)) (cell m : ℕ) (e : ℕ × ℕ) → slice_get ends m ≡ Some e → (cell ≡ e.0 → ⊥)
    → (xs : List Comm) → All (IsAtItsEnd ends cell) xs → count_by (writes m) xs ≡ 0
not_written ends cell m e at other [] all = refl
not_written ends cell m e at other (C.Read n ∷ xs) all =
    let rest = not_written ends cell m e at other xs (All-tail (IsAtItsEnd ends cell) (C.Read n) xs all) in
    sum_by-cons (λ c. cond (writes m c) 1 0) (C.Read n) xs ∙ zero-add (count_by (writes m) xs) ∙ rest
not_written ends cell m e at other (C.Write n ∷ xs) all =
    let rest = not_written ends cell m e at other xs (All-tail (IsAtItsEnd ends cell) (C.Write n) xs all) in
    let mine = All-head (IsAtItsEnd ends cell) (C.Write n) xs all in
    let no : m ≡ n → ⊥ =
    λ same. other (sym (subst (λ o. IsSomeAnd o (λ (p : ℕ × ℕ). p.0 ≡ cell)) (ap (slice_get ends) (sym same) ∙ at) mine)) in
    sum_by-cons (λ c. cond (writes m c) 1 0) (C.Write n) xs
    ∙ ap (λ b. cond b 1 0 + count_by (writes m) xs) (ne_eqb m n no) ∙ zero-add (count_by (writes m) xs) ∙ rest

-- ---- the lists of a program

module _ (program : ProgramCode) where
  abbrev pub list_of : ℕ → List Comm
  list_of cell = comms (communications program cell)

  abbrev pub lists : List (List Comm)
  lists = map list_of (below (length program.cells))

  pub many_lists : length lists ≡ length program.cells
  many_lists = length-map-range_with_len list_of 0 (length program.cells)

  pub list_at : (cell : ℕ) → cell < length program.cells → get_or lists cell [] ≡ list_of cell
  list_at cell h = get_or-map-range_with_len list_of 0 (length program.cells) cell cell [] h (omega arith)

-- ---- the lengths of messages

module _ (program : ProgramCode) (labels : List ℕ) (sound : IsSound program) (within : cells_cost program ≤ STEPS)
    (sequences : ProgramsHaveSequences) where
  module _ (m : ℕ) (x : Message) (is : slice_get program.messages m ≡ Some x) (inside : m < length program.messages) where
    end_is : slice_get (sequences_of program).ends m ≡ Some (x.from, x.to)
    end_is = slice_get-map (λ (y : Message). (y.from, y.to)) program.messages m ∙ ap (option_map (λ (y : Message). (y.from, y.to))) is

    sound_message : IsSoundMessage program.grid x
    sound_message =
        subst (IsSoundMessage program.grid) (get_or_from_slice_get program.messages m x x is) (sound.messages m x inside)

    only_sender : (cell : ℕ) → (cell ≡ x.from → ⊥) → count_by (writes m) (list_of program cell) ≡ 0
    only_sender cell other =
        elim (cases_lt cell (length program.cells)) [
          | inl h ↦
              let owned = (sequences program sound within).owned cell (omega (arith, h, many_lists program)) in
              not_written (sequences_of program).ends cell m (x.from, x.to) end_is other (list_of program cell)
              (subst (All (IsAtItsEnd (sequences_of program).ends cell)) (list_at program cell h) owned)
          | inr h ↦
              let none : slice_get program.cells cell ≡ None = slice_get_past program.cells cell h in
              ap (λ o. count_by (writes m) (comms (option_map_or (λ (c : CellCode). block_communications c.body) o []))) none
        ]

    pub long_is : length_of program m ≡ times (Writes m) (communications program x.from)
    long_is =
        let n = length program.messages in
        let at : get_or (lengths_of program) m 0 ≡ length_of program m =
        get_or-map-range_with_len (length_of program) 0 n m m 0 inside (omega arith) in
        let many : length (lengths_of program) ≡ n = length-map-range_with_len (length_of program) 0 n in
        let counted : get_or (lengths_of program) m 0 ≡ sum_by (count_by (writes m)) (lists program) =
        (sequences program sound within).counted m (omega (arith, many, inside)) in
        let sender : x.from < length program.cells =
        omega (arith, sound.all, sound_message.sender) in
        sym at ∙ counted ∙ sum_made (count_by (writes m)) (list_of program) (below (length program.cells))
        ∙ sum_one (λ c. count_by (writes m) (list_of program c)) 0 (length program.cells) x.from (omega arith) (omega (arith, sender)) only_sender
        ∙ sym (counted_comms m (communications program x.from))

  pub lengths : (m : ℕ) → m < length program.messages
      → (message_of (image_of program labels) m).length
      ≡ times (Writes m) (communications program (message_of (image_of program labels) m).from)
  lengths m h =
      let x = there program.messages m h in
      let is = message_is program labels m x.0 x.1 in
      ap (λ y. y.length) is ∙ long_is m x.0 x.1 h
      ∙ sym (ap (λ y. times (Writes m) (communications program y.from)) is)
