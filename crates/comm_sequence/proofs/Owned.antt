-- Only the sender of a message writes it, and only its receiver reads it.
use Rattle.std.proofs.Common.{◌≡◌, ℕ, zero, suc, ◌+◌, ◌<◌, List, [], ◌++◌, Option, Some, None, length, map, sym, subst, refl}
use Rattle.std.proofs.lemmas.List.Elements.{All-nil, All-cons, All-append, filter_map-append}
use Rattle.std.proofs.lemmas.Option.{slice_get-map, slice_get_within}
use Rattle.std.specs.List.{All, slice_get}
use Rattle.std.specs.Option.{IsSomeAnd, option_map, option_map_or}
use Rattle.cell_types.specs.Code.{Action, Set, SetAt, Write, Read, Take, Emit, For, If, Block, End, Then, CellCode}
use Rattle.cell_types.specs.Communications.{Communication, copies, action_communications, block_communications}
use Rattle.cell_types.specs.Sound.{Means, SoundAction, SoundBlock, IsSoundCell}
use Rattle.cell_types.specs.declared.program.Message.{Message}
use Rattle.comm_sequence.specs.Sequences.{comm_of, comms, message_of, IsAtItsEnd}
use Rattle.comm_sequence.specs.declared.comm.Comm.{Comm}
use Rattle.comm_sequence.specs.declared.comm.Comm.TheVariants as C
use Rattle.comm_sequence.proofs.Cells.{of_code}

-- the ends of messages
abbrev pub ends_of : List Message → List (ℕ × ℕ)
ends_of messages = map (λ (m : Message). (m.from, m.to)) messages

-- a message that is there has its ends
mapped : (o : Option Message) (P : Message → Type 0) (Q : ℕ × ℕ → Type 0) → ((m : Message) → P m → Q (m.from, m.to))
    → IsSomeAnd o P → IsSomeAnd (option_map (λ (m : Message). (m.from, m.to)) o) Q
mapped None P Q f h = absurd h
mapped (Some m) P Q f h = f m h

-- the cell's lists are its own
abbrev pub Own : Means → List Communication → Type 0
Own means xs = All (IsAtItsEnd (ends_of means.messages) means.cell) (comms xs)

-- a message that the cell sends
sends : (means : Means) (m : ℕ) → IsSomeAnd (slice_get means.messages m) (λ (x : Message). x.from ≡ means.cell)
    → IsAtItsEnd (ends_of means.messages) means.cell (C.Write m)
sends means m h =
    let P : Option (ℕ × ℕ) → Type 0 = λ o. IsSomeAnd o (λ e. e.0 ≡ means.cell) in
    subst P (sym (slice_get-map (λ (x : Message). (x.from, x.to)) means.messages m))
    (mapped (slice_get means.messages m) (λ x. x.from ≡ means.cell) (λ e. e.0 ≡ means.cell) (λ x e. e) h)

-- a message that the cell receives
receives : (means : Means) (m : ℕ) → IsSomeAnd (slice_get means.messages m) (λ (x : Message). x.to ≡ means.cell)
    → IsAtItsEnd (ends_of means.messages) means.cell (C.Read m)
receives means m h =
    let P : Option (ℕ × ℕ) → Type 0 = λ o. IsSomeAnd o (λ e. e.1 ≡ means.cell) in
    subst P (sym (slice_get-map (λ (x : Message). (x.from, x.to)) means.messages m))
    (mapped (slice_get means.messages m) (λ x. x.to ≡ means.cell) (λ e. e.1 ≡ means.cell) (λ x e. e) h)

-- two parts that are the cell's own
own_both : (means : Means) (xs ys : List Communication) → Own means xs → Own means ys → Own means (xs ++ ys)
own_both means xs ys h k =
    let P : Comm → Type 0 = IsAtItsEnd (ends_of means.messages) means.cell in
    subst (All P) (sym (filter_map-append comm_of xs ys)) (All-append P (comms xs) (comms ys) h k)

-- copies of the cell's own
own_copies : (means : Means) (n : ℕ) (xs : List Communication) → Own means xs → Own means (copies n xs)
own_copies means zero xs h = All-nil (IsAtItsEnd (ends_of means.messages) means.cell)
own_copies means (suc n) xs h = own_both means xs (copies n xs) h (own_copies means n xs h)

mutual
  -- the communications of a sound action are the cell's own
  own_action : (means : Means) (depth : ℕ) (a : Action) → SoundAction means depth a → Own means (action_communications a)
  own_action means depth (Set word value) h = All-nil (IsAtItsEnd (ends_of means.messages) means.cell)
  own_action means depth (SetAt base len index value) h = All-nil (IsAtItsEnd (ends_of means.messages) means.cell)
  own_action means depth (Write m value) h =
      let P : Comm → Type 0 = IsAtItsEnd (ends_of means.messages) means.cell in
      All-cons P (C.Write m) [] (sends means m h.0) (All-nil P)
  own_action means depth (Read m word) h =
      let P : Comm → Type 0 = IsAtItsEnd (ends_of means.messages) means.cell in
      All-cons P (C.Read m) [] (receives means m h.0) (All-nil P)
  own_action means depth (Take word) h = All-nil (IsAtItsEnd (ends_of means.messages) means.cell)
  own_action means depth (Emit value) h = All-nil (IsAtItsEnd (ends_of means.messages) means.cell)
  own_action means depth (For counter turns body) h =
      own_copies means turns (block_communications body) (own_block means (depth + 1) body h.3)
  own_action means depth (If test first second) h = own_block means depth first h.1

  -- the communications of sound statements are the cell's own
  pub own_block : (means : Means) (depth : ℕ) (b : Block) → SoundBlock means depth b → Own means (block_communications b)
  own_block means depth End h = All-nil (IsAtItsEnd (ends_of means.messages) means.cell)
  own_block means depth (Then line action rest) h =
      own_both means (action_communications action) (block_communications rest) (own_action means depth action h.0)
      (own_block means depth rest h.1)

-- the communications at a place where a sound cell may be
pub own_at : (messages : List Message) (i : ℕ) (o : Option CellCode) → ((c : CellCode) → o ≡ Some c → IsSoundCell messages i c)
    → All (IsAtItsEnd (ends_of messages) i) (comms (option_map_or of_code o []))
own_at messages i None h = All-nil (IsAtItsEnd (ends_of messages) i)
own_at messages i (Some c) h =
    let s : IsSoundCell messages i c = h c refl in
    own_block (record { messages = messages; cell = i; words = c.words; counters = c.counters }) 0 c.body s.body

-- an entry at its end is on a message
pub on_message : (ends : List (ℕ × ℕ)) (cell : ℕ) (c : Comm) → IsAtItsEnd ends cell c → message_of c < length ends
on_message ends cell (C.Write m) h = some_within (slice_get ends m) refl h
  where
    some_within : (o : Option (ℕ × ℕ)) → slice_get ends m ≡ o → IsSomeAnd o (λ e. e.0 ≡ cell) → m < length ends
    some_within None e p = absurd p
    some_within (Some x) e p = slice_get_within ends m x e
on_message ends cell (C.Read m) h = some_within (slice_get ends m) refl h
  where
    some_within : (o : Option (ℕ × ℕ)) → slice_get ends m ≡ o → IsSomeAnd o (λ e. e.1 ≡ cell) → m < length ends
    some_within None e p = absurd p
    some_within (Some x) e p = slice_get_within ends m x e
