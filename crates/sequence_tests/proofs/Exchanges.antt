-- Two cells of which one sends and the other one receives communicate soundly.
use Rattle.std.proofs.Common.{◌≡◌, ◌≢◌, ℕ, zero, suc, ◌+◌, ◌^◌, ◌<◌, ◌≤◌, true, List, [], ◌∷◌, Some, get_or, length, refl, sym, subst, ap, ◌∙◌, arith, ltb-true}
use Rattle.std.proofs.Math.ListN.{replicate}
use Rattle.std.proofs.lemmas.List.{get_or-replicate, length-replicate}
use Rattle.std.proofs.lemmas.List.Elements.{All-nil, All-cons, All-head, All-tail, All-weaker}
use Rattle.std.proofs.lemmas.Option.{slice_get-get_or}
use Rattle.std.specs.List.{All, AllPass, slice_get}
use Rattle.std.specs.Option.{IsSomeAnd}
use Rattle.sys_base.specs.Communications.{Communication, Writes, Reads, Takes, Emits}
use Rattle.sys_base.specs.declared.limits.TheConstants.{MESSAGES}
use Rattle.comm_sequence.specs.Gathered.{AreCommunications}
use Rattle.comm_sequence.specs.Sequences.{IsAtItsEnd, comms, message_of}
use Rattle.comm_sequence.specs.declared.comm.Comm.{Comm}
use Rattle.comm_sequence.specs.declared.comm.Comm.TheVariants as C
use Rattle.sequence_tests.specs.Exchange.{receives, sends}

-- the ends of messages from cell 0 to cell 1
abbrev pub ends : ℕ → List (ℕ × ℕ)
ends n = replicate n (0, 1)

-- the ends of one of them
end_at : (n m : ℕ) → m < n → slice_get (ends n) m ≡ Some (0, 1)
end_at n m lt =
    slice_get-get_or (ends n) m (0, 1) (omega (arith, length-replicate {A = ℕ × ℕ} n (0, 1)))
    ∙ ap (λ (e : ℕ × ℕ). Some e) (get_or-replicate n m (0, 1) (0, 1) lt)

-- The operation is on one of these messages, in the cell that may have it.
abbrev Fits : ℕ → ℕ → Comm → Type 0
Fits n cell operation = (message_of operation < n) × IsAtItsEnd (ends n) cell operation

-- the operations of the sender fit
sent : (n : ℕ) (list : List Communication) → AllPass (sends n) list → All (Fits n 0) (comms list)
sent n [] h = All-nil (Fits n 0)
sent n (Writes m ∷ rest) h =
    let lt : m < n = ltb-true m n (All-head (λ x. sends n x ≡ true) (Writes m) rest h) in
    All-cons (Fits n 0) (C.Write m) (comms rest)
    (lt, subst (λ o. IsSomeAnd o (λ (e : ℕ × ℕ). e.0 ≡ 0)) (sym (end_at n m lt)) refl)
    (sent n rest (All-tail (λ x. sends n x ≡ true) (Writes m) rest h))
sent n (Reads m ∷ rest) h = absurd (let e = All-head (λ x. sends n x ≡ true) (Reads m) rest h in cc e)
sent n (Takes ∷ rest) h = sent n rest (All-tail (λ x. sends n x ≡ true) Takes rest h)
sent n (Emits ∷ rest) h = sent n rest (All-tail (λ x. sends n x ≡ true) Emits rest h)

-- the operations of the receiver fit
received : (n : ℕ) (list : List Communication) → AllPass (receives n) list → All (Fits n 1) (comms list)
received n [] h = All-nil (Fits n 1)
received n (Writes m ∷ rest) h = absurd (let e = All-head (λ x. receives n x ≡ true) (Writes m) rest h in cc e)
received n (Reads m ∷ rest) h =
    let lt : m < n = ltb-true m n (All-head (λ x. receives n x ≡ true) (Reads m) rest h) in
    All-cons (Fits n 1) (C.Read m) (comms rest)
    (lt, subst (λ o. IsSomeAnd o (λ (e : ℕ × ℕ). e.1 ≡ 1)) (sym (end_at n m lt)) refl)
    (received n rest (All-tail (λ x. receives n x ≡ true) (Reads m) rest h))
received n (Takes ∷ rest) h = received n rest (All-tail (λ x. receives n x ≡ true) Takes rest h)
received n (Emits ∷ rest) h = received n rest (All-tail (λ x. receives n x ≡ true) Emits rest h)

-- what holds of equal ends
all_ends : (Q : ℕ × ℕ → Type 0) (n : ℕ) → Q (0, 1) → All Q (ends n)
all_ends Q zero q = All-nil Q
all_ends Q (suc n) q = All-cons Q (0, 1) (ends n) q (all_ends Q n q)

-- the two cells communicate soundly
pub exchange_sound : (n : ℕ) (sender receiver : List Communication) → n ≤ MESSAGES → AllPass (sends n) sender
    → AllPass (receives n) receiver → length sender + length receiver < 2 ^ 32
    → AreCommunications (sender ∷ receiver ∷ []) (ends n)
exchange_sound n sender receiver messages sends receives few =
    let long : length (ends n) ≡ n = length-replicate {A = ℕ × ℕ} n (0, 1) in
    let IsKnown : Comm → Type 0 = λ c. message_of c < length (ends n) in
    let Known : List Communication → Type 0 = λ list. All IsKnown (comms list) in
    let first = sent n sender sends in
    let second = received n receiver receives in
    record {
      cells = omega arith;
      messages = omega arith;
      within = all_ends (λ (e : ℕ × ℕ). (e.0 < 2) × (e.1 < 2)) n (omega arith, omega arith);
      apart = all_ends (λ (e : ℕ × ℕ). e.0 ≢ e.1) n (λ e. omega (arith, e));
      known =
          All-cons Known sender (receiver ∷ [])
          (All-weaker (Fits n 0) IsKnown (λ c fits. omega (arith, long, fits.0)) (comms sender) first)
          (All-cons Known receiver []
          (All-weaker (Fits n 1) IsKnown (λ c fits. omega (arith, long, fits.0)) (comms receiver) second)
          (All-nil Known));
      owned = owned_at first second;
      few = omega (arith, few);
    }
  where
    owned_at : All (Fits n 0) (comms sender) → All (Fits n 1) (comms receiver) → (cell : ℕ) → cell < 2
        → All (IsAtItsEnd (ends n) cell) (comms (get_or (sender ∷ receiver ∷ []) cell []))
    owned_at first second zero lt =
        All-weaker (Fits n 0) (IsAtItsEnd (ends n) 0) (λ c fits. fits.1) (comms sender) first
    owned_at first second (suc zero) lt =
        All-weaker (Fits n 1) (IsAtItsEnd (ends n) 1) (λ c fits. fits.1) (comms receiver) second
    owned_at first second (suc (suc cell)) lt = absurd (omega (arith, lt))
