-- What the tests of crossing-off decide.
use Rattle.std.proofs.Common.{◌≡◌, ◌↔◌, ℕ, ◌<◌, ◌≤◌, max, Bool, IsTrue, List, Some, get_or, length, nat_lt, slice_index, sym, ◌∙◌, ap, subst, arith}
use Rattle.std.proofs.lemmas.Bool.{lt-ltb, ltb-true}
use Rattle.std.proofs.lemmas.List.{get_or_default}
use Rattle.comm_sequence.specs.Sequences.{Sequences, message_of}
use Rattle.comm_sequence.specs.declared.comm.Comm.{Comm}
use Rattle.comm_sequence.specs.declared.comm.Comm.TheVariants.{Write, Read}
use Rattle.crossing_off.specs.declared.worklist.Crossing.{Crossing}
use Rattle.crossing_off.specs.Greedy.{cell_of, front, IsFront, IsWanted, MayCross}
use Rattle.crossing_off.specs.bodies.Worklist.{front_at, IsUnderWay}
use Rattle.crossing_off.proofs.Ends.{HasCell, cell_known, has_cell}
use Rattle.crossing_off.proofs.Lists.{some_and}
use Rattle.crossing_off.proofs.Steps.{stands_first}
use Rattle.crossing_off.proofs.WhatIsLeft.{front_now, rests_long}

-- the cell of an operation is that which is found
pub same_cell : (s : Sequences) (e : Comm) (c : ℕ) (home : HasCell s e) → cell_of s.ends e ≡ Some c → c ≡ home.cell
same_cell s e c home is = let both : Some c ≡ Some home.cell = sym is ∙ home.is in cc

-- something is kept of the cell
pub cell_there : (s : Sequences) (buffer : ℕ) (now : Crossing) (e : Comm) (c : ℕ) → IsUnderWay s buffer now → cell_of s.ends e ≡ Some c
    → c < length now.rests.items
cell_there s buffer now e c h is =
    let home = has_cell s e h.sound (cell_known s e c is) in
    omega (arith, home.within, same_cell s e c home is, ap length h.rests, rests_long s now.order.items)

-- the operation stands first where what is left of its cell begins with it
pub first_is : (s : Sequences) (buffer : ℕ) (now : Crossing) (e : Comm) (c : ℕ) → IsUnderWay s buffer now → cell_of s.ends e ≡ Some c
    → (front_at now.rests.items c ≡ Some e) ↔ IsFront s now.order.items e
first_is s buffer now e c h is =
    let home = has_cell s e h.sound (cell_known s e c is) in
    let same = same_cell s e c home is in
    let at : front_at now.rests.items c ≡ front s now.order.items c =
    ap (λ xs. front_at xs c) h.rests ∙ front_now s now.order.items c (omega (arith, same, home.within)) in (
      λ first. some_and (λ cell. front s now.order.items cell ≡ Some e) (cell_of s.ends e) c is (sym at ∙ first),
      λ stands.
          let f = stands_first s now.order.items e h.sound stands in
          at ∙ ap (front s now.order.items) (same_cell s e c f.home is) ∙ f.first,
    )

-- an operation that may be crossed stands first
pub may_first : (s : Sequences) (buffer : ℕ) (es : List Comm) (e : Comm) → MayCross s buffer es e → IsFront s es e
may_first s buffer es (Write m) may = may.0
may_first s buffer es (Read m) may = may.0

-- without a buffer the next word is wanted where its read stands first
pub wanted_first : (s : Sequences) (buffer : ℕ) (now : Crossing) (m c : ℕ) (r : Bool) → IsUnderWay s buffer now → buffer ≡ 0
    → cell_of s.ends (Read m) ≡ Some c → (IsTrue r ↔ (front_at now.rests.items c ≡ Some (Read m))) → IsTrue r ↔ IsWanted s buffer now.order.items m
wanted_first s buffer now m c r h none is test =
    let first = first_is s buffer now (Read m) c h is in
    let P : ℕ → Type 0 = λ d. IsTrue r ↔ IsWanted s d now.order.items m in
    let at : P 0 = (λ t. first.0 (test.0 t), λ front. test.1 (first.1 front)) in
    subst P (sym none) at

-- a read that stands first may be crossed where a word is held
pub may_read : (s : Sequences) (buffer : ℕ) (now : Crossing) (e : Comm) (m held : ℕ) → IsUnderWay s buffer now → message_of e < length s.ends
    → e ≡ Read m → IsFront s now.order.items e → held ≡ slice_index now.held.items m → IsTrue (nat_lt 0 held) ↔ MayCross s buffer now.order.items e
may_read s buffer now (Write n) m held h l is front count = absurd (cc is)
may_read s buffer now (Read n) m held h l is front count =
    let same : n ≡ m = cc in
    let at = h.counts.held_is n l in
    let same_held = ap (slice_index now.held.items) same in (
      λ t. (front, let some = ltb-true 0 held t in omega (arith, some, count, at, same_held)),
      λ may. let less = may.1 in lt-ltb 0 held (omega (arith, less, count, at, same_held)),
    )

-- a write that stands first and has room may be crossed where it is wanted
pub may_write : (s : Sequences) (buffer : ℕ) (now : Crossing) (e : Comm) (m held most : ℕ) (r : Bool) → IsUnderWay s buffer now → message_of e < length s.ends
    → e ≡ Write m → IsFront s now.order.items e → held ≡ slice_index now.held.items m → most ≡ max 1 buffer → held < most
    → (IsTrue r ↔ IsWanted s buffer now.order.items m) → IsTrue r ↔ MayCross s buffer now.order.items e
may_write s buffer now (Read n) m held most r h l is front count size room wanted = absurd (cc is)
may_write s buffer now (Write n) m held most r h l is front count size room wanted =
    let same : n ≡ m = cc in
    let at = h.counts.held_is n l in
    let same_held = ap (slice_index now.held.items) same in (
      λ t. (
        front,
        subst (IsWanted s buffer now.order.items) (sym same) (wanted.0 t),
        omega (arith, room, size, count, at, same_held),
      ),
      λ may. wanted.1 (subst (IsWanted s buffer now.order.items) same may.1),
    )

-- a write without room may not be crossed
pub no_room : (s : Sequences) (buffer : ℕ) (now : Crossing) (e : Comm) (m held most : ℕ) → IsUnderWay s buffer now → message_of e < length s.ends
    → e ≡ Write m → held ≡ slice_index now.held.items m → most ≡ max 1 buffer → most ≤ held
    → IsTrue (nat_lt held most) ↔ MayCross s buffer now.order.items e
no_room s buffer now (Read n) m held most h l is count size full = absurd (cc is)
no_room s buffer now (Write n) m held most h l is count size full =
    let same : n ≡ m = cc in
    let at = h.counts.held_is n l in
    let same_held = ap (slice_index now.held.items) same in (
      λ t. let less = ltb-true held most t in absurd (omega (arith, less, full)),
      λ may. let room = may.2 in absurd (omega (arith, room, size, count, at, same_held, full)),
    )

-- the word count of a message, as it is read
pub held_at : (s : Sequences) (buffer : ℕ) (now : Crossing) (e : Comm) (m index message held : ℕ) → IsUnderWay s buffer now → message_of e < length s.ends
    → index ≡ message → message ≡ message_of e → message_of e ≡ m → held ≡ get_or now.held.items index held → held ≡ slice_index now.held.items m
held_at s buffer now e m index message held h l at is same read =
    let all : index ≡ m = at ∙ is ∙ same in
    read ∙ ap (λ i. get_or now.held.items i held) all
    ∙ get_or_default now.held.items m held 0 (omega (arith, l, same, h.counts.held_len))
