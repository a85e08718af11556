-- What waits once operations are added.
use Rattle.std.proofs.Common.{◌≡◌, ℕ, ◌+◌, ◌<◌, ◌≤◌, ◌⊎◌, Option, None, Some, sym, ◌∙◌, ap, subst, refl, ⊎_elim, arith}
use Rattle.comm_sequence.specs.Sequences.{message_of}
use Rattle.comm_sequence.specs.declared.comm.Comm.{Comm}
use Rattle.comm_sequence.specs.declared.comm.Comm.TheVariants.{Write, Read}
use Rattle.crossing_off.specs.declared.waiting.Waiting.{Waiting}
use Rattle.crossing_off.specs.bodies.Waiting.{HasAdded, HasNoted, Waits, waiting_len}
use Rattle.crossing_off.specs.bodies.WaitingSet.{IsIn}

-- what waited still waits
pub added_keeps : (old new : Waiting) (m : ℕ) (x : Comm) → HasAdded old new m → Waits old x → Waits new x
added_keeps old new m (Write k) h w = h.writes.kept k w
added_keeps old new m (Read k) h w = h.reads.kept k w

-- both operations of the message wait
pub added_waits : (old new : Waiting) (m : ℕ) (x : Comm) → HasAdded old new m → message_of x ≡ m → Waits new x
added_waits old new m (Write k) h e = subst (IsIn new.writes) (sym e) h.writes.added
added_waits old new m (Read k) h e = subst (IsIn new.reads) (sym e) h.reads.added

-- nothing else does
pub added_only : (old new : Waiting) (m : ℕ) (x : Comm) → HasAdded old new m → Waits new x → Waits old x ⊎ (message_of x ≡ m)
added_only old new m (Write k) h w = h.writes.only k w
added_only old new m (Read k) h w = h.reads.only k w

-- two operations more at most
pub added_len : (old new : Waiting) (m : ℕ) → HasAdded old new m → waiting_len new ≤ waiting_len old + 2
added_len old new m h = omega (arith, h.reads.len, h.writes.len)

-- the same for those of a front
pub noted_keeps : (o : Option Comm) (old new : Waiting) (x : Comm) → HasNoted o old new → Waits old x → Waits new x
noted_keeps None old new x h w = subst (λ v. Waits v x) (sym h) w
noted_keeps (Some e) old new x h w = added_keeps old new (message_of e) x h w

pub noted_waits : (o : Option Comm) (old new : Waiting) (e x : Comm) → HasNoted o old new → o ≡ Some e → message_of x ≡ message_of e → Waits new x
noted_waits None old new e x h at same = absurd (cc at)
noted_waits (Some y) old new e x h at same =
    let is : y ≡ e = cc in
    added_waits old new (message_of y) x h (same ∙ ap message_of (sym is))

pub noted_known : (n : ℕ) (o : Option Comm) (old new : Waiting) → HasNoted o old new → ((e : Comm) → o ≡ Some e → message_of e < n)
    → ((x : Comm) → Waits old x → message_of x < n) → (x : Comm) → Waits new x → message_of x < n
noted_known n None old new h front below x w = below x (subst (λ v. Waits v x) h w)
noted_known n (Some e) old new h front below x w =
    ⊎_elim (λ (was : Waits old x). below x was) (λ (is : message_of x ≡ message_of e). let l = front e refl in omega (arith, is, l)) (added_only old new (message_of e) x h w)

pub noted_len : (o : Option Comm) (old new : Waiting) → HasNoted o old new → waiting_len new ≤ waiting_len old + 2
noted_len None old new h = omega (arith, ap waiting_len h)
noted_len (Some e) old new h = added_len old new (message_of e) h
