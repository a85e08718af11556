-- The steps of an array: who may act in a state, and what comes of it.
use Rattle.std.specs.Prelude.{ℕ, suc, pred, ◌+◌, Bool, true, false, ◌&&◌, List, [], nat_lt, nat_le, length, get_or}
use Rattle.sys_base.specs.declared.actor.Actor.{Actor}
use Rattle.sys_base.specs.declared.actor.Actor.TheVariants.{Cell, Forward, Bind}
use Rattle.array_runs.specs.Frame.{Action, Halt, Work, Write, Read, Frame, hops}
use Rattle.array_runs.specs.States.{State, raised, raised_at, is_bound, live}

-- Whether a cell may do this. At a halt it may do nothing. To write it needs hop 0 of the message bound, a word that
-- is left to be written, and room in the queue of hop 0; to read it needs a word in the queue of the last hop.
abbrev pub may_do : Frame → ℕ → (ℕ → ℕ → ℕ) → (ℕ → ℕ) → Action → Bool
may_do p cap mark bound Halt = false
may_do p cap mark bound Work = true
may_do p cap mark bound (Write m) =
    is_bound p bound m 0 && (nat_lt (mark m 0) (p.words m) && nat_lt (mark m 0) (mark m 1 + cap))
may_do p cap mark bound (Read m) = nat_lt (mark m (hops p m)) (mark m (pred (hops p m)))

-- Whether a word of a message may move on from a hop: its queue there has one, the next hop is bound, and its queue
-- has room.
abbrev pub may_forward : Frame → ℕ → (ℕ → ℕ → ℕ) → (ℕ → ℕ) → ℕ → ℕ → Bool
may_forward p cap mark bound m i =
    nat_lt m p.messages
    && (nat_lt (suc i) (hops p m)
    && (nat_lt (mark m (suc i)) (mark m i)
    && (is_bound p bound m (suc i) && nat_lt (mark m (suc i)) (mark m (suc (suc i)) + cap))))

-- Whether a link may bind: a group is left, and with its members there are no more live messages than queues.
abbrev pub may_bind : Frame → (ℕ → ℕ → ℕ) → (ℕ → ℕ) → ℕ → Bool
may_bind p mark bound l =
    nat_lt l p.links
    && (nat_lt (bound l) (length (p.groups l))
    && nat_le (live p mark bound l + length (get_or (p.groups l) (bound l) [])) (p.queues l))

-- what a cell does next, by its list of actions: past the end of the list it halts
abbrev pub next : (ℕ → List Action) → State → ℕ → Action
next actions s c = get_or (actions c) (s.place c) Halt

-- whether an actor has a step in a state
abbrev pub can : Frame → (ℕ → List Action) → ℕ → State → Actor → Bool
can p actions cap s (Cell c) = nat_lt c p.cells && may_do p cap s.mark s.bound (next actions s c)
can p actions cap s (Forward m i) = may_forward p cap s.mark s.bound m i
can p actions cap s (Bind l) = may_bind p s.mark s.bound l

-- the state after an action of a cell
abbrev pub acted : Frame → State → ℕ → Action → State
acted p s c Halt = s
acted p s c Work = record { place = raised s.place c; mark = s.mark; bound = s.bound }
acted p s c (Write m) = record { place = raised s.place c; mark = raised_at s.mark m 0; bound = s.bound }
acted p s c (Read m) = record { place = raised s.place c; mark = raised_at s.mark m (hops p m); bound = s.bound }

-- the state after a step of an actor
abbrev pub after : Frame → (ℕ → List Action) → State → Actor → State
after p actions s (Cell c) = acted p s c (next actions s c)
after p actions s (Forward m i) = record { place = s.place; mark = raised_at s.mark m (suc i); bound = s.bound }
after p actions s (Bind l) = record { place = s.place; mark = s.mark; bound = raised s.bound l }
