-- The definitions, computed on two cells that run machines: the first writes 7 to message 0 and 8 to message 1, and
-- the second reads message 1 and then message 0, and puts out what it reads.
use Rattle.std.proofs.Common.{◌≡◌, ℕ, zero, suc, ◌+◌, ◌<◌, List, [], ◌∷◌, ◌++◌, get_or, refl, arith}
use Rattle.sys_base.specs.declared.actor.Actor.{Actor}
use Rattle.sys_base.specs.declared.actor.Actor.TheVariants.{Cell, Forward, Bind}
use Rattle.array_runs.specs.Alone.{IsRegularArray, action_alone, actions_alone}
use Rattle.array_runs.specs.Enabled.{enabled}
use Rattle.array_runs.specs.Frame.{Halt}
use Rattle.array_runs.specs.GroupOf.{group_of}
use Rattle.array_runs.specs.Machines.{Array, IsArrayRun, IsArraySure, Machine, array_end, array_opening, queue}
use Rattle.array_runs.specs.Meaning.{Agrees}
use Rattle.array_runs.specs.Orders.{events}
use Rattle.array_runs.specs.Queues.{slice}
use Rattle.array_runs.proofs.Arrays.{array_sure}
use Rattle.array_runs.proofs.Examples.{crossed, whole_run, wide, wide_regular}

-- how many actions a cell has done, and what it has read
pub record Counter : Type 0 where
  pub done : ℕ
  pub seen : List ℕ

-- a cell does the actions of its list, writes 7 more than the number of those that it has done, and keeps what it reads
abbrev counting : Machine Counter ℕ
counting =
    record {
      action = λ c x. get_or (crossed c) x.done Halt;
      worked = λ c x. record { done = suc x.done; seen = x.seen };
      word = λ c x. x.done + 7;
      wrote = λ c x. record { done = suc x.done; seen = x.seen };
      got = λ c x w. record { done = suc x.done; seen = x.seen ++ w ∷ [] };
      blank = 0;
    }

abbrev begin : ℕ → Counter
begin c = record { done = 0; seen = [] }

both_halt : (v : ℕ → List ℕ) (c : ℕ) → c < 2 → action_alone counting v begin c 2 ≡ Halt
both_halt v zero h = refl
both_halt v (suc zero) h = refl
both_halt v (suc (suc c)) h = absurd (omega arith)

both_alike : (v : ℕ → List ℕ) (c : ℕ) → c < 2 → events (actions_alone counting v begin c 2) ≡ crossed c
both_alike v zero h = refl
both_alike v (suc zero) h = refl
both_alike v (suc (suc c)) h = absurd (omega arith)

counting_regular : IsRegularArray wide counting begin crossed (λ c. 2) 1
counting_regular = record { cells = record { halts = both_halt; alike = both_alike }; regular = wide_regular }

-- So each run of it is bounded, never stuck, and ends clean.
counting_sure : IsArraySure wide counting begin (λ c. 2) 1
counting_sure = array_sure wide counting begin crossed (λ c. 2) 1 counting_regular

abbrev after_steps : List Actor → Array Counter ℕ
after_steps run = array_end wide counting (array_opening begin) run

-- a whole run, with queues of one word
counting_runs : IsArrayRun wide counting 1 (array_opening begin) whole_run
counting_runs = (refl, (refl, (refl, (refl, (refl, (refl, (refl, (refl, tt))))))))

-- What was read: message 1 and then message 0. A read of the newest word, or of another message's, would show here.
read_in_order : (after_steps whole_run).cell 1 ≡ record { done = 2; seen = 8 ∷ 7 ∷ [] }
read_in_order = refl

-- The streams that agree are one word each.
abbrev words : ℕ → List ℕ
words m = (m + 7) ∷ []

words_agree : Agrees wide counting begin words
words_agree zero h = record { steps = 2; halts = refl; writes = refl }
words_agree (suc zero) h = record { steps = 2; halts = refl; writes = refl }
words_agree (suc (suc m)) h = absurd (omega arith)

all_written : (after_steps whole_run).history 0 ≡ words 0
all_written = refl

-- A word is in the queue of one hop at a time.
queue_before : queue (after_steps (Bind 0 ∷ Cell 0 ∷ Bind 1 ∷ [])) 0 0 ≡ 7 ∷ []
queue_before = refl

queue_moved : queue (after_steps (Bind 0 ∷ Cell 0 ∷ Bind 1 ∷ Forward 0 0 ∷ [])) 0 0 ≡ []
queue_moved = refl

queue_after : queue (after_steps (Bind 0 ∷ Cell 0 ∷ Bind 1 ∷ Forward 0 0 ∷ [])) 0 1 ≡ 7 ∷ []
queue_after = refl

slice_of : slice {W = ℕ} (1 ∷ 2 ∷ 3 ∷ 4 ∷ []) 1 3 ≡ 2 ∷ 3 ∷ []
slice_of = refl

-- The actors with a step, in order.
enabled_first : enabled wide counting 1 (after_steps []) ≡ Bind 0 ∷ Bind 1 ∷ []
enabled_first = refl

enabled_then : enabled wide counting 1 (after_steps (Bind 0 ∷ Bind 1 ∷ Cell 0 ∷ [])) ≡ Cell 0 ∷ Forward 0 0 ∷ []
enabled_then = refl

enabled_last : enabled wide counting 1 (after_steps whole_run) ≡ []
enabled_last = refl

second_group : group_of 5 ((3 ∷ []) ∷ (4 ∷ 5 ∷ []) ∷ []) ≡ 1
second_group = refl
