-- The definitions, computed on two cells and two messages.
use Rattle.std.proofs.Common.{true≢false, take, length, get_or, nat_lt, cond, ◌≡◌, ℕ, zero, suc, ◌+◌, ◌<◌, ◌≤◌, true, false, nat_eq, inl, inr, List, [], ◌∷◌, refl, sym, eqb-true, arith}
use Rattle.std.specs.List.{concat}
use Rattle.std.proofs.lemmas.Bool.{or_cases}
use Rattle.array_runs.specs.Frame.{link_at, hop_on, place_of, Action, Write, Read, Halt, Frame}
use Rattle.sys_base.specs.Groups.{is_one_of}
use Rattle.array_runs.specs.Orders.{events, part_of, IsOrder, count}
use Rattle.array_runs.specs.Regular.{IsRouted, IsEvent, Rises, IsGrouped, IsOwn, IsRegular}
use Rattle.array_runs.specs.Runs.{IsRun, IsSure, bound, end_of}
use Rattle.array_runs.specs.States.{State, opening}
use Rattle.array_runs.specs.Steps.{can}
use Rattle.sys_base.specs.declared.actor.Actor.{Actor}
use Rattle.sys_base.specs.declared.actor.Actor.TheVariants.{Cell, Forward, Bind}
use Rattle.array_runs.proofs.Counts.{count_le, one_at_tells}
use Rattle.array_runs.proofs.Sure.{sure}

-- the same groups on the links 0 and 1
abbrev pub on_both : List (List ℕ) → ℕ → List (List ℕ)
on_both groups zero = groups
on_both groups (suc zero) = groups
on_both groups (suc (suc l)) = []

-- Cell 0 sends both messages to cell 1, by these links, each with so many queues and with these groups; each message
-- has so many words, and this label.
abbrev pub two : List ℕ → ℕ → List (List ℕ) → ℕ → (ℕ → ℕ) → Frame
two route queues groups words label =
    record {
      cells = 2;
      messages = 2;
      links = 2;
      sender = λ m. 0;
      receiver = λ m. 1;
      words = λ m. words;
      label = label;
      route = λ m. route;
      queues = λ l. queues;
      groups = on_both groups;
    }

-- the first cell writes message 0 and then message 1, and the second cell reads message 1 and then message 0
abbrev pub crossed : ℕ → List Action
crossed zero = Write 0 ∷ Write 1 ∷ []
crossed (suc zero) = Read 1 ∷ Read 0 ∷ []
crossed (suc (suc c)) = []

-- the first cell writes message 0 twice and then message 1, and the second cell reads so
abbrev twice : ℕ → List Action
twice zero = Write 0 ∷ Write 0 ∷ Write 1 ∷ []
twice (suc zero) = Read 0 ∷ Read 0 ∷ Read 1 ∷ []
twice (suc (suc c)) = []

-- Both messages go by two links with two queues each, in one group.
abbrev pub wide : Frame
wide = two (0 ∷ 1 ∷ []) 2 ((0 ∷ 1 ∷ []) ∷ []) 1 (λ m. 0)

-- the state after some steps, with a capacity of 1
abbrev left : Frame → (ℕ → List Action) → List Actor → State
left p actions run = end_of p actions opening run

-- A whole run has as many steps as the bound, which counts 4 actions, 2 moves and 2 groups.
wide_bound : bound wide (λ c. cond (nat_lt c 2) 2 0) ≡ 8
wide_bound = refl

abbrev pub whole_run : List Actor
whole_run = Bind 0 ∷ Cell 0 ∷ Cell 0 ∷ Bind 1 ∷ Forward 0 0 ∷ Forward 1 0 ∷ Cell 1 ∷ Cell 1 ∷ []

wide_runs : IsRun wide crossed 1 opening whole_run
wide_runs = (refl, (refl, (refl, (refl, (refl, (refl, (refl, (refl, tt))))))))

-- Nothing is written before its hop is bound, and nothing is read or moved on before it was written.
nothing_bound : can wide crossed 1 opening (Cell 0) ≡ false
nothing_bound = refl

nothing_to_read : can wide crossed 1 (left wide crossed (Bind 0 ∷ Bind 1 ∷ [])) (Cell 1) ≡ false
nothing_to_read = refl

nothing_to_move : can wide crossed 1 (left wide crossed (Bind 0 ∷ Bind 1 ∷ [])) (Forward 0 0) ≡ false
nothing_to_move = refl

next_hop_not_bound : can wide crossed 1 (left wide crossed (Bind 0 ∷ Cell 0 ∷ [])) (Forward 0 0) ≡ false
next_hop_not_bound = refl

-- The words of a message wait in its last queue until its receiver is at a read of it.
other_first : can wide crossed 1 (left wide crossed (Bind 0 ∷ Cell 0 ∷ Bind 1 ∷ Forward 0 0 ∷ [])) (Cell 1) ≡ false
other_first = refl

-- With one queue on each link the two of one group cannot be bound.
too_few : can (two (0 ∷ []) 1 ((0 ∷ 1 ∷ []) ∷ []) 1 (λ m. 0)) crossed 1 opening (Bind 0) ≡ false
too_few = refl

-- One link with one queue, two groups, and messages of two words.
abbrev narrow : Frame
narrow = two (0 ∷ []) 1 ((0 ∷ []) ∷ (1 ∷ []) ∷ []) 2 (λ m. m)

-- a queue of capacity 1 is full with one word, and has room again once that is read
full : can narrow twice 1 (left narrow twice (Bind 0 ∷ Cell 0 ∷ [])) (Cell 0) ≡ false
full = refl

room_again : can narrow twice 1 (left narrow twice (Bind 0 ∷ Cell 0 ∷ Cell 1 ∷ [])) (Cell 0) ≡ true
room_again = refl

-- a queue is held until the last word has left it, and not only until it has come
held_still : can narrow twice 1 (left narrow twice (Bind 0 ∷ Cell 0 ∷ Cell 1 ∷ Cell 0 ∷ [])) (Bind 0) ≡ false
held_still = refl

free_again : can narrow twice 1 (left narrow twice (Bind 0 ∷ Cell 0 ∷ Cell 1 ∷ Cell 0 ∷ Cell 1 ∷ [])) (Bind 0) ≡ true
free_again = refl

-- no group is left
all_bound : can wide crossed 1 (left wide crossed (Bind 0 ∷ [])) (Bind 0) ≡ false
all_bound = refl

-- what is not there has no step
no_cell : can wide crossed 1 opening (Cell 2) ≡ false
no_cell = refl

no_link : can wide crossed 1 opening (Bind 2) ≡ false
no_link = refl

no_message : can wide crossed 1 opening (Forward 2 0) ≡ false
no_message = refl

last_hop_only_read : can wide crossed 1 (left wide crossed (Bind 0 ∷ Cell 0 ∷ Bind 1 ∷ Forward 0 0 ∷ []))
    (Forward 0 1) ≡ false
last_hop_only_read = refl

-- The array is regular for a buffer of 1.
in_two : (m : ℕ) → is_one_of (0 ∷ 1 ∷ []) m ≡ true → m < 2
in_two m h =
    elim (or_cases (nat_eq m 0) _ h) [
      | inl t ↦ omega (arith, eqb-true m 0 t)
      | inr t ↦ elim (or_cases (nat_eq m 1) false t) [ inl y ↦ omega (arith, eqb-true m 1 y) | inr y ↦ absurd (cc y) ]
    ]

two_in : (m : ℕ) → m < 2 → is_one_of (0 ∷ 1 ∷ []) m ≡ true
two_in zero h = refl
two_in (suc zero) h = refl
two_in (suc (suc m)) h = absurd (omega arith)

own_actions : (c i : ℕ) → c < 2 → i < length (crossed c) → IsOwn wide c (get_or (crossed c) i Halt)
own_actions zero zero h l = (omega arith, refl)
own_actions zero (suc zero) h l = (omega arith, refl)
own_actions zero (suc (suc i)) h l = absurd (omega arith)
own_actions (suc zero) zero h l = (omega arith, refl)
own_actions (suc zero) (suc zero) h l = (omega arith, refl)
own_actions (suc zero) (suc (suc i)) h l = absurd (omega arith)
own_actions (suc (suc c)) i h l = absurd (omega arith)

each_once : (m : ℕ) → m < 2 → 1 ≡ count (Write m) (Write 0 ∷ Write 1 ∷ [])
each_once zero h = refl
each_once (suc zero) h = refl
each_once (suc (suc m)) h = absurd (omega arith)

links_of : (i : ℕ) → i < 2 → get_or (0 ∷ 1 ∷ []) i 0 < 2
links_of zero h = omega arith
links_of (suc zero) h = omega arith
links_of (suc (suc i)) h = absurd (omega arith)

links_once : (i : ℕ) → i < 2 → place_of (get_or (0 ∷ 1 ∷ []) i 0) (0 ∷ 1 ∷ []) ≡ i
links_once zero h = refl
links_once (suc zero) h = refl
links_once (suc (suc i)) h = absurd (omega arith)

wide_routed : IsRouted wide
wide_routed =
    record {
      reaches = λ m h. omega arith;
      linked = λ m i h l. links_of i l;
      once = λ m i h l. links_once i l;
    }

wide_member : (l m : ℕ) → is_one_of (concat (wide.groups l)) m ≡ true
    → (m < 2) × ((0 < 1) × ((hop_on wide l m < 2) × (link_at wide m (hop_on wide l m) ≡ l)))
wide_member zero m h = (in_two m h, (omega arith, (omega arith, refl)))
wide_member (suc zero) m h = (in_two m h, (omega arith, (omega arith, refl)))
wide_member (suc (suc l)) m h = absurd (cc h)

wide_has : (m i : ℕ) → m < 2 → i < 2 → is_one_of (concat (wide.groups (get_or (0 ∷ 1 ∷ []) i 0))) m ≡ true
wide_has m zero h l = two_in m h
wide_has m (suc zero) h l = two_in m h
wide_has m (suc (suc i)) h l = absurd (omega arith)

wide_sizes : (l j : ℕ) → j < length (wide.groups l) → length (get_or (wide.groups l) j []) ≡ 2
wide_sizes zero zero h = refl
wide_sizes zero (suc j) h = absurd (omega arith)
wide_sizes (suc zero) zero h = refl
wide_sizes (suc zero) (suc j) h = absurd (omega arith)
wide_sizes (suc (suc l)) j h = absurd (omega arith)

-- there is no second group
wide_one : (l i j m : ℕ) → i < j → is_one_of (get_or (wide.groups l) j []) m ≡ true → ⊥
wide_one l i zero m h t = omega arith
wide_one zero i (suc j) m h t = true≢false (sym t)
wide_one (suc zero) i (suc j) m h t = true≢false (sym t)
wide_one (suc (suc l)) i (suc j) m h t = true≢false (sym t)

wide_grouped : IsGrouped wide
wide_grouped =
    record {
      member = wide_member;
      grouped = λ m i h w l. wide_has m i h l;
      filled = λ l j h. omega (arith, wide_sizes l j h);
      rising = λ l i j k m h a b. absurd (wide_one l i j m h b);
      fits = λ l j h. omega (arith, wide_sizes l j h);
    }

-- the order: with a buffer of 1 both writes stand before the reads
abbrev crossed_order : List Action
crossed_order = Write 0 ∷ Write 1 ∷ Read 1 ∷ Read 0 ∷ []

crossed_known : (i : ℕ) → i < 4 → IsEvent wide (get_or crossed_order i Halt)
crossed_known zero h = omega arith
crossed_known (suc zero) h = omega arith
crossed_known (suc (suc zero)) h = omega arith
crossed_known (suc (suc (suc zero))) h = omega arith
crossed_known (suc (suc (suc (suc i)))) h = absurd (omega arith)

crossed_each : (c : ℕ) → c < 2 → part_of wide c crossed_order ≡ events (crossed c)
crossed_each zero h = refl
crossed_each (suc zero) h = refl
crossed_each (suc (suc c)) h = absurd (omega arith)

-- in each prefix a message has no more reads than writes, and at most one more write than reads
crossed_prefix : (n m : ℕ) → (count (Read m) (take n crossed_order) ≤ count (Write m) (take n crossed_order))
    × (count (Write m) (take n crossed_order) ≤ count (Read m) (take n crossed_order) + 1)
crossed_prefix zero m = (omega arith, omega arith)
crossed_prefix (suc zero) m = (omega (arith, one_at_tells m 0), omega (arith, one_at_tells m 0))
crossed_prefix (suc (suc zero)) m =
    (omega (arith, one_at_tells m 0, one_at_tells m 1), omega (arith, one_at_tells m 0, one_at_tells m 1))
crossed_prefix (suc (suc (suc zero))) m =
    (omega (arith, one_at_tells m 0, one_at_tells m 1), omega (arith, one_at_tells m 0, one_at_tells m 1))
crossed_prefix (suc (suc (suc (suc n)))) m =
    let w = count_le (Write m) [] n in
    let r = count_le (Read m) [] n in
    (omega (arith, one_at_tells m 0, one_at_tells m 1), omega (arith, one_at_tells m 0, one_at_tells m 1))

crossed_ordered : IsOrder wide crossed 1 crossed_order
crossed_ordered =
    record {
      each = crossed_each;
      prefix = λ n m. (crossed_prefix n m).0;
      whole = λ m. omega arith;
      kept = λ n m. (crossed_prefix n m).1;
    }

crossed_rises : (c : ℕ) → c < 2 → Rises wide (events (crossed c))
crossed_rises zero h zero l = omega arith
crossed_rises zero h (suc i) l = absurd (omega arith)
crossed_rises (suc zero) h zero l = omega arith
crossed_rises (suc zero) h (suc i) l = absurd (omega arith)
crossed_rises (suc (suc c)) h i l = absurd (omega arith)

pub wide_regular : IsRegular wide crossed 1
wide_regular =
    record {
      ordered = record {
        own = own_actions;
        sends = λ m h. omega arith;
        receives = λ m h. omega arith;
        order = crossed_order;
        known = crossed_known;
        is_order = crossed_ordered;
      };
      counted = each_once;
      routed = wide_routed;
      grouped = wide_grouped;
      labels = crossed_rises;
    }

-- So each run of it is bounded, never stuck, and ends clean, for each capacity from 1 on.
wide_sure : IsSure wide crossed 1
wide_sure = sure wide crossed 1 wide_regular
