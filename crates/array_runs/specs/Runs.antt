-- Runs of an array, and what is claimed of each.
use Rattle.std.specs.Prelude.{ℕ, suc, ◌≡◌, ◌<◌, ◌≤◌, ◌+◌, ◌-◌, ◌*◌, max, true, false, ◌⊎◌, List, [], ◌∷◌, length, sum_by}
use Rattle.sys_base.specs.Groups.{below}
use Rattle.array_runs.specs.Frame.{Action, Halt, Frame, hops}
use Rattle.array_runs.specs.States.{State, opening}
use Rattle.array_runs.specs.Steps.{can, after, next}
use Rattle.sys_base.specs.declared.actor.Actor.{Actor}

-- Each actor of the list has a step in the state that those before it leave.
abbrev pub IsRun : Frame → (ℕ → List Action) → ℕ → State → List Actor → Type 0
IsRun p actions cap s [] = Unit
IsRun p actions cap s (a ∷ rest) = (can p actions cap s a ≡ true) × IsRun p actions cap (after p actions s a) rest

-- the state that a run leaves
abbrev pub end_of : Frame → (ℕ → List Action) → State → List Actor → State
end_of p actions s [] = s
end_of p actions s (a ∷ rest) = end_of p actions (after p actions s a) rest

-- Every cell halts.
abbrev pub IsFinished : Frame → (ℕ → List Action) → State → Type 0
IsFinished p actions s = (c : ℕ) → c < p.cells → next actions s c ≡ Halt

-- The bound: the costs of the cells, the moves of words from one hop on to the next, and the groups of the links.
abbrev pub bound : Frame → (ℕ → ℕ) → ℕ
bound p cost =
    sum_by cost (below p.cells)
    + sum_by (λ m. p.words m * (hops p m - 1)) (below p.messages)
    + sum_by (λ l. length (p.groups l)) (below p.links)

-- No actor has a step, and the queue of each message at each of its hops is empty.
pub record IsClean (p : Frame) (actions : ℕ → List Action) (cap : ℕ) (s : State) : Type 0 where
  pub still : (a : Actor) → can p actions cap s a ≡ false
  pub empty : (m i : ℕ) → m < p.messages → i < hops p m → s.mark m i ≡ s.mark m (suc i)

-- For each capacity of at least one, and of at least this one, and each run from the opening state: it has at most as
-- many steps as the bound; it is finished or some actor has a step; and where it is finished, no actor has one and
-- all queues are empty.
pub record IsSure (p : Frame) (actions : ℕ → List Action) (least : ℕ) : Type 0 where
  pub bounded : (cap : ℕ) (run : List Actor) → max 1 least ≤ cap → IsRun p actions cap opening run
      → length run ≤ bound p (λ c. length (actions c))
  pub never_stuck : (cap : ℕ) (run : List Actor) → max 1 least ≤ cap → IsRun p actions cap opening run
      → IsFinished p actions (end_of p actions opening run)
      ⊎ ((a : Actor) × (can p actions cap (end_of p actions opening run) a ≡ true))
  pub ends_clean : (cap : ℕ) (run : List Actor) → max 1 least ≤ cap → IsRun p actions cap opening run
      → IsFinished p actions (end_of p actions opening run) → IsClean p actions cap (end_of p actions opening run)
