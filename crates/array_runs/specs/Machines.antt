-- Arrays whose cells run machines on words, with all words that were ever written.
use Rattle.std.specs.Prelude.{ℕ, suc, ◌≡◌, ◌<◌, ◌≤◌, max, Bool, true, false, cond, ◌&&◌, ◌⊎◌, List, [], ◌∷◌, ◌++◌, nat_eq, nat_lt, length, get_or}
use Rattle.array_runs.specs.Frame.{Action, Halt, Work, Write, Read, Frame, hops}
use Rattle.array_runs.specs.Queues.{slice}
use Rattle.array_runs.specs.Runs.{bound}
use Rattle.array_runs.specs.States.{raised, raised_at}
use Rattle.array_runs.specs.Steps.{may_do, may_forward, may_bind}
use Rattle.sys_base.specs.declared.actor.Actor.{Actor}
use Rattle.sys_base.specs.declared.actor.Actor.TheVariants.{Cell, Forward, Bind}

-- How each cell runs: what it does next in a state, the state after work, the word that it writes and the state after
-- that, and the state after a word was read; and the word that is read where a stream of words has ended.
pub record Machine (X W : Type 0) : Type 0 where
  pub action : ℕ → X → Action
  pub worked : ℕ → X → X
  pub word : ℕ → X → W
  pub wrote : ℕ → X → X
  pub got : ℕ → X → W → X
  pub blank : W

-- the state of each cell, all words that were ever written to each message, and the marks and bound groups
pub record Array (X W : Type 0) : Type 0 where
  pub cell : ℕ → X
  pub history : ℕ → List W
  pub mark : ℕ → ℕ → ℕ
  pub bound : ℕ → ℕ

-- a function with another value at a number
abbrev pub put : {A : Type 0} → (ℕ → A) → ℕ → A → ℕ → A
put f i x j = cond (nat_eq i j) x (f j)

-- the queue of a message at a hop: the words that have come to it, and not to the next one
abbrev pub queue : {X W : Type 0} → Array X W → ℕ → ℕ → List W
queue a m i = slice (a.history m) (a.mark m (suc i)) (a.mark m i)

-- where every run begins: each cell is in its first state, and nothing was written or bound
abbrev pub array_opening : {X W : Type 0} → (ℕ → X) → Array X W
array_opening start = record { cell = start; history = λ m. []; mark = λ m i. 0; bound = λ l. 0 }

module _ {X W : Type 0} (p : Frame) (mc : Machine X W) where
  -- whether an actor has a step in a state
  abbrev pub array_can : ℕ → Array X W → Actor → Bool
  array_can cap a (Cell c) = nat_lt c p.cells && may_do p cap a.mark a.bound (mc.action c (a.cell c))
  array_can cap a (Forward m i) = may_forward p cap a.mark a.bound m i
  array_can cap a (Bind l) = may_bind p a.mark a.bound l

  -- the state after an action of a cell
  abbrev pub array_acted : Array X W → ℕ → Action → Array X W
  array_acted a c Halt = a
  array_acted a c Work = record a { cell = put a.cell c (mc.worked c (a.cell c)) }
  array_acted a c (Write m) =
      record {
        cell = put a.cell c (mc.wrote c (a.cell c));
        history = put a.history m (a.history m ++ mc.word c (a.cell c) ∷ []);
        mark = raised_at a.mark m 0;
        bound = a.bound;
      }
  array_acted a c (Read m) =
      record {
        cell = put a.cell c (mc.got c (a.cell c) (get_or (a.history m) (a.mark m (hops p m)) mc.blank));
        history = a.history;
        mark = raised_at a.mark m (hops p m);
        bound = a.bound;
      }

  -- the state after a step of an actor
  abbrev pub array_after : Array X W → Actor → Array X W
  array_after a (Cell c) = array_acted a c (mc.action c (a.cell c))
  array_after a (Forward m i) = record a { mark = raised_at a.mark m (suc i) }
  array_after a (Bind l) = record a { bound = raised a.bound l }

  -- Each actor of the list has a step in the state that those before it leave.
  abbrev pub IsArrayRun : ℕ → Array X W → List Actor → Type 0
  IsArrayRun cap a [] = Unit
  IsArrayRun cap a (x ∷ rest) = (array_can cap a x ≡ true) × IsArrayRun cap (array_after a x) rest

  -- the state that a run leaves
  abbrev pub array_end : Array X W → List Actor → Array X W
  array_end a [] = a
  array_end a (x ∷ rest) = array_end (array_after a x) rest

  -- Every cell halts.
  abbrev pub IsArrayFinished : Array X W → Type 0
  IsArrayFinished a = (c : ℕ) → c < p.cells → mc.action c (a.cell c) ≡ Halt

  -- No actor has a step, and the queue of each message at each of its hops is empty.
  pub record IsArrayClean (cap : ℕ) (a : Array X W) : Type 0 where
    pub still : (x : Actor) → array_can cap a x ≡ false
    pub empty : (m i : ℕ) → m < p.messages → i < hops p m → queue a m i ≡ []

  -- For each capacity of at least one, and of at least this one, and each run from the opening state: it has at most
  -- as many steps as the bound, for these costs of the cells; it is finished or some actor has a step; and where it
  -- is finished, no actor has one and all queues are empty.
  pub record IsArraySure (start : ℕ → X) (cost : ℕ → ℕ) (least : ℕ) : Type 0 where
    pub bounded : (cap : ℕ) (run : List Actor) → max 1 least ≤ cap → IsArrayRun cap (array_opening start) run
        → length run ≤ bound p cost
    pub never_stuck : (cap : ℕ) (run : List Actor) → max 1 least ≤ cap → IsArrayRun cap (array_opening start) run
        → IsArrayFinished (array_end (array_opening start) run)
        ⊎ ((x : Actor) × (array_can cap (array_end (array_opening start) run) x ≡ true))
    pub ends_clean : (cap : ℕ) (run : List Actor) → max 1 least ≤ cap → IsArrayRun cap (array_opening start) run
        → IsArrayFinished (array_end (array_opening start) run)
        → IsArrayClean cap (array_end (array_opening start) run)
