-- Runs of an array, and what is claimed of each of them.
use Rattle.std.specs.Prelude.{ℕ, ◌≡◌, ◌<◌, ◌≤◌, max, true, ◌⊎◌, nat_eq, if◌then◌else◌, List, [], ◌∷◌, Option, Some, None, length, map, sum_by, slice_get}
use Rattle.std.specs.Option.{option_and_then, option_map_or}
use Rattle.sys_base.specs.Groups.{below, greatest}
use Rattle.sys_base.specs.declared.actor.Actor.{Actor}
use Rattle.cell_code.specs.Marks.{hops, link_at, queue}
use Rattle.cell_code.specs.declared.image.Image.{Image}
use Rattle.cell_code.specs.declared.instruction.Instr.TheVariants.{Halt}
use Rattle.array_model.specs.States.{ArrayState, Inputs, IsCounted, cells, code_of, opening}
use Rattle.array_model.specs.Steps.{step, is_enabled}

-- the state that some actors leave, if each of them is enabled in the state that those before it leave
abbrev pub after : Image → Inputs → ℕ → ArrayState → List Actor → Option ArrayState
after image inputs cap s [] = Some s
after image inputs cap s (a ∷ rest) =
    option_and_then (λ next. after image inputs cap next rest) (step image inputs cap s a)

-- The actors are a run: from the opening state they lead to this last state.
abbrev pub IsRun : Image → Inputs → ℕ → List Actor → ArrayState → Type 0
IsRun image inputs cap run last = after image inputs cap (opening image) run ≡ Some last

-- The state is finished: each cell is at `halt`.
abbrev pub IsFinished : Image → ArrayState → Type 0
IsFinished image s = (c : ℕ) → c < cells image → slice_get (code_of image c) (s.cell c).at ≡ Some Halt

-- The state is stuck: it is not finished, and no actor is enabled.
abbrev pub IsStuck : Image → Inputs → ℕ → ArrayState → Type 0
IsStuck image inputs cap s = (IsFinished image s → ⊥) × ((a : Actor) → step image inputs cap s a ≡ None)

-- ---- the peak of a link

-- the states of a run, the first and the last one included
abbrev pub states : Image → Inputs → ℕ → ArrayState → List Actor → List ArrayState
states image inputs cap s [] = s ∷ []
states image inputs cap s (a ∷ rest) =
    s ∷ option_map_or (λ next. states image inputs cap next rest) (step image inputs cap s a) []

-- how many words the queues of a link have together
abbrev pub words_on : Image → ℕ → ArrayState → ℕ
words_on image l s =
    sum_by (λ m. sum_by (λ hop. if nat_eq (link_at image m hop) l then length (queue s.history s.marks m hop) else 0)
    (below (hops image m))) (below (length image.messages))

-- the peak of a link over a run: the most words that its queues have together in any state
abbrev pub peak : Image → Inputs → ℕ → List Actor → ℕ → ℕ
peak image inputs cap run l = greatest (map (words_on image l) (states image inputs cap (opening image) run))

-- ---- what is claimed

-- The array has come to rest: no actor is enabled, and the queue of each message at each of its hops is empty.
pub record IsAtRest (image : Image) (inputs : Inputs) (cap : ℕ) (s : ArrayState) : Type 0 where
  pub still : (a : Actor) → step image inputs cap s a ≡ None
  pub empty : (m hop : ℕ) → m < length image.messages → hop < hops image m → queue s.history s.marks m hop ≡ []

-- A run to a last state goes well: it has no more steps than the bound of the image; the last state is finished or
-- some actor is enabled there; and where it is finished, the array has come to rest.
pub record GoesWell (image : Image) (inputs : Inputs) (cap : ℕ) (run : List Actor) (last : ArrayState) : Type 0 where
  pub bounded : length run ≤ image.bound
  pub never_stuck : IsFinished image last ⊎ ((a : Actor) × (is_enabled image inputs cap last a ≡ true))
  pub ends_clean : IsFinished image last → IsAtRest image inputs cap last

-- The image is sure from a capacity on: for all inputs that have the counted words, each capacity of at least one and
-- of at least this one, and each run from the opening state, the run goes well.
abbrev pub IsSure : Image → ℕ → Type 0
IsSure image least =
    (inputs : Inputs) (cap : ℕ) (run : List Actor) (last : ArrayState)
    → IsCounted image inputs → max 1 least ≤ cap → IsRun image inputs cap run last
    → GoesWell image inputs cap run last
