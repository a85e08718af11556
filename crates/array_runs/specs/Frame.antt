-- What an array is made of, and what its cells do next.
use Rattle.std.specs.Prelude.{ℕ, suc, cond, List, [], ◌∷◌, nat_eq, length, get_or}

-- what a cell does next: it halts, it works on its own state, it writes a word to a message, or it reads a word of one
pub data Action : Type 0 where
  Halt : Action
  Work : Action
  Write : (message : ℕ) → Action
  Read : (message : ℕ) → Action

-- The parts of an array, each kind numbered from 0. A message goes from its sender to its receiver, by the links of
-- its route; it has so many words, and a label. A link has so many queues, and its groups of messages in the order of
-- their binding.
pub record Frame : Type 0 where
  pub cells : ℕ
  pub messages : ℕ
  pub links : ℕ
  pub sender : ℕ → ℕ
  pub receiver : ℕ → ℕ
  pub words : ℕ → ℕ
  pub label : ℕ → ℕ
  pub route : ℕ → List ℕ
  pub queues : ℕ → ℕ
  pub groups : ℕ → List (List ℕ)

-- how many links the route of a message has
abbrev pub hops : Frame → ℕ → ℕ
hops p m = length (p.route m)

-- the link at a hop of a message: its route's first one at hop 0
abbrev pub link_at : Frame → ℕ → ℕ → ℕ
link_at p m i = get_or (p.route m) i 0

-- the first place of a number in a list
abbrev pub place_of : ℕ → List ℕ → ℕ
place_of x [] = 0
place_of x (y ∷ ys) = cond (nat_eq x y) 0 (suc (place_of x ys))

-- the hop at which a message goes by a link
abbrev pub hop_on : Frame → ℕ → ℕ → ℕ
hop_on p l m = place_of l (p.route m)
