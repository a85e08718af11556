-- The definitions, computed on small programs.
use Rattle.std.proofs.Common.{◌≡◌, ℕ, List, [], ◌∷◌, None, map, length, replicate, sum_by, refl}
use Rattle.cell_types.specs.Code.{End, ProgramCode}
use Rattle.cell_types.specs.Groups.{need, routes_of}
use Rattle.cell_types.specs.declared.program.Message.{Message}
use Rattle.queue_plan.specs.Grouping.{all_groups, groups_at}
use Rattle.queue_plan.specs.Lacks.{lacks}

-- a message from the first cell of three to another one, over these links
abbrev message : ℕ → ℕ → List ℕ → Message
message name to route = record { name = name ∷ []; from = 0; to = to; route = route; label = None }

-- three cells in a row whose links have this number of queues, with messages A and C to the second cell and B to the third
-- one
abbrev program : ℕ → ProgramCode
program queues =
    record {
      grid = record { rows = 1; cols = 3 };
      queues = 0 ∷ queues ∷ 0 ∷ 0 ∷ 0 ∷ queues ∷ 0 ∷ queues ∷ 0 ∷ 0 ∷ 0 ∷ queues ∷ [];
      messages = message 65 1 (1 ∷ []) ∷ message 66 2 (1 ∷ 5 ∷ []) ∷ message 67 1 (1 ∷ []) ∷ [];
      cells = replicate 3 (record { words = 0; counters = 0; stack = 0; body = End });
      buffer = 0;
    }

-- the groups where A and C have one label and B has a lower one
abbrev two_labels : List (List (ℕ × List ℕ))
two_labels = all_groups (program 1) (7 ∷ 2 ∷ 7 ∷ []) (1 ∷ 3 ∷ 1 ∷ [])

-- Groups stand in rising order of label, and members in rising order of index.
first_link : groups_at two_labels 1 ≡ (2, 1 ∷ []) ∷ (7, 0 ∷ 2 ∷ []) ∷ []
first_link = refl

second_link : groups_at two_labels 5 ≡ (2, 1 ∷ []) ∷ []
second_link = refl

unused_link : groups_at two_labels 7 ≡ []
unused_link = refl

two_labels_count : sum_by length two_labels ≡ 3
two_labels_count = refl

two_labels_needs : map (need (routes_of (program 1)) (7 ∷ 2 ∷ 7 ∷ []) (1 ∷ 3 ∷ 1 ∷ [])) (1 ∷ 5 ∷ 7 ∷ []) ≡ 2 ∷ 1 ∷ 0 ∷ []
two_labels_needs = refl

-- One queue does not hold A and C, and two do.
one_queue : lacks two_labels (program 1).queues ≡ record { link = 1; label = 7; need = 2; has = 1 } ∷ []
one_queue = refl

two_queues : lacks two_labels (program 2).queues ≡ []
two_queues = refl

-- A message of length 0 is in no group.
empty_message : all_groups (program 1) (7 ∷ 2 ∷ 7 ∷ []) (1 ∷ 0 ∷ 1 ∷ [])
    ≡ [] ∷ ((7, 0 ∷ 2 ∷ []) ∷ []) ∷ replicate 10 []
empty_message = refl

-- Of two groups that are too large the one with the lower label comes first, with the number of its own members.
two_lacks : lacks (((3, 0 ∷ 1 ∷ []) ∷ (4, 2 ∷ 3 ∷ 4 ∷ []) ∷ []) ∷ []) (1 ∷ [])
    ≡ record { link = 0; label = 3; need = 2; has = 1 } ∷ record { link = 0; label = 4; need = 3; has = 1 } ∷ []
two_lacks = refl
