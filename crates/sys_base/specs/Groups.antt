-- The groups of messages that share the queues of a link, where each message has a route, a label and a length.
use Rattle.std.specs.Prelude.{ℕ, ◌+◌, max, Bool, ◌&&◌, nat_eq, nat_lt, List, [], length, map, filter, fold, slice_index, slice_index_or}
use Rattle.std.specs.List.{list_any, range_with_len}

-- the numbers below this one, in order
abbrev pub below : ℕ → List ℕ
below n = range_with_len 0 n

-- the greatest of some numbers, 0 where there is none
abbrev pub greatest : List ℕ → ℕ
greatest numbers = fold max 0 numbers

-- whether a number is one of these
abbrev pub is_one_of : List ℕ → ℕ → Bool
is_one_of numbers n = list_any (nat_eq n) numbers

-- some numbers in rising order, each once
abbrev pub rising : List ℕ → List ℕ
rising numbers = filter (is_one_of numbers) (below (1 + greatest numbers))

-- the messages of length at least 1 whose route has a link, by their indices in rising order
abbrev pub users : (routes : List (List ℕ)) → (lengths : List ℕ) → (link : ℕ) → List ℕ
users routes lengths link =
    filter (λ message. nat_lt 0 (slice_index lengths message) && is_one_of (slice_index_or routes message []) link)
    (below (length routes))

-- those of some messages that have a label
abbrev pub labelled : List ℕ → List ℕ → ℕ → List ℕ
labelled labels messages label = filter (λ message. nat_eq (slice_index labels message) label) messages

-- the groups of a link: each label that a user has, in rising order, with the users that have it
abbrev pub groups : (routes : List (List ℕ)) → (labels lengths : List ℕ) → (link : ℕ) → List (ℕ × List ℕ)
groups routes labels lengths link =
    let members = users routes lengths link in
    map (λ label. (label, labelled labels members label)) (rising (map (slice_index labels) members))

-- the need of a link: the size of its largest group, 0 where it has none
abbrev pub need : (routes : List (List ℕ)) → (labels lengths : List ℕ) → (link : ℕ) → ℕ
need routes labels lengths link = greatest (map (λ group. length group.1) (groups routes labels lengths link))
