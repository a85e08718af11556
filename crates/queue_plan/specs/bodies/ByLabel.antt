-- The order in which groups are found: messages by their labels.
use Rattle.std.specs.Prelude.{ℕ, ◌≡◌, Bool, ◌&&◌, List, nat_lt, length, map, slice_index}
use Rattle.std.specs.List.Sorted.{IsNonDecreasingBy}
use Rattle.cell_types.specs.Code.{ProgramCode}
use Rattle.cell_types.specs.Groups.{below, is_one_of, rising, route, labelled}

-- the groups of some messages: each label that one of them has, in rising order, with the messages that have it
abbrev pub grouped : List ℕ → List ℕ → List (ℕ × List ℕ)
grouped labels messages =
    map (λ label. (label, labelled labels messages label)) (rising (map (slice_index labels) messages))

-- whether a message has a length of at least 1 and a route over the link
abbrev pub uses : ProgramCode → List ℕ → ℕ → ℕ → Bool
uses program lengths link message = nat_lt 0 (slice_index lengths message) && is_one_of (route program message) link

-- All messages stand in rising order of label, those of one label in rising order of index.
pub record IsByLabel (labels order : List ℕ) : Type 0 where
  pub rising : IsNonDecreasingBy (slice_index labels) order
  pub stable : (label : ℕ) → labelled labels order label ≡ labelled labels (below (length labels)) label
