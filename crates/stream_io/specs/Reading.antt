-- What an input file says.
use Rattle.std.specs.Prelude.{ℕ, zero, suc, ◌≡◌, ◌<◌, true, false, not, ℤ, List, [], ◌∷◌, ◌++◌, length, position, Option, Some, None, is_some, option_and_then, slice_index, slice_index_or, IsUtf8}
use Rattle.std.specs.List.{filter_map}
use Rattle.serde_json.specs.Data.{Data, array, object, Items, no_items, item, Members, no_members, member}
use Rattle.serde_json.specs.Find.{get, as_number, as_i64, as_object, as_array}
use Rattle.serde_json.specs.Read.{read}
use Rattle.sys_base.specs.Grid.{Extent, cell_count}
use Rattle.sys_base.specs.Names.{cell_name, cell_text}
use Rattle.stream_io.specs.declared.error.InputError.{InputError}
use Rattle.stream_io.specs.declared.error.InputError.TheVariants.{NotJson, NotObject, UnknownCell, NotList, NotInteger, Count, Memory}

-- ---- lists and integers

-- the items of an array, in order
abbrev pub items_list : Items → List Data
items_list no_items = []
items_list (item d ds) = d ∷ items_list ds

-- the members of an object, in order: each key with its value
abbrev pub members_list : Members → List (List ℕ × Data)
members_list no_members = []
members_list (member k d ms) = (k, d) ∷ members_list ms

-- the 64-bit signed integer that a value is
abbrev pub integer_of : Data → Option ℤ
integer_of d = option_and_then as_i64 (as_number d)

-- the items of a list, and none of any other value
abbrev pub list_of : Data → List Data
list_of (array ds) = items_list ds
list_of _ = []

-- the place of the first item that is no integer
abbrev pub first_other : Data → Option ℕ
first_other d = position (λ i. not (is_some (integer_of i))) (list_of d)

-- ---- keys

-- the key of a cell
abbrev pub key_of : Extent → ℕ → List ℕ
key_of g cell = cell_text (cell_name g.cols cell)

-- The key names a cell of the grid.
abbrev pub IsKey : Extent → List ℕ → Type 0
IsKey g key = (cell : ℕ) × (cell < cell_count g) × (key ≡ key_of g cell)

-- ---- the rules of a member

-- The key names a cell, and its value is a list of integers.
pub record IsGood (g : Extent) (key : List ℕ) (value : Data) : Type 0 where
  pub named : IsKey g key
  pub list : is_some (as_array value) ≡ true
  pub integers : first_other value ≡ None

-- The member breaks this rule, and none of those before it.
abbrev pub Breaks : Extent → List ℕ → Data → InputError → Type 0
Breaks g key value (UnknownCell k) = (k ≡ key) × (IsKey g key → ⊥)
Breaks g key value (NotList k) = (k ≡ key) × IsKey g key × (is_some (as_array value) ≡ false)
Breaks g key value (NotInteger k n) = (k ≡ key) × IsKey g key × (first_other value ≡ Some n)
Breaks g key value NotJson = ⊥
Breaks g key value NotObject = ⊥
Breaks g key value (Count cell need has) = ⊥
Breaks g key value Memory = ⊥

-- All members are good.
abbrev pub AllGood : Extent → List (List ℕ × Data) → Type 0
AllGood g [] = Unit {0}
AllGood g (m ∷ ms) = IsGood g m.0 m.1 × AllGood g ms

-- The first member that is not good breaks this rule.
abbrev pub FirstBroken : Extent → List (List ℕ × Data) → InputError → Type 0
FirstBroken g members e = (before : List (List ℕ × Data)) × (key : List ℕ) × (value : Data) ×
    (after : List (List ℕ × Data))
    × (members ≡ before ++ (key, value) ∷ after) × AllGood g before × Breaks g key value e

-- ---- the lists of the cells

-- the integers of the list at a key, and none where there is no such key
abbrev pub integers_at : Option Data → List ℤ
integers_at None = []
integers_at (Some d) = filter_map integer_of (list_of d)

-- the list of a cell: that at its key
abbrev pub cell_list : Extent → Data → ℕ → List ℤ
cell_list g value cell = integers_at (get (key_of g cell) value)

-- the lists of the cells below a number
abbrev pub lists_below : Extent → Data → ℕ → List (List ℤ)
lists_below g value zero = []
lists_below g value (suc n) = lists_below g value n ++ cell_list g value n ∷ []

-- the lists of all cells
abbrev pub lists_of : Extent → Data → List (List ℤ)
lists_of g value = lists_below g value (cell_count g)

-- ---- the file

-- The bytes are UTF-8, and this is what JSON says they mean.
pub record Means (bytes : List ℕ) (value : Data) : Type 0 where
  pub utf8 : IsUtf8 bytes
  pub reading : read bytes ≡ Some value

-- The value is an object, and these are its members.
abbrev pub HasMembers : Data → List (List ℕ × Data) → Type 0
HasMembers value members = (ms : Members) × (value ≡ object ms) × (members ≡ members_list ms)

-- The cell is the first that does not get as many words as it takes: it needs so many and has so many.
pub record IsFirstCount (takes : List ℕ) (lists : List (List ℤ)) (cell need has : ℕ) : Type 0 where
  pub inside : cell < length lists
  pub needs : need ≡ slice_index takes cell
  pub gets : has ≡ length (slice_index_or lists cell [])
  pub differ : has ≡ need → ⊥
  pub before : (k : ℕ) → k < cell → length (slice_index_or lists k []) ≡ slice_index takes k

-- The file has these inputs: each member is good, each cell has its list, and the lists have the lengths that the
-- cells take.
pub record HasInputs (bytes : List ℕ) (g : Extent) (takes : List ℕ) (inputs : List (List ℤ)) : Type 0 where
  pub reading : (value : Data) × (members : List (List ℕ × Data)) × Means bytes value × HasMembers value members
      × AllGood g members
      × (inputs ≡ lists_of g value)
  pub counts : (cell : ℕ) → cell < cell_count g → length (slice_index_or inputs cell []) ≡ slice_index takes cell

-- The file is an object whose first member that is not good breaks this rule.
abbrev pub BreaksFirst : List ℕ → Extent → InputError → Type 0
BreaksFirst bytes g e = (value : Data) × (members : List (List ℕ × Data)) × Means bytes value × HasMembers value members
    × FirstBroken g members e

-- The file breaks this rule first; want of memory says nothing of it.
abbrev pub Refuses : List ℕ → Extent → List ℕ → InputError → Type 0
Refuses bytes g takes NotJson = (value : Data) → Means bytes value → ⊥
Refuses bytes g takes NotObject = (value : Data) × Means bytes value × (as_object value ≡ None)
Refuses bytes g takes (UnknownCell k) = BreaksFirst bytes g (UnknownCell k)
Refuses bytes g takes (NotList k) = BreaksFirst bytes g (NotList k)
Refuses bytes g takes (NotInteger k n) = BreaksFirst bytes g (NotInteger k n)
Refuses bytes g takes (Count cell need has) = (value : Data) × (members : List (List ℕ × Data)) × Means bytes value
    × HasMembers value members
    × AllGood g members × IsFirstCount takes (lists_of g value) cell need has
Refuses bytes g takes Memory = Unit {0}
