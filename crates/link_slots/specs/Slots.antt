-- The slots of a link: each has words, and may be held by a message.
use Rattle.std.specs.Prelude.{ℕ, ◌≡◌, ◌<◌, ◌≤◌, ◌≢◌, List, [], ◌∷◌, ◌++◌, All, Option, Some, None, is_some, is_none, count_by, drop, length, slice_index_or, slice_set, sum_by}
use Rattle.std.specs.List.{position_or_len}
use Rattle.circular_buffer.specs.Buffer.{buffer}
use Rattle.sys_base.specs.declared.word.Word.{Word}
use Rattle.link_slots.specs.declared.slot.Slot.{Slot}

-- ---- a slot

-- a free slot without words
abbrev pub empty_slot : ℕ → Slot
empty_slot capacity = record { holder = None; words = buffer [] capacity }

-- the slot at a place; one that is not there is free and has no words
abbrev pub slot_at : List Slot → ℕ → Slot
slot_at slots place = slice_index_or slots place (empty_slot 0)

-- the message that holds a slot
abbrev pub holder_at : List Slot → ℕ → Option ℕ
holder_at slots place = (slot_at slots place).holder

-- the words of a slot, the oldest one first
abbrev pub words_at : List Slot → ℕ → List Word
words_at slots place = (slot_at slots place).words.items

-- There is such a slot, and a message holds it.
abbrev pub IsHeld : List Slot → ℕ → Type 0
IsHeld slots place = (place < length slots) × (holder_at slots place ≢ None)

-- There is such a slot, and it has fewer words than it may have.
abbrev pub HasRoom : List Slot → ℕ → Type 0
HasRoom slots place = (place < length slots) × (length (words_at slots place) < (slot_at slots place).words.capacity)

-- ---- all slots

-- how many slots are held
abbrev pub held_count : List Slot → ℕ
held_count slots = count_by (λ (s : Slot). is_some s.holder) slots

-- how many words all slots have
abbrev pub word_count : List Slot → ℕ
word_count slots = sum_by (λ (s : Slot). length s.words.items) slots

-- the lowest free slot; the number of slots where none is free
abbrev pub lowest_free : List Slot → ℕ
lowest_free slots = position_or_len (λ (s : Slot). is_none s.holder) slots

-- There are at most 255 slots, each for at most 255 words, and none has more words than it may have.
pub record IsSlots (slots : List Slot) : Type 0 where
  pub few : length slots ≤ 255
  pub short : All (λ (s : Slot). s.words.capacity ≤ 255) slots
  pub roomy : All (λ (s : Slot). length s.words.items ≤ s.words.capacity) slots

-- These are the numbers of held slots and of words.
pub record IsCounted (slots : List Slot) (holders sum : ℕ) : Type 0 where
  pub kept : IsSlots slots
  pub held : holders ≡ held_count slots
  pub words : sum ≡ word_count slots

-- ---- what changes

-- a slot with another holder
abbrev pub with_holder : List Slot → ℕ → Option ℕ → List Slot
with_holder slots place holder = slice_set slots place (record (slot_at slots place) { holder = holder })

-- a slot with other words
abbrev pub with_words : List Slot → ℕ → List Word → List Slot
with_words slots place words =
    slice_set slots place (record (slot_at slots place) { words = buffer words (slot_at slots place).words.capacity })

-- a message takes the lowest free slot
abbrev pub taken : List Slot → ℕ → List Slot
taken slots message = with_holder slots (lowest_free slots) (Some message)

-- a slot is given back
abbrev pub freed : List Slot → ℕ → List Slot
freed slots place = with_holder slots place None

-- a word comes to a slot
abbrev pub added : List Slot → ℕ → Word → List Slot
added slots place word = with_words slots place (words_at slots place ++ word ∷ [])

-- the oldest word leaves a slot
abbrev pub taken_from : List Slot → ℕ → List Slot
taken_from slots place = with_words slots place (drop 1 (words_at slots place))
