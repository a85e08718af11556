-- What proposed labels are: consistent, determined by the lists, and equal where neither message must come later.
use Rattle.std.proofs.Common.{◌≡◌, ℕ, suc, ◌+◌, ◌<◌, ◌≤◌, ◌↔◌, Bool, true, ◌&&◌, List, length, map, sym, ◌∙◌, ap, ⊎_elim, arith}
use Rattle.std.specs.List.{filter, slice_index}
use Rattle.std.proofs.lemmas.Bool.{cases_lt, cases_Bool, and_parts, and_from, false≢true, false_from_ne_true}
use Rattle.std.proofs.lemmas.List.FromFn.{get_or-map-range_with_len}
use Rattle.cell_types.specs.Groups.{below}
use Rattle.comm_sequence.specs.Labels.{IsConsistent, Must, IsTable, Key, key, is_below, different, proposed, IsProposal}
use Rattle.comm_sequence.specs.Labels.Must.{Alone, Before}
use Rattle.comm_sequence.specs.declared.comm.Comm.{Comm}
use Rattle.labelling.proofs.Closed.{AreBelow}
use Rattle.labelling.proofs.Keys.{same_numbers, same_keys, neither_later, first, least_below, label_le, label_same, key_of_label}
use Rattle.labelling.proofs.Ranges.{count_same, map_same}

-- the label of a message among those that are proposed
label_at : (lists : List (List Comm)) (count : ℕ) (labels : List ℕ) (p : IsProposal lists count labels) (m : ℕ) → m < count
    → slice_index labels m ≡ proposed p.must count m
label_at lists count labels p m lm =
    ap (λ xs. slice_index xs m) p.labels_are ∙ get_or-map-range_with_len (proposed p.must count) 0 count m m 0 lm (omega arith)

-- proposed labels are consistent
pub consistent : (lists : List (List Comm)) (count : ℕ) (labels : List ℕ) → AreBelow lists count → IsProposal lists count labels
    → IsConsistent lists labels
consistent lists count labels known p = λ a b n.
    let la = known n.cell n.place a n.first in
    let lb = known n.cell (suc n.place) b n.second in
    let before = (p.table a b la lb).1 (Before a b b n (Alone b)) in
    let le = label_le lists count p.must p.table a b la lb before in
    let ea = label_at lists count labels p a la in
    let eb = label_at lists count labels p b lb in
    omega arith

-- labels are equal exactly where neither message must come later
pub equal_labels : (lists : List (List Comm)) (count : ℕ) (labels : List ℕ) (a b : ℕ) → a < count → b < count
    → IsProposal lists count labels → ((slice_index labels a ≡ slice_index labels b) ↔ (Must lists a b × Must lists b a))
equal_labels lists count labels a b la lb p =
    let ea = label_at lists count labels p a la in
    let eb = label_at lists count labels p b lb in (
      λ e.
          let same = key_of_label lists count p.must p.table a b la lb (sym ea ∙ e ∙ eb) in
          let both = neither_later lists count p.must p.table a b la lb same in
          ((p.table a b la lb).0 both.0, (p.table b a lb la).0 both.1),
      λ both.
          ea
          ∙ label_same lists count p.must p.table a b
          (same_keys lists count p.must p.table a b la lb ((p.table a b la lb).1 both.0) ((p.table b a lb la).1 both.1))
          ∙ sym eb,
    )

-- Two tables of the same lists.
module _ (lists : List (List Comm)) (count : ℕ) (f g : ℕ → ℕ → Bool) (tf : IsTable lists count f) (tg : IsTable lists count g) where
  -- what one tells the other tells
  told : (a b : ℕ) → a < count → b < count → f a b ≡ true → g a b ≡ true
  told a b la lb t = (tg a b la lb).1 ((tf a b la lb).0 t)

  -- the first that passes a test by the one is no later than that by the other
  pub least_le : (m : ℕ) → m < count → (key g count m).least < count → (key f count m).least ≤ (key g count m).least
  least_le m lm lx =
      let x = (key g count m).least in
      let there = first lists count f tf m lm in
      let other = first lists count g tg m lm in
      let parts = and_parts (g x m) (g m x) other.passes in
      ⊎_elim
      (λ less.
      let here : (f x m && f m x) ≡ true =
      and_from (f x m) (f m x) ((tf x m lx lm).1 ((tg x m lx lm).0 parts.0)) ((tf m x lm lx).1 ((tg m x lm lx).0 parts.1)) in
      absurd (false≢true (sym (there.none x (omega arith) less) ∙ here)))
      (λ le. le)
      (cases_lt x (key f count m).least)

-- tables of the same lists tell the same
same_answers : (lists : List (List Comm)) (count : ℕ) (f g : ℕ → ℕ → Bool) → IsTable lists count f → IsTable lists count g → (a b : ℕ)
    → a < count → b < count → f a b ≡ g a b
same_answers lists count f g tf tg a b la lb =
    ⊎_elim
    (λ on. on ∙ sym (told lists count f g tf tg a b la lb on))
    (λ off. off ∙ sym (false_from_ne_true (g a b) (λ t. false≢true (sym off ∙ told lists count g f tg tf a b la lb t))))
    (cases_Bool (f a b))

-- and give each message the same key
same_key_of : (lists : List (List Comm)) (count : ℕ) (f g : ℕ → ℕ → Bool) → IsTable lists count f → IsTable lists count g → (m : ℕ)
    → m < count → key f count m ≡ key g count m
same_key_of lists count f g tf tg m lm =
    let bf = least_below lists count f tf m lm in
    let bg = least_below lists count g tg m lm in
    let up = least_le lists count f g tf tg m lm (omega arith) in
    let down = least_le lists count g f tg tf m lm (omega arith) in
    same_numbers (key f count m) (key g count m)
    (count_same (λ a. f a m) (λ a. g a m) 0 count (λ x l u. same_answers lists count f g tf tg x m (omega arith) lm))
    (omega arith)

-- two proposals for the same lists are equal
pub one_proposal : (lists : List (List Comm)) (count : ℕ) (a b : List ℕ) → IsProposal lists count a → IsProposal lists count b → a ≡ b
one_proposal lists count a b p q =
    let f = key p.must count in
    let g = key q.must count in
    let same : (m : ℕ) → 0 ≤ m → m < 0 + count → f m ≡ g m =
    λ m l u. same_key_of lists count p.must q.must p.table q.table m (omega arith) in
    let all : map f (below count) ≡ map g (below count) = map_same f g 0 count same in
    let rank : List Key → Key → ℕ = λ keys own. length (filter (λ k. is_below k own) (different keys)) in
    p.labels_are
    ∙ map_same (proposed p.must count) (proposed q.must count) 0 count
    (λ m l u. ap (λ keys. rank keys (f m)) all ∙ ap (rank (map g (below count))) (same m l u))
    ∙ sym q.labels_are
