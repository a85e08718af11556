-- What one more operation makes of the lists.
use Rattle.std.proofs.Common.{◌≡◌, ◌≢◌, ℕ, true, false, cond, List, [], ◌∷◌, ◌++◌, Some, length, drop, slice_get, slice_index_or, sym, ◌∙◌, ap, refl, ⊎_elim}
use Rattle.std.proofs.lemmas.Bool.{cases_eq, eq-eqb, ne_eqb}
use Rattle.std.proofs.lemmas.List.{append-nil, length-append, append_assoc}
use Rattle.std.proofs.lemmas.List.Elements.{filter-append}
use Rattle.comm_sequence.specs.BufferedOrder.{is_of}
use Rattle.comm_sequence.specs.Sequences.{Sequences, IsSequences}
use Rattle.comm_sequence.specs.declared.comm.Comm.{Comm}
use Rattle.crossing_off.specs.Greedy.{cell_of, front, made, rest, IsFront}
use Rattle.crossing_off.proofs.Ends.{HasCell, has_cell, cell_known}
use Rattle.crossing_off.proofs.Lists.{drop_drop, from_first, some_and, some_there}

-- what is made and what is left are the whole list
abbrev pub IsReached : Sequences → List Comm → ℕ → Type 0
IsReached s crossed c = made s crossed c ++ rest s crossed c ≡ slice_index_or s.lists c []

-- the operation of a cell is made last
pub made_own : (s : Sequences) (crossed : List Comm) (e : Comm) (c : ℕ) → is_of s.ends c e ≡ true
    → made s (crossed ++ e ∷ []) c ≡ made s crossed c ++ e ∷ []
made_own s crossed e c t =
    filter-append (is_of s.ends c) crossed (e ∷ []) ∙ ap (λ b. made s crossed c ++ cond b (e ∷ []) []) t

-- the operation of another cell is not made
pub made_other : (s : Sequences) (crossed : List Comm) (e : Comm) (c : ℕ) → is_of s.ends c e ≡ false
    → made s (crossed ++ e ∷ []) c ≡ made s crossed c
made_other s crossed e c t =
    filter-append (is_of s.ends c) crossed (e ∷ []) ∙ ap (λ b. made s crossed c ++ cond b (e ∷ []) []) t
    ∙ append-nil (made s crossed c)

-- its cell loses the first operation
pub rest_own : (s : Sequences) (crossed : List Comm) (e : Comm) (c : ℕ) → is_of s.ends c e ≡ true
    → rest s (crossed ++ e ∷ []) c ≡ drop 1 (rest s crossed c)
rest_own s crossed e c t =
    let list = slice_index_or s.lists c [] in
    ap (λ n. drop n list) (ap length (made_own s crossed e c t) ∙ length-append (made s crossed c) (e ∷ []))
    ∙ drop_drop (length (made s crossed c)) 1 list

-- all other cells lose nothing
pub rest_other : (s : Sequences) (crossed : List Comm) (e : Comm) (c : ℕ) → is_of s.ends c e ≡ false
    → rest s (crossed ++ e ∷ []) c ≡ rest s crossed c
rest_other s crossed e c t = ap (λ n. drop n (slice_index_or s.lists c [])) (ap length (made_other s crossed e c t))

-- an operation that stands first, with its cell
pub record StandsFirst (s : Sequences) (crossed : List Comm) (e : Comm) : Type 0 where
  pub home : HasCell s e
  pub first : front s crossed home.cell ≡ Some e

pub stands_first : (s : Sequences) (crossed : List Comm) (e : Comm) → IsSequences s → IsFront s crossed e → StandsFirst s crossed e
stands_first s crossed e sound h =
    let there = some_there (λ cell. front s crossed cell ≡ Some e) (cell_of s.ends e) h in
    let home = has_cell s e sound (cell_known s e there.0 there.1) in
    let same : there.0 ≡ home.cell = let both : Some there.0 ≡ Some home.cell = sym there.1 ∙ home.is in cc in
    record { home = home; first = ap (front s crossed) (sym same) ∙ there.2 }

pub is_front : (s : Sequences) (crossed : List Comm) (e : Comm) (home : HasCell s e) → front s crossed home.cell ≡ Some e
    → IsFront s crossed e
is_front s crossed e home f = some_and (λ cell. front s crossed cell ≡ Some e) (cell_of s.ends e) home.cell home.is f

-- an operation is one of its own cell, and of no other
pub own_cell : (s : Sequences) (e : Comm) (home : HasCell s e) → is_of s.ends home.cell e ≡ true
own_cell s e home = home.own home.cell ∙ eq-eqb home.cell home.cell refl

pub other_cell : (s : Sequences) (e : Comm) (home : HasCell s e) (c : ℕ) → c ≢ home.cell → is_of s.ends c e ≡ false
other_cell s e home c n = home.own c ∙ ne_eqb home.cell c (λ q. n (sym q))

-- what is made and what is left are still the whole lists
pub reached_more : (s : Sequences) (crossed : List Comm) (e : Comm) (c : ℕ) → StandsFirst s crossed e → IsReached s crossed c
    → IsReached s (crossed ++ e ∷ []) c
reached_more s crossed e c h reached =
    ⊎_elim
    (λ (same : c ≡ h.home.cell).
    let t : is_of s.ends c e ≡ true = ap (λ k. is_of s.ends k e) same ∙ own_cell s e h.home in
    let f : front s crossed c ≡ Some e = ap (front s crossed) same ∙ h.first in
    ap (λ xs. xs ++ rest s (crossed ++ e ∷ []) c) (made_own s crossed e c t)
    ∙ ap (λ xs. (made s crossed c ++ e ∷ []) ++ xs) (rest_own s crossed e c t)
    ∙ append_assoc (made s crossed c) (e ∷ []) (drop 1 (rest s crossed c))
    ∙ ap (λ xs. made s crossed c ++ xs) (sym (from_first (rest s crossed c) e f)) ∙ reached)
    (λ (other : c ≢ h.home.cell).
    let t = other_cell s e h.home c other in
    ap (λ xs. xs ++ rest s (crossed ++ e ∷ []) c) (made_other s crossed e c t)
    ∙ ap (λ xs. made s crossed c ++ xs) (rest_other s crossed e c t) ∙ reached)
    (cases_eq c h.home.cell)

-- another operation that stands first still does
pub front_stays : (s : Sequences) (crossed : List Comm) (e x : Comm) → StandsFirst s crossed e → StandsFirst s crossed x
    → e ≢ x → StandsFirst s (crossed ++ e ∷ []) x
front_stays s crossed e x h k differ =
    let apart : k.home.cell ≢ h.home.cell = λ same.
    let both : Some e ≡ Some x = sym h.first ∙ ap (front s crossed) (sym same) ∙ k.first in
    differ cc in
    record {
      home = k.home;
      first = ap (λ xs. slice_get xs 0) (rest_other s crossed e k.home.cell (other_cell s e h.home k.home.cell apart)) ∙ k.first;
    }
