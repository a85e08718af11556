-- The machines of the cells, made one after another.
use Rattle.std.proofs.Common.{◌≡◌, ℤ, ℕ, ◌+◌, ◌<◌, List, [], ◌∷◌, ◌++◌, length, drop, get_or, ap, sym, subst, ◌∙◌, arith, inl, inr}
use Rattle.std.proofs.lemmas.Bool.{cases_lt}
use Rattle.std.proofs.lemmas.List.{drop_more, get_or_append_left, get_or_push, get_or_read, length-drop, length_push}
use Rattle.cell_code.specs.declared.image.CellImage.{CellImage}
use Rattle.cell_code.specs.declared.image.Image.{Image}
use Rattle.cell_machine.specs.Machine.{Machine}
use Rattle.array_model.specs.States.{cell_of}
use Rattle.array_sim.specs.Simulations.{inputs_of, machine_at}

-- the next input of those that are left
pub record Next (cells : List (List ℤ)) (n : ℕ) (input : List ℤ) (left : List (List ℤ)) : Type 0 where
  pub inside : n < length cells
  pub input_is : inputs_of cells n ≡ input
  pub left_is : left ≡ drop (n + 1) cells

pub next_input : (cells rest : List (List ℤ)) (n : ℕ) (input : List ℤ) (left : List (List ℤ)) → rest ≡ drop n cells
    → rest ≡ input ∷ left → Next cells n input left
next_input cells rest n input left all first =
    let inside : n < length cells = omega (arith, ap length all, ap length first, length-drop n cells) in
    let both : input ∷ left ≡ get_or cells n [] ∷ drop (n + 1) cells = sym first ∙ all ∙ drop_more cells n [] inside in
    record { inside = inside; input_is = cc; left_is = cc }

abbrev no_cell : CellImage
no_cell = record { takes = 0; emits = 0; words = 0; counters = 0; stack = 0; code = [] }

-- the image of a cell, as the code has it
pub image_here : (image : Image) (images : List CellImage) (item : CellImage) (index n : ℕ) → images ≡ image.cells
    → item ≡ get_or images index item → index ≡ n → n < length image.cells → item ≡ cell_of image n
image_here image images item index n same is at inside =
    get_or_read images index item (omega (arith, ap length same, at, inside)) is no_cell
    ∙ ap (λ xs. get_or xs index no_cell) same ∙ ap (cell_of image) at

-- what holds of each machine so far, and of the next one, holds of each machine then
pub each_more : (P : ℕ → Machine → Type 0) (machines new : List Machine) (m : Machine) → new ≡ machines ++ m ∷ []
    → ((c : ℕ) → c < length machines → P c (machine_at machines c)) → P (length machines) m
    → (c : ℕ) → c < length new → P c (machine_at new c)
each_more P machines new m is before here c k =
    subst (λ xs. P c (machine_at xs c)) (sym is)
    (elim (cases_lt c (length machines)) [
      | inl l ↦ subst (P c) (sym (get_or_append_left machines (m ∷ []) _ c l)) (before c l)
      | inr g ↦
          let at : length machines ≡ c = omega (arith, ap length is, length_push machines m, k, g) in
          subst (P c) (sym (get_or_push machines m _ c at)) (subst (λ i. P i m) at here)
    ])
