-- What an input file gives to an accepted source.
use Rattle.std.proofs.Common.{◌≡◌, ◌<◌, ℕ, ℤ, zero, suc, List, [], ◌∷◌, Option, None, Some, map, length, slice_index, slice_index_or, refl, sym, ◌∙◌, subst, inl, inr, arith}
use Rattle.array_model.specs.States.{IsCounted}
use Rattle.cell_code.specs.declared.image.CellImage.{CellImage}
use Rattle.cell_code.specs.declared.image.Image.{Image}
use Rattle.program_image.specs.Faithful.{HasOneMeaning, inputs_of}
use Rattle.sys_base.specs.Grid.{cell_count}
use Rattle.systole_top.specs.Given.{Given, Taken, Bad, AreGiven, IsGiven, takes_of}
use Rattle.systole_top.specs.Judgement.{Plan, IsPlanOf}
use Rattle.systole_top.specs.Texts.{input_line, long_input_line}
use Rattle.systole_top.proofs.Laws.{Laws}

-- what a cell takes, by the list of all
takes_at : (none : CellImage) (cells : List CellImage) (c : ℕ) → c < length cells
    → slice_index (map (λ (i : CellImage). i.takes) cells) c ≡ (slice_index_or cells c none).takes
takes_at none [] c l = absurd (omega (arith, l))
takes_at none (cell ∷ cells) zero l = refl
takes_at none (cell ∷ cells) (suc c) l = takes_at none cells c (omega (arith, l))

-- inputs that a file gives have the words that the cells take
pub counted : (image : Image) (bytes : List ℕ) (inputs : List (List ℤ)) → length image.cells ≡ cell_count image.grid
    → AreGiven image bytes inputs → IsCounted image (inputs_of inputs)
counted image bytes inputs cells given c l =
    given.counts c l ∙ takes_at _ image.cells c (omega (arith, l, cells))

module _ (laws : Laws) where
  -- every file gives something
  pub some_given : (image : Image) (file : Option (List ℕ)) → (given : Given) × IsGiven image file given
  some_given image None = (Bad long_input_line, refl)
  some_given image (Some bytes) =
      elim (laws.inputs bytes image.grid (takes_of image)) [
        | inl taken ↦ (Taken taken.0, taken.1)
        | inr broken ↦ (Bad (input_line image.grid broken.0), (broken.0, broken.1, broken.2, refl))
      ]

  -- what is given was read whole
  pub given_whole : (image : Image) (file : Option (List ℕ)) (inputs : List (List ℤ)) → IsGiven image file (Taken inputs)
      → (bytes : List ℕ) × (file ≡ Some bytes) × AreGiven image bytes inputs
  given_whole image None inputs is = absurd (cc)
  given_whole image (Some bytes) inputs is = (bytes, refl, is)

  -- an accepted source has one meaning for what a file gives
  pub one_meaning : (text : List ℕ) (plan : Plan) (bytes : List ℕ) (inputs : List (List ℤ)) → IsPlanOf text plan → AreGiven plan.image bytes inputs
      → HasOneMeaning plan.program inputs
  one_meaning text plan bytes inputs of given =
      let faithful = laws.faithful text plan.image of.is in
      let counts = counted plan.image bytes inputs (laws.shaped text plan.image of.is).cells given in
      subst (λ p. HasOneMeaning p inputs) (sym of.program_is) (faithful.meaning inputs counts)
