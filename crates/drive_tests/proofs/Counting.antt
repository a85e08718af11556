-- Inputs with as many words as the cells take.
use Rattle.std.proofs.Common.{◌≡◌, ℤ, ℕ, ◌<◌, List, [], length, map, get_or, ap, sym, ◌∙◌, arith}
use Rattle.std.proofs.lemmas.List.{get_or-map, length-map}
use Rattle.cell_code.specs.declared.image.CellImage.{CellImage}
use Rattle.cell_code.specs.declared.image.Image.{Image}
use Rattle.array_model.specs.States.{IsCounted, cells}
use Rattle.array_sim.specs.Simulations.{inputs_of}

abbrev takes : CellImage → ℕ
takes c = c.takes

abbrev no_cell : CellImage
no_cell = record { takes = 0; emits = 0; words = 0; counters = 0; stack = 0; code = [] }

-- there are as many lists as cells
pub list_each : (image : Image) (lists : List (List ℤ)) → map length lists ≡ map takes image.cells
    → length image.cells ≡ cells image → length lists ≡ cells image
list_each image lists same all =
    sym (length-map lists length) ∙ ap length same ∙ length-map image.cells takes ∙ all

-- where the lists are as long as what the cells take, they are counted
pub counted_by : (image : Image) (lists : List (List ℤ)) → map length lists ≡ map takes image.cells
    → length image.cells ≡ cells image → IsCounted image (inputs_of lists)
counted_by image lists same all c k =
    sym (get_or-map length lists c [] 0 (omega (arith, k, list_each image lists same all)))
    ∙ ap (λ xs. get_or xs c 0) same ∙ get_or-map takes image.cells c no_cell 0 (omega (arith, k, all))
