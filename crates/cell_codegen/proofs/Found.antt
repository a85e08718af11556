-- A cell of a program, as its definitions see it.
use Rattle.std.proofs.Common.{◌≡◌, ℕ, ◌<◌, ℤ, List, length, map, get_or, Some, refl, sym, ◌∙◌, ap, subst, arith}
use Rattle.std.proofs.lemmas.List.{length-map}
use Rattle.std.specs.Prelude.{Result, Ok, Err, IfOk}
use Rattle.std.specs.List.{slice_get}
use Rattle.std.specs.Option.{unwrap_or, option_map}
use Rattle.std.proofs.lemmas.Option.{slice_get_read, slice_get-map, unwrap_or-slice_get}
use Rattle.sys_base.specs.Grid.{cell_count}
use Rattle.sys_base.specs.Held.{Streams}
use Rattle.cell_code.specs.ShapedCells.{IsShapedCell}
use Rattle.cell_types.specs.Alike.{AlikeBlock}
use Rattle.cell_types.specs.Code.{CellCode, End}
use Rattle.cell_types.specs.Communications.{communications}
use Rattle.cell_types.specs.Resolved.{cell_with}
use Rattle.cell_types.specs.Solo.{code_of, solo}
use Rattle.cell_types.specs.Sound.{IsSound}
use Rattle.cell_types.specs.Typed.{Contents, plain, plain_cell, block_of}
use Rattle.cell_types.specs.declared.cell.Cell.{Cell}
use Rattle.cell_codegen.specs.Bounds.{SmallBlock}
use Rattle.cell_codegen.specs.Emission.{body_code}
use Rattle.cell_codegen.specs.Following.{Follows}
use Rattle.cell_codegen.specs.Shapes.{IsSoundCode, cell_image}
use Rattle.cell_codegen.proofs.EachCell as E
use Rattle.cell_codegen.proofs.Small.{small_block}

pub if_ok : {T E : Type 0} (r : Result T E) (P Q : T → Type 0) → ((x : T) → P x → Q x) → IfOk r P → IfOk r Q
if_ok (Ok x) P Q f h = f x h
if_ok (Err e) P Q f h = tt

module _ (p : Contents) (i : ℕ) (x : Cell) (within : i < cell_count p.grid) (cells : List Cell) (same : cells ≡ p.cells) (is : x ≡ get_or cells i x) (sound : IsSound (plain p)) where
  got : slice_get (map plain_cell p.cells) i ≡ Some (plain_cell x)
  got =
      let l : length (map plain_cell p.cells) ≡ cell_count p.grid = sound.all in
      let m : length (map plain_cell p.cells) ≡ length p.cells = length-map p.cells plain_cell in
      let there : x ≡ get_or p.cells i x = subst (λ cs. x ≡ get_or cs i x) same is in
      slice_get-map plain_cell p.cells i ∙ ap (λ o. option_map plain_cell o) (slice_get_read p.cells (length p.cells) i x refl (omega arith) there)

  pub code_is : code_of (plain p) i ≡ plain_cell x
  code_is =
      sym (unwrap_or-slice_get (map plain_cell p.cells) i (cell_with 0 End)) ∙ ap (λ o. unwrap_or o (cell_with 0 End)) got

  body_is : body_code (code_of (plain p) i).body ≡ body_code (block_of x.body.items)
  body_is = ap (λ (c : CellCode). body_code c.body) code_is

  pub is_small : SmallBlock (block_of x.body.items)
  is_small = small_block _ 0 (block_of x.body.items) (sound.cells i (plain_cell x) got).body

  pub is_followed : (input : List ℤ) (streams : Streams) → Follows (body_code (block_of x.body.items)) (plain p) i input streams
  is_followed input streams =
      subst (λ is. Follows is (plain p) i input streams) body_is (E.followed (plain p) i sound within input streams)

  pub communicates : AlikeBlock (code_of (plain p) i).body → (input : List ℤ) (streams : Streams) →
      (solo (plain p) i input streams).made ≡ communications (plain p) i
  communicates alike input streams = E.communicates (plain p) i sound within alike input streams

  pub is_sound_code : IsSoundCode (code_of (plain p) i) (body_code (block_of x.body.items))
  is_sound_code = subst (λ is. IsSoundCode (code_of (plain p) i) is) body_is (E.is_sound_code (plain p) i sound within)

  pub is_shaped : AlikeBlock (code_of (plain p) i).body → IsShapedCell (cell_image (plain p) i (body_code (block_of x.body.items)))
  is_shaped alike =
      subst (λ is. IsShapedCell (cell_image (plain p) i is)) body_is (E.is_shaped (plain p) i sound within alike)
