-- The image of a sound program whose arms communicate alike is shaped.
use Rattle.std.proofs.Common.{◌≡◌, ℕ, ◌+◌, ◌<◌, ◌≤◌, List, [], ◌∷◌, Option, None, Some, map, option_map, length, get_or, slice_get, IsSomeAnd, All, refl, sym, ap, subst, ◌∙◌, arith}
use Rattle.std.proofs.lemmas.List.Elements.{All-cons, All-head, All-map, All-nil, All-tail}
use Rattle.std.proofs.lemmas.List.FromFn.{get_or-range_with_len, length-map-range_with_len, length-range_with_len}
use Rattle.std.proofs.lemmas.Option.{same_Some, slice_get-get_or, slice_get-map, slice_get_within}
use Rattle.sys_base.specs.Grid.{cell_count}
use Rattle.sys_base.specs.declared.limits.TheConstants.{BUFFER}
use Rattle.cell_code.specs.Images.{IsShaped, IsShapedMessage, UsesItsEnds, grouped_links, link_groups}
use Rattle.cell_code.specs.ShapedCells.{IsShapedCell}
use Rattle.cell_code.specs.declared.image.CellImage.{CellImage}
use Rattle.cell_code.specs.declared.instruction.Instr.{Instr}
use Rattle.cell_code.specs.declared.instruction.Instr.TheVariants as I
use Rattle.cell_codegen.specs.Shapes.{IsAtItsEnd}
use Rattle.cell_types.specs.Alike.{Alike}
use Rattle.cell_types.specs.Code.{End, ProgramCode}
use Rattle.cell_types.specs.Groups.{below}
use Rattle.cell_types.specs.Resolved.{cell_with}
use Rattle.cell_types.specs.Sound.{IsSound, IsSoundMessage}
use Rattle.cell_types.specs.declared.program.Message.{Message}
use Rattle.program_image.specs.ImageOf.{cell_of, group_image, image_of, link_image, message_image, messages_from, messages_of}
use Rattle.program_image.proofs.Layers.{CellsAreShaped, CellsUseTheirEnds}
use Rattle.program_image.proofs.Messages.{got, many}

-- ---- groups of links

groups_back : (gs : List (ℕ × List ℕ)) → map (λ g. (g.label, g.members)) (map group_image gs) ≡ gs
groups_back [] = refl
groups_back (g ∷ gs) = ap (λ r. g ∷ r) (groups_back gs)

links_back : (program : ProgramCode) (links : List (ℕ × List (ℕ × List ℕ)))
    → map link_groups (map (link_image program) links) ≡ links
links_back program [] = refl
links_back program (l ∷ ls) =
    ap (λ gs. (l.0, gs) ∷ map link_groups (map (link_image program) ls)) (groups_back l.1)
    ∙ ap (λ r. l ∷ r) (links_back program ls)

-- ---- cells

pub cell_there : (program : ProgramCode) (cell : ℕ) → cell < length program.cells
    → slice_get (map (cell_of program) (below (length program.cells))) cell ≡ Some (cell_of program cell)
cell_there program cell h =
    let n = length program.cells in
    let at : slice_get (below n) cell ≡ Some (get_or (below n) cell 0) =
    slice_get-get_or (below n) cell 0 (omega (arith, h, length-range_with_len 0 n)) in
    let e : get_or (below n) cell 0 ≡ 0 + cell = get_or-range_with_len 0 n cell 0 h in
    let f : 0 + cell ≡ cell = omega arith in
    slice_get-map (cell_of program) (below n) cell ∙ ap (option_map (cell_of program)) at
    ∙ ap (λ k. Some (cell_of program k)) (e ∙ f)

-- ---- the image

module _ (program : ProgramCode) (labels : List ℕ) (sound : IsSound program) where
  shaped_from : (i : ℕ) (ms : List Message) → All (IsSoundMessage program.grid) ms
      → All (IsShapedMessage program.grid) (messages_from program labels i ms)
  shaped_from i [] all = All-nil (IsShapedMessage program.grid)
  shaped_from i (m ∷ ms) all =
      let s = All-head (IsSoundMessage program.grid) m ms all in
      All-cons (IsShapedMessage program.grid) (message_image program labels i m)
      (messages_from program labels (i + 1) ms)
      (record { from = s.sender; to = s.receiver; apart = s.apart; path = s.path })
      (shaped_from (i + 1) ms (All-tail (IsSoundMessage program.grid) m ms all))

  -- an instruction at its ends in the program is so in the image
  uses : (cell : ℕ) (instr : Instr) → IsAtItsEnd program.messages cell instr
      → UsesItsEnds (messages_of program labels) cell instr
  uses cell (I.Write m) h =
      go (slice_get program.messages m) refl h
    where
      go : (o : Option Message) → slice_get program.messages m ≡ o → IsSomeAnd o (λ (x : Message). x.from ≡ cell)
          → UsesItsEnds (messages_of program labels) cell (I.Write m)
      go None e k = absurd k
      go (Some x) e k = (message_image program labels m x, got program labels m x e, k)
  uses cell (I.Read m word) h =
      go (slice_get program.messages m) refl h
    where
      go : (o : Option Message) → slice_get program.messages m ≡ o → IsSomeAnd o (λ (x : Message). x.to ≡ cell)
          → UsesItsEnds (messages_of program labels) cell (I.Read m word)
      go None e k = absurd k
      go (Some x) e k = (message_image program labels m x, got program labels m x e, k)
  uses cell (I.Push number) h = tt
  uses cell (I.Load word) h = tt
  uses cell (I.LoadAt base len line) h = tt
  uses cell (I.Counter k) h = tt
  uses cell (I.Neg line) h = tt
  uses cell (I.Bin op line) h = tt
  uses cell (I.Store word) h = tt
  uses cell (I.StoreAt base len line) h = tt
  uses cell (I.Take word) h = tt
  uses cell I.Emit h = tt
  uses cell (I.Loop k turns exit) h = tt
  uses cell (I.Next k turns body) h = tt
  uses cell (I.IfZero target) h = tt
  uses cell (I.Jump target) h = tt
  uses cell I.Halt h = tt

  pub small_buffer : program.buffer ≤ BUFFER
  small_buffer = omega (arith, sound.buffer)

  pub cells_long : length (map (cell_of program) (below (length program.cells))) ≡ cell_count program.grid
  cells_long = length-map-range_with_len (cell_of program) 0 (length program.cells) ∙ sound.all

  module _ (alike : Alike program) (cells : CellsAreShaped) where
    pub shapes : All IsShapedCell (map (cell_of program) (below (length program.cells)))
    shapes =
        All-map IsShapedCell (cell_of program) (below (length program.cells)) (λ k d l.
        let n = length program.cells in
        let inside : k < n = omega (arith, l, length-range_with_len 0 n) in
        let e : get_or (below n) k d ≡ 0 + k = get_or-range_with_len 0 n k d inside in
        let f : k ≡ 0 + k = omega arith in
        subst (λ c. IsShapedCell (cell_of program c)) (f ∙ sym e)
        (cells program k sound (omega (arith, inside, sound.all)) (alike k (cell_with 0 End) inside)))

  module _ (alike : Alike program) (cells : CellsAreShaped) (at_ends : CellsUseTheirEnds) where
    ends : (cell : ℕ) (c : CellImage) (at : ℕ) (instr : Instr)
        → slice_get (map (cell_of program) (below (length program.cells))) cell ≡ Some c
        → slice_get c.code at ≡ Some instr → UsesItsEnds (messages_of program labels) cell instr
    ends cell c at instr is here =
        let l = slice_get_within (map (cell_of program) (below (length program.cells))) cell c is in
        let inside : cell < length program.cells = omega (arith, l, cells_long, sound.all) in
        let e : c ≡ cell_of program cell = same_Some c (cell_of program cell) (sym is ∙ cell_there program cell inside) in
        uses cell instr
        (at_ends program cell at instr sound (omega (arith, inside, sound.all))
        (subst (λ d. slice_get d.code at ≡ Some instr) e here))

    pub image_shaped : IsShaped (image_of program labels)
    image_shaped =
        record {
          buffer = small_buffer;
          most_messages = omega (arith, many program labels, sound.few);
          messages = shaped_from 0 program.messages sound.messages;
          links = links_back program (grouped_links program.grid (messages_of program labels));
          cells = cells_long;
          shapes = shapes alike cells;
          ends = ends;
        }
