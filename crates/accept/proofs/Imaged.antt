-- The code of the cells of a source's program is short.
use Rattle.std.proofs.Common.{⊎_elim, ℕ, ◌≡◌, ◌+◌, ◌<◌, ◌≤◌, ◌^◌, List, length, All, sym, subst, arith}
use Rattle.std.proofs.lemmas.Bool.{cases_lt}
use Rattle.std.proofs.lemmas.List.{get_or_past}
use Rattle.std.proofs.lemmas.List.Elements.{All-get_or}
use Rattle.std.specs.Prelude.{slice_index_or}
use Rattle.sys_base.specs.declared.limits.TheConstants.{SOURCE_BYTES}
use Rattle.cell_codegen.specs.Emission.{body_code}
use Rattle.cell_tree.specs.declared.source.Source.{Source}
use Rattle.cell_tree.specs.Nodes.{source_nodes}
use Rattle.cell_types.specs.Code.{CellCode, ProgramCode}
use Rattle.cell_types.specs.Resolved.{program_of}
use Rattle.cell_types.specs.Size.{block_size}
use Rattle.cell_types.specs.Solo.{code_of}
use Rattle.accept.specs.Source.{IsSource}
use Rattle.accept.specs.bodies.Laws.{CodeLaws}

-- what holds of each element and of another value holds of an element or that value
element : {X : Type 0} (P : X → Type 0) (xs : List X) (i : ℕ) (d : X) → All P xs → P d → P (slice_index_or xs i d)
element P xs i d all other =
    ⊎_elim (λ inside. All-get_or P xs i d inside all) (λ past. subst P (sym (get_or_past xs i d past)) other)
    (cases_lt i (length xs))

-- the code of each cell is far below 32 bits
pub short_code : (laws : CodeLaws) (text : List ℕ) (s : Source) → length text ≤ SOURCE_BYTES → IsSource text s
    → (p : ProgramCode) → p ≡ program_of s → (cell : ℕ) → length (body_code (code_of p cell).body) < 2 ^ 32
short_code laws text s short is p same cell =
    let nodes : source_nodes s ≤ length text = laws.nodes text is.tokens s is.lexed is.read in
    let cells : All (λ (c : CellCode). block_size c.body ≤ source_nodes s) p.cells =
    subst (λ (q : ProgramCode). All (λ (c : CellCode). block_size c.body ≤ source_nodes s) q.cells) (sym same) (laws.instructions s) in
    let few : block_size (code_of p cell).body ≤ source_nodes s =
    element (λ (c : CellCode). block_size c.body ≤ source_nodes s) p.cells cell _ cells (omega (arith)) in
    let sized : length (body_code (code_of p cell).body) ≡ block_size (code_of p cell).body + 1 = laws.sized (code_of p cell) in
    omega (arith, nodes, short, few, sized)
