-- Arms are alike exactly where no arms differ.
use Rattle.std.proofs.Common.{◌≡◌, ℕ, zero, suc, ◌+◌, Bool, true, false, if◌then◌else◌, List, [], ◌∷◌, ◌++◌, map, refl, ap, sym, ◌∙◌}
use Rattle.std.proofs.lemmas.List.Elements.{All-nil, All-cons, All-head, All-tail}
use Rattle.std.specs.List.{All}
use Rattle.cell_types.specs.Alike.{AlikeAction, AlikeBlock, Alike}
use Rattle.cell_types.specs.Code.{Action, Set, SetAt, Write, Read, Take, Emit, For, If, Block, End, Then, CellCode, ProgramCode}
use Rattle.cell_types.specs.Communications.{Communication, block_communications}
use Rattle.comm_sequence.specs.Differing.{differing, differing_in, differing_from, all_differing, same_list}
use Rattle.comm_sequence.proofs.SameLists.{same_self, same_equal}

-- two parts that are nothing together
front_none : (xs ys : List ℕ) → xs ++ ys ≡ [] → xs ≡ []
front_none [] ys e = refl
front_none (x ∷ xs) ys e = absurd (cc e)

back_none : (xs ys : List ℕ) → xs ++ ys ≡ [] → ys ≡ []
back_none [] ys e = e
back_none (x ∷ xs) ys e = absurd (cc e)

-- two parts that are nothing are nothing together
both_none : (xs ys : List ℕ) → xs ≡ [] → ys ≡ [] → xs ++ ys ≡ []
both_none xs ys e f = ap (λ zs. zs ++ ys) e ∙ f

-- arms with no line are the same
no_line : (first second : List Communication) (line : ℕ) → (if same_list first second then [] else line ∷ []) ≡ []
    → first ≡ second
no_line first second line e = by_test (same_list first second) refl e
  where
    by_test : (b : Bool) → same_list first second ≡ b → (if b then [] else line ∷ []) ≡ [] → first ≡ second
    by_test true t n = same_equal first second t
    by_test false t n = absurd (cc n)

-- arms that are the same have no line
same_line : (first second : List Communication) (line : ℕ) → first ≡ second
    → (if same_list first second then [] else line ∷ []) ≡ []
same_line first second line e =
    let t : same_list first second ≡ true = ap (same_list first) (sym e) ∙ same_self first in
    ap (λ (b : Bool). if b then [] else line ∷ []) t

mutual
  -- an action without such lines is alike
  act_alike : (a : Action) (line : ℕ) → differing_in line a ≡ [] → AlikeAction a
  act_alike (Set word value) line e = tt
  act_alike (SetAt base len index value) line e = tt
  act_alike (Write message value) line e = tt
  act_alike (Read message word) line e = tt
  act_alike (Take word) line e = tt
  act_alike (Emit value) line e = tt
  act_alike (For counter zero body) line e = tt
  act_alike (For counter (suc n) body) line e = block_alike body e
  act_alike (If test first second) line e =
      let arms = front_none (differing first ++ differing second) _ e in (
        no_line (block_communications first) (block_communications second) line (back_none (differing first ++ differing second) _ e),
        block_alike first (front_none (differing first) (differing second) arms),
        block_alike second (back_none (differing first) (differing second) arms),
      )

  -- statements without such lines are alike
  pub block_alike : (b : Block) → differing b ≡ [] → AlikeBlock b
  block_alike End e = tt
  block_alike (Then line action rest) e = (
    act_alike action line (front_none (differing_in line action) (differing rest) e),
    block_alike rest (back_none (differing_in line action) (differing rest) e),
  )

mutual
  -- an action that is alike has no such lines
  act_none : (a : Action) (line : ℕ) → AlikeAction a → differing_in line a ≡ []
  act_none (Set word value) line h = refl
  act_none (SetAt base len index value) line h = refl
  act_none (Write message value) line h = refl
  act_none (Read message word) line h = refl
  act_none (Take word) line h = refl
  act_none (Emit value) line h = refl
  act_none (For counter zero body) line h = refl
  act_none (For counter (suc n) body) line h = block_none body h
  act_none (If test first second) line h =
      both_none (differing first ++ differing second) _
      (both_none (differing first) (differing second) (block_none first h.1) (block_none second h.2))
      (same_line (block_communications first) (block_communications second) line h.0)

  -- statements that are alike have no such lines
  pub block_none : (b : Block) → AlikeBlock b → differing b ≡ []
  block_none End h = refl
  block_none (Then line action rest) h =
      both_none (differing_in line action) (differing rest) (act_none action line h.0) (block_none rest h.1)

-- places that are nothing come from no lines
no_places : (cell : ℕ) (lines : List ℕ) (ys : List (ℕ × ℕ)) → map (λ line. (cell, line)) lines ++ ys ≡ [] → lines ≡ []
no_places cell [] ys e = refl
no_places cell (x ∷ lines) ys e = absurd (cc e)

other_places : (cell : ℕ) (lines : List ℕ) (ys : List (ℕ × ℕ)) → map (λ line. (cell, line)) lines ++ ys ≡ [] → ys ≡ []
other_places cell [] ys e = e
other_places cell (x ∷ lines) ys e = absurd (cc e)

-- cells without such places are alike
pub cells_alike : (cells : List CellCode) (cell : ℕ) → differing_from cell cells ≡ [] → All (λ (c : CellCode). AlikeBlock c.body) cells
cells_alike [] cell e = All-nil (λ (c : CellCode). AlikeBlock c.body)
cells_alike (c ∷ cs) cell e =
    All-cons (λ (c : CellCode). AlikeBlock c.body) c cs (block_alike c.body (no_places cell (differing c.body) (differing_from (cell + 1) cs) e))
    (cells_alike cs (cell + 1) (other_places cell (differing c.body) (differing_from (cell + 1) cs) e))

-- cells that are alike have no such places
pub cells_none : (cells : List CellCode) (cell : ℕ) → All (λ (c : CellCode). AlikeBlock c.body) cells → differing_from cell cells ≡ []
cells_none [] cell h = refl
cells_none (c ∷ cs) cell h =
    ap (λ lines. map (λ line. (cell, line)) lines ++ differing_from (cell + 1) cs)
    (block_none c.body (All-head (λ (c : CellCode). AlikeBlock c.body) c cs h))
    ∙ cells_none cs (cell + 1) (All-tail (λ (c : CellCode). AlikeBlock c.body) c cs h)

-- a program is alike exactly where it has no such places
pub alike_where : (p : ProgramCode) → (Alike p → all_differing p ≡ []) × (all_differing p ≡ [] → Alike p)
alike_where p = (cells_none p.cells 0, cells_alike p.cells 0)
