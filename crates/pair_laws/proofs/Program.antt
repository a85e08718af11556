-- The program of the source of pairs: what its cells communicate and cost.
use Rattle.std.proofs.Common.{◌≡◌, ℕ, ◌+◌, ◌*◌, ◌<◌, ◌≤◌, ◌++◌, Bool, true, false, List, [], ◌∷◌, map, length, refl, sym, subst, ap, ◌∙◌, arith, append_assoc}
use Rattle.std.specs.Prelude.{nat_eq, if◌then◌else◌}
use Rattle.std.specs.Fmt.{digits}
use Rattle.std.specs.List.{flat_map, All}
use Rattle.std.proofs.lemmas.Bool.{eqb-true}
use Rattle.std.proofs.lemmas.List.Elements.{All-head, All-tail}
use Rattle.sys_base.specs.Groups.{below}
use Rattle.cell_types.specs.Alike.{AlikeBlock}
use Rattle.cell_types.specs.Code.{Block}
use Rattle.cell_types.specs.Communications.{Communication, Writes, Reads, Emits, block_communications}
use Rattle.cell_types.specs.Cost.{block_cost}
use Rattle.cell_types.specs.Names.{meaning}
use Rattle.cell_types.specs.Resolved.{message_meant, resolved_block, resolved_program}
use Rattle.cell_types.specs.Written.{WrittenAction}
use Rattle.pair_gen.specs.Generated.{message_name, sender, receiver}
use Rattle.pair_gen.proofs.Below.{passes_below}
use Rattle.pair_laws.specs.bodies.Paired.{write_of, read_of, emit_of, actions_of, block_of, paired_cell, paired}
use Rattle.pair_laws.proofs.Faultless.{scope}
use Rattle.pair_laws.proofs.Same.{own_bodies}

-- the statements of a cell
abbrev pub body_code : List ℕ → ℕ → Block
body_code ms cell = resolved_block (scope cell) (paired_cell ms cell).body

pub bodies_are : (ms : List ℕ) → own_bodies (resolved_program (paired ms)) ≡ map (body_code ms) (below 16)
bodies_are ms = refl

-- a message's name means the message
meant : (cell m : ℕ) → m < 24 → message_meant (meaning (scope cell) (message_name m)) ≡ m
unfolding digits
meant cell m within =
    eqb-true (message_meant (meaning (scope cell) (message_name m))) m
    (passes_below (λ k. nat_eq (message_meant (meaning (scope cell) (message_name k))) k) 24 m within refl)

-- what a cell communicates in a pair
abbrev pub pair_made : ℕ → ℕ → List Communication
pair_made cell message =
    (if nat_eq (sender message) cell then Writes message ∷ [] else [])
    ++ (if nat_eq (receiver message) cell then Reads message ∷ [] else [])

-- what a cell communicates
abbrev pub made_of : List ℕ → ℕ → List Communication
made_of ms cell = flat_map (pair_made cell) ms ++ Emits ∷ []

-- the code of some actions
abbrev code : ℕ → List WrittenAction → Block
code cell actions = resolved_block (scope cell) (block_of actions)

more_made : (cell : ℕ) (b c : Bool) (m : ℕ) (rest : List WrittenAction) → message_meant (meaning (scope cell) (message_name m)) ≡ m
    → block_communications (code cell (((if b then write_of m ∷ [] else []) ++ (if c then read_of m ∷ [] else [])) ++ rest))
    ≡ ((if b then Writes m ∷ [] else []) ++ (if c then Reads m ∷ [] else [])) ++ block_communications (code cell rest)
more_made cell true true m rest h = ap (λ k. Writes k ∷ Reads k ∷ block_communications (code cell rest)) h
more_made cell true false m rest h = ap (λ k. Writes k ∷ block_communications (code cell rest)) h
more_made cell false true m rest h = ap (λ k. Reads k ∷ block_communications (code cell rest)) h
more_made cell false false m rest h = refl

rest_made : (cell : ℕ) (ms : List ℕ) → All (λ m. m < 24) ms
    → block_communications (code cell (flat_map (actions_of cell) ms ++ emit_of ∷ [])) ≡ made_of ms cell
rest_made cell [] known = refl
rest_made cell (m ∷ ms) known =
    let rest : List WrittenAction = flat_map (actions_of cell) ms ++ emit_of ∷ [] in
    ap (λ xs. block_communications (code cell xs)) (append_assoc (actions_of cell m) (flat_map (actions_of cell) ms) (emit_of ∷ []))
    ∙ more_made cell (nat_eq (sender m) cell) (nat_eq (receiver m) cell) m rest (meant cell m (All-head (λ k. k < 24) m ms known))
    ∙ ap (λ ys. pair_made cell m ++ ys) (rest_made cell ms (All-tail (λ k. k < 24) m ms known))
    ∙ sym (append_assoc (pair_made cell m) (flat_map (pair_made cell) ms) (Emits ∷ []))

pub body_made : (ms : List ℕ) → All (λ m. m < 24) ms → (cell : ℕ) → block_communications (body_code ms cell) ≡ made_of ms cell
body_made ms known cell = rest_made cell ms known

-- ---- cost

more_cost : (cell : ℕ) (b c : Bool) (m : ℕ) (rest : List WrittenAction)
    → block_cost (code cell (((if b then write_of m ∷ [] else []) ++ (if c then read_of m ∷ [] else [])) ++ rest)) ≤ 5 + block_cost (code cell rest)
unfolding digits
more_cost cell true true m rest = omega arith
more_cost cell true false m rest = omega arith
more_cost cell false true m rest = omega arith
more_cost cell false false m rest = omega arith

rest_cost : (cell : ℕ) (ms : List ℕ) → block_cost (code cell (flat_map (actions_of cell) ms ++ emit_of ∷ [])) ≤ 2 + 5 * length ms
unfolding digits
rest_cost cell [] = omega arith
rest_cost cell (m ∷ ms) =
    let rest : List WrittenAction = flat_map (actions_of cell) ms ++ emit_of ∷ [] in
    let more : block_cost (code cell (actions_of cell m ++ rest)) ≤ 5 + block_cost (code cell rest) =
    more_cost cell (nat_eq (sender m) cell) (nat_eq (receiver m) cell) m rest in
    let same : block_cost (code cell (flat_map (actions_of cell) (m ∷ ms) ++ emit_of ∷ [])) ≡ block_cost (code cell (actions_of cell m ++ rest)) =
    ap (λ xs. block_cost (code cell xs)) (append_assoc (actions_of cell m) (flat_map (actions_of cell) ms) (emit_of ∷ [])) in
    let others : block_cost (code cell rest) ≤ 2 + 5 * length ms = rest_cost cell ms in
    omega (arith, same, more, others)

pub body_cost : (ms : List ℕ) (cell : ℕ) → block_cost (body_code ms cell) ≤ 4 + 5 * length ms
body_cost ms cell =
    let rest : block_cost (code cell (flat_map (actions_of cell) ms ++ emit_of ∷ [])) ≤ 2 + 5 * length ms = rest_cost cell ms in
    omega (arith, rest)

-- ---- choices

more_alike : (cell : ℕ) (b c : Bool) (m : ℕ) (rest : List WrittenAction) → AlikeBlock (code cell rest)
    → AlikeBlock (code cell (((if b then write_of m ∷ [] else []) ++ (if c then read_of m ∷ [] else [])) ++ rest))
more_alike cell true true m rest h = (tt, (tt, h))
more_alike cell true false m rest h = (tt, h)
more_alike cell false true m rest h = (tt, h)
more_alike cell false false m rest h = h

rest_alike : (cell : ℕ) (ms : List ℕ) → AlikeBlock (code cell (flat_map (actions_of cell) ms ++ emit_of ∷ []))
rest_alike cell [] = (tt, tt)
rest_alike cell (m ∷ ms) =
    let A : List WrittenAction → Type 0 = λ xs. AlikeBlock (code cell xs) in
    subst A (sym (append_assoc (actions_of cell m) (flat_map (actions_of cell) ms) (emit_of ∷ [])))
    (more_alike cell (nat_eq (sender m) cell) (nat_eq (receiver m) cell) m (flat_map (actions_of cell) ms ++ emit_of ∷ []) (rest_alike cell ms))

pub body_alike : (ms : List ℕ) (cell : ℕ) → AlikeBlock (body_code ms cell)
body_alike ms cell = (tt, rest_alike cell ms)
