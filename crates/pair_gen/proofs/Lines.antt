-- Statements on lines one after another.
use Rattle.std.proofs.Common.{◌≡◌, ℕ, suc, ◌+◌, ◌*◌, ◌<◌, ◌≤◌, Bool, true, false, List, [], ◌∷◌, ◌++◌, refl, ap, sym, ◌∙◌, arith, length, get_or, take, length-append}
use Rattle.std.specs.Prelude.{nat_eq, if◌then◌else◌}
use Rattle.std.specs.List.{flat_map, sum_by}
use Rattle.std.proofs.lemmas.List.{flat_map_more, take_more}
use Rattle.std.proofs.lemmas.List.Sums.{sum_by-append}
use Rattle.sys_base.specs.Groups.{below}
use Rattle.cell_tree.specs.declared.statement.Act.{Act}
use Rattle.cell_tree.specs.declared.statement.Stmt.{Stmt}
use Rattle.pair_gen.specs.Generated.{sender, receiver, write_act, read_act, set_act, emit_act, pair_acts, cell_acts, on_lines, cell_lines, first_line}
use Rattle.pair_gen.proofs.Below.{below_more}

pub length-on_lines : (line : ℕ) (acts : List Act) → length (on_lines line acts) ≡ length acts
length-on_lines line [] = refl
length-on_lines line (act ∷ acts) = ap (λ (n : ℕ). suc n) (length-on_lines (line + 1) acts)

pub on_lines-append : (line : ℕ) (xs ys : List Act) → on_lines line (xs ++ ys) ≡ on_lines line xs ++ on_lines (line + length xs) ys
on_lines-append line [] ys =
    let same : line ≡ line + 0 = omega arith in
    ap (λ l. on_lines l ys) same
on_lines-append line (x ∷ xs) ys =
    let same : line + 1 + length xs ≡ line + suc (length xs) = omega arith in
    let C : List Stmt → List Stmt = λ zs. record { line = line; act = x } ∷ zs in
    ap C (on_lines-append (line + 1) xs ys ∙ ap (λ l. on_lines (line + 1) xs ++ on_lines l ys) same)

-- more statements after others
pub added : (line : ℕ) (old new : List Stmt) (acts more : List Act) → old ≡ on_lines line acts
    → new ≡ old ++ on_lines (line + length old) more → new ≡ on_lines line (acts ++ more)
added line old new acts more was is =
    let long : length old ≡ length acts = ap length was ∙ length-on_lines line acts in
    is ∙ ap (λ ss. ss ++ on_lines (line + length old) more) was ∙ ap (λ n. on_lines line acts ++ on_lines (line + n) more) long
    ∙ sym (on_lines-append line acts more)

one_if : (b : Bool) (act : Act) → length (if b then act ∷ [] else []) ≤ 1
one_if true act = omega arith
one_if false act = omega arith

-- A cell has at most two statements for a pair.
pub two_acts : (cell message : ℕ) → length (pair_acts cell message) ≤ 2
two_acts cell message =
    omega (
      arith,
      one_if (nat_eq (sender message) cell) (write_act message),
      one_if (nat_eq (receiver message) cell) (read_act message),
      length-append (if nat_eq (sender message) cell then write_act message ∷ [] else []) (if nat_eq (receiver message) cell then read_act message ∷ [] else []),
    )

two_each : (cell : ℕ) (messages : List ℕ) → length (flat_map (pair_acts cell) messages) ≤ 2 * length messages
two_each cell [] = omega arith
two_each cell (m ∷ ms) =
    omega (arith, two_acts cell m, two_each cell ms, length-append (pair_acts cell m) (flat_map (pair_acts cell) ms))

pub few_acts : (messages : List ℕ) (cell : ℕ) → length (cell_acts messages cell) ≤ 2 + 2 * length messages
unfolding cell_acts
few_acts messages cell =
    omega (arith, two_each cell messages, length-append (set_act cell ∷ flat_map (pair_acts cell) messages) (emit_act ∷ []))

-- the statements of one more pair
pub body_step : (line cell : ℕ) (xs : List ℕ) (i : ℕ) (old new : List Stmt) → i < length xs
    → old ≡ on_lines line (set_act cell ∷ flat_map (pair_acts cell) (take i xs))
    → new ≡ old ++ on_lines (line + length old) (pair_acts cell (get_or xs i 0))
    → new ≡ on_lines line (set_act cell ∷ flat_map (pair_acts cell) (take (i + 1) xs))
body_step line cell xs i old new within was is =
    added line old new (set_act cell ∷ flat_map (pair_acts cell) (take i xs)) (pair_acts cell (get_or xs i 0)) was is
    ∙ ap (on_lines line) (flat_map_more (pair_acts cell) (set_act cell ∷ []) (take i xs) (get_or xs i 0))
    ∙ ap (λ ys. on_lines line (set_act cell ∷ flat_map (pair_acts cell) ys)) (sym (take_more xs i 0 within))

-- and the last one
pub body_end : (line cell : ℕ) (xs ys : List ℕ) (old new : List Stmt) (act : Act) → ys ≡ xs → act ≡ emit_act
    → old ≡ on_lines line (set_act cell ∷ flat_map (pair_acts cell) ys)
    → new ≡ old ++ on_lines (line + length old) (act ∷ []) → new ≡ on_lines line (cell_acts xs cell)
unfolding cell_acts
body_end line cell xs ys old new act all emits was is =
    added line old new (set_act cell ∷ flat_map (pair_acts cell) ys) (act ∷ []) was is
    ∙ ap (λ a. on_lines line ((set_act cell ∷ flat_map (pair_acts cell) ys) ++ a ∷ [])) emits
    ∙ ap (λ zs. on_lines line ((set_act cell ∷ flat_map (pair_acts cell) zs) ++ emit_act ∷ [])) all

-- The next cell begins where this one has ended.
pub next_line : (messages : List ℕ) (cell : ℕ) → first_line messages (cell + 1) ≡ first_line messages cell + 3 + length (cell_acts messages cell)
next_line messages cell =
    let more : sum_by (cell_lines messages) (below (cell + 1)) ≡ sum_by (cell_lines messages) (below cell) + cell_lines messages cell =
    ap (sum_by (cell_lines messages)) (below_more cell)
    ∙ sum_by-append (cell_lines messages) (below cell) (cell ∷ []) ∙ (omega arith) in
    omega (arith, more)
