-- The source of pairs has no fault.
use Rattle.std.proofs.Common.{◌≡◌, ℕ, zero, suc, ◌+◌, ◌<◌, ◌≤◌, ◌++◌, Bool, true, false, List, [], ◌∷◌, map, length, refl, sym, ap, subst, arith, append_assoc}
use Rattle.std.specs.Prelude.{None, nat_eq, not, ◌&&◌, if◌then◌else◌}
use Rattle.std.specs.Fmt.{digits}
use Rattle.std.specs.List.{flat_map, list_any, All, range_with_len}
use Rattle.std.proofs.lemmas.Bool.{eqb-true, false≢true}
use Rattle.std.proofs.lemmas.List.Elements.{All-head, All-tail}
use Rattle.sys_base.specs.Grid.{Extent}
use Rattle.sys_base.specs.Groups.{below}
use Rattle.cell_tree.specs.declared.source.MessageDecl.{MessageDecl}
use Rattle.cell_types.specs.Faults.{is_off_grid, faults_behind, message_faults, var_faults, cell_faults, source_faults}
use Rattle.cell_types.specs.Names.{Scope, NamedMessage, scope_of, cell_index, named_message}
use Rattle.cell_types.specs.Statics.{when, action_faults, block_faults}
use Rattle.cell_types.specs.Written.{WrittenAction, WrittenCell}
use Rattle.cell_types.specs.declared.error.StaticError.{StaticError}
use Rattle.cell_types.specs.declared.error.StaticError.TheVariants as E
use Rattle.cell_types.specs.declared.error.What.TheVariants as W
use Rattle.cell_types.proofs.FirstFaults.{none_joined}
use Rattle.pair_gen.specs.Generated.{variable_name, sender, receiver, place_of, message_decl}
use Rattle.pair_gen.proofs.Below.{map_below_more, passes_below}
use Rattle.pair_laws.specs.bodies.Bare.{bare_message}
use Rattle.pair_laws.specs.bodies.Paired.{set_of, write_of, read_of, emit_of, actions_of, block_of, paired_cell, paired}

abbrev grid : Extent
grid = record { rows = 4; cols = 4 }

-- the messages as statements see them
abbrev pub seen : List NamedMessage
seen = map (λ message. named_message grid (bare_message (message_decl message))) (below 24)

-- what can be named in a cell
abbrev pub scope : ℕ → Scope
scope cell = record { cell = cell; messages = seen; variables = record { name = variable_name; offset = 0; length = None } ∷ []; counters = [] }

-- no fault at all
none_of : (es : List StaticError) → nat_eq (length es) 0 ≡ true → es ≡ []
none_of [] h = refl
none_of (e ∷ es) h = absurd (omega (arith, eqb-true (suc (length es)) 0 h))

-- ---- statements

write_none : (m : ℕ) → m < 24 → action_faults (scope (sender m)) 0 (write_of m) ≡ []
unfolding digits
write_none m within =
    none_of (action_faults (scope (sender m)) 0 (write_of m))
    (passes_below (λ k. nat_eq (length (action_faults (scope (sender k)) 0 (write_of k))) 0) 24 m within refl)

read_none : (m : ℕ) → m < 24 → action_faults (scope (receiver m)) 0 (read_of m) ≡ []
unfolding digits
read_none m within =
    none_of (action_faults (scope (receiver m)) 0 (read_of m))
    (passes_below (λ k. nat_eq (length (action_faults (scope (receiver k)) 0 (read_of k))) 0) 24 m within refl)

set_none : (cell : ℕ) → action_faults (scope cell) 0 (set_of cell) ≡ []
unfolding digits
set_none cell = refl

emit_none : (cell : ℕ) → action_faults (scope cell) 0 emit_of ≡ []
unfolding digits
emit_none cell = refl

-- a statement before others
before : (s : Scope) (a : WrittenAction) (rest : List WrittenAction) → action_faults s 0 a ≡ [] → block_faults s (block_of rest) ≡ []
    → block_faults s (block_of (a ∷ rest)) ≡ []
before s a rest h k = none_joined (action_faults s 0 a) (block_faults s (block_of rest)) h k

more_none : (s : Scope) (b c : Bool) (m : ℕ) (rest : List WrittenAction) → (b ≡ true → action_faults s 0 (write_of m) ≡ [])
    → (c ≡ true → action_faults s 0 (read_of m) ≡ []) → block_faults s (block_of rest) ≡ []
    → block_faults s (block_of (((if b then write_of m ∷ [] else []) ++ (if c then read_of m ∷ [] else [])) ++ rest)) ≡ []
more_none s true true m rest w r h = before s (write_of m) (read_of m ∷ rest) (w refl) (before s (read_of m) rest (r refl) h)
more_none s true false m rest w r h = before s (write_of m) rest (w refl) h
more_none s false true m rest w r h = before s (read_of m) rest (r refl) h
more_none s false false m rest w r h = h

rest_none : (cell : ℕ) (ms : List ℕ) → All (λ m. m < 24) ms
    → block_faults (scope cell) (block_of (flat_map (actions_of cell) ms ++ emit_of ∷ [])) ≡ []
rest_none cell [] known = before (scope cell) emit_of [] (emit_none cell) refl
rest_none cell (m ∷ ms) known =
    let within : m < 24 = All-head (λ k. k < 24) m ms known in
    let rest : List WrittenAction = flat_map (actions_of cell) ms ++ emit_of ∷ [] in
    let N : List WrittenAction → Type 0 = λ xs. block_faults (scope cell) (block_of xs) ≡ [] in
    let W : ℕ → Type 0 = λ c. action_faults (scope c) 0 (write_of m) ≡ [] in
    let R : ℕ → Type 0 = λ c. action_faults (scope c) 0 (read_of m) ≡ [] in
    subst N (sym (append_assoc (actions_of cell m) (flat_map (actions_of cell) ms) (emit_of ∷ [])))
    (more_none (scope cell) (nat_eq (sender m) cell) (nat_eq (receiver m) cell) m rest
    (λ is. subst W (eqb-true (sender m) cell is) (write_none m within))
    (λ is. subst R (eqb-true (receiver m) cell is) (read_none m within))
    (rest_none cell ms (All-tail (λ k. k < 24) m ms known)))

body_none : (cell : ℕ) (ms : List ℕ) → All (λ m. m < 24) ms → block_faults (scope cell) (paired_cell ms cell).body ≡ []
body_none cell ms known =
    before (scope cell) (set_of cell) (flat_map (actions_of cell) ms ++ emit_of ∷ []) (set_none cell) (rest_none cell ms known)

-- ---- declarations

messages_none : faults_behind (message_faults grid) [] (map (λ message. bare_message (message_decl message)) (below 24)) ≡ []
unfolding digits
messages_none = refl

-- a cell is in the grid and no other before it has its place, and its variable is like no other
abbrev stands : List ℕ → ℕ → Bool
stands ms cell =
    nat_eq (cell_index grid (place_of cell)) cell
    && (not (is_off_grid grid (place_of cell))
    && not (list_any (λ (c : WrittenCell). nat_eq (cell_index grid c.place) (cell_index grid (place_of cell))) (map (paired_cell ms) (below cell))))

all_stand : (ms : List ℕ) (cell : ℕ) → cell < 16 → stands ms cell ≡ true
all_stand ms cell within = passes_below (stands ms) 16 cell within refl

variable_none : (cell : ℕ) (ms : List ℕ)
    → faults_behind (var_faults (map (λ (m : MessageDecl). m.name) (paired ms).messages)) [] (paired_cell ms cell).vars ≡ []
unfolding digits
variable_none cell ms = refl

-- the scope of a cell
scope_is : (ms : List ℕ) (cell : ℕ) → cell_index grid (place_of cell) ≡ cell → scope_of (paired ms) (paired_cell ms cell) ≡ scope cell
scope_is ms cell h = ap (λ c. record (scope cell) { cell = c }) h

and_both : (a b : Bool) → (a && b) ≡ true → (a ≡ true) × (b ≡ true)
and_both true true h = (refl, refl)
and_both true false h = (refl, h)
and_both false b h = absurd (false≢true h)

pub index_is : (ms : List ℕ) (cell : ℕ) → cell < 16 → cell_index grid (place_of cell) ≡ cell
index_is ms cell within = eqb-true (cell_index grid (place_of cell)) cell (and_both _ _ (all_stand ms cell within)).0

when_none : (b : Bool) (e : StaticError) → not b ≡ true → when b e ≡ []
when_none true e h = absurd (false≢true h)
when_none false e h = refl

cell_none : (ms : List ℕ) → All (λ m. m < 24) ms → (cell : ℕ) → cell < 16
    → cell_faults (paired ms) (map (paired_cell ms) (below cell)) (paired_cell ms cell) ≡ []
cell_none ms known cell within =
    let c : WrittenCell = paired_cell ms cell in
    let earlier : List WrittenCell = map (paired_cell ms) (below cell) in
    let twice : Bool = list_any (λ (d : WrittenCell). nat_eq (cell_index grid d.place) (cell_index grid c.place)) earlier in
    let tests = and_both (not (is_off_grid grid (place_of cell))) (not twice) (and_both (nat_eq (cell_index grid (place_of cell)) cell) _ (all_stand ms cell within)).1 in
    let outside : List StaticError = when (is_off_grid grid c.place) (E.OutsideGrid 0) in
    let again : List StaticError = when twice (E.Twice (W.Cell (cell_index grid c.place)) 0) in
    let vars : List StaticError = faults_behind (var_faults (map (λ (m : MessageDecl). m.name) (paired ms).messages)) [] c.vars in
    let N : Scope → Type 0 = λ s. block_faults s c.body ≡ [] in
    none_joined (outside ++ again ++ vars) (block_faults (scope_of (paired ms) c) c.body)
    (none_joined (outside ++ again) vars
    (none_joined outside again (when_none (is_off_grid grid c.place) (E.OutsideGrid 0) tests.0)
    (when_none twice (E.Twice (W.Cell (cell_index grid c.place)) 0) tests.1)) (variable_none cell ms))
    (subst N (sym (scope_is ms cell (index_is ms cell within))) (body_none cell ms known))

-- the cells from one on
cells_from : (ms : List ℕ) → All (λ m. m < 24) ms → (n from : ℕ) → from + n ≤ 16
    → faults_behind (cell_faults (paired ms)) (map (paired_cell ms) (below from)) (map (paired_cell ms) (range_with_len from n)) ≡ []
cells_from ms known zero from within = refl
cells_from ms known (suc n) from within =
    let N : List WrittenCell → Type 0 = λ before. faults_behind (cell_faults (paired ms)) before (map (paired_cell ms) (range_with_len (from + 1) n)) ≡ [] in
    let more : map (paired_cell ms) (below (from + 1)) ≡ map (paired_cell ms) (below from) ++ paired_cell ms from ∷ [] =
    map_below_more (paired_cell ms) from in
    none_joined (cell_faults (paired ms) (map (paired_cell ms) (below from)) (paired_cell ms from))
    (faults_behind (cell_faults (paired ms)) (map (paired_cell ms) (below from) ++ paired_cell ms from ∷ []) (map (paired_cell ms) (range_with_len (from + 1) n)))
    (cell_none ms known from (omega arith))
    (subst N more (cells_from ms known n (from + 1) (omega arith)))

-- the source has no fault
pub paired_faultless : (ms : List ℕ) → All (λ m. m < 24) ms → source_faults (paired ms) ≡ []
paired_faultless ms known =
    none_joined (faults_behind (message_faults grid) [] (paired ms).messages)
    (faults_behind (cell_faults (paired ms)) [] (paired ms).cells) messages_none (cells_from ms known 16 0 (omega arith))
