-- The cells of a source without faults.
use Rattle.std.proofs.Common.{◌≡◌, ℕ, ◌+◌, ◌<◌, ◌≤◌, Bool, true, false, ◌||◌, List, [], ◌∷◌, ◌++◌, Option, Some, None, length, map, find, nat_eq, nat_lt, slice_get, refl, sym, ap, ◌∙◌, subst, arith, append-nil, append_assoc, zero-add, ltb-false, eqb-true, IfSome}
use Rattle.std.proofs.lemmas.Bool.{eqb-false, or_parts, cond_both}
use Rattle.std.proofs.lemmas.List.FromFn.{length-map-range_with_len, get_or-map-range_with_len}
use Rattle.std.proofs.lemmas.List.Sums.{sum_by-cons}
use Rattle.std.proofs.lemmas.Option.{slice_get_within, get_or_from_slice_get}
use Rattle.std.specs.List.{AllByRecursion}
use Rattle.sys_base.specs.declared.kinds.Limit.TheVariants as L
use Rattle.sys_base.specs.Grid.{Extent, cell_count}
use Rattle.cell_tree.specs.declared.source.MessageDecl.{MessageDecl}
use Rattle.cell_tree.specs.declared.source.VarDecl.{VarDecl}
use Rattle.cell_types.specs.Code.{CellCode}
use Rattle.cell_types.specs.Depth.{block_stack, block_loops}
use Rattle.cell_types.specs.Faults.{faults_behind, var_faults, cell_faults}
use Rattle.cell_types.specs.Names.{Scope, cell_index, words_of, total_words, placed_from, extent_of, named_message, scope_of}
use Rattle.cell_types.specs.Resolved.{resolved_block, cell_code, declaration_of, resolved_message, cells_of}
use Rattle.cell_types.specs.Sound.{Means, IsSoundCell}
use Rattle.cell_types.specs.Statics.{block_faults}
use Rattle.cell_types.specs.Written.{WrittenCell, WrittenSource}
use Rattle.cell_types.specs.declared.error.StaticError.TheVariants as E
use Rattle.cell_types.proofs.NoFaults.{none_front, none_back, when_none, each_kept, find_kept}
use Rattle.cell_types.proofs.SoundBodies.{block_sound}
use Rattle.cell_types.proofs.SoundNames.{IsPlaced, as_named, Fits}
use Rattle.cell_types.proofs.WrittenNumbers.{block_numbers, Small}

-- not none is some
at_least_one : (n : ℕ) → nat_eq n 0 ≡ false → 1 ≤ n
at_least_one n h = let some = eqb-false n 0 h in omega arith

-- the words of a variable that has no fault: some, and not too many together with those before it
words_kept : (names : List (List ℕ)) (earlier : List VarDecl) (v : VarDecl) → var_faults names earlier v ≡ []
    → (1 ≤ words_of v) × (total_words (earlier ++ v ∷ []) ≤ 1024)
words_kept names earlier v h =
    let total : ℕ = total_words (earlier ++ v ∷ []) in
    let parts = or_parts (nat_eq (words_of v) 0) (nat_lt 1024 total)
    (when_none (nat_eq (words_of v) 0 || nat_lt 1024 total) (E.Limit L.Words v.line) (none_back _ _ h)) in
    (at_least_one (words_of v) parts.0, ltb-false 1024 total parts.1)

-- how many words there are
total_kept : (names : List (List ℕ)) (earlier vs : List VarDecl) → faults_behind (var_faults names) earlier vs ≡ []
    → total_words earlier ≤ 1024 → total_words (earlier ++ vs) ≤ 1024
total_kept names earlier [] h few = subst (λ us. total_words us ≤ 1024) (sym (append-nil earlier)) few
total_kept names earlier (v ∷ vs) h few =
    subst (λ us. total_words us ≤ 1024) (append_assoc earlier (v ∷ []) vs)
    (total_kept names (earlier ++ v ∷ []) vs (none_back (var_faults names earlier v) _ h)
    (words_kept names earlier v (none_front (var_faults names earlier v) _ h)).1)

-- each variable stands among the words
placed : (words offset : ℕ) (vs : List VarDecl) → AllByRecursion (λ v. 1 ≤ words_of v) vs → offset + total_words vs ≤ words
    → AllByRecursion (IsPlaced words) (placed_from offset vs)
placed words offset [] some within = tt
placed words offset (v ∷ vs) some within =
    let all = sum_by-cons words_of v vs in
    (record { some = some.0; within = omega arith }, placed words (offset + words_of v) vs some.1 (omega arith))

-- messages as statements see them are those of the program
as_in_program : (g : Extent) (ms : List MessageDecl) → map (named_message g) ms ≡ map as_named (map (resolved_message g) ms)
as_in_program g [] = refl
as_in_program g (m ∷ ms) = ap (λ rest. named_message g m ∷ rest) (as_in_program g ms)

-- A cell's variables and statements have no fault.
record IsFree (s : WrittenSource) (c : WrittenCell) : Type 0 where
  vars : faults_behind (var_faults (map (λ (m : MessageDecl). m.name) s.messages)) [] c.vars ≡ []
  body : block_faults (scope_of s c) c.body ≡ []

-- A cell's statements need no deep stack, few of their loops stand inside one another, and their numbers are small.
pub record IsShallow (c : WrittenCell) : Type 0 where
  pub stack : (scope : Scope) → block_stack (resolved_block scope c.body) ≤ 256
  pub loops : (scope : Scope) → block_loops (resolved_block scope c.body) ≤ 16
  pub numbers : Small (block_numbers c.body)

-- a cell without faults
free : (s : WrittenSource) (earlier : List WrittenCell) (c : WrittenCell) → cell_faults s earlier c ≡ [] → IsFree s c
free s earlier c h =
    let g : Extent = extent_of s in
    let names : List (List ℕ) = map (λ (m : MessageDecl). m.name) s.messages in
    let front = none_front _ (block_faults (scope_of s c) c.body) h in
    record {
      vars = none_back _ (faults_behind (var_faults names) [] c.vars) front;
      body = none_back _ (block_faults (scope_of s c) c.body) h;
    }

-- a declared cell
declared_sound : (s : WrittenSource) (c : WrittenCell) → IsFree s c → IsShallow c
    → IsSoundCell (map (resolved_message (extent_of s)) s.messages) (cell_index (extent_of s) c.place) (cell_code s (Some c))
declared_sound s c free shallow =
    let g : Extent = extent_of s in
    let names : List (List ℕ) = map (λ (m : MessageDecl). m.name) s.messages in
    let scope : Scope = scope_of s c in
    let words : ℕ = total_words c.vars in
    let loops : ℕ = block_loops (resolved_block scope c.body) in
    let means : Means =
    record { messages = map (resolved_message g) s.messages; cell = cell_index g c.place; words = words; counters = loops } in
    let some = each_kept (var_faults names) (λ v. 1 ≤ words_of v) (λ earlier v h. (words_kept names earlier v h).0) [] c.vars free.vars in
    let fits : Fits means 0 scope = record {
      cell = refl;
      messages = as_in_program g s.messages;
      variables = placed words 0 c.vars some (omega arith);
      counters = refl;
    } in
    record {
      words = total_kept names [] c.vars free.vars (omega arith);
      counters = shallow.loops scope;
      stack = shallow.stack scope;
      loops = refl;
      depth = refl;
      body = block_sound means 0 scope fits c.body shallow.numbers (omega arith) free.body;
    }

-- a cell, declared or empty
code_sound : (s : WrittenSource) (index : ℕ) (o : Option WrittenCell) → IfSome o (IsFree s) → IfSome o IsShallow
    → IfSome o (λ c. cell_index (extent_of s) c.place ≡ index)
    → IsSoundCell (map (resolved_message (extent_of s)) s.messages) index (cell_code s o)
code_sound s index None free shallow here =
    record { words = omega arith; counters = omega arith; stack = omega arith; loops = refl; depth = refl; body = tt }
code_sound s index (Some c) free shallow here =
    subst (λ i. IsSoundCell (map (resolved_message (extent_of s)) s.messages) i (cell_code s (Some c))) here
    (declared_sound s c free shallow)

-- what is found passes the test
passes : {A : Type 0} (test : A → Bool) (xs : List A) → IfSome (find test xs) (λ x. test x ≡ true)
passes test [] = tt
passes test (x ∷ xs) =
    cond_both (test x) (Some x) (find test xs) (λ o. IfSome o (λ x. test x ≡ true)) (λ is. is) (λ _. passes test xs)

-- the cell that is found has the index that is looked for
same_index : (s : WrittenSource) (index : ℕ) (o : Option WrittenCell)
    → IfSome o (λ c. nat_eq (cell_index (extent_of s) c.place) index ≡ true)
    → IfSome o (λ c. cell_index (extent_of s) c.place ≡ index)
same_index s index None h = tt
same_index s index (Some c) h = eqb-true (cell_index (extent_of s) c.place) index h

-- each cell of the program
pub cells_kept : (s : WrittenSource) → faults_behind (cell_faults s) [] s.cells ≡ [] → AllByRecursion IsShallow s.cells
    → (index : ℕ) (cell : CellCode) → slice_get (map (λ c. cell_code s (declaration_of s c)) (cells_of s)) index ≡ Some cell
    → IsSoundCell (map (resolved_message (extent_of s)) s.messages) index cell
cells_kept s h shallow index cell is =
    let code : ℕ → CellCode = λ c. cell_code s (declaration_of s c) in
    let count : ℕ = cell_count (extent_of s) in
    let test : WrittenCell → Bool = λ (c : WrittenCell). nat_eq (cell_index (extent_of s) c.place) index in
    let lt : index < count = subst (λ n. index < n) (length-map-range_with_len code 0 count) (slice_get_within _ index cell is) in
    let same : code index ≡ cell =
    sym (get_or-map-range_with_len code 0 count index index cell lt (zero-add index)) ∙ get_or_from_slice_get _ index cell cell is in
    subst (IsSoundCell (map (resolved_message (extent_of s)) s.messages) index) same
    (code_sound s index (declaration_of s index)
    (find_kept (IsFree s) test s.cells (each_kept (cell_faults s) (IsFree s) (free s) [] s.cells h))
    (find_kept IsShallow test s.cells shallow)
    (same_index s index (declaration_of s index) (passes test s.cells)))

-- one cell for each cell of the grid
pub cells_length : (s : WrittenSource)
    → length (map (λ c. cell_code s (declaration_of s c)) (cells_of s)) ≡ cell_count (extent_of s)
cells_length s = length-map-range_with_len (λ c. cell_code s (declaration_of s c)) 0 (cell_count (extent_of s))
