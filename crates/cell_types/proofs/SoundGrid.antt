-- The grid and the queues of a source without faults.
use Rattle.std.proofs.Common.{◌≡◌, ℕ, zero, suc, ◌+◌, ◌*◌, ◌<◌, ◌≤◌, Option, Some, None, List, [], ◌++◌, length, get_or, flat_map, find, refl, sym, ap, ◌∙◌, subst, arith, zero-add, is_some, MatchOption}
use Rattle.std.proofs.lemmas.List.{get_or_append_left}
use Rattle.std.proofs.lemmas.Bool.{ltb-false}
use Rattle.std.proofs.Common.{get_or-append-add}
use Rattle.std.specs.List.{range_with_len}
use Rattle.std.specs.Prelude.{if◌then◌else◌, nat_eq}
use Rattle.sys_base.specs.declared.kinds.Dir.{Dir}
use Rattle.sys_base.specs.declared.kinds.Dir.TheVariants.{N, E, S, W}
use Rattle.sys_base.specs.declared.kinds.Limit.TheVariants as L
use Rattle.sys_base.specs.Grid.{Extent, IsExtent, cell_count, neighbour_of, dir_number, link_id}
use Rattle.cell_tree.specs.declared.source.LinkDecl.{LinkDecl}
use Rattle.cell_types.specs.Faults.{is_outside, faults_behind, array_faults, queues_faults, link_faults, declared_link}
use Rattle.cell_types.specs.Names.{extent_of}
use Rattle.cell_types.specs.Resolved.{queues_of, cell_queues, cells_of}
use Rattle.cell_types.specs.Sound.{HaveQueues}
use Rattle.cell_types.specs.Statics.{when}
use Rattle.cell_types.specs.Written.{WrittenSource}
use Rattle.cell_types.specs.declared.error.StaticError.TheVariants as E
use Rattle.cell_types.proofs.NoFaults.{none_front, none_back, when_none, within, each_kept, find_kept, map_or_kept}

-- the rows and columns are 1 to 16
pub grid_kept : (s : WrittenSource) → array_faults s ≡ [] → IsExtent (extent_of s)
grid_kept s h =
    let rows = within 1 16 s.rows (when_none _ _ (none_front (when (is_outside 1 16 s.rows) (E.Limit L.Rows s.array_line)) _ h)) in
    let cols = within 1 16 s.cols (when_none _ _ (none_back (when (is_outside 1 16 s.rows) (E.Limit L.Rows s.array_line)) _ h)) in
    record { some_rows = rows.0; most_rows = rows.1; some_cols = cols.0; most_cols = cols.1 }

-- A link of the grid has so many queues.
abbrev IsQueues : ℕ → Type 0
IsQueues n = (1 ≤ n) × (n ≤ 32)

-- the `queues` line gives as many as a link may have
default_kept : (s : WrittenSource) → queues_faults s ≡ [] → IsQueues s.queues
default_kept s h = within 1 32 s.queues (when_none _ _ (none_front (when (is_outside 1 32 s.queues) (E.Limit L.Queues s.queues_line)) _ h))

-- the buffer is 64 at most
pub buffer_kept : (s : WrittenSource) → queues_faults s ≡ [] → s.buffer ≤ 64
buffer_kept s h = ltb-false 64 s.buffer (when_none _ _ (none_back (when (is_outside 1 32 s.queues) (E.Limit L.Queues s.queues_line)) _ h))

-- so does a `link` line
link_kept : (g : Extent) (earlier : List LinkDecl) (l : LinkDecl) → link_faults g earlier l ≡ [] → IsQueues l.queues
link_kept g earlier l h = within 1 32 l.queues (when_none (is_outside 1 32 l.queues) (E.Limit L.Queues l.line) (none_back _ _ h))

-- the queues of a link, and none where there is no link
queue_kept : (o : Option ℕ) (n q : ℕ) → IsQueues n → q ≡ (if is_some o then n else 0) → MatchOption o (q ≡ 0) (λ _. (1 ≤ q) × (q ≤ 32))
queue_kept None n q k is = is
queue_kept (Some x) n q k is = subst (λ m. (1 ≤ m) × (m ≤ 32)) (sym is) k

-- the number of a cell's element among those of all
at_cell : (f : ℕ → List ℕ) → ((c : ℕ) → length (f c) ≡ 4) → (a n cell j : ℕ) → cell < n → j < 4
    → get_or (flat_map f (range_with_len a n)) (4 * cell + j) 0 ≡ get_or (f (a + cell)) j 0
at_cell f four a zero cell j lt small = absurd (omega arith)
at_cell f four a (suc n) zero j lt small =
    let here : get_or (f a ++ flat_map f (range_with_len (a + 1) n)) j 0 ≡ get_or (f a) j 0 =
    get_or_append_left (f a) (flat_map f (range_with_len (a + 1) n)) 0 j (omega (arith, four a)) in
    let e : 4 * 0 + j ≡ j = omega arith in
    let b : a ≡ a + 0 = omega arith in
    ap (λ k. get_or (flat_map f (range_with_len a (suc n))) k 0) e ∙ here ∙ ap (λ c. get_or (f c) j 0) b
at_cell f four a (suc n) (suc cell) j lt small =
    let rest : List ℕ = flat_map f (range_with_len (a + 1) n) in
    let e : 4 * suc cell + j ≡ length (f a) + (4 * cell + j) = omega (arith, four a) in
    let b : (a + 1) + cell ≡ a + suc cell = omega arith in
    ap (λ k. get_or (f a ++ rest) k 0) e ∙ get_or-append-add (f a) rest (4 * cell + j) 0
    ∙ at_cell f four (a + 1) n cell j (omega arith) small ∙ ap (λ c. get_or (f c) j 0) b

-- a cell's queues in the order of the directions
in_order : (s : WrittenSource) (cell : ℕ) (dir : Dir) → get_or (cell_queues s cell) (dir_number dir) 0 ≡ queues_of s cell dir
in_order s cell N = refl
in_order s cell E = refl
in_order s cell S = refl
in_order s cell W = refl

-- there are four directions
dir_small : (dir : Dir) → dir_number dir < 4
dir_small N = omega arith
dir_small E = omega arith
dir_small S = omega arith
dir_small W = omega arith

-- four for each cell
pub queues_length : (s : WrittenSource) (a n : ℕ) → length (flat_map (cell_queues s) (range_with_len a n)) ≡ 4 * n
queues_length s a zero = refl
queues_length s a (suc n) = let e = queues_length s (a + 1) n in omega arith

-- each link has its queues
pub queues_kept : (s : WrittenSource) → queues_faults s ≡ [] → faults_behind (link_faults (extent_of s)) [] s.links ≡ []
    → HaveQueues (extent_of s) (flat_map (cell_queues s) (cells_of s))
queues_kept s h links cell dir lt =
    let g : Extent = extent_of s in
    let all = each_kept (link_faults g) (λ l. IsQueues l.queues) (link_kept g) [] s.links links in
    let found = find_kept (λ l. IsQueues l.queues) (λ l. nat_eq (declared_link g l) (link_id cell dir)) s.links all in
    let some = map_or_kept (λ l. IsQueues l.queues) IsQueues (λ (l : LinkDecl). l.queues)
    (find (λ l. nat_eq (declared_link g l) (link_id cell dir)) s.links) s.queues found (default_kept s h) (λ l k. k) in
    queue_kept (neighbour_of g cell dir) _ _ some
    (at_cell (cell_queues s) (λ c. refl) 0 (cell_count g) cell (dir_number dir) lt (dir_small dir)
    ∙ ap (λ c. get_or (cell_queues s c) (dir_number dir) 0) (zero-add cell) ∙ in_order s cell dir)
