-- The default directions are a route.
use Rattle.std.proofs.Common.{ℕ, ◌≡◌, ◌≢◌, ◌+◌, ◌-◌, ◌/◌, ◌<◌, ◌≤◌, ◌⊎◌, ◌++◌, zero, suc, inl, inr, List, [], ◌∷◌, Some, All, sym, refl, ap, ◌∙◌, subst, ⊎_elim, arith, nat_lt}
use Rattle.std.proofs.lemmas.Bool.{cases_order, lt-ltb, cond-true}
use Rattle.std.proofs.lemmas.List.Elements.{All-cons, All-weaker}
use Rattle.std.proofs.lemmas.List.Kept.{AllPairs-cons}
use Rattle.sys_base.specs.declared.kinds.Dir.{Dir}
use Rattle.sys_base.specs.declared.kinds.Dir.TheVariants.{N, E, S, W}
use Rattle.sys_base.specs.Grid.{Extent, cell_count, cell_at, row_of, col_of, neighbour_of, link_id}
use Rattle.routes.specs.declared.error.RouteError.{RouteError}
use Rattle.routes.specs.Faults.{IsFault}
use Rattle.routes.specs.Walks.{straight, default_directions, Walks, IsTrail}
use Rattle.routes.proofs.Hops.{row_inside, col_inside, cell_again, stands, cell_of_link}
use Rattle.routes.proofs.OneRoute.{route_no_fault}
use Rattle.routes.proofs.Straight.{straight_onward, straight_back, straight_none}

-- how far apart two numbers are
abbrev gap : ℕ → ℕ → ℕ
gap a b = (b - a) + (a - b)

-- how many hops two cells are apart
abbrev hops : Extent → ℕ → ℕ → ℕ
hops g from to = gap (col_of g from) (col_of g to) + gap (row_of g from) (row_of g to)

-- the first hop of the default route leads to a cell that is one hop nearer, and the rest is the default route from there
record Nearer (g : Extent) (from to n : ℕ) : Type 0 where
  d : Dir
  next : ℕ
  split : default_directions g from to ≡ d ∷ default_directions g next to
  leads : neighbour_of g from d ≡ Some next
  inside : next < cell_count g
  left : hops g next to ≡ n

-- the default directions and the hops, by rows and columns
abbrev by_places : ℕ → ℕ → ℕ → ℕ → List Dir
by_places c r to_c to_r = straight E W c to_c ++ straight S N r to_r

abbrev hops_by : ℕ → ℕ → ℕ → ℕ → ℕ
hops_by c r to_c to_r = gap c to_c + gap r to_r

-- a hop to a row and a column, from where the rest leads on
some_hop : (g : Extent) (from to n : ℕ) (d : Dir) (r c : ℕ) → r < g.rows → c < g.cols
    → default_directions g from to ≡ d ∷ by_places c r (col_of g to) (row_of g to) → neighbour_of g from d ≡ Some (cell_at g r c)
    → hops_by c r (col_of g to) (row_of g to) ≡ n → Nearer g from to n
some_hop g from to n d r c rl cl split leads left =
    let s = stands g r c rl cl in
    record {
      d = d;
      next = cell_at g r c;
      split = split ∙ sym (λ i. d ∷ by_places (s.in_col i) (s.in_row i) (col_of g to) (row_of g to));
      leads = leads;
      inside = s.inside;
      left = (λ i. hops_by (s.in_col i) (s.in_row i) (col_of g to) (row_of g to)) ∙ left;
    }

-- the first hop in another column than the last cell
along_row : (g : Extent) (from to n : ℕ) → from < cell_count g → to < cell_count g → hops g from to ≡ suc n
    → (col_of g from < col_of g to) ⊎ (col_of g to < col_of g from) → Nearer g from to n
along_row g from to n f t h (inl lt) =
    let r = row_inside g from f in
    let c = col_inside g to t in
    let yes : nat_lt (col_of g from + 1) g.cols ≡ nat_lt 0 1 = lt-ltb _ _ (omega arith) in
    some_hop g from to n E (row_of g from) (col_of g from + 1) r (omega arith)
    (ap (λ ds. ds ++ straight S N (row_of g from) (row_of g to)) (straight_onward E W (col_of g from) (col_of g to) lt))
    (cond-true _ _ _ yes) (omega arith)
along_row g from to n f t h (inr lt) =
    let r = row_inside g from f in
    let c = col_inside g from f in
    let yes : nat_lt 0 (col_of g from) ≡ nat_lt 0 1 = lt-ltb _ _ (omega arith) in
    some_hop g from to n W (row_of g from) (col_of g from - 1) r (omega arith)
    (ap (λ ds. ds ++ straight S N (row_of g from) (row_of g to)) (straight_back E W (col_of g from) (col_of g to) lt))
    (cond-true _ _ _ yes) (omega arith)

-- in the column of the last cell the default route goes along it
in_column : (g : Extent) (from to : ℕ) → col_of g from ≡ col_of g to → default_directions g from to ≡ straight S N (row_of g from) (row_of g to)
in_column g from to e =
    ap (λ c. straight E W c (col_of g to) ++ straight S N (row_of g from) (row_of g to)) e
    ∙ ap (λ ds. ds ++ straight S N (row_of g from) (row_of g to)) (straight_none E W (col_of g to))

-- in the column of the last cell the rest goes along it
column_on : (g : Extent) (from to r : ℕ) → col_of g from ≡ col_of g to → straight S N r (row_of g to) ≡ by_places (col_of g from) r (col_of g to) (row_of g to)
column_on g from to r e =
    sym (ap (λ c. straight E W c (col_of g to) ++ straight S N r (row_of g to)) e
    ∙ ap (λ ds. ds ++ straight S N r (row_of g to)) (straight_none E W (col_of g to)))

-- the first hop in the column of the last cell
along_column : (g : Extent) (from to n : ℕ) → from < cell_count g → to < cell_count g → hops g from to ≡ suc n → col_of g from ≡ col_of g to
    → (row_of g from < row_of g to) ⊎ (row_of g to < row_of g from) → Nearer g from to n
along_column g from to n f t h e (inl lt) =
    let r = row_inside g to t in
    let c = col_inside g from f in
    let yes : nat_lt (row_of g from + 1) g.rows ≡ nat_lt 0 1 = lt-ltb _ _ (omega arith) in
    some_hop g from to n S (row_of g from + 1) (col_of g from) (omega arith) c
    (in_column g from to e ∙ straight_onward S N (row_of g from) (row_of g to) lt ∙ ap (λ ds. S ∷ ds) (column_on g from to (row_of g from + 1) e))
    (cond-true _ _ _ yes) (omega arith)
along_column g from to n f t h e (inr lt) =
    let r = row_inside g from f in
    let c = col_inside g from f in
    let yes : nat_lt 0 (row_of g from) ≡ nat_lt 0 1 = lt-ltb _ _ (omega arith) in
    some_hop g from to n N (row_of g from - 1) (col_of g from) (omega arith) c
    (in_column g from to e ∙ straight_back S N (row_of g from) (row_of g to) lt ∙ ap (λ ds. N ∷ ds) (column_on g from to (row_of g from - 1) e))
    (cond-true _ _ _ yes) (omega arith)

-- cells that are apart have a first hop
nearer : (g : Extent) (from to n : ℕ) → from < cell_count g → to < cell_count g → hops g from to ≡ suc n → Nearer g from to n
nearer g from to n f t h =
    ⊎_elim (λ e. along_column g from to n f t h e
    (⊎_elim (λ r. absurd (omega arith)) (λ o. o) (cases_order (row_of g from) (row_of g to))))
    (λ o. along_row g from to n f t h o) (cases_order (col_of g from) (col_of g to))

-- cells that are no hop apart are one
same_cell : (g : Extent) (from to : ℕ) → hops g from to ≡ 0 → from ≡ to
same_cell g from to h =
    let c : col_of g from ≡ col_of g to = omega arith in
    let r : row_of g from ≡ row_of g to = omega arith in
    sym (cell_again g from) ∙ (λ i. cell_at g (r i) (c i)) ∙ cell_again g to

-- no direction leads from a cell to itself
no_directions : (g : Extent) (to : ℕ) → default_directions g to to ≡ []
no_directions g to = in_column g to to refl ∙ straight_none S N (row_of g to)

-- a trail by the default directions, over links that leave cells no farther than the first
record HasDefault (g : Extent) (from to n : ℕ) : Type 0 where
  links : List ℕ
  trail : IsTrail g from (default_directions g from to) links to
  near : All (λ l. hops g (l / 4) to ≤ n) links

-- the default directions are a trail
has_default : (n : ℕ) (g : Extent) (from to : ℕ) → from < cell_count g → to < cell_count g → hops g from to ≡ n → HasDefault g from to n
has_default zero g from to f t h =
    let e = same_cell g from to h in
    subst (λ c. HasDefault g c to 0) (sym e) (record {
      links = [];
      trail = record {
        walk = subst (λ ds. Walks g to ds [] to) (sym (no_directions g to)) refl;
        differ = λ i j d lt within. absurd (omega arith);
      };
      near = λ k d lt. absurd (omega arith);
    })
has_default (suc n) g from to f t h =
    let hop = nearer g from to n f t h in
    let rest = has_default n g hop.next to hop.inside t hop.left in
    let link = link_id from hop.d in
    let far : hops g (link / 4) to ≡ suc n = ap (λ c. hops g c to) (cell_of_link from hop.d) ∙ h in
    record {
      links = link ∷ rest.links;
      trail = record {
        walk = subst (λ ds. Walks g from ds (link ∷ rest.links) to) (sym hop.split) (refl, hop.next, hop.leads, rest.trail.walk);
        differ = AllPairs-cons (λ k l. k ≢ l) link rest.links
            (All-weaker (λ l. hops g (l / 4) to ≤ n) (λ l. link ≢ l) (λ l le e. let same = ap (λ k. hops g (k / 4) to) e in absurd (omega arith)) rest.links rest.near)
            rest.trail.differ;
      };
      near = All-cons (λ l. hops g (l / 4) to ≤ suc n) link rest.links (omega arith)
          (All-weaker (λ l. hops g (l / 4) to ≤ n) (λ l. hops g (l / 4) to ≤ suc n) (λ l le. omega arith) rest.links rest.near);
    }

-- a default route has no fault
pub no_default_fault : (g : Extent) (from to : ℕ) (e : RouteError) → from < cell_count g → to < cell_count g → IsFault g from to [] e → ⊥
no_default_fault g from to e f t fault =
    let d = has_default (hops g from to) g from to f t refl in
    route_no_fault g from to [] d.links e d.trail fault
