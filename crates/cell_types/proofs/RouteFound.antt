-- The route or the first fault between two cells is what the walk as a value answers.
use Rattle.std.proofs.Common.{ℕ, ◌≡◌, ◌+◌, true, false, List, [], ◌∷◌, ◌++◌, Some, None, Option, Ok, Err, IsSome, Contains, length, get_or, nat_eq, refl, sym, ap, subst, ◌∙◌, append_assoc, eq-eqb, arith, true≢false, suc}
use Rattle.std.proofs.Common.{length-append}
use Rattle.std.specs.List.{list_any}
use Rattle.std.proofs.lemmas.Bool.{eqb-true, ne_eqb, false_from_ne_true}
use Rattle.std.proofs.lemmas.List.{append-nil, get_or_append_left, get_or_at}
use Rattle.std.proofs.lemmas.List.Folds.{Any-from_list_any, list_any_at}
use Rattle.sys_base.specs.declared.kinds.Dir.{Dir}
use Rattle.sys_base.specs.Grid.{Extent, neighbour_of, link_id}
use Rattle.routes.specs.declared.error.RouteError.{RouteError}
use Rattle.routes.specs.declared.error.RouteError.TheVariants as E
use Rattle.routes.specs.Faults.{FaultOf, IsFault, ComesTo}
use Rattle.routes.specs.Walks.{directions, Walks, Differ, IsTrail, IsRoute}
use Rattle.cell_types.specs.Route.{Walked, hop, walk_on, route_between, walked_with}
use Rattle.cell_types.specs.declared.error.RouteFault.TheVariants as R

-- where all links differ, the one behind some is none of those
fresh : (used : List ℕ) (link : ℕ) (links : List ℕ) → Differ (used ++ link ∷ links) → list_any (nat_eq link) used ≡ false
fresh used link links differ =
    false_from_ne_true (list_any (nat_eq link) used)
    (λ there. let any = Any-from_list_any (nat_eq link) used there in
    let (k, x, l, at, same) = any in
    let n : length (used ++ link ∷ links) ≡ length used + suc (length links) = length-append used (link ∷ links) in
    differ k (length used) x l (omega arith)
    (get_or_append_left used (link ∷ links) x k l ∙ at ∙ sym (eqb-true link x same)
    ∙ sym (get_or_at used link links x (length used) refl)))

-- a hop over a fresh link
hop_on : (used : List ℕ) (link : ℕ) (o : Option ℕ) (next : ℕ) (on : ℕ → Walked) → o ≡ Some next → list_any (nat_eq link) used ≡ false
    → hop used link o on ≡ on next
hop_on used link o next on there new = rw (there, new)

-- a hop over a link that is used
hop_twice : (used : List ℕ) (link : ℕ) (o : Option ℕ) (on : ℕ → Walked) → IsSome o → list_any (nat_eq link) used ≡ true
    → hop used link o on ≡ Err (R.LinkTwice link)
hop_twice used link None on there old = absurd (true≢false (sym there))
hop_twice used link (Some next) on there old = rw old refl

-- a link that is contained is found
any_used : (used : List ℕ) (link : ℕ) → Contains used link → list_any (nat_eq link) used ≡ true
any_used used link (k, l, at) = list_any_at (nat_eq link) used k link l (eq-eqb link (get_or used k link) (sym at))

-- some directions that walk over fresh links are walked, and then the rest
walked_on : (g : Extent) (to : ℕ) (used : List ℕ) (cell : ℕ) (before rest : List Dir) (links : List ℕ) (mid : ℕ)
    → Walks g cell before links mid → Differ (used ++ links)
    → walk_on g to used cell (before ++ rest) ≡ walk_on g to (used ++ links) mid rest
walked_on g to used cell [] rest [] mid walk differ =
    ap (λ us. walk_on g to us cell rest) (sym (append-nil used)) ∙ ap (λ c. walk_on g to (used ++ []) c rest) walk
walked_on g to used cell [] rest (link ∷ links) mid walk differ = absurd walk
walked_on g to used cell (d ∷ ds) rest [] mid walk differ = absurd walk
walked_on g to used cell (d ∷ ds) rest (link ∷ links) mid (is, next, there, walk) differ =
    hop_on used (link_id cell d) (neighbour_of g cell d) next (λ n. walk_on g to (used ++ link_id cell d ∷ []) n (ds ++ rest)) there
    (fresh used (link_id cell d) links (subst (λ l. Differ (used ++ l ∷ links)) is differ))
    ∙ ap (λ l. walk_on g to (used ++ l ∷ []) next (ds ++ rest)) (sym is)
    ∙ walked_on g to (used ++ link ∷ []) next ds rest links mid walk (subst Differ (sym (append_assoc used (link ∷ []) links)) differ)
    ∙ ap (λ us. walk_on g to us mid rest) (append_assoc used (link ∷ []) links)

-- a trail is walked, and then the rest
trail_walked : (g : Extent) (to from : ℕ) (before rest : List Dir) (links : List ℕ) (cell : ℕ) → IsTrail g from before links cell
    → walk_on g to [] from (before ++ rest) ≡ walk_on g to links cell rest
trail_walked g to from before rest links cell trail = walked_on g to [] from before rest links cell trail.walk trail.differ

-- the route is what the walk answers
pub route_found : (g : Extent) (from to : ℕ) (given : List Dir) (links : List ℕ) → IsRoute g from to given links
    → route_between g from to given ≡ Ok links
route_found g from to given links route =
    ap (walk_on g to [] from) (sym (append-nil (directions g from to given)))
    ∙ trail_walked g to from (directions g from to given) [] links to route
    ∙ rw (eq-eqb to to refl) refl

-- a trail that comes to a cell, and the hop from there
comes_to : (g : Extent) (from to : ℕ) (ds : List Dir) (links : List ℕ) (cell : ℕ) (d : Dir) (c : ComesTo g from ds links cell d)
    → walk_on g to [] from ds ≡ hop links (link_id cell d) (neighbour_of g cell d) (λ next. walk_on g to (links ++ link_id cell d ∷ []) next c.after)
comes_to g from to ds links cell d c =
    ap (walk_on g to [] from) c.split ∙ trail_walked g to from c.before (d ∷ c.after) links cell c.trail

-- the first fault of some directions is what their walk answers
fault_walked : (g : Extent) (from to : ℕ) (ds : List Dir) (e : RouteError) → FaultOf g from to ds e → walk_on g to [] from ds ≡ walked_with e
fault_walked g from to ds E.LeavesGrid (links, cell, d, comes, none) =
    comes_to g from to ds links cell d comes ∙ rw none refl
fault_walked g from to ds (E.LinkTwice link) (links, cell, d, comes, there, is, used) =
    comes_to g from to ds links cell d comes
    ∙ hop_twice links (link_id cell d) (neighbour_of g cell d) _ there (any_used links (link_id cell d) (subst (Contains links) is used))
    ∙ ap (λ l. walked_with (E.LinkTwice l)) (sym is)
fault_walked g from to ds E.WrongEnd (links, cell, trail, other) =
    ap (walk_on g to [] from) (sym (append-nil ds)) ∙ trail_walked g to from ds [] links cell trail ∙ rw (ne_eqb cell to other) refl
fault_walked g from to ds E.Memory h = absurd h

-- the first fault of a route is what the walk answers
pub fault_found : (g : Extent) (from to : ℕ) (given : List Dir) (e : RouteError) → IsFault g from to given e
    → route_between g from to given ≡ walked_with e
fault_found g from to given e fault = fault_walked g from to (directions g from to given) e fault
