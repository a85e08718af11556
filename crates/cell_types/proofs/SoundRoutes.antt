-- The links of a walk without faults are a route.
use Rattle.std.proofs.Common.{◌≡◌, ◌≢◌, ℕ, ◌++◌, Bool, true, false, Option, Some, None, List, [], ◌∷◌, Ok, Err, get_or, refl, sym, ◌∙◌, subst, arith, append-nil, append_assoc, nat_eq, eqb-true, eq-eqb}
use Rattle.std.proofs.lemmas.Bool.{both_ways}
use Rattle.std.proofs.lemmas.List.Folds.{list_any_at}
use Rattle.std.proofs.lemmas.List.Quantifiers.{all_pairs_push}
use Rattle.std.specs.List.{list_any}
use Rattle.std.specs.Prelude.{if◌then◌else◌}
use Rattle.sys_base.specs.declared.kinds.Dir.{Dir}
use Rattle.sys_base.specs.Grid.{Extent, neighbour_of, link_id}
use Rattle.routes.specs.Walks.{directions, Walks, Differ, IsRoute}
use Rattle.cell_types.specs.Route.{Walked, hop, walk_on, route_between}
use Rattle.cell_types.specs.declared.error.RouteFault.TheVariants as R

-- The walk goes from a cell over these links behind the used ones, and all differ where those do.
record Goes (g : Extent) (to : ℕ) (used : List ℕ) (cell : ℕ) (ds : List Dir) (links : List ℕ) : Type 0 where
  rest : List ℕ
  split : links ≡ used ++ rest
  walks : Walks g cell ds rest to
  differ : Differ used → Differ links

-- links that differ, and one more that is not among them
differ_more : (used : List ℕ) (link : ℕ) → list_any (nat_eq link) used ≡ false → Differ used → Differ (used ++ link ∷ [])
differ_more used link fresh differ =
    all_pairs_push (λ k l. k ≢ l) used link differ
    (λ k d lt same. both_ways _ fresh (list_any_at (nat_eq link) used k d lt (eq-eqb link (get_or used k d) (sym same))))

-- a walk that ends here
ended : (g : Extent) (to : ℕ) (used : List ℕ) (cell : ℕ) (b : Bool) (links : List ℕ) → nat_eq cell to ≡ b
    → ◌≡◌ {A = Walked} (if b then Ok used else Err R.WrongEnd) (Ok links) → Goes g to used cell [] links
ended g to used cell true links is h =
    let same : links ≡ used = cc in
    record {
      rest = [];
      split = same ∙ sym (append-nil used);
      walks = eqb-true cell to is;
      differ = λ d. subst Differ (sym same) d;
    }
ended g to used cell false links is h = cc

-- a hop that is made, and the walk behind it
record Hopped (used : List ℕ) (link : ℕ) (o : Option ℕ) (on : ℕ → Walked) (links : List ℕ) : Type 0 where
  next : ℕ
  there : o ≡ Some next
  fresh : list_any (nat_eq link) used ≡ false
  onward : on next ≡ Ok links

-- a hop over a link of the grid that is walked on from has not used it
fresh_hop : (used : List ℕ) (link next : ℕ) (on : ℕ → Walked) (links : List ℕ) (b : Bool) → list_any (nat_eq link) used ≡ b
    → (if b then Err (R.LinkTwice link) else on next) ≡ Ok links → Hopped used link (Some next) on links
fresh_hop used link next on links true is h = cc
fresh_hop used link next on links false is h = record { next = next; there = refl; fresh = is; onward = h }

-- a hop that is walked on from
hopped : (used : List ℕ) (link : ℕ) (o : Option ℕ) (on : ℕ → Walked) (links : List ℕ) → hop used link o on ≡ Ok links
    → Hopped used link o on links
hopped used link None on links h = cc
hopped used link (Some next) on links h = fresh_hop used link next on links (list_any (nat_eq link) used) refl h

-- a walk that ends without a fault
goes : (g : Extent) (to : ℕ) (used : List ℕ) (cell : ℕ) (ds : List Dir) (links : List ℕ) → walk_on g to used cell ds ≡ Ok links
    → Goes g to used cell ds links
goes g to used cell [] links h = ended g to used cell (nat_eq cell to) links refl h
goes g to used cell (d ∷ ds) links h =
    let link : ℕ = link_id cell d in
    let on = λ (next : ℕ). walk_on g to (used ++ link ∷ []) next ds in
    let one : Hopped used link (neighbour_of g cell d) on links = hopped used link (neighbour_of g cell d) on links h in
    let behind : Goes g to (used ++ link ∷ []) one.next ds links = goes g to (used ++ link ∷ []) one.next ds links one.onward in
    record {
      rest = link ∷ behind.rest;
      split = behind.split ∙ append_assoc used (link ∷ []) behind.rest;
      walks = (refl, one.next, one.there, behind.walks);
      differ = λ differ. behind.differ (differ_more used link one.fresh differ);
    }

-- what the walk between two cells answers is their route
pub route_kept : (g : Extent) (from to : ℕ) (given : List Dir) (links : List ℕ) → route_between g from to given ≡ Ok links
    → IsRoute g from to given links
route_kept g from to given links h =
    let all : Goes g to [] from (directions g from to given) links = goes g to [] from (directions g from to given) links h in
    record {
      walk = subst (λ ls. Walks g from (directions g from to given) ls to) (sym all.split) all.walks;
      differ = all.differ (λ i j d i_j j_0. absurd (omega arith));
    }
