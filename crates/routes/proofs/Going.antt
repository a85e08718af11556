-- How a walk goes on, or stops.
use Rattle.std.proofs.Common.{ℕ, ◌≡◌, ◌≢◌, ◌+◌, ◌<◌, ◌≤◌, ◌⊎◌, ◌++◌, ◌↔◌, true, false, List, [], ◌∷◌, Some, length, get_or, set, take, drop, drop-cons, add-one, Contains, IsTrue, inl, inr, sym, refl, ap, ◌∙◌, subst, ⊎_elim, arith, get_or-set_same, get_or-set_other, length-set}
use Rattle.std.proofs.lemmas.Bool.{both_ways, cases_eq}
use Rattle.std.proofs.lemmas.List.{get_or_default, take-append-drop, take_all}
use Rattle.std.proofs.lemmas.List.Elements.{Contains-push, Contains-push_cases, Contains-append_left}
use Rattle.std.proofs.lemmas.List.Quantifiers.{all_pairs_push}
use Rattle.sys_base.specs.declared.kinds.Dir.{Dir}
use Rattle.sys_base.specs.Grid.{Extent, neighbour_of, link_id}
use Rattle.routes.specs.declared.error.RouteError.{RouteError}
use Rattle.routes.specs.declared.error.RouteError.TheVariants as R
use Rattle.routes.specs.declared.walk.Walk.{Walk}
use Rattle.routes.specs.Faults.{FaultOf}
use Rattle.routes.specs.bodies.Walking.{HasWalked, HasStepped, IsStop}
use Rattle.routes.specs.Walks.{Walks, Differ, IsTrail}
use Rattle.routes.proofs.Hops.{link_below}

-- a walk and one more hop
walks_on : (g : Extent) (from : ℕ) (ds : List Dir) (links : List ℕ) (cell : ℕ) (d : Dir) (next : ℕ) → Walks g from ds links cell → neighbour_of g cell d ≡ Some next
    → Walks g from (ds ++ d ∷ []) (links ++ link_id cell d ∷ []) next
walks_on g from [] [] cell d next w n = (ap (λ c. link_id c d) (sym w), next, subst (λ c. neighbour_of g c d ≡ Some next) (sym w) n, refl)
walks_on g from [] (l ∷ ls) cell d next w n = absurd w
walks_on g from (e ∷ ds) [] cell d next w n = absurd w
walks_on g from (e ∷ ds) (l ∷ ls) cell d next w n = (w.0, w.1, w.2, walks_on g w.1 ds ls cell d next w.3 n)

-- links that differ and one more that is not among them
differ_more : (links : List ℕ) (link : ℕ) → Differ links → (Contains links link → ⊥) → Differ (links ++ link ∷ [])
differ_more links link a free =
    all_pairs_push (λ k l. k ≢ l) links link a (λ k d lt e. free (k, lt, get_or_default links k link d lt ∙ e))

-- what the table marks once it marks one more link
marks_more : (used : List _) (links : List ℕ) (new : ℕ) → new < length used → ((k : ℕ) → IsTrue (get_or used k false) ↔ Contains links k)
    → (k : ℕ) → IsTrue (get_or (set used new true) k false) ↔ Contains (links ++ new ∷ []) k
marks_more used links new lt marks k = ⊎_elim same other (cases_eq k new)
  where
    same : k ≡ new → IsTrue (get_or (set used new true) k false) ↔ Contains (links ++ new ∷ []) k
    same e = subst (λ n. IsTrue (get_or (set used new true) n false) ↔ Contains (links ++ new ∷ []) n) (sym e) (λ _. Contains-push links new, λ _. get_or-set_same used new true false lt)

    other : k ≢ new → IsTrue (get_or (set used new true) k false) ↔ Contains (links ++ new ∷ []) k
    other ne =
        let stays = get_or-set_other used new k true false ne in (
          λ t. Contains-append_left links _ k ((marks k).0 (sym stays ∙ t)),
          λ h. ⊎_elim (λ old. stays ∙ (marks k).1 old) (λ e. absurd (ne (sym e))) (Contains-push_cases links new k h),
        )

-- a walk that stepped has walked in one more direction
pub walked_on : (g : Extent) (from : ℕ) (ds : List Dir) (d : Dir) (old new : Walk) → HasWalked g from ds old → HasStepped g d old new → HasWalked g from (ds ++ d ∷ []) new
walked_on g from ds d old new w s =
    let link = link_id old.cell d in
    let lt : link < length old.used.items = omega (arith, link_below g old.cell d w.inside, w.size) in
    let free = λ (h : Contains old.links.items link). both_ways _ s.fresh ((w.marks link).1 h) in
    record {
      inside = s.inside;
      trail = record {
        walk = subst (λ ls. Walks g from (ds ++ d ∷ []) ls new.cell) (sym s.links) (walks_on g from ds old.links.items old.cell d new.cell w.trail.walk s.next);
        differ = subst Differ (sym s.links) (differ_more old.links.items link w.trail.differ free);
      };
      size = ap length s.used ∙ length-set old.used.items link true ∙ w.size;
      marks = λ k.
          subst (λ us. IsTrue (get_or us k false) ↔ Contains new.links.items k) (sym s.used)
          (subst (λ ls. IsTrue (get_or (set old.used.items link true) k false) ↔ Contains ls k) (sym s.links)
          (marks_more old.used.items old.links.items link lt w.marks k));
    }

-- where a walk stops, the first fault is
pub stop_is_fault : (g : Extent) (from to : ℕ) (ds before after : List Dir) (d : Dir) (now : Walk) (e : RouteError) → ds ≡ before ++ d ∷ after → HasWalked g from before now
    → IsStop g d now e → FaultOf g from to ds e ⊎ (e ≡ R.Memory)
stop_is_fault g from to ds before after d now R.LeavesGrid split w s =
    inl (now.links.items, now.cell, d, record { before = before; after = after; split = split; trail = w.trail }, s)
stop_is_fault g from to ds before after d now (R.LinkTwice link) split w s =
    inl (now.links.items, now.cell, d, record { before = before; after = after; split = split; trail = w.trail }, s.0, s.1, (w.marks link).0 s.2)
stop_is_fault g from to ds before after d now R.WrongEnd split w s = absurd s
stop_is_fault g from to ds before after d now R.Memory split w s = inr refl

-- a list is what stands before a place, at it and behind it
split_at : (ds : List Dir) (k : ℕ) (d : Dir) → k < length ds → ds ≡ take k ds ++ get_or ds k d ∷ drop (k + 1) ds
split_at ds k d lt = sym (take-append-drop k ds) ∙ ap (λ us. take k ds ++ us) (drop-cons ds k d lt ∙ ap (λ n. get_or ds k d ∷ drop n ds) (sym (add-one k)))

-- the same where the walk has gone over the list up to a place
pub stop_in_list : (g : Extent) (from to : ℕ) (ds : List Dir) (k : ℕ) (d : Dir) (now : Walk) (e : RouteError) → k < length ds → HasWalked g from (take k ds) now
    → IsStop g (get_or ds k d) now e → FaultOf g from to ds e ⊎ (e ≡ R.Memory)
stop_in_list g from to ds k d now e lt w s = stop_is_fault g from to ds (take k ds) (drop (k + 1) ds) (get_or ds k d) now e (split_at ds k d lt) w s

-- a walk that has gone all the way ends at another cell
pub wrong_end : (g : Extent) (from to : ℕ) (ds : List Dir) (k : ℕ) (now : Walk) → length ds ≤ k → HasWalked g from (take k ds) now → (now.cell ≡ to → ⊥) → FaultOf g from to ds R.WrongEnd
wrong_end g from to ds k now le w ne = (now.links.items, now.cell, subst (λ us. IsTrail g from us now.links.items now.cell) (take_all k ds le) w.trail, ne)
