-- Directions between two cells have one route or one first fault.
use Rattle.std.proofs.Common.{ℕ, ◌≡◌, ◌<◌, ◌⊎◌, ◌++◌, List, [], ◌∷◌, Option, Some, None, IsSome, length, get_or, Contains, inl, inr, sym, refl, ap, ◌∙◌, subst, ⊎_elim, arith, length-append}
use Rattle.std.proofs.lemmas.Bool.{false≢true}
use Rattle.std.proofs.lemmas.List.{get_or_append_left}
use Rattle.std.proofs.Math.Seq.{get_or-append_seam}
use Rattle.std.proofs.lemmas.Option.{same_Some, none-some}
use Rattle.sys_base.specs.declared.kinds.Dir.{Dir}
use Rattle.sys_base.specs.Grid.{Extent, neighbour_of, link_id}
use Rattle.routes.specs.declared.error.RouteError.{RouteError}
use Rattle.routes.specs.declared.error.RouteError.TheVariants as R
use Rattle.routes.specs.Faults.{ComesTo, FaultOf, IsFault}
use Rattle.routes.specs.Walks.{directions, Walks, Differ, IsTrail, IsRoute}

-- walks by the same directions go over the same links to the same cell
pub one_walk : (g : Extent) (from : ℕ) (ds : List Dir) (ks ls : List ℕ) (a b : ℕ) → Walks g from ds ks a → Walks g from ds ls b → (ks ≡ ls) × (a ≡ b)
one_walk g from [] [] [] a b p q = (refl, sym p ∙ q)
one_walk g from [] [] (l ∷ ls) a b p q = absurd q
one_walk g from [] (k ∷ ks) ls a b p q = absurd p
one_walk g from (d ∷ ds) [] ls a b p q = absurd p
one_walk g from (d ∷ ds) (k ∷ ks) [] a b p q = absurd q
one_walk g from (d ∷ ds) (k ∷ ks) (l ∷ ls) a b p q =
    let next : p.1 ≡ q.1 = same_Some _ _ (sym p.2 ∙ q.2) in
    let same : k ≡ l = p.0 ∙ sym q.0 in
    let rest = one_walk g p.1 ds ks ls a b p.3 (subst (λ n. Walks g n ds ls b) (sym next) q.3) in
    (λ i. same i ∷ rest.0 i, rest.1)

-- the two parts of a walk
record Parts (g : Extent) (from : ℕ) (first second : List Dir) (links : List ℕ) (to : ℕ) : Type 0 where
  cell : ℕ
  before : List ℕ
  after : List ℕ
  split : links ≡ before ++ after
  there : Walks g from first before cell
  onward : Walks g cell second after to

-- a walk by two lists of directions has two parts
parts : (g : Extent) (from : ℕ) (first second : List Dir) (links : List ℕ) (to : ℕ) → Walks g from (first ++ second) links to → Parts g from first second links to
parts g from [] second links to w = record { cell = from; before = []; after = links; split = refl; there = refl; onward = w }
parts g from (d ∷ first) second [] to w = absurd w
parts g from (d ∷ first) second (l ∷ ls) to w =
    let rest = parts g w.1 first second ls to w.3 in
    record {
      cell = rest.cell;
      before = l ∷ rest.before;
      after = rest.after;
      split = ap (λ ks. l ∷ ks) rest.split;
      there = (w.0, w.1, w.2, rest.there);
      onward = rest.onward;
    }

-- no walk over different links goes on in this direction
abbrev Blocked : Extent → List ℕ → ℕ → Dir → Type 0
Blocked g links cell d = (neighbour_of g cell d ≡ None) ⊎ Contains links (link_id cell d)

-- where a walk is blocked it has no second part
no_rest : (g : Extent) (cell : ℕ) (d : Dir) (rest : List Dir) (before after : List ℕ) (to : ℕ) → Blocked g before cell d → Walks g cell (d ∷ rest) after to → Differ (before ++ after) → ⊥
no_rest g cell d rest before [] to b w a = w
no_rest g cell d rest before (l ∷ ls) to (inl none) w a = none-some _ (sym none ∙ w.2)
no_rest g cell d rest before (l ∷ ls) to (inr used) w a =
    let link = link_id cell d in
    let inside : used.0 < length before = used.1 in
    let long = length-append before (l ∷ ls) in
    let early : get_or (before ++ l ∷ ls) used.0 link ≡ link = get_or_append_left before (l ∷ ls) link used.0 inside ∙ used.2 in
    a used.0 (length before) link inside (omega arith) (early ∙ sym w.0 ∙ sym (get_or-append_seam before l ls link))

-- no trail goes on past where it is blocked
no_trail_past : (g : Extent) (from : ℕ) (before : List Dir) (d : Dir) (rest : List Dir) (links others : List ℕ) (cell to : ℕ) → Blocked g links cell d → IsTrail g from before links cell
    → IsTrail g from (before ++ d ∷ rest) others to → ⊥
no_trail_past g from before d rest links others cell to b t u =
    let p = parts g from before (d ∷ rest) others to u.walk in
    let same = one_walk g from before links p.before cell p.cell t.walk p.there in
    let here : Blocked g p.before p.cell d = subst (λ ls. Blocked g ls p.cell d) same.0 (subst (λ c. Blocked g links c d) same.1 b) in
    no_rest g p.cell d rest p.before p.after to here p.onward (subst Differ p.split u.differ)

-- two places of one list: the same, or one before the other
abbrev Order : List Dir → Dir → List Dir → Dir → Type 0
Order us d xs e = ((us ≡ xs) × (d ≡ e)) ⊎ (((rest : List Dir) × (xs ≡ us ++ d ∷ rest)) ⊎ ((rest : List Dir) × (us ≡ xs ++ e ∷ rest)))

-- equal lists have one head
head_same : (d e : Dir) (ds ys : List Dir) → d ∷ ds ≡ e ∷ ys → d ≡ e
head_same d e ds ys q = cc

-- equal lists have one tail
tail_same : (d e : Dir) (ds ys : List Dir) → d ∷ ds ≡ e ∷ ys → ds ≡ ys
tail_same d e ds ys q = cc

-- two places of one list are in order
order_of : (us : List Dir) (d : Dir) (vs xs : List Dir) (e : Dir) (ys : List Dir) → us ++ d ∷ vs ≡ xs ++ e ∷ ys → Order us d xs e
order_of [] d vs [] e ys q = inl (refl, head_same _ _ _ _ q)
order_of [] d vs (c ∷ xs) e ys q = inr (inl (xs, ap (λ x. x ∷ xs) (sym (head_same _ _ _ _ q))))
order_of (a ∷ us) d vs [] e ys q = inr (inr (us, ap (λ x. x ∷ us) (head_same _ _ _ _ q)))
order_of (a ∷ us) d vs (c ∷ xs) e ys q =
    let same : a ≡ c = head_same _ _ _ _ q in
    ⊎_elim (λ o. inl (λ i. same i ∷ o.0 i, o.1))
    (λ o. ⊎_elim (λ l. inr (inl (l.0, λ i. sym same i ∷ l.1 i))) (λ r. inr (inr (r.0, λ i. same i ∷ r.1 i))) o)
    (order_of us d vs xs e ys (tail_same _ _ _ _ q))

-- a walk is blocked at one place
same_place : (g : Extent) (from : ℕ) (ds : List Dir) (links others : List ℕ) (cell place : ℕ) (d e : Dir) → Blocked g links cell d → Blocked g others place e
    → ComesTo g from ds links cell d → ComesTo g from ds others place e → (links ≡ others) × (cell ≡ place) × (d ≡ e)
same_place g from ds links others cell place d e b c p q =
    ⊎_elim (λ o. let same = one_walk g from q.before links others cell place (subst (λ ds. Walks g from ds links cell) o.0 p.trail.walk) q.trail.walk in (same.0, same.1, o.1))
    (λ o. ⊎_elim
    (λ l. absurd (no_trail_past g from p.before d l.0 links others cell place b p.trail (subst (λ ds. IsTrail g from ds others place) l.1 q.trail)))
    (λ r. absurd (no_trail_past g from q.before e r.0 others links place cell c q.trail (subst (λ ds. IsTrail g from ds links cell) r.1 p.trail))) o)
    (order_of p.before d p.after q.before e q.after (sym p.split ∙ q.split))

-- where a walk is blocked it has no trail
blocked_apart : (g : Extent) (from : ℕ) (ds : List Dir) (links others : List ℕ) (cell to : ℕ) (d : Dir) → Blocked g links cell d → ComesTo g from ds links cell d → IsTrail g from ds others to → ⊥
blocked_apart g from ds links others cell to d b p t =
    no_trail_past g from p.before d p.after links others cell to b p.trail (subst (λ ds. IsTrail g from ds others to) p.split t)

-- what is there is not absent
some_no_none : (o : Option ℕ) → IsSome o → o ≡ None → ⊥
some_no_none None s e = false≢true s
some_no_none (Some x) s e = none-some x (sym e)

-- directions have no trail and no fault
trail_no_fault : (g : Extent) (from to : ℕ) (ds : List Dir) (links : List ℕ) (e : RouteError) → IsTrail g from ds links to → FaultOf g from to ds e → ⊥
trail_no_fault g from to ds links R.LeavesGrid t f = blocked_apart g from ds f.0 links f.1 to f.2 (inl f.4) f.3 t
trail_no_fault g from to ds links (R.LinkTwice link) t f =
    blocked_apart g from ds f.0 links f.1 to f.2 (inr (subst (Contains f.0) f.5 f.6)) f.3 t
trail_no_fault g from to ds links R.WrongEnd t f = f.3 (one_walk g from ds f.0 links f.1 to f.2.walk t.walk).1
trail_no_fault g from to ds links R.Memory t f = f

-- no walk leaves the grid and uses a link twice
no_leave_and_twice : (g : Extent) (from to : ℕ) (ds : List Dir) (link : ℕ) → FaultOf g from to ds R.LeavesGrid → FaultOf g from to ds (R.LinkTwice link) → ⊥
no_leave_and_twice g from to ds link p q =
    let same = same_place g from ds p.0 q.0 p.1 q.1 p.2 q.2 (inl p.4) (inr (subst (Contains q.0) q.5 q.6)) p.3 q.3 in
    some_no_none _ q.4 (subst (λ d. neighbour_of g q.1 d ≡ None) same.2 (subst (λ c. neighbour_of g c p.2 ≡ None) same.1 p.4))

-- the walk of directions has one first fault
one_fault : (g : Extent) (from to : ℕ) (ds : List Dir) (e f : RouteError) → FaultOf g from to ds e → FaultOf g from to ds f → e ≡ f
one_fault g from to ds R.LeavesGrid R.LeavesGrid p q = refl
one_fault g from to ds R.LeavesGrid (R.LinkTwice l) p q = absurd (no_leave_and_twice g from to ds l p q)
one_fault g from to ds R.LeavesGrid R.WrongEnd p q = absurd (blocked_apart g from ds p.0 q.0 p.1 q.1 p.2 (inl p.4) p.3 q.2)
one_fault g from to ds R.LeavesGrid R.Memory p q = absurd q
one_fault g from to ds (R.LinkTwice k) R.LeavesGrid p q = absurd (no_leave_and_twice g from to ds k q p)
one_fault g from to ds (R.LinkTwice k) (R.LinkTwice l) p q =
    let same = same_place g from ds p.0 q.0 p.1 q.1 p.2 q.2 (inr (subst (Contains p.0) p.5 p.6)) (inr (subst (Contains q.0) q.5 q.6)) p.3 q.3 in
    ap R.LinkTwice (p.5 ∙ ap (λ c. link_id c p.2) same.1 ∙ ap (link_id q.1) same.2 ∙ sym q.5)
one_fault g from to ds (R.LinkTwice k) R.WrongEnd p q =
    absurd (blocked_apart g from ds p.0 q.0 p.1 q.1 p.2 (inr (subst (Contains p.0) p.5 p.6)) p.3 q.2)
one_fault g from to ds (R.LinkTwice k) R.Memory p q = absurd q
one_fault g from to ds R.WrongEnd R.LeavesGrid p q = absurd (blocked_apart g from ds q.0 p.0 q.1 p.1 q.2 (inl q.4) q.3 p.2)
one_fault g from to ds R.WrongEnd (R.LinkTwice l) p q =
    absurd (blocked_apart g from ds q.0 p.0 q.1 p.1 q.2 (inr (subst (Contains q.0) q.5 q.6)) q.3 p.2)
one_fault g from to ds R.WrongEnd R.WrongEnd p q = refl
one_fault g from to ds R.WrongEnd R.Memory p q = absurd q
one_fault g from to ds R.Memory f p q = absurd p

-- given directions have one route
pub one_route : (g : Extent) (from to : ℕ) (given : List Dir) (links others : List ℕ) → IsRoute g from to given links → IsRoute g from to given others → links ≡ others
one_route g from to given links others p q = (one_walk g from (directions g from to given) links others to to p.walk q.walk).0

-- given directions have one first fault
pub one_route_fault : (g : Extent) (from to : ℕ) (given : List Dir) (e f : RouteError) → IsFault g from to given e → IsFault g from to given f → e ≡ f
one_route_fault g from to given e f p q = one_fault g from to (directions g from to given) e f p q

-- given directions have no route and no first fault
pub route_no_fault : (g : Extent) (from to : ℕ) (given : List Dir) (links : List ℕ) (e : RouteError) → IsRoute g from to given links → IsFault g from to given e → ⊥
route_no_fault g from to given links e p q = trail_no_fault g from to (directions g from to given) links e p q
