-- The groups of all links, as they are found.
use Rattle.std.proofs.Common.{◌≡◌, ℕ, ◌+◌, ◌<◌, ◌≤◌, Bool, true, false, cond, List, [], ◌∷◌, map, filter, length, get_or, take, slice_index, nat_eq, All, sym, ◌∙◌, ap, subst, refl, arith}
use Rattle.std.proofs.lemmas.Bool.{eq-eqb}
use Rattle.std.proofs.lemmas.List.{length-map, take_all}
use Rattle.std.proofs.lemmas.List.Elements.{All-cons, All-filter, All-from_get_or, All-head, All-map, All-same, All-tail}
use Rattle.std.proofs.lemmas.List.FromFn.{get_or-range_with_len, length-range_with_len}
use Rattle.cell_types.specs.Code.{ProgramCode}
use Rattle.cell_types.specs.Groups.{below, greatest, labelled, link_ids, routes_of}
use Rattle.queue_plan.specs.Grouping.{all_groups}
use Rattle.queue_plan.specs.bodies.ByLabel.{grouped, IsByLabel, uses}
use Rattle.queue_plan.proofs.Labels.{group_of, grouped_is, with_label}
use Rattle.queue_plan.proofs.Ranges.{same_over}

-- two tests of one number in front of others, in either order
one_tested : (p q : ℕ → Bool) (n : ℕ) (ps qs : List ℕ) (b c : Bool) → p n ≡ b → q n ≡ c → filter p qs ≡ filter q ps
    → filter p (cond c (n ∷ qs) qs) ≡ filter q (cond b (n ∷ ps) ps)
one_tested p q n ps qs true true e f same =
    ap (λ b. cond b (n ∷ filter p qs) (filter p qs)) e ∙ ap (λ xs. n ∷ xs) same
    ∙ sym (ap (λ b. cond b (n ∷ filter q ps) (filter q ps)) f)
one_tested p q n ps qs true false e f same = same ∙ sym (ap (λ b. cond b (n ∷ filter q ps) (filter q ps)) f)
one_tested p q n ps qs false true e f same = ap (λ b. cond b (n ∷ filter p qs) (filter p qs)) e ∙ same
one_tested p q n ps qs false false e f same = same

-- two tests one after another, in either order
both_tests : (p q : ℕ → Bool) (ns : List ℕ) → filter p (filter q ns) ≡ filter q (filter p ns)
both_tests p q [] = refl
both_tests p q (n ∷ ns) = one_tested p q n (filter p ns) (filter q ns) (p n) (q n) refl refl (both_tests p q ns)

-- messages in order of label have the same groups as in order of index, when the same of them are taken
pub same_groups : (labels order : List ℕ) (taken : ℕ → Bool) → IsByLabel labels order
    → grouped labels (filter taken order) ≡ grouped labels (filter taken (below (length labels)))
same_groups labels order taken by =
    grouped_is labels (filter taken order)
    ∙ same_over (group_of labels (filter taken order)) (group_of labels (filter taken (below (length labels)))) 0
    (1 + greatest labels)
    (λ label lo hi. ap (with_label label)
    (both_tests (λ m. nat_eq (slice_index labels m) label) taken order ∙ ap (filter taken) (by.stable label)
    ∙ sym (both_tests (λ m. nat_eq (slice_index labels m) label) taken (below (length labels)))))
    ∙ sym (grouped_is labels (filter taken (below (length labels))))

-- two tables over what a third one gives
tables : {A B C : Type 0} (f : A → B) (g : B → C) (h : A → C) (xs : List A) → ((x : A) → g (f x) ≡ h x)
    → map g (map f xs) ≡ map h xs
tables f g h [] e = refl
tables {C = C} f g h (x ∷ xs) e = ap (λ (y : C). y ∷ map g (map f xs)) (e x) ∙ ap (λ (ys : List C). h x ∷ ys) (tables f g h xs e)

-- the users of each link, in the order of some messages
abbrev pub noted : ProgramCode → List ℕ → List ℕ → List (List ℕ)
noted program lengths order = map (λ link. filter (uses program lengths link) order) (link_ids program)

-- the groups of the users of each link, noted in order of label
pub groups_are : (program : ProgramCode) (labels lengths order : List ℕ) → IsByLabel labels order
    → length labels ≡ length program.messages
    → map (grouped labels) (noted program lengths order)
    ≡ all_groups program labels lengths
groups_are program labels lengths order by long =
    tables (λ link. filter (uses program lengths link) order) (grouped labels)
    (λ link. grouped labels (filter (uses program lengths link) (below (length (routes_of program))))) (link_ids program)
    (λ link. same_groups labels order (uses program lengths link) by
    ∙ ap (λ n. grouped labels (filter (uses program lengths link) (below n))) (long ∙ sym (length-map program.messages _)))

-- what holds of those of a list that have a label holds of each that has it
kept_all : (P : ℕ → Type 0) (labels messages : List ℕ) → ((label : ℕ) → All P (labelled labels messages label)) → All P messages
kept_all P labels [] h = λ k d l. absurd (omega arith)
kept_all P labels (m ∷ ms) h =
    All-cons P m ms
    (All-head P m (labelled labels ms (slice_index labels m))
    (subst (λ b. All P (cond b (m ∷ labelled labels ms (slice_index labels m)) (labelled labels ms (slice_index labels m))))
    (eq-eqb (slice_index labels m) (slice_index labels m) refl) (h (slice_index labels m))))
    (kept_all P labels ms (λ label. rest (nat_eq (slice_index labels m) label) (labelled labels ms label) (h label)))
  where
    rest : (b : Bool) (xs : List ℕ) → All P (cond b (m ∷ xs) xs) → All P xs
    rest true xs h = All-tail P m xs h
    rest false xs h = h

-- messages in order of label are messages
pub order_within : (labels order : List ℕ) → IsByLabel labels order → All (λ m. m < length labels) order
order_within labels order by =
    let P : ℕ → Type 0 = λ m. m < length labels in
    let n = length labels in
    let all : All P (below n) = All-from_get_or P (below n) 0 (λ i l.
    let long = length-range_with_len 0 n in
    omega (arith, long, get_or-range_with_len 0 n i 0 (omega (arith, long)))) in
    kept_all P labels order (λ label. subst (All P) (sym (by.stable label))
    (All-filter (λ m. nat_eq (slice_index labels m) label) P (below n) all))

-- what holds of the users of each link holds of all that are noted
pub each_noted : (P : List ℕ → Type 0) (program : ProgramCode) (lengths order : List ℕ) (users : List (List ℕ))
    → users ≡ noted program lengths order → ((taken : ℕ → Bool) → P (filter taken order)) → All P users
each_noted P program lengths order users is each =
    All-same P users (noted program lengths order) is
    (All-map P (λ link. filter (uses program lengths link) order) (link_ids program)
    (λ k d l. each (uses program lengths (get_or (link_ids program) k d))))

-- the groups of all links, where all users are grouped
pub links_are : (program : ProgramCode) (labels lengths order : List ℕ) (users : List (List ℕ)) (links : List (List (ℕ × List ℕ)))
    (i : ℕ) → links ≡ map (grouped labels) (take i users) → length users ≤ i → users ≡ noted program lengths order
    → IsByLabel labels order → length labels ≡ length program.messages → links ≡ all_groups program labels lengths
links_are program labels lengths order users links i are done is by long =
    are ∙ ap (map (grouped labels)) (take_all i users done ∙ is) ∙ groups_are program labels lengths order by long
