-- Labels that tell more messages apart need no more queues, and links fit where no group is larger than its queues.
use Rattle.std.proofs.Common.{◌≡◌, ℕ, zero, suc, ◌+◌, ◌<◌, ◌≤◌, ◌↔◌, max, Bool, true, false, cond, ◌&&◌, List, [], ◌∷◌, ◌++◌, Option, None, Some, map, filter, filter_map, flat_map, fold, length, nat_eq, nat_lt, slice_get, slice_index, slice_index_or, refl, sym, ◌∙◌, ap, subst, true≢false, ⊎_elim, le_trans, arith}
use Rattle.std.proofs.lemmas.Bool.{and_parts, eq-eqb, eqb-true, le-ltb, or_cases, or_left, or_right}
use Rattle.std.specs.List.{cons_option, range_with_len}
use Rattle.sys_base.specs.Groups.{below, greatest, groups, is_one_of, labelled, need, rising, users}
use Rattle.queue_plan.specs.Grouping.{groups_at}
use Rattle.queue_plan.specs.Lacks.{lack_of, lacks}
use Rattle.queue_plan.specs.declared.lack.Lack.{Lack}
use Rattle.queue_plan.proofs.Fits.{fits_law}
use Rattle.queue_plan.proofs.Found.{found, in_filter, range_holds}
use Rattle.queue_plan.proofs.GroupLaws.{own_label}
use Rattle.queue_plan.proofs.Labels.{starts_below}

-- ---- the greatest size

-- the sizes of groups
abbrev sizes : List (ℕ × List ℕ) → List ℕ
sizes groups = map (λ (g : ℕ × List ℕ). length g.1) groups

-- none is greater than the greatest
size_below : (a : ℕ) (groups : List (ℕ × List ℕ)) (k : ℕ) (group : ℕ × List ℕ) → slice_get groups k ≡ Some group
    → length group.1 ≤ fold max a (sizes groups)
size_below a [] k group at = absurd (cc at)
size_below a (g ∷ gs) zero group at =
    let same : g ≡ group = cc at in
    let e = ap (λ (x : ℕ × List ℕ). length x.1) same in
    let s = starts_below (max a (length g.1)) (sizes gs) in
    omega arith
size_below a (g ∷ gs) (suc k) group at = size_below (max a (length g.1)) gs k group at

-- the greatest is at most what each of them is at most
greatest_within : (most a : ℕ) (groups : List (ℕ × List ℕ)) → a ≤ most
    → ((k : ℕ) (group : ℕ × List ℕ) → slice_get groups k ≡ Some group → length group.1 ≤ most)
    → fold max a (sizes groups) ≤ most
greatest_within most a [] start each = start
greatest_within most a (g ∷ gs) start each =
    let here = each zero g refl in
    greatest_within most (max a (length g.1)) gs (omega arith) (λ k group at. each (suc k) group at)

-- ---- labels and groups

-- what stands among some numbers is one of them
held : (xs : List ℕ) (k x : ℕ) → slice_get xs k ≡ Some x → is_one_of xs x ≡ true
held [] k x at = absurd (cc at)
held (y ∷ ys) zero x at = let same : y ≡ x = cc at in or_left (nat_eq x y) (is_one_of ys x) (eq-eqb x y (sym same))
held (y ∷ ys) (suc k) x at = or_right (nat_eq x y) (is_one_of ys x) (held ys k x at)

-- an image at a place is that of what stands there
image_at : (of : ℕ → ℕ × List ℕ) (xs : List ℕ) (k : ℕ) (g : ℕ × List ℕ) → slice_get (map of xs) k ≡ Some g
    → (x : ℕ) × (slice_get xs k ≡ Some x) × (of x ≡ g)
image_at of [] k g at = absurd (cc at)
image_at of (x ∷ xs) zero g at = (x, refl, cc at)
image_at of (x ∷ xs) (suc k) g at = image_at of xs k g at

-- and the image of what stands at a place stands there
at_image : (of : ℕ → ℕ × List ℕ) (xs : List ℕ) (k x : ℕ) → slice_get xs k ≡ Some x → slice_get (map of xs) k ≡ Some (of x)
at_image of [] k x at = absurd (cc at)
at_image of (y ∷ ys) zero x at = let same : y ≡ x = cc at in ap (λ z. Some (of z)) same
at_image of (y ∷ ys) (suc k) x at = at_image of ys k x at

-- what is among images is the image of one
from_map : (f : ℕ → ℕ) (xs : List ℕ) (y : ℕ) → is_one_of (map f xs) y ≡ true → (x : ℕ) × (is_one_of xs x ≡ true) × (f x ≡ y)
from_map f [] y h = absurd (true≢false (sym h))
from_map f (x ∷ xs) y h =
    ⊎_elim {B = is_one_of (map f xs) y ≡ true}
    (λ (same : nat_eq y (f x) ≡ true). (x, or_left (nat_eq x x) (is_one_of xs x) (eq-eqb x x refl), sym (eqb-true y (f x) same)))
    (λ (later : is_one_of (map f xs) y ≡ true).
    let more = from_map f xs y later in
    (more.0, or_right (nat_eq more.0 x) (is_one_of xs more.0) more.1, more.2))
    (or_cases (nat_eq y (f x)) (is_one_of (map f xs) y) h)

-- a test that more pass keeps more
kept : (b c : Bool) (x : ℕ) (ys zs : List ℕ) → (b ≡ true → c ≡ true) → length ys ≤ length zs
    → length (cond b (x ∷ ys) ys) ≤ length (cond c (x ∷ zs) zs)
kept true true x ys zs h l = omega arith
kept true false x ys zs h l = absurd (true≢false (sym (h refl)))
kept false true x ys zs h l = omega arith
kept false false x ys zs h l = l

-- over a whole list
more_pass : (p q : ℕ → Bool) (xs : List ℕ) → ((x : ℕ) → is_one_of xs x ≡ true → p x ≡ true → q x ≡ true)
    → length (filter p xs) ≤ length (filter q xs)
more_pass p q [] h = omega arith
more_pass p q (x ∷ xs) h =
    kept (p x) (q x) x (filter p xs) (filter q xs) (h x (or_left (nat_eq x x) (is_one_of xs x) (eq-eqb x x refl)))
    (more_pass p q xs (λ y here. h y (or_right (nat_eq y x) (is_one_of xs y) here)))

-- a user is one of the messages
user_known : (routes : List (List ℕ)) (lengths : List ℕ) (link message : ℕ) → is_one_of (users routes lengths link) message ≡ true
    → message < length routes
user_known routes lengths link message h =
    let test : ℕ → Bool = λ m. nat_lt 0 (slice_index lengths m) && is_one_of (slice_index_or routes m []) link in
    let both = and_parts (test message) (is_one_of (below (length routes)) message)
    (sym (in_filter test (below (length routes)) message) ∙ h) in
    let l = range_holds 0 (length routes) message both.1 in
    omega arith

-- labels that tell more messages apart need no more queues
pub finer_law : (routes : List (List ℕ)) (fine coarse lengths : List ℕ) (link : ℕ)
    → ((a b : ℕ) → a < length routes → b < length routes → slice_index fine a ≡ slice_index fine b
    → slice_index coarse a ≡ slice_index coarse b)
    → need routes fine lengths link ≤ need routes coarse lengths link
finer_law routes fine coarse lengths link finer =
    let members : List ℕ = users routes lengths link in
    let numbers : List ℕ = map (slice_index fine) members in
    let of : List ℕ → ℕ → ℕ × List ℕ = λ labels label. (label, labelled labels members label) in
    greatest_within (need routes coarse lengths link) 0 (groups routes fine lengths link) (omega arith)
    (λ k group at.
    let (label, stands, is) = image_at (of fine) (rising numbers) k group at in
    let had = and_parts (is_one_of numbers label) (is_one_of (below (1 + greatest numbers)) label)
    (sym (in_filter (is_one_of numbers) (below (1 + greatest numbers)) label) ∙ held (rising numbers) k label stands) in
    let (m, user, has) = from_map (slice_index fine) members label had.0 in
    let other : ℕ = slice_index coarse m in
    let more = more_pass (λ u. nat_eq (slice_index fine u) label) (λ u. nat_eq (slice_index coarse u) other) members
    (λ u one same. eq-eqb (slice_index coarse u) other
    (finer u m (user_known routes lengths link u one) (user_known routes lengths link m user)
    (eqb-true (slice_index fine u) label same ∙ sym has))) in
    let place = found (rising (map (slice_index coarse) members)) other (own_label routes coarse lengths link m user) in
    let least = size_below 0 (groups routes coarse lengths link) place.0 (of coarse other)
    (at_image (of coarse) (rising (map (slice_index coarse) members)) place.0 other place.1) in
    subst (λ (g : ℕ × List ℕ). length g.1 ≤ need routes coarse lengths link) is (le_trans more least))

-- ---- queues

-- a rule that gives nothing for each of a list
gives_none : {A B : Type 0} (f : A → Option B) (xs : List A) → ((k : ℕ) (x : A) → slice_get xs k ≡ Some x → f x ≡ None)
    → filter_map f xs ≡ []
gives_none f [] h = refl
gives_none f (x ∷ xs) h =
    ap (λ o. cons_option o (filter_map f xs)) (h zero x refl) ∙ gives_none f xs (λ k y at. h (suc k) y at)

-- lists that are each empty
all_none : {A : Type 0} (h : ℕ → List A) (a n : ℕ) → ((k : ℕ) → k < a + n → h k ≡ []) → flat_map h (range_with_len a n) ≡ []
all_none h a zero e = refl
all_none h a (suc n) e =
    ap (λ xs. xs ++ flat_map h (range_with_len (a + 1) n)) (e a (omega arith)) ∙ all_none h (a + 1) n (λ k l. e k (omega arith))

-- no link lacks queues exactly where each has as many as its largest group has members
pub fit_law : (links : List (List (ℕ × List ℕ))) (queues : List ℕ)
    → ((lacks links queues ≡ []) ↔ ((link : ℕ) → link < length links
    → greatest (map (λ (g : ℕ × List ℕ). length g.1) (groups_at links link)) ≤ slice_index queues link))
fit_law links queues = (
  λ none link within.
      greatest_within (slice_index queues link) 0 (groups_at links link) (omega arith)
      (λ k group at. fits_law links queues link k group none at),
  λ fits.
      all_none (λ link. filter_map (lack_of link (slice_index queues link)) (groups_at links link)) 0 (length links)
      (λ link l.
      gives_none (lack_of link (slice_index queues link)) (groups_at links link)
      (λ k group at.
      let most = le_trans (size_below 0 (groups_at links link) k group at) (fits link (omega arith)) in
      ap
      (λ b. cond {A = Option Lack} b
      (Some (record { link = link; label = group.0; need = length group.1; has = slice_index queues link })) None)
      (le-ltb (slice_index queues link) (length group.1) most))),
)
