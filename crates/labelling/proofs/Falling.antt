-- The search for the first fall of a list: how far it has come, and where it ends.
use Rattle.std.proofs.Common.{◌≡◌, ℕ, zero, suc, ◌+◌, ◌<◌, ◌≤◌, List, [], ◌∷◌, Some, None, length, drop, get_or, sym, ◌∙◌, ap, subst, refl, ⊎_elim, arith}
use Rattle.std.proofs.Math.Seq.{drop-nil}
use Rattle.std.proofs.lemmas.Bool.{cases_lt}
use Rattle.std.proofs.lemmas.List.{get_or_past}
use Rattle.std.proofs.lemmas.List.Elements.{All-get_or}
use Rattle.std.proofs.lemmas.Option.{slice_get_within, get_or_from_slice_get}
use Rattle.std.specs.List.{All, slice_get, slice_index}
use Rattle.std.specs.Option.{option_map}
use Rattle.comm_sequence.specs.Labels.{Neighbours, IsConsistent}
use Rattle.comm_sequence.specs.Sequences.{message_of}
use Rattle.comm_sequence.specs.declared.comm.Comm.{Comm}
use Rattle.labelling.specs.Falls.{FallsAt, IsFall, NeverFalls, NoFallBefore}
use Rattle.labelling.specs.declared.falls.Fall.{Fall}

-- The list is passed up to this place without a fall; the message before the place and what is left from it on are
-- these.
pub record IsPassed (list : List Comm) (labels : List ℕ) (at before : ℕ) (left : List Comm) : Type 0 where
  pub place : ℕ
  pub next : at ≡ suc place
  pub last : option_map message_of (slice_get list place) ≡ Some before
  pub rest : drop at list ≡ left
  pub none : NoFallBefore list labels at

-- what is left begins with the element at its place
pub next_at : (list : List Comm) (at : ℕ) (x : Comm) (rest : List Comm) → drop at list ≡ x ∷ rest
    → (slice_get list at ≡ Some x) × (drop (suc at) list ≡ rest)
next_at [] at x rest h = let e : [] ≡ x ∷ rest = sym (drop-nil at) ∙ h in cc
next_at (y ∷ ys) zero x rest h = (cc, cc)
next_at (y ∷ ys) (suc at) x rest h = next_at ys at x rest h

-- nothing stands at a place where nothing is left
nothing_at : (list : List Comm) (at : ℕ) → drop at list ≡ [] → slice_get list at ≡ None
nothing_at [] at h = refl
nothing_at (y ∷ ys) zero h = cc
nothing_at (y ∷ ys) (suc at) h = nothing_at ys at h

-- nothing stands after a place where nothing is left
nothing_past : (list : List Comm) (at k : ℕ) → drop at list ≡ [] → at ≤ k → slice_get list k ≡ None
nothing_past [] at k h le = refl
nothing_past (y ∷ ys) zero k h le = cc
nothing_past (y ∷ ys) (suc at) zero h le = absurd (omega arith)
nothing_past (y ∷ ys) (suc at) (suc k) h le = nothing_past ys at k h (omega arith)

-- two messages at one place are the same
same_message : (list : List Comm) (i j a b : ℕ) → i ≡ j → option_map message_of (slice_get list i) ≡ Some a
    → option_map message_of (slice_get list j) ≡ Some b → a ≡ b
same_message list i j a b ij h k =
    let e : Some a ≡ Some b = sym h ∙ ap (λ p. option_map message_of (slice_get list p)) ij ∙ k in cc

-- a list of one operation is passed
pub passed_first : (list : List Comm) (x : Comm) (left : List Comm) (labels : List ℕ) → list ≡ x ∷ left
    → IsPassed list labels 1 (message_of x) left
passed_first list x left labels e =
    let P : List Comm → Type 0 = λ xs. IsPassed xs labels 1 (message_of x) left in
    subst P (sym e) (record {
      place = 0;
      next = refl;
      last = refl;
      rest = refl;
      none = λ at before after lt f. let n = f.next in omega arith;
    })

-- the message of the operation at the place is below a number, if each of the list is
pub known_next : (list : List Comm) (labels : List ℕ) (at before : ℕ) (left : List Comm) (x : Comm) (rest : List Comm) (n : ℕ)
    → IsPassed list labels at before left → left ≡ x ∷ rest → All (λ comm. message_of comm < n) list → message_of x < n
known_next list labels at before left x rest n h e all =
    let there = (next_at list at x rest (h.rest ∙ e)).0 in
    let P : Comm → Type 0 = λ comm. message_of comm < n in
    subst P (get_or_from_slice_get list at x x there) (All-get_or P list at x (slice_get_within list at x there) all)

-- the place is within the list, if something is left
pub place_within : (list : List Comm) (labels : List ℕ) (at before : ℕ) (left : List Comm) (x : Comm) (rest : List Comm)
    → IsPassed list labels at before left → left ≡ x ∷ rest → at < length list
place_within list labels at before left x rest h e = slice_get_within list at x (next_at list at x rest (h.rest ∙ e)).0

-- the fall at the place that is come to
pub falls_here : (list : List Comm) (labels : List ℕ) (at before : ℕ) (left : List Comm) (x : Comm) (rest : List Comm)
    → IsPassed list labels at before left → left ≡ x ∷ rest → slice_index labels (message_of x) < slice_index labels before
    → FallsAt list labels at before (message_of x)
falls_here list labels at before left x rest h e lower = record {
  place = h.place;
  next = h.next;
  first = h.last;
  second = ap (option_map message_of) (next_at list at x rest (h.rest ∙ e)).0;
  lower = lower;
}

-- one place more is passed
pub passed_more : (list : List Comm) (labels : List ℕ) (at before : ℕ) (left : List Comm) (x : Comm) (rest : List Comm)
    → IsPassed list labels at before left → left ≡ x ∷ rest → slice_index labels before ≤ slice_index labels (message_of x)
    → IsPassed list labels (at + 1) (message_of x) rest
passed_more list labels at before left x rest h e le =
    let step = next_at list at x rest (h.rest ∙ e) in
    let one : at + 1 ≡ suc at = omega arith in
    record {
      place = at;
      next = one;
      last = ap (option_map message_of) step.0;
      rest = ap (λ n. drop n list) one ∙ step.1;
      none = λ place b a lt f.
          ⊎_elim
          (λ less. h.none place b a less f)
          (λ more.
          let here : place ≡ at = omega arith in
          let n = f.next in
          let hn = h.next in
          let first = same_message list f.place h.place b before (omega arith) f.first h.last in
          let second = same_message list place at a (message_of x) here f.second (ap (option_map message_of) step.0) in
          let low = f.lower in
          let eb = ap (slice_index labels) first in
          let ea = ap (slice_index labels) second in
          omega arith)
          (cases_lt place at);
    }

-- a list that is passed to its end never falls
pub passed_all : (list : List Comm) (labels : List ℕ) (at before : ℕ) (left : List Comm)
    → IsPassed list labels at before left → left ≡ [] → NeverFalls list labels
passed_all list labels at before left h e = λ place b a f.
    ⊎_elim
    (λ less. h.none place b a less f)
    (λ more.
    let none : None ≡ Some a =
    sym (ap (option_map message_of) (nothing_past list at place (h.rest ∙ e) more)) ∙ f.second in
    cc)
    (cases_lt place at)

-- an empty list never falls
pub empty_never_falls : (list : List Comm) (labels : List ℕ) → list ≡ [] → NeverFalls list labels
empty_never_falls list labels e = λ at before after f.
    let none : None ≡ Some after = sym (ap (λ xs. option_map message_of (slice_get xs at)) e) ∙ f.second in cc

-- the first fall of the least list that has one
pub fall_of : (lists : List (List Comm)) (labels : List ℕ) (fall : Fall) (cell : ℕ) (list : List Comm) → fall.cell ≡ cell
    → list ≡ get_or lists cell [] → FallsAt list labels fall.at fall.before fall.after → NoFallBefore list labels fall.at
    → ((c : ℕ) → c < cell → NeverFalls (get_or lists c []) labels) → IsFall lists labels fall
fall_of lists labels fall cell list same is falls first least =
    let e : list ≡ get_or lists fall.cell [] = is ∙ ap (λ c. get_or lists c []) (sym same) in
    let P : List Comm → Type 0 = λ xs. FallsAt xs labels fall.at fall.before fall.after in
    let Q : List Comm → Type 0 = λ xs. NoFallBefore xs labels fall.at in
    record { falls = subst P e falls; first_place = subst Q e first; least_cell = λ c lt. least c (omega arith) }

-- labels are consistent where they fall in no cell's list
pub consistent_where_none : (lists : List (List Comm)) (labels : List ℕ)
    → ((cell : ℕ) → cell < length lists → NeverFalls (get_or lists cell []) labels) → IsConsistent lists labels
consistent_where_none lists labels never = λ a b n.
    ⊎_elim
    (λ lower.
    let f : FallsAt (get_or lists n.cell []) labels (suc n.place) a b =
    record { place = n.place; next = refl; first = n.first; second = n.second; lower = lower } in
    ⊎_elim
    (λ within. absurd (never n.cell within (suc n.place) a b f))
    (λ past. absurd (empty_never_falls (get_or lists n.cell []) labels (get_or_past lists n.cell [] past) (suc n.place) a b f))
    (cases_lt n.cell (length lists)))
    (λ le. le)
    (cases_lt (slice_index labels b) (slice_index labels a))

-- labels that fall somewhere are not consistent
pub not_where_one_falls : (lists : List (List Comm)) (labels : List ℕ) (fall : Fall) → IsFall lists labels fall
    → IsConsistent lists labels → ⊥
not_where_one_falls lists labels fall h consistent =
    let f = h.falls in
    let second : option_map message_of (slice_get (get_or lists fall.cell []) (suc f.place)) ≡ Some fall.after =
    ap (λ p. option_map message_of (slice_get (get_or lists fall.cell []) p)) (sym f.next) ∙ f.second in
    let n : Neighbours lists fall.before fall.after =
    record { cell = fall.cell; place = f.place; first = f.first; second = second } in
    let le = consistent fall.before fall.after n in
    let low = f.lower in
    omega arith
