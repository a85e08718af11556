-- What a change of the tables is to those who see the queues.
use Rattle.std.proofs.Common.{◌≡◌, ◌≢◌, ℕ, ◌+◌, ◌<◌, Bool, true, false, cond, ◌&&◌, nat_eq, List, [], Option, None, length, get_or, set, refl, sym, ap, ◌∙◌, arith, inl, inr, eq-eqb, eqb-true}
use Rattle.std.proofs.Math.Path.{fun_ext}
use Rattle.std.proofs.lemmas.Bool.{both_ways, cases_Bool}
use Rattle.std.proofs.lemmas.List.{get_or-set_other}
use Rattle.std.proofs.lemmas.Grind.{get_or-set_at}
use Rattle.cell_code.specs.Marks.{Marks, raised, raised_at}
use Rattle.cell_code.specs.declared.image.Image.{Image}
use Rattle.link_slots.specs.declared.slot.Slot.{Slot}
use Rattle.array_model.specs.Steps.{put}
use Rattle.link_queues.specs.Fabrics.{put_at, raise}
use Rattle.link_queues.specs.Tables.{Table, link_of, mark_in, place_in, queues_of, way_of, with_bound, with_place, with_raised, with_slots}
use Rattle.link_queues.specs.Tracks.{Way, mark_at, place_at}
use Rattle.link_queues.specs.declared.link.Link.{Link}

-- ---- reads after a write

-- what stands at a place of a list after a write
pub got : {X : Type 0} (xs : List X) (i j : ℕ) (x d : X) → i < length xs
    → get_or (set xs i x) j d ≡ cond (nat_eq i j) x (get_or xs j d)
got xs i j x d l =
    elim (cases_Bool (nat_eq i j)) [
      | inl t ↦
          let same : j ≡ i = sym (eqb-true i j t) in
          get_or-set_at xs i j x d same l ∙ sym (ap (λ b. cond b x (get_or xs j d)) t)
      | inr t ↦
          let other : j ≢ i = λ e. both_ways (nat_eq i j) t (eq-eqb i j (sym e)) in
          get_or-set_other xs i j x d other ∙ sym (ap (λ b. cond b x (get_or xs j d)) t)
    ]

pub pushed_in : {X Y : Type 0} (f : X → Y) (b : Bool) (x y : X) → f (cond b x y) ≡ cond b (f x) (f y)
pushed_in f true x y = refl
pushed_in f false x y = refl

-- a field of what stands at a place of a list after a write
pub got_in : {X Y : Type 0} (f : X → Y) (xs : List X) (i j : ℕ) (x d : X) → i < length xs
    → f (get_or (set xs i x) j d) ≡ cond (nat_eq i j) (f x) (f (get_or xs j d))
got_in f xs i j x d l =
    ap f (got xs i j x d l) ∙ pushed_in f (nat_eq i j) x (get_or xs j d)

-- what a way has at a hop after a write to another or the same way and hop
both_got : {A : Type 0} (b c : Bool) (x y z : A) → (b ≡ true → y ≡ z) → cond b (cond c x y) z ≡ cond (b && c) x z
both_got true c x y z e = ap (λ w. cond c x w) (e refl)
both_got false c x y z e = refl

pub kept_got : {A : Type 0} (b : Bool) (x y : A) → (b ≡ true → x ≡ y) → cond b x y ≡ y
kept_got true x y e = e refl
kept_got false x y e = refl

one_got : (b : Bool) (x y : ℕ) → (b ≡ true → x ≡ y) → cond b (x + 1) y ≡ y + cond {A = ℕ} b 1 0
one_got true x y e = omega (arith, e refl)
one_got false x y e = omega arith

more_got : (b c : Bool) (x y z : ℕ) → (b ≡ true → y ≡ z) → (b ≡ true → c ≡ true → x ≡ z)
    → cond b (cond c (x + 1) y) z ≡ z + cond {A = ℕ} b (cond {A = ℕ} c 1 0) 0
more_got true true x y z e f = omega (arith, f refl refl)
more_got true false x y z e f = omega (arith, e refl)
more_got false c x y z e f = omega arith

module _ (image : Image) (cap : ℕ) (t : Table) where
  pub raise_seen : (m hop : ℕ) → m < length t.ways → hop < length (way_of t m).marks
      → queues_of image cap (with_raised t m hop) ≡ raise (queues_of image cap t) m hop
  raise_seen m hop l h =
      let none : Way = record { length = 0; marks = []; places = [] } in
      let new : Way = record (way_of t m) { marks = set (way_of t m).marks hop (mark_in t m hop + 1) } in
      let marks : mark_in (with_raised t m hop) ≡ raised_at (mark_in t) m hop =
      fun_ext (λ k. fun_ext (λ j.
      got_in (λ (w : Way). mark_at w j) t.ways m k new none l
      ∙ ap (λ n. cond (nat_eq m k) n (mark_in t k j)) (got (way_of t m).marks hop j (mark_in t m hop + 1) 0 h)
      ∙ more_got (nat_eq m k) (nat_eq hop j) (mark_in t m hop) (mark_in t m j) (mark_in t k j)
      (λ e. ap (λ n. mark_in t n j) (eqb-true m k e))
      (λ e f. ap (λ n. mark_in t n hop) (eqb-true m k e) ∙ ap (mark_in t k) (eqb-true hop j f))))
      in
      let places : place_in (with_raised t m hop) ≡ place_in t =
      fun_ext (λ k. fun_ext (λ j.
      got_in (λ (w : Way). place_at w j) t.ways m k new none l
      ∙ kept_got (nat_eq m k) (place_in t m j) (place_in t k j) (λ e. ap (λ n. place_in t n j) (eqb-true m k e))))
      in
      ap (λ (f : Marks). record (queues_of image cap t) { marks = f; places = place_in (with_raised t m hop) }) marks
      ∙ ap (λ (f : ℕ → ℕ → Option ℕ). record (queues_of image cap t) { marks = raised_at (mark_in t) m hop; places = f }) places

  pub place_seen : (m hop : ℕ) (place : Option ℕ) → m < length t.ways → hop < length (way_of t m).places
      → queues_of image cap (with_place t m hop place)
      ≡ record (queues_of image cap t) { places = put_at (place_in t) m hop place }
  place_seen m hop place l h =
      let none : Way = record { length = 0; marks = []; places = [] } in
      let new : Way = record (way_of t m) { places = set (way_of t m).places hop place } in
      let marks : mark_in (with_place t m hop place) ≡ mark_in t =
      fun_ext (λ k. fun_ext (λ j.
      got_in (λ (w : Way). mark_at w j) t.ways m k new none l
      ∙ kept_got (nat_eq m k) (mark_in t m j) (mark_in t k j) (λ e. ap (λ n. mark_in t n j) (eqb-true m k e))))
      in
      let places : place_in (with_place t m hop place) ≡ put_at (place_in t) m hop place =
      fun_ext (λ k. fun_ext (λ j.
      got_in (λ (w : Way). place_at w j) t.ways m k new none l
      ∙ ap (λ n. cond (nat_eq m k) n (place_in t k j)) (got (way_of t m).places hop j place None h)
      ∙ both_got (nat_eq m k) (nat_eq hop j) place (place_in t m j) (place_in t k j)
      (λ e. ap (λ n. place_in t n j) (eqb-true m k e))))
      in
      ap (λ (f : Marks). record (queues_of image cap t) { marks = f; places = place_in (with_place t m hop place) }) marks
      ∙ ap (λ (f : ℕ → ℕ → Option ℕ). record (queues_of image cap t) { places = f }) places

  pub slots_seen : (l : ℕ) (slots : List Slot) → l < length t.links
      → queues_of image cap (with_slots t l slots)
      ≡ record (queues_of image cap t) { slots = put (λ k. (link_of t k).slots) l slots }
  slots_seen l slots h =
      let none : Link = record { entry = None; bound = 0; slots = [] } in
      let new : Link = record (link_of t l) { slots = slots } in
      let bound : (λ k. (link_of (with_slots t l slots) k).bound) ≡ (λ k. (link_of t k).bound) =
      fun_ext (λ k.
      got_in (λ (w : Link). w.bound) t.links l k new none h
      ∙ kept_got (nat_eq l k) (link_of t l).bound (link_of t k).bound (λ e. ap (λ n. (link_of t n).bound) (eqb-true l k e)))
      in
      let all : (λ k. (link_of (with_slots t l slots) k).slots) ≡ put (λ k. (link_of t k).slots) l slots =
      fun_ext (λ k. got_in (λ (w : Link). w.slots) t.links l k new none h)
      in
      ap (λ (f : ℕ → ℕ). record (queues_of image cap t) {
        bound = f;
        slots = (λ k. (link_of (with_slots t l slots) k).slots);
      }) bound
      ∙ ap (λ (f : ℕ → List Slot). record (queues_of image cap t) { slots = f }) all

  pub bound_seen : (l : ℕ) → l < length t.links
      → queues_of image cap (with_bound t l ((link_of t l).bound + 1))
      ≡ record (queues_of image cap t) { bound = raised (λ k. (link_of t k).bound) l }
  bound_seen l h =
      let none : Link = record { entry = None; bound = 0; slots = [] } in
      let new : Link = record (link_of t l) { bound = (link_of t l).bound + 1 } in
      let bound : (λ k. (link_of (with_bound t l ((link_of t l).bound + 1)) k).bound) ≡ raised (λ k. (link_of t k).bound) l =
      fun_ext (λ k.
      got_in (λ (w : Link). w.bound) t.links l k new none h
      ∙ one_got (nat_eq l k) (link_of t l).bound (link_of t k).bound (λ e. ap (λ n. (link_of t n).bound) (eqb-true l k e)))
      in
      let all : (λ k. (link_of (with_bound t l ((link_of t l).bound + 1)) k).slots) ≡ (λ k. (link_of t k).slots) =
      fun_ext (λ k. got_in (λ (w : Link). w.slots) t.links l k new none h
      ∙ kept_got (nat_eq l k) (link_of t l).slots (link_of t k).slots (λ e. ap (λ n. (link_of t n).slots) (eqb-true l k e)))
      in
      ap (λ (f : ℕ → ℕ). record (queues_of image cap t) {
        bound = f;
        slots = (λ k. (link_of (with_bound t l ((link_of t l).bound + 1)) k).slots);
      }) bound
      ∙ ap (λ (f : ℕ → List Slot). record (queues_of image cap t) { bound = raised (λ k. (link_of t k).bound) l; slots = f }) all
