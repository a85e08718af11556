-- What the calls make of the tables.
use Rattle.std.proofs.Common.{◌≡◌, ℕ, suc, ◌+◌, ◌<◌, ◌≤◌, Bool, true, false, cond, nat_eq, List, [], Option, Some, None, is_some, unwrap_or, length, get_or, set, refl, sym, ap, subst, ◌∙◌, arith, length-set, eq-eqb, eqb-true}
use Rattle.sys_base.specs.declared.word.Word.{Word}
use Rattle.cell_code.specs.Marks.{hops, link_at, may_write, message_of, raised_at}
use Rattle.cell_code.specs.declared.image.Image.{Image}
use Rattle.link_slots.specs.Slots.{added, freed, taken_from, HasRoom}
use Rattle.link_slots.specs.declared.slot.Slot.{Slot}
use Rattle.array_model.specs.Steps.{put}
use Rattle.link_queues.specs.Fabrics.{Queues, draw, leave, pushed, put_at, raise, release, seat, slots_at}
use Rattle.link_queues.specs.Keeping.{IsHop, IsKept}
use Rattle.link_queues.specs.Tables.{Laid, Table, IsFabric, IsLaidOut, link_of, mark_in, place_in, queues, queues_of, way_of, with_bound, with_left, with_place, with_raised, with_slots}
use Rattle.link_queues.specs.Tracks.{Way}
use Rattle.link_queues.specs.declared.link.Link.{Link}
use Rattle.link_queues.proofs.Shapes.{linked, reaches}
use Rattle.link_queues.proofs.Steps.{push_comes, push_keeps, push_sits}
use Rattle.link_queues.proofs.Views.{got_in, kept_got, place_seen, raise_seen, slots_seen}

-- a field that a write leaves
kept_in : {X Y : Type 0} (f : X → Y) (xs : List X) (i j : ℕ) (x d : X) → i < length xs → f x ≡ f (get_or xs i d)
    → f (get_or (set xs i x) j d) ≡ f (get_or xs j d)
kept_in f xs i j x d l e =
    got_in f xs i j x d l
    ∙ kept_got (nat_eq i j) (f x) (f (get_or xs j d)) (λ t. e ∙ ap (λ n. f (get_or xs n d)) (eqb-true i j t))

module _ (image : Image) (t : Table) (laid : IsLaidOut image t) where
  abbrev no_way : Way
  no_way = record { length = 0; marks = []; places = [] }

  laid_way : (m : ℕ) (new : Way) → m < length t.ways → new.length ≡ (way_of t m).length
      → length new.marks ≡ length (way_of t m).marks → length new.places ≡ length (way_of t m).places
      → IsLaidOut image (record t { ways = set t.ways m new })
  laid_way m new l a b c =
      record {
        ways = length-set t.ways m new ∙ laid.ways;
        marks = λ k g. kept_in (λ (w : Way). length w.marks) t.ways m k new no_way l b ∙ laid.marks k g;
        places = λ k g. kept_in (λ (w : Way). length w.places) t.ways m k new no_way l c ∙ laid.places k g;
        lengths = λ k g. kept_in (λ (w : Way). w.length) t.ways m k new no_way l a ∙ laid.lengths k g;
        links = laid.links;
        entries = laid.entries;
      }

  pub laid_raised : (m hop : ℕ) → m < length t.ways → IsLaidOut image (with_raised t m hop)
  laid_raised m hop l =
      laid_way m (record (way_of t m) { marks = set (way_of t m).marks hop (mark_in t m hop + 1) }) l refl
      (length-set (way_of t m).marks hop (mark_in t m hop + 1)) refl

  pub laid_place : (m hop : ℕ) (place : Option ℕ) → m < length t.ways → IsLaidOut image (with_place t m hop place)
  laid_place m hop place l =
      laid_way m (record (way_of t m) { places = set (way_of t m).places hop place }) l refl refl
      (length-set (way_of t m).places hop place)

  laid_link : (l : ℕ) (new : Link) → l < length t.links → new.entry ≡ (link_of t l).entry
      → IsLaidOut image (record t { links = set t.links l new })
  laid_link l new g e =
      record {
        ways = laid.ways;
        marks = laid.marks;
        places = laid.places;
        lengths = laid.lengths;
        links = length-set t.links l new ∙ laid.links;
        entries = λ k h.
            kept_in (λ (x : Link). x.entry) t.links l k new (record { entry = None; bound = 0; slots = [] }) g e
            ∙ laid.entries k (omega (arith, h, length-set t.links l new));
      }

  pub laid_slots : (l : ℕ) (slots : List Slot) → l < length t.links → IsLaidOut image (with_slots t l slots)
  laid_slots l slots g = laid_link l (record (link_of t l) { slots = slots }) g refl

  pub laid_bound : (l bound : ℕ) → l < length t.links → IsLaidOut image (with_bound t l bound)
  laid_bound l bound g = laid_link l (record (link_of t l) { bound = bound }) g refl

-- ---- a write

-- the tables after a call, and what contracts see of them
pub record Done (image : Image) (cap : ℕ) (t : Table) (q : Queues) : Type 0 where
  pub fabric : IsFabric image cap t
  pub seen : queues_of image cap t ≡ q

pub done : (image : Image) (cap : ℕ) (t : Table) (q : Queues) → IsLaidOut image t → queues_of image cap t ≡ q → IsKept q
    → Done image cap t q
done image cap t q laid seen kept = record { fabric = record { laid_out = laid; kept = subst IsKept (sym seen) kept }; seen = seen }

module _ (image : Image) (cap : ℕ) (t : Table) (f : IsFabric image cap t) where
  abbrev q : Queues
  q = queues_of image cap t

  pub way_there : (m : ℕ) → m < length image.messages → m < length t.ways
  way_there m l = omega (arith, l, f.laid_out.ways)

  pub link_there : (m hop : ℕ) → IsHop image m hop → link_at image m hop < length t.links
  link_there m hop h = omega (arith, linked image f.kept.shaped m hop h, f.laid_out.links)

  pub mark_there : (m hop : ℕ) → m < length image.messages → hop ≤ hops image m → hop < length (way_of t m).marks
  mark_there m hop l h = omega (arith, f.laid_out.marks m l)

  pub place_there : (m hop : ℕ) → IsHop image m hop → hop < length (way_of t m).places
  place_there m hop h = omega (arith, f.laid_out.places m h.0, h.1)

  -- a slot that a message holds has room where the marks say so
  pub roomy : (m hop s : ℕ) → IsHop image m hop → place_in t m hop ≡ Some s
      → mark_in t m hop < mark_in t m (suc hop) + cap → HasRoom (slots_at q m hop) s
  roomy m hop s h is room =
      let there = f.kept.seats.held m hop s h is in (
        there.0,
        omega (arith, f.kept.waits m hop s h is, room, f.kept.seats.capacities (link_at image m hop) s there.0),
      )

  pub push_here : (m s : ℕ) (word : Word) → m < length image.messages → may_write image cap q.marks q.bound m ≡ true
      → place_in t m 0 ≡ Some s
      → Done image cap (with_slots (with_raised t m 0) (link_at image m 0) (added (link_of t (link_at image m 0)).slots s word))
      (pushed q m word)
  push_here m s word l can is =
      let h : IsHop image m 0 = (l, reaches image f.kept.shaped m l) in
      let mark : 0 < length (way_of t m).marks = mark_there m 0 l (omega arith) in
      let seat_is : s ≡ seat q m 0 = ap (λ o. unwrap_or o 0) (sym is) in
      let raised : Table = with_raised t m 0 in
      let slots : List Slot = added (link_of t (link_at image m 0)).slots s word in
      done image cap (with_slots raised (link_at image m 0) slots) (pushed q m word)
      (laid_slots image raised (laid_raised image t f.laid_out m 0 (way_there m l)) (link_at image m 0) slots (link_there m 0 h))
      (slots_seen image cap raised (link_at image m 0) slots (link_there m 0 h)
      ∙ ap (λ (p : Queues). record p { slots = put q.slots (link_at image m 0) slots }) (raise_seen image cap t m 0 (way_there m l) mark)
      ∙ ap (λ n. record (raise q m 0) { slots = put q.slots (link_at image m 0) (added (q.slots (link_at image m 0)) n word) }) seat_is)
      (push_keeps q f.kept m word l can)

-- ---- a write, from what the code knows

push_room : (image : Image) (cap : ℕ) (t : Table) → IsFabric image cap t → (m : ℕ) → m < length image.messages
    → may_write image cap (queues_of image cap t).marks (queues_of image cap t).bound m ≡ true
    → mark_in t m 0 < mark_in t m 1 + cap
push_room image cap t k m l can = (push_comes (queues_of image cap t) k.kept m l can).room (reaches image k.kept.shaped m l)

pub pushes : (image : Image) (cap : ℕ) (t : Table) (f : Laid) → record { image = image; cap = cap; table = t } ≡ f
    → IsFabric image cap t → (m : ℕ) (word : Word) → m < length f.image.messages
    → may_write f.image f.cap (queues f).marks (queues f).bound m ≡ true
    → IsHop f.image m 0 × ((0 < length (way_of t m).places) × ((is_some (place_in t m 0) ≡ true)
    × ((s : ℕ) → place_in t m 0 ≡ Some s
    → HasRoom (link_of (with_raised t m 0) (link_at f.image m 0)).slots s
    × Done image cap (with_slots (with_raised t m 0) (link_at f.image m 0)
    (added (link_of (with_raised t m 0) (link_at f.image m 0)).slots s word)) (pushed (queues f) m word))))
pushes image cap t f e k m word =
    subst (λ (g : Laid). m < length g.image.messages → may_write g.image g.cap (queues g).marks (queues g).bound m ≡ true
    → IsHop g.image m 0 × ((0 < length (way_of t m).places) × ((is_some (place_in t m 0) ≡ true)
    × ((s : ℕ) → place_in t m 0 ≡ Some s
    → HasRoom (link_of (with_raised t m 0) (link_at g.image m 0)).slots s
    × Done image cap (with_slots (with_raised t m 0) (link_at g.image m 0)
    (added (link_of (with_raised t m 0) (link_at g.image m 0)).slots s word)) (pushed (queues g) m word))))) e
    (λ l can.
    let h : IsHop image m 0 = (l, reaches image k.kept.shaped m l) in (
      h,
      (
        place_there image cap t k m 0 h,
        (
          push_sits (queues_of image cap t) k.kept m l can,
          λ s is. (roomy image cap t k m 0 s h is (push_room image cap t k m l can), push_here image cap t k m s word l can is),
        ),
      ),
    ))

-- the tables after a write, from what its calls ensure
pub push_done : (image : Image) (cap : ℕ) (t t1 t2 : Table) (m l at s : ℕ) (word : Word) (q : Queues) → l ≡ at
    → t1 ≡ with_raised t m 0 → t2 ≡ with_slots t1 l (added (link_of t1 l).slots s word)
    → Done image cap (with_slots (with_raised t m 0) at (added (link_of (with_raised t m 0) at).slots s word)) q
    → Done image cap t2 q
push_done image cap t t1 t2 m l at s word q a b c d =
    subst (λ u. Done image cap u q)
    (sym (c ∙ ap (λ u. with_slots u l (added (link_of u l).slots s word)) b
    ∙ ap (λ n. with_slots (with_raised t m 0) n (added (link_of (with_raised t m 0) n).slots s word)) a))
    d

-- ---- what leaves its slot

-- the slots of a link after a change
pub slots_now : (t : Table) (l : ℕ) (slots : List Slot) → l < length t.links → (link_of (with_slots t l slots) l).slots ≡ slots
slots_now t l slots h =
    got_in (λ (x : Link). x.slots) t.links l l (record (link_of t l) { slots = slots })
    (record { entry = None; bound = 0; slots = [] }) h
    ∙ ap (λ b. cond b slots (link_of t l).slots) (eq-eqb l l refl)

module _ (image : Image) (cap : ℕ) (t : Table) (f : IsFabric image cap t) (m hop s : ℕ) (h : IsHop image m hop)
    (waiting : mark_in t m (suc hop) < mark_in t m hop) (is : place_in t m hop ≡ Some s) where
  abbrev p : Queues
  p = queues_of image cap t

  abbrev l : ℕ
  l = link_at image m hop

  abbrev pub raised : Table
  raised = with_raised t m (suc hop)

  -- without the word
  abbrev pub drawn : Table
  drawn = with_slots raised l (taken_from (link_of raised l).slots s)

  -- without the slot
  abbrev pub freed_after : Table
  freed_after = with_slots (with_place drawn m hop None) l (freed (link_of drawn l).slots s)

  seat_is : s ≡ seat p m hop
  seat_is = ap (λ o. unwrap_or o 0) (sym is)

  pub raised_seen : queues_of image cap raised ≡ raise p m (suc hop)
  raised_seen = raise_seen image cap t m (suc hop) (way_there image cap t f m h.0) (mark_there image cap t f m (suc hop) h.0 h.1)

  drawn_laid : IsLaidOut image drawn
  drawn_laid =
      laid_slots image raised (laid_raised image t f.laid_out m (suc hop) (way_there image cap t f m h.0)) l
      (taken_from (link_of raised l).slots s) (link_there image cap t f m hop h)

  pub drawn_seen : queues_of image cap drawn ≡ draw (raise p m (suc hop)) m hop
  drawn_seen =
      slots_seen image cap raised l (taken_from (link_of raised l).slots s) (link_there image cap t f m hop h)
      ∙ ap (λ (r : Queues). record r { slots = put p.slots l (taken_from (p.slots l) s) }) raised_seen
      ∙ ap (λ n. record (raise p m (suc hop)) { slots = put p.slots l (taken_from (p.slots l) n) }) seat_is

  drawn_links : length drawn.links ≡ length t.links
  drawn_links = length-set t.links l (record (link_of raised l) { slots = taken_from (link_of raised l).slots s })

  drawn_ways : length drawn.ways ≡ length t.ways
  drawn_ways = length-set t.ways m (record (way_of t m) { marks = set (way_of t m).marks (suc hop) (mark_in t m (suc hop) + 1) })

  pub drawn_link : l < length drawn.links
  drawn_link = omega (arith, drawn_links, link_there image cap t f m hop h)

  pub drawn_way : m < length drawn.ways
  drawn_way = omega (arith, drawn_ways, way_there image cap t f m h.0)

  pub drawn_place : hop < length (way_of drawn m).places
  drawn_place = omega (arith, drawn_laid.places m h.0, h.1)

  pub freed_laid : IsLaidOut image freed_after
  freed_laid =
      laid_slots image (with_place drawn m hop None) (laid_place image drawn drawn_laid m hop None drawn_way) l
      (freed (link_of drawn l).slots s) drawn_link

  pub freed_seen : queues_of image cap freed_after ≡ release (draw (raise p m (suc hop)) m hop) m hop
  freed_seen =
      slots_seen image cap (with_place drawn m hop None) l (freed (link_of drawn l).slots s) drawn_link
      ∙ ap (λ (r : Queues). record r { slots = put (queues_of image cap drawn).slots l (freed ((queues_of image cap drawn).slots l) s) })
      (place_seen image cap drawn m hop None drawn_way drawn_place)
      ∙ ap (λ (r : Queues). record r { places = put_at r.places m hop None; slots = put r.slots l (freed (r.slots l) s) }) drawn_seen
      ∙ ap (λ n. record (draw (raise p m (suc hop)) m hop) {
        places = put_at p.places m hop None;
        slots = put (draw (raise p m (suc hop)) m hop).slots l (freed ((draw (raise p m (suc hop)) m hop).slots l) n);
      }) seat_is

  -- the test of the code
  test_is : nat_eq (mark_in drawn m (suc hop)) (way_of drawn m).length
      ≡ nat_eq (raised_at p.marks m (suc hop) m (suc hop)) (message_of image m).length
  test_is =
      ap (λ (r : Queues). nat_eq (r.marks m (suc hop)) (way_of drawn m).length) raised_seen
      ∙ ap (nat_eq (raised_at p.marks m (suc hop) m (suc hop))) (drawn_laid.lengths m h.0)

  abbrev each : Bool → Table
  each b = cond b freed_after drawn

  abbrev either : Bool → Queues
  either b = cond b (release (draw (raise p m (suc hop)) m hop) m hop) (draw (raise p m (suc hop)) m hop)

  each_seen : (b : Bool) → queues_of image cap (each b) ≡ either b
  each_seen true = freed_seen
  each_seen false = drawn_seen

  each_laid : (b : Bool) → IsLaidOut image (each b)
  each_laid true = freed_laid
  each_laid false = drawn_laid

  each_links : (b : Bool) → length (each b).links ≡ length t.links
  each_links true =
      length-set drawn.links l (record (link_of drawn l) { slots = freed (link_of drawn l).slots s }) ∙ drawn_links
  each_links false = drawn_links

  abbrev pub left : Table
  left = with_left t m hop l s

  pub left_seen : queues_of image cap left ≡ leave (raise p m (suc hop)) m hop
  left_seen = each_seen (nat_eq (mark_in drawn m (suc hop)) (way_of drawn m).length) ∙ ap either test_is

  pub left_laid : IsLaidOut image left
  left_laid = each_laid (nat_eq (mark_in drawn m (suc hop)) (way_of drawn m).length)

  pub left_links : length left.links ≡ length t.links
  left_links = each_links (nat_eq (mark_in drawn m (suc hop)) (way_of drawn m).length)
