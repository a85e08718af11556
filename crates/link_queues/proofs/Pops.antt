-- A word that leaves a hop, from what the code knows.
use Rattle.std.proofs.Common.{◌≡◌, ℕ, suc, pred, ◌+◌, ◌-◌, ◌<◌, Bool, true, false, cond, nat_eq, List, [], ◌∷◌, Option, Some, None, is_some, unwrap_or, length, pos, slice_get, slice_index_or, refl, sym, ap, subst, ◌∙◌, arith, inl, inr, add-one}
use Rattle.std.proofs.lemmas.Bool.{cases_Bool}
use Rattle.std.proofs.lemmas.Option.{none-some, same_Some}
use Rattle.sys_base.specs.declared.word.Word.{Word}
use Rattle.sys_base.specs.declared.word.Word.TheVariants.{Num}
use Rattle.cell_code.specs.Marks.{hops, link_at, may_forward, may_read, message_of, raised_at}
use Rattle.cell_code.specs.declared.image.Image.{Image}
use Rattle.link_slots.specs.Slots.{added, words_at, HasRoom, IsHeld}
use Rattle.link_slots.specs.declared.slot.Slot.{Slot}
use Rattle.array_model.specs.Steps.{put}
use Rattle.link_queues.specs.Fabrics.{Queues, draw, enter, forwarded, leave, oldest, popped, put_at, raise, release, seat, slots_at}
use Rattle.link_queues.specs.Keeping.{IsHop, IsKept}
use Rattle.link_queues.specs.Tables.{Laid, Table, IsFabric, IsLaidOut, link_of, mark_in, place_in, queues, queues_of, way_of, with_left, with_slots}
use Rattle.link_queues.proofs.Calls.{last_hop_is, leaves, read_waits}
use Rattle.link_queues.proofs.Moves.{Done, done, laid_slots, left_laid, left_links, left_seen, link_there, mark_there, place_there, way_there}
use Rattle.link_queues.proofs.Opened.{seen}
use Rattle.link_queues.proofs.Shapes.{reaches}
use Rattle.link_queues.proofs.Slices.{put_other}
use Rattle.link_queues.proofs.Steps.{InHand, few, forward_keeps, goes, known, mark_after, moves, next_hop, pop_keeps, room_there, sits, sits_next, stays, this}
use Rattle.link_queues.proofs.Views.{slots_seen}

first_of : (xs : List Word) (w d : Word) → slice_get xs 0 ≡ Some w → w ≡ slice_index_or xs 0 d
first_of [] w d e = absurd (cc)
first_of (x ∷ xs) w d e = sym (same_Some _ _ e)

-- what is known of the slot that a word leaves
pub record LeftSeat (image : Image) (cap : ℕ) (t : Table) (f : Laid) (m hop l s : ℕ) : Type 0 where
  pub held : IsHeld (link_of t l).slots s
  pub some : 0 < length (words_at (link_of t l).slots s)
  pub word : (w : Word) → slice_get (words_at (link_of t l).slots s) 0 ≡ Some w → w ≡ oldest (queues f) m hop
  pub seen : queues_of image cap (with_left t m hop l s) ≡ leave (raise (queues f) m (suc hop)) m hop
  pub laid : IsLaidOut image (with_left t m hop l s)
  pub links : length (with_left t m hop l s).links ≡ length t.links

-- what is known where a word leaves a hop
pub record Leaves (image : Image) (cap : ℕ) (t : Table) (f : Laid) (m hop : ℕ) : Type 0 where
  pub here : IsHop f.image m hop
  pub way : m < length t.ways
  pub place : hop < length (way_of t m).places
  pub next : hop + 1 < length (way_of t m).marks
  pub left : mark_in t m (hop + 1) < (way_of t m).length
  pub link : link_at f.image m hop < length t.links
  pub sits : is_some (place_in t m hop) ≡ true
  pub slot : (s l : ℕ) → place_in t m hop ≡ Some s → l ≡ link_at f.image m hop → LeftSeat image cap t f m hop l s

module _ (image : Image) (cap : ℕ) (t : Table) (k : IsFabric image cap t) (m hop : ℕ) (h : IsHop image m hop)
    (waiting : mark_in t m (suc hop) < mark_in t m hop) where
  abbrev q : Queues
  q = queues_of image cap t

  slot_here : (s : ℕ) → place_in t m hop ≡ Some s
      → LeftSeat image cap t (record { image = image; cap = cap; table = t }) m hop (link_at image m hop) s
  slot_here s is =
      let there = k.kept.seats.held m hop s h is in
      let seat_is : s ≡ seat q m hop = ap (λ o. unwrap_or o 0) (sym is) in
      record {
        held = (there.0, λ e. none-some _ (sym e ∙ there.1));
        some = omega (arith, k.kept.waits m hop s h is, waiting);
        word = λ w e.
            first_of (words_at (slots_at q m hop) s) w (Num (pos 0)) e
            ∙ ap (λ i. slice_index_or (words_at (slots_at q m hop) i) 0 (Num (pos 0))) seat_is;
        seen = left_seen image cap t k m hop s h waiting is;
        laid = left_laid image cap t k m hop s h waiting is;
        links = left_links image cap t k m hop s h waiting is;
      }

  leaves_here : Leaves image cap t (record { image = image; cap = cap; table = t }) m hop
  leaves_here =
      record {
        here = h;
        way = way_there image cap t k m h.0;
        place = place_there image cap t k m hop h;
        next = omega (arith, mark_there image cap t k m (suc hop) h.0 (omega (arith, h.1)));
        left = omega (
          arith,
          waiting,
          few q k.kept m hop h waiting hop h.1,
          k.laid_out.lengths m h.0,
          ap (mark_in t m) (add-one hop),
        );
        link = link_there image cap t k m hop h;
        sits = sits q k.kept m hop h waiting;
        slot = λ s l is at.
            subst (λ n. LeftSeat image cap t (record { image = image; cap = cap; table = t }) m hop n s) (sym at) (slot_here s is);
      }

pub leaving : (image : Image) (cap : ℕ) (t : Table) (f : Laid) → record { image = image; cap = cap; table = t } ≡ f
    → IsFabric image cap t → (m hop : ℕ) → IsHop f.image m hop → (queues f).marks m (suc hop) < (queues f).marks m hop
    → Leaves image cap t f m hop
leaving image cap t f e k m hop =
    subst (λ (g : Laid). IsHop g.image m hop → (queues g).marks m (suc hop) < (queues g).marks m hop
    → Leaves image cap t g m hop) e (leaves_here image cap t k m hop)

-- ---- a read

pub record Read (f : Laid) (m hop : ℕ) : Type 0 where
  pub is : hop ≡ pred (hops f.image m)
  pub here : IsHop f.image m hop
  pub waits : (queues f).marks m (suc hop) < (queues f).marks m hop
  pub after : leave (raise (queues f) m (suc hop)) m hop ≡ popped (queues f) m
  pub kept : IsKept (popped (queues f) m)

pub read : (f : Laid) → IsKept (queues f) → (m n : ℕ) → m < length f.image.messages
    → may_read f.image (queues f).marks m ≡ true → n ≡ hops f.image m → Read f m (n - 1)
read f k m n l can all =
    let q : Queues = queues f in
    let is : pred (hops f.image m) ≡ n - 1 = omega (arith, reaches f.image k.shaped m l, all) in
    let end : suc (pred (hops f.image m)) ≡ hops f.image m = omega (arith, reaches f.image k.shaped m l) in
    subst (Read f m) is (record {
      is = refl;
      here = last_hop_is q k m l can;
      waits = read_waits q k m l can;
      after = sym (leaves q k m l can);
      kept = subst IsKept (sym (leaves q k m l can))
          (pop_keeps q k m (pred (hops f.image m)) (last_hop_is q k m l can) end (read_waits q k m l can));
    })

-- what is known where a word is read
pub popping : (image : Image) (cap : ℕ) (t : Table) (f : Laid) → record { image = image; cap = cap; table = t } ≡ f
    → IsFabric image cap t → (m n : ℕ) → m < length f.image.messages → may_read f.image (queues f).marks m ≡ true
    → n ≡ hops f.image m → Read f m (n - 1) × Leaves image cap t f m (n - 1)
popping image cap t f e k m n l can all =
    let r : Read f m (n - 1) = read f (seen image cap t f e k).kept m n l can all in
    (r, leaving image cap t f e k m (n - 1) r.here r.waits)

-- the tables after a read
pub read_done : (image : Image) (cap : ℕ) (t2 : Table) (f : Laid) (t : Table) (m hop l s : ℕ) → LeftSeat image cap t f m hop l s
    → Read f m hop → t2 ≡ with_left t m hop l s → Done image cap t2 (popped (queues f) m)
read_done image cap t2 f t m hop l s slot r e =
    subst (λ u. Done image cap u (popped (queues f) m)) (sym e)
    (done image cap (with_left t m hop l s) (popped (queues f) m) slot.laid (slot.seen ∙ r.after) r.kept)

-- ---- a word that moves on

module _ (q : Queues) (k : IsKept q) (m hop : ℕ) (can : may_forward q.image q.cap q.marks q.bound m hop ≡ true) (s : ℕ)
    (is : q.places m (suc hop) ≡ Some s) where
  abbrev h : IsHop q.image m hop
  h = this q k m hop can

  abbrev next : IsHop q.image m (suc hop)
  next = (known q k m hop can, next_hop q k m hop can)

  abbrev waiting : q.marks m (suc hop) < q.marks m hop
  waiting = moves q k m hop can

  abbrev either : Bool → Queues
  either b = cond b (release (draw (raise q m (suc hop)) m hop) m hop) (draw (raise q m (suc hop)) m hop)

  abbrev test : Bool
  test = nat_eq (raised_at q.marks m (suc hop) m (suc hop)) (message_of q.image m).length

  abbrev spot : ℕ
  spot = link_at q.image m (suc hop)

  stays_there : put_at q.places m hop None m (suc hop) ≡ Some s
  stays_there = put_other q.places m hop None m (suc hop) (λ a b. omega (arith, b)) ∙ is

  later : raised_at q.marks m (suc hop) m (suc (suc hop)) ≡ q.marks m (suc (suc hop))
  later =
      elim (mark_after q.marks m (suc hop) m (suc (suc hop))) [ inl u ↦ absurd (omega (arith, u.1.0)) | inr u ↦ u.0 ]

  roomy_there : (places : ℕ → ℕ → Option ℕ) (slots : ℕ → List Slot) → InHand q m (suc hop) places slots
      → places m (suc hop) ≡ Some s → HasRoom (slots spot) s
  roomy_there places slots hand e =
      let there = hand.seats.held m (suc hop) s next e in (
        there.0,
        omega (
          arith,
          hand.waits m (suc hop) s next e,
          later,
          room_there q k m hop can,
          hand.seats.capacities spot s there.0,
        ),
      )

  has_room_there : HasRoom ((either test).slots spot) s
  has_room_there =
      elim (cases_Bool test) [
        | inl t ↦
            subst (λ b. HasRoom ((either b).slots spot) s) (sym t)
            (roomy_there (put_at q.places m hop None) (release (draw q m hop) m hop).slots (goes q k m hop h waiting t) stays_there)
        | inr t ↦
            subst (λ b. HasRoom ((either b).slots spot) s) (sym t)
            (roomy_there q.places (draw q m hop).slots (stays q k m hop h waiting t) is)
      ]

  entered : (b : Bool) (word : Word)
      → record (either b) { slots = put (either b).slots spot (added ((either b).slots spot) s word) }
      ≡ enter (either b) m (suc hop) word
  entered true word =
      ap (λ n. record (either true) { slots = put (either true).slots spot (added ((either true).slots spot) n word) })
      (sym (ap (λ o. unwrap_or o 0) stays_there))
  entered false word =
      ap (λ n. record (either false) { slots = put (either false).slots spot (added ((either false).slots spot) n word) })
      (sym (ap (λ o. unwrap_or o 0) is))

-- what is known where a word moves on
pub record Moving (image : Image) (cap : ℕ) (t : Table) (f : Laid) (m hop : ℕ) : Type 0 where
  pub here : IsHop f.image m hop
  pub next : IsHop f.image m (suc hop)
  pub waits : (queues f).marks m (suc hop) < (queues f).marks m hop
  pub place : hop + 1 < length (way_of t m).places
  pub sits : is_some (place_in t m (hop + 1)) ≡ true
  pub link : link_at f.image m (hop + 1) < length t.links
  pub there : (s l l2 s2 : ℕ) → LeftSeat image cap t f m hop l s → l2 ≡ link_at f.image m (hop + 1)
      → place_in t m (hop + 1) ≡ Some s2
      → HasRoom (link_of (with_left t m hop l s) l2).slots s2
      × ((word : Word) → word ≡ oldest (queues f) m hop
      → Done image cap (with_slots (with_left t m hop l s) l2 (added (link_of (with_left t m hop l s) l2).slots s2 word))
      (forwarded (queues f) m hop))

module _ (image : Image) (cap : ℕ) (t : Table) (k : IsFabric image cap t) (m hop : ℕ)
    (can : may_forward image cap (queues_of image cap t).marks (queues_of image cap t).bound m hop ≡ true) where
  abbrev qs : Queues
  qs = queues_of image cap t

  abbrev f : Laid
  f = record { image = image; cap = cap; table = t }

  more : hop + 1 ≡ suc hop
  more = add-one hop

  after : IsHop image m (suc hop)
  after = (known qs k.kept m hop can, next_hop qs k.kept m hop can)

  moved : (s s2 l : ℕ) → LeftSeat image cap t f m hop l s → place_in t m (suc hop) ≡ Some s2
      → HasRoom (link_of (with_left t m hop l s) (link_at image m (suc hop))).slots s2
      × ((word : Word) → word ≡ oldest qs m hop
      → Done image cap (with_slots (with_left t m hop l s) (link_at image m (suc hop))
      (added (link_of (with_left t m hop l s) (link_at image m (suc hop))).slots s2 word))
      (forwarded qs m hop))
  moved s s2 l seat is =
      let u : Table = with_left t m hop l s in
      let l2 : ℕ = link_at image m (suc hop) in
      let inside : l2 < length u.links = omega (arith, seat.links, link_there image cap t k m (suc hop) after) in (
        subst (λ (r : Queues). HasRoom (r.slots l2) s2) (sym seat.seen) (has_room_there qs k.kept m hop can s2 is),
        λ word e.
            let slots : List Slot = added (link_of u l2).slots s2 word in
            done image cap (with_slots u l2 slots) (forwarded qs m hop) (laid_slots image u seat.laid l2 slots inside)
            (slots_seen image cap u l2 slots inside
            ∙ ap (λ (r : Queues). record r { slots = put r.slots l2 (added (r.slots l2) s2 word) }) seat.seen
            ∙ entered qs k.kept m hop can s2 is
            (nat_eq (raised_at qs.marks m (suc hop) m (suc hop)) (message_of image m).length) word
            ∙ ap (enter (leave (raise qs m (suc hop)) m hop) m (suc hop)) e)
            (forward_keeps qs k.kept m hop can (oldest qs m hop)),
      )

  moving_here : Moving image cap t f m hop
  moving_here =
      record {
        here = this qs k.kept m hop can;
        next = after;
        waits = moves qs k.kept m hop can;
        place = omega (arith, place_there image cap t k m (suc hop) after);
        sits = ap (λ n. is_some (place_in t m n)) more ∙ sits_next qs k.kept m hop can;
        link = subst (λ n. link_at image m n < length t.links) (sym more) (link_there image cap t k m (suc hop) after);
        there = λ s l l2 s2 seat at is.
            subst (λ n. HasRoom (link_of (with_left t m hop l s) n).slots s2
            × ((word : Word) → word ≡ oldest qs m hop
            → Done image cap (with_slots (with_left t m hop l s) n (added (link_of (with_left t m hop l s) n).slots s2 word))
            (forwarded qs m hop))) (sym (at ∙ ap (link_at image m) more))
            (moved s s2 l seat (ap (place_in t m) (sym more) ∙ is));
      }

pub moving : (image : Image) (cap : ℕ) (t : Table) (f : Laid) → record { image = image; cap = cap; table = t } ≡ f
    → IsFabric image cap t → (m hop : ℕ) → may_forward f.image f.cap (queues f).marks (queues f).bound m hop ≡ true
    → Moving image cap t f m hop
moving image cap t f e k m hop =
    subst (λ (g : Laid). may_forward g.image g.cap (queues g).marks (queues g).bound m hop ≡ true
    → Moving image cap t g m hop) e (moving_here image cap t k m hop)

-- the tables after a word has moved on
pub moving_done : (image : Image) (cap : ℕ) (t t2 t3 : Table) (f : Laid) (m i hop l l2 s s2 : ℕ) (word : Word) → i ≡ hop
    → t2 ≡ with_left t m i l s → t3 ≡ with_slots t2 l2 (added (link_of t2 l2).slots s2 word)
    → Done image cap (with_slots (with_left t m i l s) l2 (added (link_of (with_left t m i l s) l2).slots s2 word))
    (forwarded (queues f) m i)
    → Done image cap t3 (forwarded (queues f) m hop)
moving_done image cap t t2 t3 f m i hop l l2 s s2 word a b c d =
    subst (λ u. Done image cap u (forwarded (queues f) m hop))
    (sym (c ∙ ap (λ u. with_slots u l2 (added (link_of u l2).slots s2 word)) b))
    (subst (λ n. Done image cap
    (with_slots (with_left t m i l s) l2 (added (link_of (with_left t m i l s) l2).slots s2 word))
    (forwarded (queues f) m n)) a d)
