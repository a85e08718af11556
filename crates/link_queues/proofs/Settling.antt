-- The tables while a link binds its next group.
use Rattle.std.proofs.Common.{◌≡◌, ℕ, ◌+◌, ◌*◌, ◌<◌, ◌≤◌, true, List, [], Option, Some, length, fold, get_or, option_map, slice_get, take, Bor, sym, ap, subst, ◌∙◌, arith, take_all}
use Rattle.std.proofs.lemmas.List.Sums.{fold_more}
use Rattle.std.proofs.lemmas.Option.{get_or_from_slice_get}
use Rattle.sys_base.specs.Grid.{cell_count}
use Rattle.cell_code.specs.Marks.{groups_of, hop_on, hops, may_bind, raised}
use Rattle.cell_code.specs.declared.image.Group.{Group}
use Rattle.cell_code.specs.declared.image.Image.{Image}
use Rattle.link_slots.specs.Slots.{held_count, lowest_free, taken}
use Rattle.link_slots.specs.declared.slot.Slot.{Slot}
use Rattle.array_model.specs.Steps.{put}
use Rattle.link_queues.specs.Fabrics.{Queues, bound_next, next_group, settle}
use Rattle.link_queues.specs.Keeping.{IsHop, IsKept}
use Rattle.link_queues.specs.Tables.{Laid, Table, IsFabric, IsLaidOut, link_of, queues, queues_of, way_of, with_bound, with_place, with_slots}
use Rattle.link_queues.proofs.Binding.{Binds, binds, bound_kept, known, room}
use Rattle.link_queues.proofs.Moves.{Done, done, laid_bound, laid_place, laid_slots}
use Rattle.link_queues.proofs.Views.{bound_seen, place_seen, slots_seen}

-- the members that the code goes through
pub group_is : (f : Laid) (l : ℕ) (r : Option (Bor Group)) (g : Bor Group) (items : List ℕ)
    → option_map (λ (x : Bor Group). x.now.members) r ≡ slice_get (groups_of f.image l) ((queues f).bound l)
    → r ≡ Some g → items ≡ g.now.members → items ≡ next_group (queues f) l
group_is f l r g items a b c =
    c
    ∙ sym (get_or_from_slice_get (groups_of f.image l) ((queues f).bound l) g.now.members []
    (sym a ∙ ap (option_map (λ (x : Bor Group). x.now.members)) b))

-- the tables after some members of the next group have their slots
pub record Partly (image : Image) (cap : ℕ) (t : Table) (f : Laid) (l i : ℕ) : Type 0 where
  pub laid : IsLaidOut image t
  pub seen : queues_of image cap t
      ≡ fold (settle l) (record (queues f) { bound = raised (queues f).bound l }) (take i (next_group (queues f) l))

-- none has its slot yet
pub none_settled : (image : Image) (cap : ℕ) (t : Table) (f : Laid) → record { image = image; cap = cap; table = t } ≡ f
    → IsFabric image cap t → (l at : ℕ) (t1 : Table) → l < 4 * cell_count f.image.grid → at ≡ l
    → t1 ≡ with_bound t at ((link_of t at).bound + 1) → Partly image cap t1 f l 0
none_settled image cap t f e k l at t1 inside same is =
    let there : l < length t.links =
    omega (arith, inside, k.laid_out.links, ap (λ (g : Laid). cell_count g.image.grid) e)
    in
    let new : t1 ≡ with_bound t l ((link_of t l).bound + 1) =
    is ∙ ap (λ n. with_bound t n ((link_of t n).bound + 1)) same
    in
    record {
      laid = subst (IsLaidOut image) (sym new) (laid_bound image t k.laid_out l ((link_of t l).bound + 1) there);
      seen = ap (queues_of image cap) new ∙ bound_seen image cap t l there
          ∙ ap (λ (g : Laid). record (queues g) { bound = raised (queues g).bound l }) e;
    }

-- what holds as a member takes its slot
pub record Settles (image : Image) (cap : ℕ) (t : Table) (f : Laid) (l i m : ℕ) : Type 0 where
  pub message : m < length image.messages
  pub uses : hop_on image l m < hops image m
  pub way : m < length t.ways
  pub place : (hop : ℕ) → hop ≡ hop_on image l m → hop < length (way_of t m).places
  pub link : (at : ℕ) → at ≡ l → at < length t.links
  pub free : (at : ℕ) → at ≡ l → held_count (link_of t at).slots < length (link_of t at).slots
  pub next : (hop at : ℕ) (t2 : Table) → hop ≡ hop_on image l m → at ≡ l
      → t2 ≡ with_slots (with_place t m hop (Some (lowest_free (link_of t at).slots))) at (taken (link_of t at).slots m)
      → Partly image cap t2 f l (i + 1)

module _ (f : Laid) (kept : IsKept (queues f)) (l : ℕ)
    (can : may_bind f.image (queues f).marks (queues f).bound l ≡ true) (inside : l < 4 * cell_count f.image.grid) where
  abbrev q : Queues
  q = queues f

  abbrev start : Queues
  start = record q { bound = raised q.bound l }

  module _ (image : Image) (cap : ℕ) (t : Table) (i : ℕ) (h : i < length (next_group q l))
      (p : Partly image cap t f l i) where
    abbrev m : ℕ
    m = get_or (next_group q l) i 0

    abbrev hop : ℕ
    hop = hop_on image l m

    b : Binds q kept l can inside i
    b = binds q kept l can inside i (omega (arith, h))

    same_image : image ≡ f.image
    same_image = ap (λ (r : Queues). r.image) (p.seen ∙ b.is)

    same_slots : (link_of t l).slots ≡ b.slots l
    same_slots = ap (λ (r : Queues). r.slots l) (p.seen ∙ b.is)

    is_hop : IsHop image m hop
    is_hop = subst (λ g. IsHop g m (hop_on g l m)) (sym same_image) (known q kept l can inside i h).0

    way_there : m < length t.ways
    way_there = omega (arith, is_hop.0, p.laid.ways)

    place_there : hop < length (way_of t m).places
    place_there = omega (arith, is_hop.1, p.laid.places m is_hop.0)

    link_there : l < length t.links
    link_there = omega (arith, inside, p.laid.links, ap (λ (g : Image). cell_count g.grid) same_image)

    free_there : held_count (link_of t l).slots < length (link_of t l).slots
    free_there =
        subst (λ (xs : List Slot). held_count xs < length xs) (sym same_slots) (room q kept l can inside i h b)

    abbrev place : Option ℕ
    place = Some (lowest_free (link_of t l).slots)

    abbrev slots : List Slot
    slots = taken (link_of t l).slots m

    abbrev placed : Table
    placed = with_place t m hop place

    one_more : Partly image cap (with_slots placed l slots) f l (i + 1)
    one_more =
        record {
          laid = laid_slots image placed (laid_place image t p.laid m hop place way_there) l slots link_there;
          seen = slots_seen image cap placed l slots link_there
              ∙ ap (λ (r : Queues). record r { slots = put (λ k. (link_of t k).slots) l slots })
              (place_seen image cap t m hop place way_there place_there)
              ∙ ap (λ (r : Queues). settle l r m) p.seen
              ∙ sym (fold_more (settle l) start (next_group q l) i 0 h);
        }

    settles_next : Settles image cap t f l i m
    settles_next =
        record {
          message = is_hop.0;
          uses = is_hop.1;
          way = way_there;
          place = λ j e. omega (arith, e, place_there);
          link = λ at e. omega (arith, e, link_there);
          free = λ at e.
              subst (λ n. held_count (link_of t n).slots < length (link_of t n).slots) (sym e) free_there;
          next = λ j at t2 e a is.
              subst (λ u. Partly image cap u f l (i + 1))
              (sym (is
              ∙ ap (λ n. with_slots (with_place t m n (Some (lowest_free (link_of t at).slots))) at (taken (link_of t at).slots m)) e
              ∙ ap (λ n. with_slots (with_place t m hop (Some (lowest_free (link_of t n).slots))) n (taken (link_of t n).slots m)) a))
              one_more;
        }

  pub settles : (image : Image) (cap : ℕ) (t : Table) (i : ℕ) (items : List ℕ) → items ≡ next_group q l → i < length items
      → Partly image cap t f l i → Settles image cap t f l i (get_or items i 0)
  settles image cap t i items all h p =
      subst (λ xs. Settles image cap t f l i (get_or xs i 0)) (sym all)
      (settles_next image cap t i (omega (arith, h, ap (λ (xs : List ℕ). length xs) all)) p)

  -- all have their slots
  pub all_settled : (image : Image) (cap : ℕ) (t : Table) (i : ℕ) (items : List ℕ) → items ≡ next_group q l → length items ≤ i
      → Partly image cap t f l i → Done image cap t (bound_next q l)
  all_settled image cap t i items all h p =
      done image cap t (bound_next q l) p.laid
      (p.seen
      ∙ ap (fold (settle l) start)
      (take_all i (next_group q l) (omega (arith, h, ap (λ (xs : List ℕ). length xs) all))))
      (bound_kept q kept l can inside)
