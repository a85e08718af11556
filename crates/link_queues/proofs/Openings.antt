-- The queues at the start.
use Rattle.std.proofs.Common.{◌≡◌, ℕ, ◌+◌, ◌*◌, ◌<◌, ◌≤◌, Bool, true, false, cond, nat_eq, nat_lt, List, [], ◌∷◌, Option, None, is_some, length, map, filter, get_or, replicate, refl, sym, ap, subst, ◌∙◌, arith, inl, inr, ltb-true}
use Rattle.std.proofs.Math.Path.{fun_ext}
use Rattle.std.proofs.lemmas.Bool.{cases_Bool, cases_lt, false_from_ne_true, ltb-false, or_cases, or_left, or_parts, or_right}
use Rattle.std.proofs.lemmas.List.{get_or-map, get_or-replicate, get_or_past, length-map, length-replicate}
use Rattle.std.proofs.lemmas.List.Folds.{sum_by-replicate}
use Rattle.std.proofs.lemmas.List.FromFn.{get_or-range_with_len, length-range_with_len}
use Rattle.std.proofs.lemmas.Option.{none-some}
use Rattle.sys_base.specs.Grid.{cell_count}
use Rattle.sys_base.specs.Groups.{below, groups, is_one_of}
use Rattle.array_runs.proofs.Members.{member_below}
use Rattle.cell_code.specs.Images.{IsShaped, link_groups}
use Rattle.cell_code.specs.Marks.{Marks, hops, link_of as link_named, message_of, no_message}
use Rattle.cell_code.specs.declared.image.Image.{Image}
use Rattle.cell_code.specs.declared.image.LinkImage.{LinkImage}
use Rattle.cell_code.specs.declared.image.MessageImage.{MessageImage}
use Rattle.link_slots.specs.Slots.{empty_slot, holder_at}
use Rattle.link_slots.specs.declared.slot.Slot.{Slot}
use Rattle.array_model.specs.States.{opening as first_state}
use Rattle.link_queues.specs.Fabrics.{Queues, opening}
use Rattle.link_queues.specs.Keeping.{IsKept}
use Rattle.link_queues.specs.Standing.{StandsFor}
use Rattle.link_queues.specs.Tables.{IsLaidOut, Table, first_link, link_of, mark_in, place_in, queues_of, way_of}
use Rattle.link_queues.specs.Tracks.{Way, new_way}
use Rattle.link_queues.specs.declared.link.Link.{Link}
use Rattle.link_queues.proofs.Moves.{Done, done}

-- ---- equal parts

filled : {X : Type 0} (n i : ℕ) (x d : X) → get_or (replicate n x) i d ≡ cond (nat_lt i n) x d
filled n i x d =
    elim (cases_Bool (nat_lt i n)) [
      | inl t ↦ get_or-replicate n i x d (ltb-true i n t) ∙ sym (ap (λ b. cond b x d) t)
      | inr t ↦
          get_or_past (replicate n x) i d (omega (arith, length-replicate n x, ltb-false i n t))
          ∙ sym (ap (λ b. cond b x d) t)
    ]

-- a field in which all have the same
filled_field : {X Y : Type 0} (f : X → Y) (n i : ℕ) (x d : X) → f x ≡ f d → f (get_or (replicate n x) i d) ≡ f d
filled_field f n i x d e = ap f (filled n i x d) ∙ either (nat_lt i n) where
  either : (b : Bool) → f (cond b x d) ≡ f d
  either true = e
  either false = refl

-- ---- links that are not there

module _ (f : ℕ → List (ℕ × List ℕ)) (test : ℕ × List (ℕ × List ℕ) → Bool) where
  abbrev ids : List (ℕ × List (ℕ × List ℕ)) → List ℕ
  ids xs = map (λ (x : ℕ × List (ℕ × List ℕ)). x.0) xs

  ids_kept : (xs : List ℕ) (l : ℕ) → is_one_of (ids (filter test (map (λ k. (k, f k)) xs))) l ≡ true → is_one_of xs l ≡ true
  ids_kept [] l h = absurd (cc)
  ids_kept (x ∷ xs) l h =
      let rest : List (ℕ × List (ℕ × List ℕ)) = filter test (map (λ k. (k, f k)) xs) in
      let ih : is_one_of (ids rest) l ≡ true → is_one_of xs l ≡ true = ids_kept xs l in
      elim (cases_Bool (test (x, f x))) [
        | inl t ↦
            let g : is_one_of (x ∷ ids rest) l ≡ true =
            sym (ap (λ b. is_one_of (ids (cond b ((x, f x) ∷ rest) rest)) l) t) ∙ h
            in
            elim (or_cases (nat_eq l x) (is_one_of (ids rest) l) g) [
              | inl e ↦ or_left _ _ e
              | inr r ↦ or_right (nat_eq l x) _ (ih r)
            ]
        | inr t ↦
            or_right (nat_eq l x) _ (ih (sym (ap (λ b. is_one_of (ids (cond b ((x, f x) ∷ rest) rest)) l) t) ∙ h))
      ]

no_link : (links : List LinkImage) (l : ℕ)
    → is_one_of (map (λ (x : ℕ × List (ℕ × List ℕ)). x.0) (map link_groups links)) l ≡ false
    → (link_named links l).queues ≡ 0
no_link [] l h = refl
no_link (x ∷ xs) l h =
    let p = or_parts (nat_eq l x.link) _ h in
    ap (λ b. (cond b x (link_named xs l)).queues) p.0 ∙ no_link xs l p.1

past_links : (image : Image) → IsShaped image → (l : ℕ) → 4 * cell_count image.grid ≤ l → (link_named image.links l).queues ≡ 0
past_links image shaped l h =
    let routes : List (List ℕ) = map (λ (m : MessageImage). m.route) image.messages in
    let labels : List ℕ = map (λ (m : MessageImage). m.label) image.messages in
    let lengths : List ℕ = map (λ (m : MessageImage). m.length) image.messages in
    no_link image.links l
    (ap (λ xs. is_one_of (map (λ (x : ℕ × List (ℕ × List ℕ)). x.0) xs) l) shaped.links
    ∙ false_from_ne_true _ (λ t.
    let there : l < 4 * cell_count image.grid =
    member_below (4 * cell_count image.grid) l
    (ids_kept (groups routes labels lengths) (λ link. nat_lt 0 (length link.1)) (below (4 * cell_count image.grid)) l t)
    in
    omega (arith, there, h)))

-- ---- the tables

module _ (image : Image) (cap : ℕ) (shaped : IsShaped image) (some : 1 ≤ cap) (most : cap ≤ 64) where
  abbrev all : ℕ
  all = 4 * cell_count image.grid

  abbrev way : MessageImage → Way
  way m = new_way m.length (length m.route)

  abbrev t : Table
  t = record { ways = map way image.messages; links = map (first_link image cap) (below all) }

  way_is : (m : ℕ) → m < length image.messages → way_of t m ≡ way (message_of image m)
  way_is m l = get_or-map way image.messages m no_message (record { length = 0; marks = []; places = [] }) l

  no_way : (m : ℕ) → length image.messages ≤ m → way_of t m ≡ record { length = 0; marks = []; places = [] }
  no_way m l =
      get_or_past t.ways m (record { length = 0; marks = []; places = [] }) (omega (arith, l, length-map image.messages way))

  link_is : (l : ℕ) → l < all → link_of t l ≡ first_link image cap l
  link_is l h =
      get_or-map (first_link image cap) (below all) l 0 (record { entry = None; bound = 0; slots = [] })
      (omega (arith, h, length-range_with_len 0 all))
      ∙ ap (first_link image cap) (omega (arith, get_or-range_with_len 0 all l 0 h))

  no_entry : (l : ℕ) → all ≤ l → link_of t l ≡ record { entry = None; bound = 0; slots = [] }
  no_entry l h =
      get_or_past t.links l (record { entry = None; bound = 0; slots = [] })
      (omega (arith, h, length-map (below all) (first_link image cap), length-range_with_len 0 all))

  laid : IsLaidOut image t
  laid =
      record {
        ways = length-map image.messages way;
        marks = λ m l.
            ap (λ (w : Way). length w.marks) (way_is m l) ∙ length-replicate (hops image m + 1) 0 ∙ omega arith;
        places = λ m l. ap (λ (w : Way). length w.places) (way_is m l) ∙ length-replicate (hops image m) None;
        lengths = λ m l. ap (λ (w : Way). w.length) (way_is m l);
        links = length-map (below all) (first_link image cap) ∙ length-range_with_len 0 all;
        entries = λ l h.
            ap (λ (x : Link). x.entry) (link_is l
            (omega (arith, h, length-map (below all) (first_link image cap), length-range_with_len 0 all)));
      }

  marks_are : (m hop : ℕ) → mark_in t m hop ≡ 0
  marks_are m hop =
      elim (cases_lt m (length image.messages)) [
        | inl l ↦
            ap (λ (w : Way). get_or w.marks hop 0) (way_is m l)
            ∙ filled_field (λ (n : ℕ). n) (hops image m + 1) hop 0 0 refl
        | inr l ↦ ap (λ (w : Way). get_or w.marks hop 0) (no_way m l)
      ]

  places_are : (m hop : ℕ) → place_in t m hop ≡ None
  places_are m hop =
      elim (cases_lt m (length image.messages)) [
        | inl l ↦
            ap (λ (w : Way). get_or w.places hop None) (way_is m l)
            ∙ filled_field (λ (o : Option ℕ). o) (hops image m) hop None None refl
        | inr l ↦ ap (λ (w : Way). get_or w.places hop None) (no_way m l)
      ]

  bound_is : (l : ℕ) → (link_of t l).bound ≡ 0
  bound_is l =
      elim (cases_lt l all) [
        | inl h ↦ ap (λ (x : Link). x.bound) (link_is l h)
        | inr h ↦ ap (λ (x : Link). x.bound) (no_entry l h)
      ]

  slots_are : (l : ℕ) → (link_of t l).slots ≡ replicate (link_named image.links l).queues (empty_slot cap)
  slots_are l =
      elim (cases_lt l all) [
        | inl h ↦ ap (λ (x : Link). x.slots) (link_is l h)
        | inr h ↦
            ap (λ (x : Link). x.slots) (no_entry l h)
            ∙ sym (ap (λ n. replicate n (empty_slot cap)) (past_links image shaped l h))
      ]

  seen : queues_of image cap t ≡ opening image cap
  seen =
      let o : Queues = opening image cap in
      ap (λ (f : Marks). record (queues_of image cap t) { marks = f }) (fun_ext (λ m. fun_ext (λ hop. marks_are m hop)))
      ∙ ap (λ (f : ℕ → ℕ). record (queues_of image cap t) { marks = o.marks; bound = f }) (fun_ext bound_is)
      ∙ ap (λ (f : ℕ → ℕ → Option ℕ). record (queues_of image cap t) { marks = o.marks; bound = o.bound; places = f })
      (fun_ext (λ m. fun_ext (λ hop. places_are m hop)))
      ∙ ap (λ (f : ℕ → List Slot). record o { slots = f }) (fun_ext slots_are)

  -- ---- what holds

  free_slot : (l s : ℕ) → holder_at ((opening image cap).slots l) s ≡ None
  free_slot l s =
      filled_field (λ (x : Slot). x.holder) (link_named image.links l).queues s (empty_slot cap) (empty_slot 0) refl

  pub opening_kept : IsKept (opening image cap)
  opening_kept =
      record {
        shaped = shaped;
        some_words = some;
        most_words = most;
        flows = record {
          within = λ m l. omega arith;
          falls = λ m hop h. omega arith;
          roomy = λ m hop h. omega arith;
          entered = λ m hop h e. refl;
          counted = λ l. omega arith;
        };
        seats = record {
          queues = λ l h. length-replicate (link_named image.links l).queues (empty_slot cap);
          capacities = λ l s h.
              ap (λ (x : Slot). x.words.capacity)
              (get_or-replicate (link_named image.links l).queues s (empty_slot cap) (empty_slot 0)
              (omega (arith, h, length-replicate (link_named image.links l).queues (empty_slot cap))));
          holds = λ m hop h. refl;
          held = λ m hop s h e. absurd (none-some _ e);
          holders = λ l s m e. absurd (none-some _ (sym (free_slot l s) ∙ e));
          free = λ l s e.
              filled_field (λ (x : Slot). x.words.items) (link_named image.links l).queues s (empty_slot cap)
              (empty_slot 0) refl;
          live = λ l.
              omega (
                arith,
                sum_by-replicate (λ (x : Slot). cond {A = ℕ} (is_some x.holder) 1 0) (link_named image.links l).queues
                    (empty_slot cap),
              );
        };
        waits = λ m hop s h e. absurd (none-some _ e);
      }

  opened_here : Done image cap t (opening image cap)
  opened_here = done image cap t (opening image cap) laid seen opening_kept

  pub opened : (ways : List Way) (links : List Link) → ways ≡ map way image.messages
      → links ≡ map (first_link image cap) (below all)
      → Done image cap (record { ways = ways; links = links }) (opening image cap)
  opened ways links a b =
      subst (λ ws. Done image cap (record { ways = ws; links = links }) (opening image cap)) (sym a)
      (subst (λ ls. Done image cap (record { ways = map way image.messages; links = ls }) (opening image cap)) (sym b)
      opened_here)

-- the opening stands for the opening state
pub opening_stands : (image : Image) (cap : ℕ) → StandsFor (opening image cap) (first_state image)
opening_stands image cap =
    record { marks = refl; bound = refl; long = λ m. refl; slices = λ m hop h. refl }
