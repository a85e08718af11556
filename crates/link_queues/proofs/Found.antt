-- The links of an image and the hops of a message, as the code finds them.
use Rattle.std.proofs.Common.{◌≡◌, ℕ, suc, ◌+◌, ◌<◌, ◌≤◌, Bool, cond, not, nat_eq, nat_lt, List, [], ◌∷◌, Option, Some, None, length, map, get_or, position, option_map, replicate, slice_get, Bor, refl, sym, ap, subst, ◌∙◌, arith, inl, inr, eq-eqb, eqb-true, lt-ltb, ltb-true}
use Rattle.std.specs.List.{position_or_len}
use Rattle.std.proofs.lemmas.Bool.{both_ways, cases_Bool, false_from_ne_true, ltb-false}
use Rattle.std.proofs.lemmas.Option.{cond_some, none-some, slice_get-get_or, slice_get_past}
use Rattle.std.proofs.lemmas.List.{get_or-map, get_or_default, length-map}
use Rattle.std.specs.Slice.{IsItemAt}
use Rattle.cell_code.specs.Marks.{groups_of, link_of as link_named, message_of, no_message, place_of}
use Rattle.cell_code.specs.declared.image.Group.{Group}
use Rattle.cell_code.specs.declared.image.Image.{Image}
use Rattle.cell_code.specs.declared.image.LinkImage.{LinkImage}
use Rattle.cell_code.specs.declared.image.MessageImage.{MessageImage}
use Rattle.link_slots.specs.Slots.{empty_slot}
use Rattle.link_slots.specs.declared.slot.Slot.{Slot}
use Rattle.link_queues.specs.Tables.{first_link}
use Rattle.link_queues.specs.declared.link.Link.{Link}

same_either_way : (a b : ℕ) → nat_eq a b ≡ nat_eq b a
same_either_way a b =
    elim (cases_Bool (nat_eq b a)) [
      | inl t ↦ eq-eqb a b (sym (eqb-true b a t)) ∙ sym t
      | inr t ↦ false_from_ne_true _ (λ e. both_ways _ t (eq-eqb b a (sym (eqb-true a b e)))) ∙ sym t
    ]

-- ---- the hop of a message on a link

places_are : (x : ℕ) (xs : List ℕ) → position_or_len (λ y. nat_eq y x) xs ≡ place_of x xs
places_are x [] = refl
places_are x (y ∷ ys) =
    let ih : position_or_len (λ n. nat_eq n x) ys ≡ place_of x ys = places_are x ys in
    elim (cases_Bool (nat_eq y x)) [
      | inl t ↦
          ap (λ b. cond {A = ℕ} (not b) (1 + position_or_len (λ n. nat_eq n x) ys) 0) t
          ∙ sym (ap (λ b. cond {A = ℕ} b 0 (suc (place_of x ys))) (same_either_way x y ∙ t))
      | inr t ↦
          ap (λ b. cond {A = ℕ} (not b) (1 + position_or_len (λ n. nat_eq n x) ys) 0) t ∙ omega (arith, ih)
          ∙ sym (ap (λ b. cond {A = ℕ} b 0 (suc (place_of x ys))) (same_either_way x y ∙ t))
    ]

pub hop_found : (x : ℕ) (xs : List ℕ) → place_of x xs < length xs → position (λ y. nat_eq y x) xs ≡ Some (place_of x xs)
hop_found x xs h =
    ap (λ n. cond (nat_lt n (length xs)) (Some n) None) (places_are x xs)
    ∙ ap (λ b. cond b (Some (place_of x xs)) None) (lt-ltb _ _ h)

-- the message that the code reads
pub message_seen : (image : Image) (m i : ℕ) (messages : List MessageImage) (x : MessageImage) → m < length image.messages
    → messages ≡ image.messages → i ≡ m → x ≡ get_or messages i x → x ≡ message_of image m
message_seen image m i messages x l all same is =
    is ∙ ap (λ (ms : List MessageImage). get_or ms i x) all ∙ ap (λ n. get_or image.messages n x) same
    ∙ get_or_default image.messages m x no_message l

-- ---- the link with an id

abbrev pub is_link : ℕ → LinkImage → Bool
is_link l link = nat_eq link.link l

link_there : (links : List LinkImage) (l : ℕ) (d : LinkImage) → position_or_len (is_link l) links < length links
    → get_or links (position_or_len (is_link l) links) d ≡ link_named links l
link_there [] l d h = absurd (omega arith)
link_there (x ∷ xs) l d h =
    let n : ℕ = position_or_len (is_link l) xs in
    elim (cases_Bool (nat_eq x.link l)) [
      | inl t ↦
          ap (λ b. get_or (x ∷ xs) (cond {A = ℕ} (not b) (1 + n) 0) d) t
          ∙ sym (ap (λ b. cond b x (link_named xs l)) (same_either_way l x.link ∙ t))
      | inr t ↦
          let next : position_or_len (is_link l) (x ∷ xs) ≡ suc n =
          ap (λ b. cond {A = ℕ} (not b) (1 + n) 0) t ∙ omega arith
          in
          ap (λ k. get_or (x ∷ xs) k d) next ∙ link_there xs l d (omega (arith, next, h))
          ∙ sym (ap (λ b. cond b x (link_named xs l)) (same_either_way l x.link ∙ t))
    ]

link_missing : (links : List LinkImage) (l : ℕ) → length links ≤ position_or_len (is_link l) links
    → link_named links l ≡ record { link = l; queues = 0; groups = [] }
link_missing [] l h = refl
link_missing (x ∷ xs) l h =
    let n : ℕ = position_or_len (is_link l) xs in
    elim (cases_Bool (nat_eq x.link l)) [
      | inl t ↦
          let first : position_or_len (is_link l) (x ∷ xs) ≡ 0 = ap (λ b. cond {A = ℕ} (not b) (1 + n) 0) t in
          absurd (omega (arith, first, h))
      | inr t ↦
          let next : position_or_len (is_link l) (x ∷ xs) ≡ suc n =
          ap (λ b. cond {A = ℕ} (not b) (1 + n) 0) t ∙ omega arith
          in
          ap (λ b. cond b x (link_named xs l)) (same_either_way l x.link ∙ t)
          ∙ link_missing xs l (omega (arith, next, h))
    ]

pub link_found : (links : List LinkImage) (l e : ℕ) → position (is_link l) links ≡ Some e
    → (e < length links) × ((d : LinkImage) → get_or links e d ≡ link_named links l)
link_found links l e h =
    let c = cond_some (nat_lt (position_or_len (is_link l) links) (length links)) _ _ h in
    let inside : position_or_len (is_link l) links < length links = ltb-true _ _ c.0 in
    subst (λ n. (n < length links) × ((d : LinkImage) → get_or links n d ≡ link_named links l)) c.1
    (inside, λ d. link_there links l d inside)

pub link_not_found : (links : List LinkImage) (l : ℕ) → position (is_link l) links ≡ None
    → link_named links l ≡ record { link = l; queues = 0; groups = [] }
link_not_found links l h =
    elim (cases_Bool (nat_lt (position_or_len (is_link l) links) (length links))) [
      | inl t ↦
          absurd (none-some _ (sym h
          ∙ ap (λ b. cond b (Some (position_or_len (is_link l) links)) None) t))
      | inr t ↦ link_missing links l (ltb-false _ _ t)
    ]

-- ---- a new link

pub link_made : (image : Image) (cap l : ℕ) (entry : Option ℕ) (queues : ℕ) (slots : List Slot)
    → entry ≡ position (is_link l) image.links → queues ≡ (link_named image.links l).queues
    → slots ≡ replicate queues (empty_slot cap)
    → ◌≡◌ {A = Link} (record { entry = entry; bound = 0; slots = slots }) (first_link image cap l)
link_made image cap l entry queues slots a b c =
    ap (λ (e : Option ℕ). record { entry = e; bound = 0; slots = slots }) a
    ∙ ap (λ (s : List Slot). record { entry = position (is_link l) image.links; bound = 0; slots = s })
    (c ∙ ap (λ n. replicate n (empty_slot cap)) b)

-- ---- the next group

pub item_members : (gs : List Group) (i : ℕ) (r : Option (Bor Group)) → IsItemAt gs i r
    → option_map (λ (g : Bor Group). g.now.members) r ≡ slice_get (map (λ (g : Group). g.members) gs) i
item_members gs i None h =
    sym (slice_get_past (map (λ (g : Group). g.members) gs) i (omega (arith, h.3, length-map gs (λ (g : Group). g.members))))
item_members gs i (Some x) h =
    let inside : i < length (map (λ (g : Group). g.members) gs) =
    omega (arith, h.3.0, length-map gs (λ (g : Group). g.members))
    in
    sym (slice_get-get_or (map (λ (g : Group). g.members) gs) i [] inside
    ∙ ap Some (get_or-map (λ (g : Group). g.members) gs i x.now [] h.3.0
    ∙ sym (ap (λ (g : Group). g.members) h.1)))

-- a link that is not there has no next group
pub no_next : (image : Image) (l n : ℕ) → position (is_link l) image.links ≡ None → slice_get (groups_of image l) n ≡ None
no_next image l n h =
    ap (λ (x : LinkImage). slice_get (map (λ (g : Group). g.members) x.groups) n) (link_not_found image.links l h)

-- the link that the code reads
pub the_link : (image : Image) (l e : ℕ) (links : List LinkImage) (x : LinkImage) → position (is_link l) image.links ≡ Some e
    → links ≡ image.links → x ≡ get_or links e x → (e < length links) × (x ≡ link_named image.links l)
the_link image l e links x h all is =
    let f = link_found image.links l e h in (
      omega (arith, f.0, ap (λ (ls : List LinkImage). length ls) all),
      is ∙ ap (λ (ls : List LinkImage). get_or ls e x) all ∙ f.1 x,
    )
