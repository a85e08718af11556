-- What each call of the queues does to them and the peaks.
use Rattle.std.proofs.Common.{◌≡◌, ℕ, suc, ◌*◌, ◌<◌, ◌≤◌, max, Bool, true, false, [], ◌∷◌, ◌++◌, length, get_or, set, ap, sym, subst, ◌∙◌, arith, inl, inr, ltb-true, le-ltb}
use Rattle.std.proofs.lemmas.Bool.{and_parts, and_left, both_ways, cases_lt}
use Rattle.sys_base.specs.Grid.{cell_count}
use Rattle.sys_base.specs.declared.word.Word.{Word}
use Rattle.cell_code.specs.Images.{IsShaped}
use Rattle.cell_code.specs.Marks.{groups_of, hops, link_at, may_bind, may_forward}
use Rattle.cell_code.specs.declared.image.Image.{Image}
use Rattle.array_model.specs.States.{cells}
use Rattle.array_model.proofs.Links.{linked, none_past, reaches}
use Rattle.link_queues.specs.Fabrics.{put_at, slice, without_oldest, words_in}
use Rattle.link_queues.specs.Keeping.{IsHop, IsKept}
use Rattle.link_queues.specs.Tables.{Laid, queues}
use Rattle.array_sim.specs.bodies.Wiring.{IsRaised, IsWired, Wired, room_in}
use Rattle.array_sim.proofs.Peaks.{raised_after, unraised_after}
use Rattle.array_sim.proofs.Words.{bound_less, moved_less, popped_less, pushed_less}

-- ---- links

pub shaped_by : (image : Image) (w : Wired) → IsWired image w → IsShaped image
shaped_by image w wired = subst IsShaped wired.image_is wired.kept.shaped

pub link_inside : (image : Image) (w : Wired) (m hop link : ℕ) → IsWired image w → m < length image.messages
    → hop < hops image m
    → link ≡ link_at image m hop → link < 4 * cells image
link_inside image w m hop link wired k j is =
    subst (λ l. l < 4 * cells image) (sym is) (linked image (shaped_by image w wired) m hop k j)

-- the same for the image of the queues after a call
pub link_held : (image : Image) (old : Wired) (new : Laid) (link : ℕ) → IsWired image old
    → new.image ≡ old.fabric.image
    → link < 4 * cells image → link < 4 * cell_count new.image.grid
link_held image old new link wired same k =
    subst (λ (i : Image). link < 4 * cell_count i.grid) (sym (same ∙ wired.image_is)) k

pub link_peak : (image : Image) (w : Wired) (link : ℕ) → IsWired image w → link < 4 * cells image
    → link < length w.peaks
link_peak image w link wired k = omega (arith, k, wired.links)

pub first_hop : (image : Image) (w : Wired) (m : ℕ) → IsWired image w → m < length image.messages → 0 < hops image m
first_hop image w m wired k = reaches image (shaped_by image w wired) m k

-- what a test of the queues tells of their values before it
pub forward_may : (w now : Wired) (m hop : ℕ) (b : Bool) → w ≡ now
    → b ≡ may_forward now.fabric.image now.fabric.cap (queues now.fabric).marks (queues now.fabric).bound m hop
    → b ≡ true
    → may_forward w.fabric.image w.fabric.cap (queues w.fabric).marks (queues w.fabric).bound m hop ≡ true
forward_may w now m hop b same is holds =
    subst (λ (x : Wired). may_forward x.fabric.image x.fabric.cap (queues x.fabric).marks
    (queues x.fabric).bound m hop ≡ true)
    (sym same) (sym is ∙ holds)

-- a word moves on only to a hop of a message
next_hop : (image : Image) (w : Wired) (m hop : ℕ) → IsWired image w
    → may_forward w.fabric.image w.fabric.cap (queues w.fabric).marks (queues w.fabric).bound m hop ≡ true
    → IsHop image m (suc hop)
next_hop image w m hop wired may =
    let here : may_forward image w.fabric.cap (queues w.fabric).marks (queues w.fabric).bound m hop ≡ true =
    subst (λ (i : Image). may_forward i w.fabric.cap (queues w.fabric).marks
    (queues w.fabric).bound m hop ≡ true) wired.image_is may
    in
    let one = and_parts _ _ here in
    let two = and_parts _ _ one.1 in
    (ltb-true _ _ one.0, ltb-true _ _ two.0)

-- the link to which it moves on
pub next_link : (image : Image) (w : Wired) (m hop at link : ℕ) → IsWired image w
    → may_forward w.fabric.image w.fabric.cap (queues w.fabric).marks (queues w.fabric).bound m hop ≡ true
    → at ≡ suc hop → link ≡ link_at image m at → (link < 4 * cells image) × (link ≡ link_at image m (suc hop))
next_link image w m hop at link wired may next is =
    let there = next_hop image w m hop wired may in
    let on : link ≡ link_at image m (suc hop) = is ∙ ap (link_at image m) next in
    (link_inside image w m (suc hop) link wired there.0 there.1 on, on)

-- a message to which a word may be written
pub write_known : (image : Image) (w now : Wired) (m : ℕ) (b : Bool) → IsWired image w → w ≡ now → b ≡ room_in now m
    → b ≡ true
    → m < length image.messages
write_known image w now m b wired same is holds =
    subst (λ (i : Image). m < length i.messages) wired.image_is
    (ltb-true _ _ (and_parts _ _ (subst (λ (x : Wired). room_in x m ≡ true) (sym same) (sym is ∙ holds))).0)

-- past the last link nothing is bound
pub none_bound : (image : Image) (w : Wired) (l : ℕ) → IsWired image w → length w.peaks ≤ l
    → may_bind w.fabric.image (queues w.fabric).marks (queues w.fabric).bound l ≡ false
none_bound image w l wired g =
    let far : 4 * cells w.fabric.image ≤ l =
    subst (λ (i : Image). 4 * cells i ≤ l) (sym wired.image_is) (omega (arith, g, wired.links))
    in
    let none : length (groups_of w.fabric.image l) ≡ 0 = ap length
    (none_past w.fabric.image wired.kept.shaped l far) in
    and_left _ _ (le-ltb ((queues w.fabric).bound l) (length (groups_of w.fabric.image l)) (omega (arith, none)))

-- what may be bound is a link of the grid
pub bound_inside : (image : Image) (w now : Wired) (l : ℕ) (b : Bool) → IsWired image w → w ≡ now
    → b ≡ may_bind now.fabric.image (queues now.fabric).marks (queues now.fabric).bound l → b ≡ true
    → l < 4 * cell_count w.fabric.image.grid
bound_inside image w now l b wired same is holds =
    let may : may_bind w.fabric.image (queues w.fabric).marks (queues w.fabric).bound l ≡ true =
    subst (λ (x : Wired). may_bind x.fabric.image (queues x.fabric).marks (queues x.fabric).bound l ≡ true) (sym same)
    (sym is ∙ holds)
    in
    elim (cases_lt l (length w.peaks)) [
      | inl k ↦ subst (λ (i : Image). l < 4 * cells i) (sym wired.image_is) (omega (arith, k, wired.links))
      | inr g ↦ absurd (both_ways _ (none_bound image w l wired g) may)
    ]

-- ---- calls

pub bound_raised : (image : Image) (old new : Wired) → IsWired image old → new.fabric.image ≡ old.fabric.image
    → new.fabric.cap ≡ old.fabric.cap → IsKept (queues new.fabric) → new.peaks ≡ old.peaks
    → ((m hop : ℕ) → IsHop old.fabric.image m hop → slice (queues new.fabric) m hop ≡ slice (queues old.fabric) m hop)
    → IsRaised old new
bound_raised image old new wired same_image same_cap kept same_peaks slices =
    unraised_after image old new wired same_image same_cap kept same_peaks
    (λ l. bound_less (queues old.fabric) (queues new.fabric) l same_image slices)

pub popped_raised : (image : Image) (old new : Wired) (m hop : ℕ) → IsWired image old
    → new.fabric.image ≡ old.fabric.image
    → new.fabric.cap ≡ old.fabric.cap → IsKept (queues new.fabric) → new.peaks ≡ old.peaks
    → ((k j : ℕ) → IsHop old.fabric.image k j
    → slice (queues new.fabric) k j ≡ without_oldest (queues old.fabric) m hop k j)
    → IsRaised old new
popped_raised image old new m hop wired same_image same_cap kept same_peaks slices =
    unraised_after image old new wired same_image same_cap kept same_peaks
    (λ l. popped_less (queues old.fabric) (queues new.fabric) m hop l same_image slices)

pub pushed_raised : (image : Image) (old new : Wired) (m : ℕ) (word : Word) (link : ℕ) → IsWired image old
    → new.fabric.image ≡ old.fabric.image → new.fabric.cap ≡ old.fabric.cap → IsKept (queues new.fabric)
    → link < length old.peaks
    → link ≡ link_at image m 0
    → new.peaks ≡ set old.peaks link (max (get_or old.peaks link 0) (words_in (queues new.fabric) link))
    → ((k j : ℕ) → IsHop old.fabric.image k j → slice (queues new.fabric) k j
    ≡ put_at (slice (queues old.fabric)) m 0 (slice (queues old.fabric) m 0 ++ word ∷ []) k j)
    → IsRaised old new
pushed_raised image old new m word link wired same_image same_cap kept inside at is slices =
    raised_after image old new link wired same_image same_cap kept inside is
    (λ l ne. pushed_less (queues old.fabric) (queues new.fabric) m word l same_image slices
    (λ e. ne (at ∙ ap (λ (i : Image). link_at i m 0) (sym wired.image_is) ∙ e)))

pub moved_raised : (image : Image) (old new : Wired) (m hop : ℕ) (word : Word) (link : ℕ) → IsWired image old
    → new.fabric.image ≡ old.fabric.image → new.fabric.cap ≡ old.fabric.cap → IsKept (queues new.fabric)
    → link < length old.peaks
    → link ≡ link_at image m (suc hop)
    → new.peaks ≡ set old.peaks link (max (get_or old.peaks link 0) (words_in (queues new.fabric) link))
    → ((k j : ℕ) → IsHop old.fabric.image k j → slice (queues new.fabric) k j
    ≡ put_at (without_oldest (queues old.fabric) m hop) m (suc hop)
    (slice (queues old.fabric) m (suc hop) ++ word ∷ []) k j)
    → IsRaised old new
moved_raised image old new m hop word link wired same_image same_cap kept inside at is slices =
    raised_after image old new link wired same_image same_cap kept inside is
    (λ l ne. moved_less (queues old.fabric) (queues new.fabric) m hop l word same_image slices
    (λ e. ne (at ∙ ap (λ (i : Image). link_at i m (suc hop)) (sym wired.image_is) ∙ e)))
