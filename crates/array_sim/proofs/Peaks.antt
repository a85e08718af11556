-- The peaks of the links, after a change of the queues.
use Rattle.std.proofs.Common.{◌≡◌, ◌≢◌, ℕ, ◌*◌, ◌<◌, ◌≤◌, max, List, length, get_or, set, refl, ap, sym, subst, ◌∙◌, arith, inl, inr}
use Rattle.std.proofs.lemmas.Bool.{cases_eq}
use Rattle.std.proofs.lemmas.List.{get_or-set_other, get_or-set_same, length-set}
use Rattle.cell_code.specs.declared.image.Image.{Image}
use Rattle.array_model.specs.States.{cells}
use Rattle.link_queues.specs.Fabrics.{words_in}
use Rattle.link_queues.specs.Keeping.{IsKept}
use Rattle.link_queues.specs.Tables.{queues}
use Rattle.array_sim.specs.bodies.Wiring.{IsRaised, IsWired, Wired}

raised_peaks : (peaks new : List ℕ) (link : ℕ) (words : ℕ → ℕ) → link < length peaks
    → new ≡ set peaks link (max (get_or peaks link 0) (words link))
    → ((l : ℕ) → l < length peaks → link ≢ l → words l ≤ get_or peaks l 0)
    → (l : ℕ) → l < length peaks → get_or new l 0 ≡ max (get_or peaks l 0) (words l)
raised_peaks peaks new link words inside is others l k =
    elim (cases_eq l link) [
      | inl e ↦
          subst (λ i. get_or new i 0 ≡ max (get_or peaks i 0) (words i)) (sym e)
          (ap (λ xs. get_or xs link 0) is ∙ get_or-set_same peaks link _ 0 inside)
      | inr ne ↦
          let old : get_or new l 0 ≡ get_or peaks l 0 = ap (λ xs. get_or xs l 0) is
          ∙ get_or-set_other peaks link l _ 0 ne in
          omega (arith, old, others l k (λ e. ne (sym e)))
    ]

-- a link of the image, by how many peaks there are
pub has_peak : (image : Image) (w : Wired) (l : ℕ) → IsWired image w → l < 4 * cells w.fabric.image
    → l < length w.peaks
has_peak image w l wired k =
    omega (arith, subst (λ i. l < 4 * cells i) wired.image_is k, wired.links)

pub is_link : (image : Image) (w : Wired) (l : ℕ) → IsWired image w → l < 4 * cells w.fabric.image
    → l < 4 * cells image
is_link image w l wired k = subst (λ i. l < 4 * cells i) wired.image_is k

-- the queues and the peaks are still those of the image
still_wired : (image : Image) (old new : Wired) → IsWired image old → new.fabric.image ≡ old.fabric.image
    → IsKept (queues new.fabric) → length new.peaks ≡ length old.peaks
    → ((l : ℕ) → l < 4 * cells old.fabric.image
    → get_or new.peaks l 0 ≡ max (get_or old.peaks l 0) (words_in (queues new.fabric) l))
    → IsWired new.fabric.image new
still_wired image old new wired same kept long peaks =
    record {
      image_is = refl;
      kept = kept;
      links = long ∙ wired.links ∙ sym (ap (λ (i : Image). 4 * cells i) (same ∙ wired.image_is));
      high = λ l k. omega (arith, peaks l (subst (λ (i : Image). l < 4 * cells i) same k));
    }

-- the queues of one link may have grown, and its peak was raised
pub raised_after : (image : Image) (old new : Wired) (link : ℕ) → IsWired image old
    → new.fabric.image ≡ old.fabric.image → new.fabric.cap ≡ old.fabric.cap → IsKept (queues new.fabric)
    → link < length old.peaks
    → new.peaks ≡ set old.peaks link (max (get_or old.peaks link 0) (words_in (queues new.fabric) link))
    → ((l : ℕ) → link ≢ l → words_in (queues new.fabric) l ≤ words_in (queues old.fabric) l) → IsRaised old new
raised_after image old new link wired same_image same_cap kept inside is less =
    let peaks : (l : ℕ) → l < 4 * cells old.fabric.image
    → get_or new.peaks l 0 ≡ max (get_or old.peaks l 0) (words_in (queues new.fabric) l) =
    λ l k. raised_peaks old.peaks new.peaks link (words_in (queues new.fabric)) inside is
    (λ j i ne. omega (arith, less j ne, wired.high j (omega (arith, i, wired.links))))
    l (has_peak image old l wired k)
    in
    record {
      wired = still_wired image old new wired same_image kept (ap length is ∙ length-set old.peaks link _) peaks;
      image_is = same_image;
      cap_is = same_cap;
      peaks = peaks;
    }

-- no queues have grown, and the peaks stay
pub unraised_after : (image : Image) (old new : Wired) → IsWired image old
    → new.fabric.image ≡ old.fabric.image → new.fabric.cap ≡ old.fabric.cap → IsKept (queues new.fabric)
    → new.peaks ≡ old.peaks
    → ((l : ℕ) → words_in (queues new.fabric) l ≤ words_in (queues old.fabric) l) → IsRaised old new
unraised_after image old new wired same_image same_cap kept same_peaks less =
    let peaks : (l : ℕ) → l < 4 * cells old.fabric.image
    → get_or new.peaks l 0 ≡ max (get_or old.peaks l 0) (words_in (queues new.fabric) l) =
    λ l k. omega (arith, ap (λ xs. get_or xs l 0) same_peaks, less l, wired.high l (is_link image old l wired k))
    in
    record {
      wired = still_wired image old new wired same_image kept (ap length same_peaks) peaks;
      image_is = same_image;
      cap_is = same_cap;
      peaks = peaks;
    }

pub wired_after : (image : Image) (old new : Wired) → IsWired image old → IsRaised old new → IsWired image new
wired_after image old new wired raised =
    subst (λ (i : Image). IsWired i new) (raised.image_is ∙ wired.image_is) raised.wired
