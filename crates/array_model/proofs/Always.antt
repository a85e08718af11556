-- What holds in every state of every run of a regular image, and which actors are listed as enabled.
use Rattle.std.proofs.Common.{◌≡◌, ◌↔◌, ℕ, zero, suc, ◌+◌, ◌-◌, ◌<◌, ◌≤◌, true, List, length, drop, sym, subst, ◌∙◌, arith, Contains}
use Rattle.std.specs.List.{slice_range}
use Rattle.std.proofs.lemmas.List.{length-drop, length-take}
use Rattle.std.proofs.lemmas.List.Elements.{filter_agree}
use Rattle.sys_base.specs.declared.actor.Actor.{Actor}
use Rattle.sys_base.specs.declared.word.Word.{Word}
use Rattle.array_runs.specs.Holding as H
use Rattle.array_runs.proofs.Always.{holds_always}
use Rattle.array_runs.proofs.Enabling.{enabled_is}
use Rattle.cell_code.specs.Images.{IsShaped}
use Rattle.cell_code.specs.Marks.{hops, link_of}
use Rattle.cell_code.specs.declared.image.Image.{Image}
use Rattle.array_model.specs.Holding.{HoldsAlways}
use Rattle.array_model.specs.Regular.{IsRegular}
use Rattle.array_model.specs.Runs.{IsRun}
use Rattle.array_model.specs.States.{ArrayState, Inputs, IsCounted, opening}
use Rattle.array_model.specs.Steps.{actors, enabled, is_enabled}
use Rattle.array_model.proofs.Links.{none_past}
use Rattle.array_model.proofs.Listed.{lists}
use Rattle.array_model.proofs.Mapped.{array, enabled_same, follows, frame, live_same, machine, start}
use Rattle.array_model.proofs.Sure.{regular_array}

-- the part of a list from one place up to another is as long as they differ
part_long : (xs : List Word) (from to : ℕ) → from ≤ to → to ≤ length xs → length (slice_range xs from to) + from ≡ to
part_long xs from to h l =
    omega (arith, h, l, length-take (to - from) (drop from xs), length-drop from xs)

module _ (image : Image) (cap : ℕ) (s : ArrayState) (h : H.HoldsAlways (frame image) cap (array s)) where
  below_first : (m hop : ℕ) → m < length image.messages → hop ≤ hops image m → s.marks m hop ≤ s.marks m 0
  below_first m zero l g = omega arith
  below_first m (suc hop) l g = omega (arith, below_first m hop l (omega arith), h.falls m hop l (omega arith))

  holds_there : HoldsAlways image cap s
  holds_there =
      record {
        long = h.long;
        within = h.within;
        falls = h.falls;
        waits = λ m hop l g.
            part_long (s.history m) (s.marks m (suc hop)) (s.marks m hop) (h.falls m hop l g)
            (omega (arith, h.long m, below_first m hop l (omega arith)));
        entered = h.entered;
        roomy = h.roomy;
        counted = h.counted;
        fitting = λ l. subst (λ n. n ≤ (link_of image.links l).queues) (live_same image s.marks s.bound l) (h.fitting l);
      }

pub always : (image : Image) (buffer : ℕ) (inputs : Inputs) (cap : ℕ) (run : List Actor) (last : ArrayState)
    → IsRegular image buffer → IsCounted image inputs → IsRun image inputs cap run last → HoldsAlways image cap last
always image buffer inputs cap run last h counted is =
    let by = follows image inputs cap (none_past image h.shaped) (opening image) run last is in
    holds_there image cap last
    (subst (H.HoldsAlways (frame image) cap) by.1
    (holds_always (frame image) (machine image inputs) (start image) (lists image buffer h) h.cost buffer
    (regular_array image buffer h inputs counted) cap run by.0))

pub listed : (image : Image) (inputs : Inputs) (cap : ℕ) (s : ArrayState) (a : Actor) → IsShaped image
    → ((is_enabled image inputs cap s a ≡ true) ↔ Contains (enabled image inputs cap s) a)
listed image inputs cap s a shaped =
    let same = enabled_same image inputs cap (none_past image shaped) s in
    let theirs = enabled_is (frame image) (machine image inputs) cap (array s) a in
    let lists_same = filter_agree (is_enabled image inputs cap s) _ same (actors image) in (
      λ e. subst (λ xs. Contains xs a) (sym lists_same) (theirs.0 (sym (same a) ∙ e)),
      λ k. same a ∙ theirs.1 (subst (λ xs. Contains xs a) lists_same k),
    )
