-- A finished run ends clean.
use Rattle.std.proofs.Common.{◌≡◌, ℕ, suc, ◌<◌, ◌≤◌, true, inl, inr, [], length, take, get_or, sym, ap, subst, ◌∙◌, arith, true≢false}
use Rattle.std.specs.List.{concat}
use Rattle.std.proofs.lemmas.Bool.{cases_Bool, false_from_ne_true}
use Rattle.array_runs.specs.Frame.{Write, Read, hops, hop_on}
use Rattle.sys_base.specs.Groups.{is_one_of}
use Rattle.array_runs.specs.Runs.{IsClean, IsFinished}
use Rattle.array_runs.specs.States.{is_bound}
use Rattle.array_runs.specs.Steps.{can, may_do}
use Rattle.sys_base.specs.declared.actor.Actor.{Actor}
use Rattle.sys_base.specs.declared.actor.Actor.TheVariants.{Cell, Forward, Bind}
use Rattle.array_runs.proofs.Holding.{shaped_of}
use Rattle.array_runs.proofs.Allowed.{binds, can_cell, forwards}
use Rattle.array_runs.proofs.Bound.{falls_along, mark_at_most}
use Rattle.array_runs.proofs.Groups.{among_all, in_group, some_member}
use Rattle.array_runs.proofs.Heads.{Reached, halted_done, times_order}

module _ (r : Reached) (finished : IsFinished r.p r.actions r.s) where
  open r use {p, actions, d, cap, regular, enough, s, holds}

  -- all marks of a message are its length
  through : (m i : ℕ) → m < p.messages → i ≤ hops p m → s.mark m i ≡ p.words m
  through m i l h =
      let read = halted_done r (Read m) l (finished (p.receiver m) (regular.ordered.receives m l)) in
      let times = times_order r (Write m) l in
      let falls = falls_along p cap s.mark s.bound holds.flows m i (hops p m) l h (omega arith) in
      let most = mark_at_most p actions cap (shaped_of p actions d regular) s holds m i l h in
      omega (arith, read, times, regular.ordered.is_order.whole m, regular.counted m l, falls, most)

  -- no group is left
  nothing_left : (l : ℕ) → s.bound l < length (p.groups l) → ⊥
  nothing_left l left =
      let x = some_member (get_or (p.groups l) (s.bound l) []) (regular.grouped.filled l (s.bound l) left) in
      let known = regular.grouped.member l x.0 (among_all x.0 (p.groups l) (s.bound l) x.1) in
      let full : s.mark x.0 (hop_on p l x.0) ≡ p.words x.0 =
      through x.0 (hop_on p l x.0) known.0 (omega (arith, known.1.1.0))
      in
      elim (cases_Bool (is_bound p s.bound x.0 (hop_on p l x.0))) [
        | inl t ↦
            let g = in_group x.0 (p.groups l) (s.bound l)
            (subst (λ k. is_one_of (concat (take (s.bound k) (p.groups k))) x.0 ≡ true) known.1.1.1 t)
            in
            omega (arith, regular.grouped.rising l g.0.group (s.bound l) x.0 x.0 g.1 g.0.is x.1)
        | inr f ↦ omega (arith, holds.flows.entered x.0 (hop_on p l x.0) known.0 known.1.1.0 f, full, known.1.0)
      ]

  still : (a : Actor) → can p actions cap s a ≡ true → ⊥
  still (Cell c) t =
      let facts = (can_cell p actions cap s c).0 t in
      true≢false (sym facts.1 ∙ ap (may_do p cap s.mark s.bound) (finished c facts.0))
  still (Forward m i) t =
      let facts = (forwards p cap s.mark s.bound m i).0 t in
      omega (arith, facts.1.0, facts.1.1.0, through m i facts.0 (omega arith), through m (suc i) facts.0 (omega arith))
  still (Bind l) t = nothing_left l ((binds p s.mark s.bound l).0 t).1.0

  pub clean : IsClean p actions cap s
  clean =
      record {
        still = λ a. false_from_ne_true _ (still a);
        empty = λ m i l h. through m i l (omega arith) ∙ sym (through m (suc i) l h);
      }
