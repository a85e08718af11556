-- The tables while a word leaves its slot.
use Rattle.std.proofs.Common.{◌≡◌, ℕ, suc, ◌+◌, true, false, cond, nat_eq, None, sym, ap, ◌∙◌, add-one, eq-eqb, eqb-true}
use Rattle.std.proofs.lemmas.Bool.{false_from_ne_true}
use Rattle.link_slots.specs.Slots.{freed, taken_from}
use Rattle.link_queues.specs.Tables.{Table, link_of, mark_in, way_of, with_left, with_place, with_raised, with_slots}

module _ (t t1 t2 : Table) (m hop l s : ℕ) (a : t1 ≡ with_raised t m (hop + 1))
    (b : t2 ≡ with_slots t1 l (taken_from (link_of t1 l).slots s)) where
  abbrev drawn : Table
  drawn = with_slots (with_raised t m (suc hop)) l (taken_from (link_of t l).slots s)

  abbrev last : Table → Table
  last u = with_slots (with_place u m hop None) l (freed (link_of u l).slots s)

  is_drawn : t2 ≡ drawn
  is_drawn =
      b ∙ ap (λ u. with_slots u l (taken_from (link_of u l).slots s)) (a ∙ ap (with_raised t m) (add-one hop))

  same_mark : mark_in drawn m (suc hop) ≡ mark_in t2 m (hop + 1)
  same_mark = ap (λ u. mark_in u m (suc hop)) (sym is_drawn) ∙ ap (mark_in t2 m) (sym (add-one hop))

  same_length : (way_of t2 m).length ≡ (way_of drawn m).length
  same_length = ap (λ u. (way_of u m).length) is_drawn

  -- it was the last word
  pub left_last : (t3 : Table) → t3 ≡ with_slots (with_place t2 m hop None) l (freed (link_of t2 l).slots s)
      → mark_in t2 m (hop + 1) ≡ (way_of t2 m).length → t3 ≡ with_left t m hop l s
  left_last t3 c e =
      let test : nat_eq (mark_in drawn m (suc hop)) (way_of drawn m).length ≡ true =
      eq-eqb _ _ (same_mark ∙ e ∙ same_length)
      in
      c ∙ ap last is_drawn ∙ sym (ap (λ t. cond t (last drawn) drawn) test)

  -- more words will come
  pub left_more : (mark_in t2 m (hop + 1) ≡ (way_of t2 m).length → ⊥) → t2 ≡ with_left t m hop l s
  left_more e =
      let test : nat_eq (mark_in drawn m (suc hop)) (way_of drawn m).length ≡ false =
      false_from_ne_true _ (λ y. e (sym same_mark ∙ eqb-true _ _ y ∙ sym same_length))
      in
      is_drawn ∙ sym (ap (λ t. cond t (last drawn) drawn) test)
