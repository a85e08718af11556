-- The steps of a walk.
use Rattle.std.proofs.Common.{◌≡◌, ◌≢◌, ℕ, zero, suc, ◌+◌, ◌-◌, ◌<◌, ◌≤◌, inl, inr, List, [], ◌∷◌, ◌++◌, Bor, length, get_or, set, take, refl, ap, sym, subst, ◌∙◌, arith, append_assoc}
use Rattle.std.proofs.lemmas.List.{append-nil, get_or-set_other, get_or-set_same, take_more, take_more_set}
use Rattle.std.proofs.lemmas.List.Elements.{All-head}
use Rattle.std.proofs.lemmas.Bool.{cases_lt}
use Rattle.std.specs.List.{All, slice_index_or, slice_set}
use Rattle.std.specs.Global.{Vec}
use Rattle.cell_types.specs.Communications.{copies}
use Rattle.comm_sequence.specs.Parts.{part_unrolled, unrolled, part_loops, loops}
use Rattle.comm_sequence.specs.bodies.Walking.{around, left, turns_left, HaveRoom, IsFull, IsLoop, IsWalk}
use Rattle.comm_sequence.specs.declared.part.Part.{Part}
use Rattle.comm_sequence.specs.declared.part.Part.TheVariants as P
use Rattle.comm_sequence.specs.declared.walking.Turns.{Turns}
use Rattle.comm_sequence.specs.declared.walking.Walk.{Walk}
use Rattle.comm_sequence.proofs.PartRows.{repeat_unrolled, repeat_loops, repeat_full, first_loops, rest_room}

-- a loop inside all others is walked first
pub around_more : (ts : List Turns) (t : Turns) → around (ts ++ t ∷ []) ≡ turns_left t ++ around ts
around_more [] t = sym (append-nil (turns_left t))
around_more (u ∷ ts) t =
    ap (λ xs. xs ++ turns_left u) (around_more ts t) ∙ append_assoc (turns_left t) (around ts) (turns_left u)

-- one turn, and the others
one_and_others : (turns : ℕ) → turns ≢ 0 → suc (turns - 1) ≡ turns
one_and_others zero some = absurd (some refl)
one_and_others (suc n) some = omega arith

-- what a walk has left when it goes into a loop
pub entered_left : (w : Walk) (parts : Bor (List Part)) (turns : ℕ) → turns ≢ 0 → w.depth < length w.outer
    → left (record { inner = record { rest = parts; whole = parts; more = turns - 1 }; outer = slice_set w.outer w.depth w.inner; depth = w.depth + 1 })
    ≡ copies turns (unrolled parts.now) ++ left w
entered_left w parts turns some lt =
    ap (λ n. copies n (unrolled parts.now) ++ around (take (w.depth + 1) (set w.outer w.depth w.inner))) (one_and_others turns some)
    ∙ ap (λ ts. copies turns (unrolled parts.now) ++ around ts) (take_more_set w.outer w.depth w.inner lt)
    ∙ ap (λ xs. copies turns (unrolled parts.now) ++ xs) (around_more (take w.depth w.outer) w.inner)

-- a loop that is just entered
entered_loop : (room turns : ℕ) (parts : Bor (List Part)) → parts.now ≢ [] → All IsFull parts.now → loops parts.now ≤ room
    → IsLoop room (record { rest = parts; whole = parts; more = turns - 1 })
entered_loop room turns parts some full within =
    record { rest = (within, full); whole = (within, full); some = λ more. some }

-- a walk that goes into a loop is one
pub entered_walk : (w : Walk) (parts : Bor (List Part)) (turns : ℕ) → IsWalk w → parts.now ≢ []
    → All IsFull parts.now → loops parts.now + 1 + w.depth ≤ 16 → w.depth < length w.outer
    → IsWalk (record { inner = record { rest = parts; whole = parts; more = turns - 1 }; outer = slice_set w.outer w.depth w.inner; depth = w.depth + 1 })
entered_walk w parts turns h some full room lt =
    record {
      depth = omega (arith, room);
      inner = entered_loop (16 - (w.depth + 1)) turns parts some full (omega (arith, room));
      outer = λ k d below. elim (cases_lt k w.depth) as (λ _. IsLoop (16 - k) (slice_index_or (slice_set w.outer w.depth w.inner) k d)) [
        | inl before ↦
            subst (IsLoop (16 - k)) (sym (get_or-set_other w.outer w.depth k w.inner d (λ e. omega (arith, before, e)))) (h.outer k d before)
        | inr from ↦
            let same : w.depth ≡ k = omega (arith, below, from) in
            subst (λ n. IsLoop (16 - n) (slice_index_or (slice_set w.outer w.depth w.inner) n d)) same
            (subst (IsLoop (16 - w.depth)) (sym (get_or-set_same w.outer w.depth w.inner d lt)) h.inner)
      ];
    }

-- what a walk has left when it goes out of a loop
pub out_left : (w : Walk) (d t : Turns) → w.inner.rest.now ≡ [] → w.inner.more ≡ 0 → w.depth ≢ 0
    → w.depth ≤ length w.outer → t ≡ get_or w.outer (w.depth - 1) d
    → left (record { inner = t; outer = w.outer; depth = w.depth - 1 }) ≡ left w
out_left w d t done last some within is =
    let n : w.depth - 1 + 1 ≡ w.depth = omega (arith, some) in
    let lt : w.depth - 1 < length w.outer = omega (arith, some, within) in
    let none : turns_left w.inner ≡ [] =
    ap (λ xs. unrolled xs ++ copies w.inner.more (unrolled w.inner.whole.now)) done
    ∙ ap (λ m. copies m (unrolled w.inner.whole.now)) last in
    ap (λ u. turns_left u ++ around (take (w.depth - 1) w.outer)) is
    ∙ sym (around_more (take (w.depth - 1) w.outer) (get_or w.outer (w.depth - 1) d))
    ∙ ap around (sym (take_more w.outer (w.depth - 1) d lt))
    ∙ ap (λ m. around (take m w.outer)) n
    ∙ ap (λ xs. xs ++ around (take w.depth w.outer)) (sym none)

-- a walk that goes out of a loop is one
pub out_walk : (w : Walk) (d t : Turns) → IsWalk w → w.depth ≢ 0 → t ≡ get_or w.outer (w.depth - 1) d
    → IsWalk (record { inner = t; outer = w.outer; depth = w.depth - 1 })
out_walk w d t h some is =
    record {
      depth = omega (arith, h.depth);
      inner = subst (IsLoop (16 - (w.depth - 1))) (sym is) (h.outer (w.depth - 1) d (omega (arith, some)));
      outer = λ k e below. h.outer k e (omega (arith, below));
    }

-- a walk that passes a part is one
pub passed_walk : (w : Walk) (part : Part) (rest : Bor (List Part)) → IsWalk w → w.inner.rest.now ≡ part ∷ rest.now
    → IsWalk (record { inner = record { rest = rest; whole = w.inner.whole; more = w.inner.more }; outer = w.outer; depth = w.depth })
passed_walk w part rest h is =
    record {
      depth = h.depth;
      inner = record {
        rest = rest_room (16 - w.depth) part rest.now (subst (HaveRoom (16 - w.depth)) is h.inner.rest);
        whole = h.inner.whole;
        some = h.inner.some;
      };
      outer = h.outer;
    }

-- what a walk keeps of a loop that it comes to
pub loop_at : (w : Walk) (part : Part) (rest : List Part) (turns : ℕ) (parts : Vec Part) → IsWalk w
    → w.inner.rest.now ≡ part ∷ rest → part ≡ P.Repeat turns parts
    → (turns ≢ 0) × (parts.items ≢ []) × All IsFull parts.items × (loops parts.items + 1 + w.depth ≤ 16)
loop_at w part rest turns parts h is same =
    let room = subst (HaveRoom (16 - w.depth)) is h.inner.rest in
    let full = repeat_full turns parts (subst IsFull same (All-head IsFull part rest room.1)) in
    let deep = ap part_loops same ∙ repeat_loops turns parts in
    (full.0, full.1, full.2, omega (arith, room.0, first_loops part rest, deep, h.depth))

-- a loop that stands first, and what is left behind it
pub came_in : (w : Walk) (part : Part) (rest : Bor (List Part)) (turns : ℕ) (parts : Vec Part) (items : List Part)
    → w.inner.rest.now ≡ part ∷ rest.now → part ≡ P.Repeat turns parts → items ≡ parts.items
    → copies turns (unrolled items)
    ++ left (record { inner = record { rest = rest; whole = w.inner.whole; more = w.inner.more }; outer = w.outer; depth = w.depth })
    ≡ left w
came_in w part rest turns parts items is same inside =
    let others = copies w.inner.more (unrolled w.inner.whole.now) in
    let behind = around (take w.depth w.outer) in
    let loop : part_unrolled part ≡ copies turns (unrolled items) =
    ap part_unrolled same ∙ repeat_unrolled turns parts ∙ ap (λ xs. copies turns (unrolled xs)) (sym inside) in
    sym (append_assoc (copies turns (unrolled items)) (unrolled rest.now ++ others) behind)
    ∙ ap (λ xs. xs ++ behind) (sym (append_assoc (copies turns (unrolled items)) (unrolled rest.now) others))
    ∙ ap (λ xs. ((xs ++ unrolled rest.now) ++ others) ++ behind) (sym loop)
    ∙ ap (λ xs. (unrolled xs ++ others) ++ behind) (sym is)
