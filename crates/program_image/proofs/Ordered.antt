-- An order of a program's lists is one of its image, and labels that are consistent on the lists are so there.
use Rattle.std.proofs.Common.{◌≡◌, ℕ, zero, suc, ◌+◌, ◌<◌, Bool, false, cond, nat_eq, List, [], ◌∷◌, Some, map, option_map, filter, take, length, slice_get, option_and_then, All, refl, sym, ap, ◌∙◌, inl, inr, arith}
use Rattle.std.proofs.lemmas.Bool.{cases_Bool}
use Rattle.std.proofs.lemmas.List.{length-map, take-map}
use Rattle.std.proofs.lemmas.List.Elements.{All-head, All-map, All-tail, All-weaker}
use Rattle.std.proofs.lemmas.List.Sums.{sum_by-cons}
use Rattle.std.proofs.lemmas.Option.{same_Some, slice_get-map}
use Rattle.std.specs.Option.{option_map_or}
use Rattle.sys_base.specs.Communications.{Communication, Writes, Reads, Takes, Emits, same_communication, times}
use Rattle.sys_base.specs.Grid.{cell_count}
use Rattle.cell_types.specs.Code.{ProgramCode}
use Rattle.cell_types.specs.Communications.{communications}
use Rattle.cell_types.specs.Sound.{IsSound}
use Rattle.cell_types.specs.declared.program.Message.{Message}
use Rattle.comm_sequence.specs.BufferedOrder as B
use Rattle.comm_sequence.specs.Labels as L
use Rattle.comm_sequence.specs.Sequences as Q
use Rattle.comm_sequence.specs.Sequences.{comms, sequences_of}
use Rattle.comm_sequence.specs.declared.comm.Comm.{Comm}
use Rattle.comm_sequence.specs.declared.comm.Comm.TheVariants as C
use Rattle.array_model.specs.Orders.{IsBufferedOrder, IsConsistent, IsKnown, KeepsBuffer, exchanges, is_of, message_at, message_in}
use Rattle.program_image.specs.ImageOf.{image_of}
use Rattle.program_image.proofs.Lengths.{list_at, many_lists}
use Rattle.program_image.proofs.Lists.{there}
use Rattle.program_image.proofs.Messages.{label_is, many, message_is}

-- ---- writes and reads as communications

abbrev pub as_made : Comm → Communication
as_made (C.Write m) = Writes m
as_made (C.Read m) = Reads m

abbrev pub all_made : List Comm → List Communication
all_made es = map as_made es

same_made : (a b : Comm) → same_communication (as_made a) (as_made b) ≡ B.same a b
same_made (C.Write m) (C.Write n) = refl
same_made (C.Write m) (C.Read n) = refl
same_made (C.Read m) (C.Write n) = refl
same_made (C.Read m) (C.Read n) = refl

times_made : (a : Comm) (es : List Comm) → times (as_made a) (all_made es) ≡ B.occurrences a es
times_made a [] = refl
times_made a (e ∷ es) =
    sum_by-cons (λ c. cond (same_communication (as_made a) c) 1 0) (as_made e) (all_made es)
    ∙ ap (λ b. cond b 1 0 + times (as_made a) (all_made es)) (same_made a e)
    ∙ ap (λ n. cond (B.same a e) 1 0 + n) (times_made a es)
    ∙ sym (sum_by-cons (λ c. cond (B.same a c) 1 0) e es)

times_front : (a : Comm) (n : ℕ) (es : List Comm) → times (as_made a) (take n (all_made es)) ≡ B.occurrences a (take n es)
times_front a n es = ap (times (as_made a)) (take-map as_made n es) ∙ times_made a (take n es)

exchanges_are : (xs : List Communication) → exchanges xs ≡ all_made (comms xs)
exchanges_are [] = refl
exchanges_are (Writes m ∷ xs) = ap (λ r. Writes m ∷ r) (exchanges_are xs)
exchanges_are (Reads m ∷ xs) = ap (λ r. Reads m ∷ r) (exchanges_are xs)
exchanges_are (Takes ∷ xs) = exchanges_are xs
exchanges_are (Emits ∷ xs) = exchanges_are xs

message_made : (e : Comm) → message_in (as_made e) ≡ Some (Q.message_of e)
message_made (C.Write m) = refl
message_made (C.Read m) = refl

-- a write among the communications is a write in the list
write_made : (e : Comm) (m : ℕ) → as_made e ≡ Writes m → e ≡ C.Write m
write_made (C.Write n) m h = let e : n ≡ m = cc in ap C.Write e
write_made (C.Read n) m h = absurd (cc)

write_at : (es : List Comm) (n m : ℕ) → slice_get (all_made es) n ≡ Some (Writes m) → slice_get es n ≡ Some (C.Write m)
write_at [] n m h = absurd (cc)
write_at (e ∷ es) zero m h = ap Some (write_made e m (same_Some (as_made e) (Writes m) h))
write_at (e ∷ es) (suc n) m h = write_at es n m h

-- ---- the buffer

keeps : (d : ℕ) (es : List Comm) → B.KeepsBuffer d es → KeepsBuffer d (all_made es)
keeps zero es h = λ n m at.
    slice_get-map as_made es (suc n) ∙ ap (option_map as_made) (h n m (write_at es n m at))
keeps (suc d) es h = λ n m.
    let w = times_front (C.Write m) n es in
    let r = times_front (C.Read m) n es in
    omega (arith, h n m, w, r)

-- ---- the image

module _ (program : ProgramCode) (labels : List ℕ) (sound : IsSound program) where
  abbrev ends : List (ℕ × ℕ)
  ends = (sequences_of program).ends

  many_ends : length ends ≡ length program.messages
  many_ends = length-map program.messages (λ (m : Message). (m.from, m.to))

  known_made : (e : Comm) → Q.message_of e < length ends → IsKnown (image_of program labels) (as_made e)
  known_made (C.Write m) h = omega (arith, h, many_ends, many program labels)
  known_made (C.Read m) h = omega (arith, h, many_ends, many program labels)

  end_of : (m : ℕ) (x : Message) → slice_get program.messages m ≡ Some x → slice_get ends m ≡ Some (x.from, x.to)
  end_of m x is = slice_get-map (λ (y : Message). (y.from, y.to)) program.messages m ∙ ap (option_map (λ (y : Message). (y.from, y.to))) is

  own_made : (c : ℕ) (e : Comm) → Q.message_of e < length ends
      → is_of (image_of program labels) c (as_made e) ≡ B.is_of ends c e
  own_made c (C.Write m) h =
      let x = there program.messages m (omega (arith, h, many_ends)) in
      ap (λ y. nat_eq y.from c) (message_is program labels m x.0 x.1)
      ∙ sym (ap (λ o. option_map_or (λ (e : ℕ × ℕ). nat_eq e.0 c) o false) (end_of m x.0 x.1))
  own_made c (C.Read m) h =
      let x = there program.messages m (omega (arith, h, many_ends)) in
      ap (λ y. nat_eq y.to c) (message_is program labels m x.0 x.1)
      ∙ sym (ap (λ o. option_map_or (λ (e : ℕ × ℕ). nat_eq e.1 c) o false) (end_of m x.0 x.1))

  kept_made : (c : ℕ) (es : List Comm) → All (λ e. Q.message_of e < length ends) es
      → filter (is_of (image_of program labels) c) (all_made es) ≡ all_made (filter (B.is_of ends c) es)
  kept_made c [] all = refl
  kept_made c (e ∷ es) all =
      let ih = kept_made c es (All-tail (λ x. Q.message_of x < length ends) e es all) in
      let same = own_made c e (All-head (λ x. Q.message_of x < length ends) e es all) in
      let mine : Bool → List Communication =
      λ b. cond b (as_made e ∷ filter (is_of (image_of program labels) c) (all_made es))
      (filter (is_of (image_of program labels) c) (all_made es)) in
      let its : Bool → List Communication =
      λ b. all_made (cond b (e ∷ filter (B.is_of ends c) es) (filter (B.is_of ends c) es)) in
      elim (cases_Bool (B.is_of ends c e)) [
        | inl t ↦ ap mine (same ∙ t) ∙ ap (λ r. as_made e ∷ r) ih ∙ sym (ap its t)
        | inr t ↦ ap mine (same ∙ t) ∙ ih ∙ sym (ap its t)
      ]

  inside_cells : (c : ℕ) → c < cell_count program.grid → c < length program.cells
  inside_cells c h = omega (arith, h, sound.all)

  pub ordered : (buffer : ℕ) (order : List Comm) → B.IsBufferedOrder (sequences_of program).lists ends buffer order
      → IsBufferedOrder (image_of program labels) (communications program) buffer (all_made order)
  ordered buffer order is =
      record {
        known = All-map (IsKnown (image_of program labels)) as_made order
            (All-weaker (λ e. Q.message_of e < length ends) (λ e. IsKnown (image_of program labels) (as_made e)) known_made
            order is.known);
        each = λ c h.
            let inside = inside_cells c h in
            let listed : c < length (sequences_of program).lists = omega (arith, inside, many_lists program) in
            kept_made c order is.known ∙ ap all_made (is.each c listed ∙ list_at program c inside)
            ∙ sym (exchanges_are (communications program c));
        prefix = λ n m.
            let w = times_front (C.Write m) n order in
            let r = times_front (C.Read m) n order in
            omega (arith, is.prefix n m, w, r);
        whole = λ m. times_made (C.Write m) order ∙ is.whole m ∙ sym (times_made (C.Read m) order);
        kept = keeps buffer order is.kept;
      }

  -- ---- labels

  placed : (es : List Comm) (place : ℕ)
      → option_and_then message_in (slice_get (all_made es) place) ≡ option_map Q.message_of (slice_get es place)
  placed [] place = refl
  placed (e ∷ es) zero = message_made e
  placed (e ∷ es) (suc place) = placed es place

  message_there : (c place : ℕ) → c < cell_count program.grid
      → message_at (communications program c) place ≡ L.message_at (sequences_of program).lists c place
  message_there c place h =
      ap (λ es. option_and_then message_in (slice_get es place)) (exchanges_are (communications program c))
      ∙ placed (comms (communications program c)) place
      ∙ ap (λ es. option_map Q.message_of (slice_get es place)) (sym (list_at program c (inside_cells c h)))

  pub consistent : length labels ≡ length program.messages → L.IsConsistent (sequences_of program).lists labels
      → IsConsistent (image_of program labels) (communications program)
  consistent long h = λ c place a b inside one other.
      let falls = h a b (record {
        cell = c;
        place = place;
        first = sym (message_there c place inside) ∙ one;
        second = sym (message_there c (suc place) inside) ∙ other;
      }) in
      omega (arith, falls, label_is program labels long a, label_is program labels long b)
