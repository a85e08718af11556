-- The state of crossing-off at the start.
use Rattle.std.proofs.Common.{◌≡◌, ℕ, ◌+◌, ◌<◌, ◌≤◌, List, [], ◌∷◌, ◌++◌, Option, Some, length, map, slice_get, slice_index, sym, ◌∙◌, ap, subst, refl, ⊎_elim, arith}
use Rattle.std.proofs.lemmas.Bool.{cases_eq}
use Rattle.std.proofs.lemmas.List.FromFn.{map-range_with_len_more}
use Rattle.cell_types.specs.Groups.{below}
use Rattle.comm_sequence.specs.Sequences.{Sequences, IsSequences, message_of}
use Rattle.comm_sequence.specs.declared.comm.Comm.{Comm}
use Rattle.comm_sequence.specs.declared.comm.Comm.TheVariants.{Write, Read}
use Rattle.crossing_off.specs.declared.waiting.Waiting.{Waiting}
use Rattle.crossing_off.specs.declared.worklist.Crossing.{Crossing}
use Rattle.crossing_off.specs.Greedy.{rest, front, reads_of, IsFront, MayCross}
use Rattle.crossing_off.specs.bodies.Waiting.{HasNoted, Waits}
use Rattle.crossing_off.specs.bodies.Worklist.{AreCounts, IsComplete, IsUnderWay}
use Rattle.crossing_off.proofs.Ends.{front_known}
use Rattle.crossing_off.proofs.Steps.{stands_first}
use Rattle.crossing_off.proofs.Added.{noted_keeps, noted_known, noted_waits}

-- nothing is crossed, and the operations of the messages at the fronts of the cells below this one wait
pub record IsStarted (s : Sequences) (rests : List (List Comm)) (waiting : Waiting) (held wanted : List ℕ) (order : List Comm) (cell : ℕ) : Type 0 where
  pub sound : IsSequences s
  pub rests_are : rests ≡ map (rest s []) (below cell)
  pub order_is : order ≡ []
  pub held_len : length held ≡ length s.ends
  pub wanted_len : length wanted ≡ length s.ends
  pub held_is : (m : ℕ) → m < length s.ends → slice_index held m ≡ 0
  pub wanted_is : (m : ℕ) → m < length s.ends → slice_index wanted m ≡ reads_of s m
  pub waits : (c : ℕ) (e x : Comm) → c < cell → front s [] c ≡ Some e → message_of x ≡ message_of e → Waits waiting x
  pub known : (x : Comm) → Waits waiting x → message_of x < length s.ends

-- one cell more
pub started_more : (s : Sequences) (rests : List (List Comm)) (old new : Waiting) (held wanted : List ℕ) (order : List Comm) (cell : ℕ) (o : Option Comm)
    → cell < length s.lists → IsStarted s rests old held wanted order cell → front s [] cell ≡ o → HasNoted o old new
    → IsStarted s (rests ++ rest s [] cell ∷ []) new held wanted order (cell + 1)
started_more s rests old new held wanted order cell o l h f noted = record {
  sound = h.sound;
  rests_are = ap (λ xs. xs ++ rest s [] cell ∷ []) h.rests_are ∙ sym (map-range_with_len_more (rest s []) 0 cell cell (omega arith));
  order_is = h.order_is;
  held_len = h.held_len;
  wanted_len = h.wanted_len;
  held_is = h.held_is;
  wanted_is = h.wanted_is;
  waits = λ c e x below at same.
      ⊎_elim
      (λ (q : c ≡ cell).
      let here : o ≡ Some e = sym f ∙ ap (front s []) (sym q) ∙ at in
      noted_waits o old new e x noted here same)
      (λ (n : c ≡ cell → ⊥). noted_keeps o old new x noted (h.waits c e x (omega arith) at same))
      (cases_eq c cell);
  known = noted_known (length s.ends) o old new noted (λ e at. front_known s [] cell e h.sound l (f ∙ at)) h.known;
}

-- nothing is crossed, and the rule is under way
pub under_way_start : (s : Sequences) (buffer : ℕ) (now : Crossing) → buffer ≤ 255
    → IsStarted s now.rests.items now.waiting now.held.items now.wanted.items now.order.items (length s.lists) → IsUnderWay s buffer now
under_way_start s buffer now small h = record {
  sound = h.sound;
  small = small;
  rests = h.rests_are ∙ ap (λ ms. map (rest s ms) (below (length s.lists))) (sym h.order_is);
  counts =
      let P : List Comm → Type 0 = λ es. AreCounts s now.held.items now.wanted.items es in
      subst P (sym h.order_is) (record {
        held_len = h.held_len;
        wanted_len = h.wanted_len;
        held_is = λ m l. let e = h.held_is m l in omega (arith, e);
        wanted_is = λ m l. let e = h.wanted_is m l in omega (arith, e);
      });
  greedy = λ k e at. absurd (cc (sym (ap (λ es. slice_get es k) h.order_is) ∙ at));
  known = h.known;
}

-- each operation that may be crossed at the start waits
pub complete_start : (s : Sequences) (buffer : ℕ) (now : Crossing)
    → IsStarted s now.rests.items now.waiting now.held.items now.wanted.items now.order.items (length s.lists) → IsComplete s buffer now
complete_start s buffer now h e may =
    let P : List Comm → Type 0 = λ es. MayCross s buffer es e in
    let at = stands_first s [] e h.sound (front_of e (subst P h.order_is may)) in
    h.waits at.home.cell e e at.home.within at.first refl
  where
    front_of : (e : Comm) → MayCross s buffer [] e → IsFront s [] e
    front_of (Write m) may = may.0
    front_of (Read m) may = may.0
