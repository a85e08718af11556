-- Every run keeps the meaning: what was written, where the cells are, and what they have put out.
use Rattle.std.proofs.Common.{◌≡◌, ℕ, zero, suc, ◌<◌, ◌≤◌, inl, inr, List, [], ◌∷◌, sym, ap, subst, ◌∙◌, arith}
use Rattle.std.proofs.lemmas.Bool.{cases_lt}
use Rattle.array_runs.specs.Alone.{Alone, IsPrefix, IsRegularArray, action_alone, alone, alone_step, written_alone}
use Rattle.array_runs.specs.Frame.{Action, Halt, Work, Write, Read, Frame}
use Rattle.array_runs.specs.Machines.{Array, Machine, IsArrayFinished, IsArrayRun, array_after, array_end, array_opening}
use Rattle.array_runs.specs.Meaning.{Agrees, IsOutput, KeepsMeaning}
use Rattle.sys_base.specs.declared.actor.Actor.{Actor}
use Rattle.array_runs.proofs.Arrays.{opening_match}
use Rattle.array_runs.proofs.Match.{Match, places_after, step_match, written_after}
use Rattle.array_runs.proofs.Prefixes.{prefix_refl, prefix_trans}
use Rattle.array_runs.proofs.Streams.{ends, shaped_actions, same_written, steps, still, written_begins}

module _ {X W O : Type 0} (mc : Machine X W) (start : ℕ → X) (output : X → List O) (grows : IsOutput mc output) (v : ℕ → List W) (c : ℕ) where
  output_step : (a : Alone X) (x : Action) → IsPrefix (output a.state) (output (alone_step mc v start c a x).state)
  output_step a Halt = prefix_refl (output a.state)
  output_step a Work = grows.worked c a.state
  output_step a (Write m) = grows.wrote c a.state
  output_step a (Read m) = grows.got c a.state _

  output_grows : (n k : ℕ) → n ≤ k
      → IsPrefix (output (alone mc v start c n).state) (output (alone mc v start c k).state)
  output_grows n zero h =
      let same : n ≡ 0 = omega arith in
      subst (λ j. IsPrefix (output (alone mc v start c j).state) (output (start c))) (sym same) (prefix_refl (output
      (start c)))
  output_grows n (suc k) h =
      let ih : n ≤ k → IsPrefix (output (alone mc v start c n).state) (output (alone mc v start c k).state) =
      output_grows n k
      in
      elim (cases_lt k n) [
        | inl l ↦
            let same : suc k ≡ n = omega arith in
            subst (λ j. IsPrefix (output (alone mc v start c j).state) (output (alone mc v start c (suc k)).state)) same
            (prefix_refl (output (alone mc v start c (suc k)).state))
        | inr l ↦ prefix_trans _ _ _ (ih l) (output_step (alone mc v start c k) (action_alone mc v start c k))
      ]

  -- the output at any number of steps is the beginning of that at a halt
  pub output_begins : (n k : ℕ) → action_alone mc v start c k ≡ Halt
      → IsPrefix (output (alone mc v start c n).state) (output (alone mc v start c k).state)
  output_begins n k h =
      elim (cases_lt k n) [
        | inl l ↦ subst (λ a. IsPrefix (output a.state) (output (alone mc v start c k).state))
            (sym (still mc v start c k n h (omega arith))) (prefix_refl (output (alone mc v start c k).state))
        | inr l ↦ output_grows n k l
      ]

  pub same_output : (n k : ℕ) → action_alone mc v start c n ≡ Halt → action_alone mc v start c k ≡ Halt
      → output (alone mc v start c n).state ≡ output (alone mc v start c k).state
  same_output n k g h =
      elim (cases_lt n k) [
        | inl l ↦ ap (λ a. output a.state) (sym (still mc v start c n k g (omega arith)))
        | inr l ↦ ap (λ a. output a.state) (still mc v start c k n h l)
      ]

module _ {X W : Type 0} (p : Frame) (mc : Machine X W) (start : ℕ → X) (lists : ℕ → List Action) (cost : ℕ → ℕ) (d : ℕ) (h : IsRegularArray p mc start lists cost d) (v : ℕ → List W) (agrees : Agrees p mc start v) (cap : ℕ) where
  abbrev pub Matched : Array X W → (ℕ → ℕ) → Type 0
  Matched = Match p mc start v (steps p mc start lists cost d h v) cap

  -- what a sender has written alone, in any number of steps, is the beginning of the stream
  begins_stream : (m n : ℕ) → m < p.messages → IsPrefix (written_alone mc v start (p.sender m) n m) (v m)
  begins_stream m n l =
      let w = agrees m l in
      subst (IsPrefix (written_alone mc v start (p.sender m) n m)) w.writes
      (written_begins mc v start (p.sender m) m n w.steps w.halts)

  pub agreed : (a : Array X W) (place : ℕ → ℕ) (run : List Actor) → Matched a place → IsArrayRun p mc cap a run
      → (places : ℕ → ℕ) × Matched (array_end p mc a run) places
  agreed a place [] match r = (place, match)
  agreed a place (x ∷ rest) match r =
      let e = ends p mc start lists cost d h v in
      let s = (shaped_actions p mc start lists cost d h v) in
      let n = steps p mc start lists cost d h v in
      let known : (m : ℕ) → m < p.messages → IsPrefix ((array_after p mc a x).history m) (v m) =
      λ m l. subst (λ y. IsPrefix y (v m)) (sym (written_after p mc start v n cap e s a place x match r.0 m l))
      (begins_stream m (places_after mc a place x (p.sender m)) l)
      in
      agreed (array_after p mc a x) (places_after mc a place x) rest
      (step_match p mc start v n cap e s a place x match r.0 known) r.1

  abbrev last : List Actor → Array X W
  last run = array_end p mc (array_opening start) run

  pub agreed_run : (run : List Actor) → IsArrayRun p mc cap (array_opening start) run
      → (places : ℕ → ℕ) × Matched (last run) places
  agreed_run run r = agreed (array_opening start) (λ c. 0) run (opening_match p mc start lists cost d h v cap) r

  pub all_written : (run : List Actor) → IsArrayRun p mc cap (array_opening start) run → IsArrayFinished p mc (last run)
      → (m : ℕ) → m < p.messages → (last run).history m ≡ v m
  all_written run r f m l =
      let c : ℕ = p.sender m in
      let q = agreed_run run r in
      let halted : action_alone mc v start c (q.0 c) ≡ Halt =
      ap (mc.action c) (sym (q.1.cell c)) ∙ f c (h.regular.ordered.sends m l)
      in
      let w = agrees m l in
      q.1.written m l ∙ same_written mc v start c m (q.0 c) w.steps halted w.halts ∙ w.writes

  pub keeps_meaning : {O : Type 0} (output : X → List O) → IsOutput mc output → (run : List Actor)
      → IsArrayRun p mc cap (array_opening start) run → KeepsMeaning p mc start output v (last run)
  keeps_meaning output grows run r =
      let q = agreed_run run r in
      record {
        begins = q.1.known;
        whole = all_written run r;
        is_alone = λ c l. record { steps = q.0 c; state = q.1.cell c };
        puts_out = λ c n l halt.
            subst (λ x. IsPrefix (output x) (output (alone mc v start c n).state)) (sym (q.1.cell c))
            (output_begins mc start output grows v c (q.0 c) n halt);
        put_out = λ f c n l halt.
            ap output (q.1.cell c)
            ∙ same_output mc start output grows v c (q.0 c) n (ap (mc.action c) (sym (q.1.cell c)) ∙ f c l) halt;
      }
