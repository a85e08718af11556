-- Some streams agree, and no two families do.
use Rattle.std.proofs.Common.{ap₂, ltb-true, length-append, true≢false, eq-eqb, lt-ltb, eqb-true, ◌≡◌, ℕ, zero, suc, ◌+◌, ◌<◌, max, Bool, true, false, cond, ◌&&◌, nat_eq, nat_lt, ◌⊎◌, inl, inr, List, [], ◌∷◌, ◌++◌, length, get_or, refl, sym, ap, subst, ◌∙◌, arith}
use Rattle.std.specs.List.{concat}
use Rattle.std.proofs.lemmas.List.{get_or_past}
use Rattle.std.proofs.lemmas.Bool.{or_left, cases_Bool, cases_lt, and_parts, and_from, or_cases}
use Rattle.array_runs.specs.Alone.{IsRegularArray, RunsAlike}
use Rattle.array_runs.specs.Frame.{Action, Halt, Work, Write, Read, Frame, hop_on, link_at}
use Rattle.sys_base.specs.Groups.{is_one_of}
use Rattle.array_runs.specs.Machines.{Array, Machine, IsArrayFinished, IsArrayRun, array_after, array_can, array_end, array_opening}
use Rattle.array_runs.specs.Meaning.{Agrees, HasOneMeaning}
use Rattle.array_runs.specs.Orders.{home, part_of, count, events}
use Rattle.array_runs.specs.Regular.{IsOrdered, IsOwn, IsEvent, IsGrouped, IsRegular, label_of}
use Rattle.array_runs.specs.Runs.{bound}
use Rattle.sys_base.specs.declared.actor.Actor.{Actor}
use Rattle.array_runs.proofs.Agreed.{all_written}
use Rattle.array_runs.proofs.Arrays.{array_sure, followed}
use Rattle.array_runs.proofs.Prefixes.{prefix_refl}

run_more : {X W : Type 0} (p : Frame) (mc : Machine X W) (cap : ℕ) (a : Array X W) (run : List Actor) (x : Actor)
    → IsArrayRun p mc cap a run → array_can p mc cap (array_end p mc a run) x ≡ true
    → IsArrayRun p mc cap a (run ++ x ∷ [])
run_more p mc cap a [] x r t = (t, tt)
run_more p mc cap a (y ∷ rest) x r t = (r.0, run_more p mc cap (array_after p mc a y) rest x r.1 t)

module _ {X W : Type 0} (p : Frame) (mc : Machine X W) (start : ℕ → X) (lists : ℕ → List Action) (cost : ℕ → ℕ) (d : ℕ) (h : IsRegularArray p mc start lists cost d) where
  abbrev cap : ℕ
  cap = max 1 d

  abbrev last : List Actor → Array X W
  last run = array_end p mc (array_opening start) run

  -- a run that ends
  record WholeRun : Type 0 where
    run : List Actor
    is : IsArrayRun p mc cap (array_opening start) run
    finished : IsArrayFinished p mc (last run)

  comes_to_end : (n : ℕ) (run : List Actor) → IsArrayRun p mc cap (array_opening start) run
      → bound p cost < length run + n
      → WholeRun
  comes_to_end zero run r l =
      absurd (omega (arith, (array_sure p mc start lists cost d h).bounded cap run (omega arith) r))
  comes_to_end (suc n) run r l =
      elim ((array_sure p mc start lists cost d h).never_stuck cap run (omega arith) r) [
        | inl f ↦ record { run = run; is = r; finished = f }
        | inr m ↦
            comes_to_end n (run ++ m.0 ∷ []) (run_more p mc cap (array_opening start) run m.0 r m.1)
            (omega (arith, length-append run (m.0 ∷ [])))
      ]

  whole_run : WholeRun
  whole_run = comes_to_end (suc (bound p cost)) [] tt (omega arith)

  pub streams : ℕ → List W
  streams = (last whole_run.run).history

  streams_agree : Agrees p mc start streams
  unfolding streams
  streams_agree m l =
      let c : ℕ = p.sender m in
      let f = followed p mc start lists cost d h (last whole_run.run).history cap whole_run.run whole_run.is
      (λ n g. prefix_refl ((last whole_run.run).history n))
      in
      record {
        steps = f.places c;
        halts = ap (mc.action c) (sym (f.match.cell c)) ∙ whole_run.finished c (h.regular.ordered.sends m l);
        writes = sym (f.match.written m l);
      }

  pub regular_meaning : HasOneMeaning p mc start
  regular_meaning =
      record {
        streams = streams;
        agree = streams_agree;
        only = λ v w g k m l.
            sym (all_written p mc start lists cost d h v g cap whole_run.run whole_run.is whole_run.finished m l)
            ∙ all_written p mc start lists cost d h w k cap whole_run.run whole_run.is whole_run.finished m l;
      }

-- Where nothing is known of routes, queues and labels, each message gets a link of its own, with one queue.
module _ (p : Frame) (lists : ℕ → List Action) where
  abbrev lengths : ℕ → ℕ
  lengths m = count (Write m) (lists (p.sender m))

  abbrev own_group : ℕ → List (List ℕ)
  own_group l = cond (nat_lt l p.messages && nat_lt 0 (lengths l)) ((l ∷ []) ∷ []) []

  abbrev apart : Frame
  apart =
      record {
        cells = p.cells;
        messages = p.messages;
        links = p.messages;
        sender = p.sender;
        receiver = p.receiver;
        words = lengths;
        label = λ m. 0;
        route = λ m. m ∷ [];
        queues = λ l. 1;
        groups = own_group;
      }

  group_tells : (l : ℕ)
      → (own_group l ≡ []) ⊎ ((l < p.messages) × ((0 < lengths l) × (own_group l ≡ (l ∷ []) ∷ [])))
  group_tells l =
      let test : Bool = nat_lt l p.messages && nat_lt 0 (lengths l) in
      elim (cases_Bool test) [
        | inl t ↦
            let parts = and_parts (nat_lt l p.messages) (nat_lt 0 (lengths l)) t in
            inr (ltb-true _ _ parts.0, (ltb-true _ _ parts.1, ap (λ b. cond b ((l ∷ []) ∷ []) []) t))
        | inr t ↦ inl (ap (λ b. cond b ((l ∷ []) ∷ []) []) t)
      ]

  one_member : (l m : ℕ) → is_one_of (l ∷ []) m ≡ true → l ≡ m
  one_member l m h = elim (or_cases (nat_eq m l) false h) [ inl t ↦ sym (eqb-true m l t) | inr t ↦ absurd (cc t) ]

  own_hop : (m : ℕ) → hop_on apart m m ≡ 0
  own_hop m = ap (λ b. cond {A = ℕ} b 0 1) (eq-eqb m m refl)

  apart_member : (l m : ℕ) → is_one_of (concat (own_group l)) m ≡ true
      → (m < p.messages) × ((0 < lengths m) × ((hop_on apart l m < 1) × (link_at apart m (hop_on apart l m) ≡ l)))
  apart_member l m h =
      elim (group_tells l) [
        | inl e ↦ absurd (true≢false (sym h ∙ ap (λ g. is_one_of (concat g) m) e))
        | inr t ↦
            let same : l ≡ m = one_member l m (sym (ap (λ g. is_one_of (concat g) m) t.1.1) ∙ h) in
            subst (λ n. (n < p.messages) × ((0 < lengths n) × ((hop_on apart l n < 1) × (link_at apart n
            (hop_on apart l n) ≡ l))))
            same (t.0, (t.1.0, (omega (arith, own_hop l), ap (λ i. get_or (l ∷ []) i 0) (own_hop l))))
      ]

  only_group : (l j : ℕ) → j < length (own_group l) → (j ≡ 0) × (get_or (own_group l) j [] ≡ l ∷ [])
  only_group l j h =
      elim (group_tells l) [
        | inl e ↦ absurd (omega (arith, ap length e))
        | inr t ↦
            let zero_th : j ≡ 0 = omega (arith, ap length t.1.1) in
            (zero_th, ap (λ i. get_or (own_group l) i []) zero_th ∙ ap (λ g. get_or g 0 []) t.1.1)
      ]

  no_later : (l i j m : ℕ) → i < j → is_one_of (get_or (own_group l) j []) m ≡ true → ⊥
  no_later l i j m g h =
      elim (cases_lt j (length (own_group l))) [
        | inl t ↦ omega (arith, (only_group l j t).0)
        | inr t ↦ true≢false (sym h ∙ ap (λ g. is_one_of g m) (get_or_past (own_group l) j [] t))
      ]

  apart_grouped : IsGrouped apart
  apart_grouped =
      record {
        member = apart_member;
        grouped = λ m i l w g.
            let here : is_one_of (concat (own_group m)) m ≡ true =
            ap (λ b. is_one_of (concat (cond b ((m ∷ []) ∷ []) [])) m)
            (and_from (nat_lt m p.messages) (nat_lt 0 (lengths m)) (lt-ltb _ _ l) (lt-ltb _ _ w))
            ∙ or_left _ _ (eq-eqb m m refl)
            in
            let none : 0 ≡ i = omega arith in
            subst (λ j. is_one_of (concat (own_group (get_or (m ∷ []) j 0))) m ≡ true) none here;
        filled = λ l j g. omega (arith, ap length (only_group l j g).1);
        rising = λ l i j k m g a b. absurd (no_later l i j m g b);
        fits = λ l j g. omega (arith, ap length (only_group l j g).1);
      }

  no_label : (x : Action) → label_of apart x ≡ 0
  no_label Halt = refl
  no_label Work = refl
  no_label (Write m) = refl
  no_label (Read m) = refl

  apart_own : (c : ℕ) (x : Action) → IsOwn p c x → IsOwn apart c x
  apart_own c Halt h = h
  apart_own c Work h = h
  apart_own c (Write m) h = h
  apart_own c (Read m) h = h

  apart_event : (x : Action) → IsEvent p x → IsEvent apart x
  apart_event Halt h = h
  apart_event Work h = h
  apart_event (Write m) h = h
  apart_event (Read m) h = h

  apart_home : (x : Action) → home apart x ≡ home p x
  apart_home Halt = refl
  apart_home Work = refl
  apart_home (Write m) = refl
  apart_home (Read m) = refl

  apart_part : (c : ℕ) (xs : List Action) → part_of apart c xs ≡ part_of p c xs
  apart_part c [] = refl
  apart_part c (x ∷ xs) =
      ap₂ (λ h r. cond (nat_eq h c) (x ∷ r) r) (apart_home x) (apart_part c xs)

  apart_regular : (d : ℕ) → IsOrdered p lists d → IsRegular apart lists d
  apart_regular d h =
      record {
        ordered = record {
          own = λ c i l g. apart_own c _ (h.own c i l g);
          sends = h.sends;
          receives = h.receives;
          order = h.order;
          known = λ i l. apart_event _ (h.known i l);
          is_order = record {
            each = λ c l. apart_part c h.order ∙ h.is_order.each c l;
            prefix = h.is_order.prefix;
            whole = h.is_order.whole;
            kept = h.is_order.kept;
          };
        };
        counted = λ m l. refl;
        routed = record {
          reaches = λ m l. omega arith;
          linked = λ m i l g.
              let none : 0 ≡ i = omega arith in
              subst (λ j. get_or (m ∷ []) j 0 < p.messages) none l;
          once = λ m i l g.
              let none : 0 ≡ i = omega arith in
              subst (λ j. hop_on apart (get_or (m ∷ []) j 0) m ≡ j) none (own_hop m);
        };
        grouped = apart_grouped;
        labels = λ c l i g.
            omega (
              arith,
              no_label (get_or (events (lists c)) i Halt),
              no_label (get_or (events (lists c)) (suc i) Halt),
            );
      }

pub one_meaning : {X W : Type 0} (p : Frame) (mc : Machine X W) (start : ℕ → X) (lists : ℕ → List Action)
    (cost : ℕ → ℕ) (d : ℕ)
    → RunsAlike p mc start lists cost → IsOrdered p lists d → HasOneMeaning p mc start
one_meaning p mc start lists cost d alike ordered =
    let apart_array : IsRegularArray (apart p lists) mc start lists cost d =
    record {
      cells = record { halts = alike.halts; alike = alike.alike };
      regular = apart_regular p lists d ordered;
    }
    in
    let m = regular_meaning (apart p lists) mc start lists cost d apart_array in
    record { streams = m.streams; agree = m.agree; only = m.only }
