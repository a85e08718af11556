-- A run of an array of machines is, step by step, one of the array whose cells have lists of actions: what they do
-- alone.
use Rattle.std.proofs.Common.{◌⊎◌, ◌≢◌, ne_eqb, eq-eqb, cond, append-nil, true≢false, ◌≡◌, ℕ, suc, pred, ◌<◌, ◌≤◌, true, ◌&&◌, inl, inr, List, [], ◌∷◌, ◌++◌, length, take, get_or, refl, sym, ap, ap₂, subst, ◌∙◌, arith, nat_lt, ltb-true}
use Rattle.std.proofs.lemmas.Bool.{and_parts, cases_Bool, cases_lt}
use Rattle.std.proofs.lemmas.List.{get_or_past, length_push}
use Rattle.array_runs.specs.Frame.{Action, Halt, Work, Write, Read, Frame, hops}
use Rattle.array_runs.specs.Machines.{Array, Machine, IsArrayRun, array_acted, array_after, array_can, array_end, put}
use Rattle.array_runs.specs.Orders.{count}
use Rattle.array_runs.specs.Regular.{IsOwn}
use Rattle.array_runs.specs.Runs.{IsRun, end_of}
use Rattle.array_runs.specs.States.{State, one_at, one_at_place, raised, raised_at}
use Rattle.array_runs.specs.Steps.{acted, after, can, may_do, next}
use Rattle.sys_base.specs.declared.actor.Actor.{Actor}
use Rattle.sys_base.specs.declared.actor.Actor.TheVariants.{Cell, Forward, Bind}
use Rattle.array_runs.specs.Alone.{word_of, written_alone, IsPrefix, action_alone, actions_alone, alone, alone_step}
use Rattle.array_runs.proofs.Allowed.{can_cell}
use Rattle.array_runs.proofs.Bound.{falls_along}
use Rattle.array_runs.proofs.Counts.{one_at_self, one_at_tells}
use Rattle.array_runs.proofs.Flows.{place_tells}
use Rattle.array_runs.proofs.Holding.{IsShaped, Holds}
use Rattle.array_runs.proofs.Prefixes.{prefix_get, prefix_more, prefix_refl, prefix_trans, put_other, put_same}
use Rattle.array_runs.proofs.Steps.{own_next, step_keeps}
use Rattle.array_runs.proofs.Streams.{alone_reads, get_first, length_first, take_first}

-- histories only grow
pub acted_grows : {X W : Type 0} (p : Frame) (mc : Machine X W) (a : Array X W) (c : ℕ) (x : Action) (m : ℕ)
    → IsPrefix (a.history m) ((array_acted p mc a c x).history m)
acted_grows p mc a c Halt m = prefix_refl (a.history m)
acted_grows p mc a c Work m = prefix_refl (a.history m)
acted_grows p mc a c (Write k) m =
    let w = a.history k ++ mc.word c (a.cell c) ∷ [] in
    elim (one_at_tells k m) [
      | inl t ↦ subst (λ j. IsPrefix (a.history j) (put a.history k w j)) t.0
          (subst (IsPrefix (a.history k)) (sym (put_same a.history k w)) (prefix_more (a.history k) (mc.word c
          (a.cell c) ∷ [])))
      | inr t ↦ subst (IsPrefix (a.history m)) (sym (put_other a.history k w m t.0)) (prefix_refl (a.history m))
    ]
acted_grows p mc a c (Read k) m = prefix_refl (a.history m)

pub after_grows : {X W : Type 0} (p : Frame) (mc : Machine X W) (a : Array X W) (x : Actor) (m : ℕ)
    → IsPrefix (a.history m) ((array_after p mc a x).history m)
after_grows p mc a (Cell c) m = acted_grows p mc a c (mc.action c (a.cell c)) m
after_grows p mc a (Forward k i) m = prefix_refl (a.history m)
after_grows p mc a (Bind l) m = prefix_refl (a.history m)

pub run_grows : {X W : Type 0} (p : Frame) (mc : Machine X W) (a : Array X W) (run : List Actor) (m : ℕ)
    → IsPrefix (a.history m) ((array_end p mc a run).history m)
run_grows p mc a [] m = prefix_refl (a.history m)
run_grows p mc a (x ∷ rest) m =
    prefix_trans _ _ _ (after_grows p mc a x m) (run_grows p mc (array_after p mc a x) rest m)

-- how far each cell has come after a step
abbrev pub places_acted : (ℕ → ℕ) → ℕ → Action → ℕ → ℕ
places_acted place c Halt = place
places_acted place c Work = raised place c
places_acted place c (Write m) = raised place c
places_acted place c (Read m) = raised place c

abbrev pub places_after : {X W : Type 0} → Machine X W → Array X W → (ℕ → ℕ) → Actor → ℕ → ℕ
places_after mc a place (Cell c) = places_acted place c (mc.action c (a.cell c))
places_after mc a place (Forward m i) = place
places_after mc a place (Bind l) = place

-- the state of the array with lists
abbrev pub at : {X W : Type 0} → Array X W → (ℕ → ℕ) → State
at a place = record { place = place; mark = a.mark; bound = a.bound }

module _ {X W : Type 0} (p : Frame) (mc : Machine X W) (start : ℕ → X) (v : ℕ → List W) (steps : ℕ → ℕ) (cap : ℕ) where
  abbrev pub acts : ℕ → List Action
  acts c = actions_alone mc v start c (steps c)

  -- The cells are where they are alone after so many steps, and what was written is the beginning of the streams.
  pub record Match (a : Array X W) (place : ℕ → ℕ) : Type 0 where
    pub cell : (c : ℕ) → a.cell c ≡ (alone mc v start c (place c)).state
    pub known : (m : ℕ) → m < p.messages → IsPrefix (a.history m) (v m)
    pub written : (m : ℕ) → m < p.messages
        → a.history m ≡ written_alone mc v start (p.sender m) (place (p.sender m)) m
    pub long : (m : ℕ) → length (a.history m) ≡ a.mark m 0
    pub holds : Holds p acts cap (at a place)

  module _ (ends : (c : ℕ) → c < p.cells → action_alone mc v start c (steps c) ≡ Halt) (shaped : IsShaped p acts) where
    pub next_is : (a : Array X W) (place : ℕ → ℕ) (c : ℕ) → c < p.cells → Match a place
        → next acts (at a place) c ≡ mc.action c (a.cell c)
    next_is a place c l h =
        let f : ℕ → Action = action_alone mc v start c in
        let here : f (place c) ≡ mc.action c (a.cell c) = ap (mc.action c) (sym (h.cell c)) in
        elim (cases_lt (place c) (steps c)) [
          | inl g ↦ get_first f (steps c) (place c) Halt g ∙ here
          | inr g ↦
              let same : steps c ≡ place c = omega (arith, h.holds.ends.placed c, length_first f (steps c)) in
              get_or_past (acts c) (place c) Halt (omega (arith, length_first f (steps c)))
              ∙ sym (ends c l) ∙ ap f same ∙ here
        ]

    pub same_can : (a : Array X W) (place : ℕ → ℕ) (x : Actor) → Match a place
        → array_can p mc cap a x ≡ can p acts cap (at a place) x
    same_can a place (Cell c) h =
        elim (cases_Bool (nat_lt c p.cells)) [
          | inl t ↦ ap (λ y. nat_lt c p.cells && may_do p cap a.mark a.bound y)
              (sym (next_is a place c (ltb-true c p.cells t) h))
          | inr t ↦ ap (λ b. b && may_do p cap a.mark a.bound (mc.action c (a.cell c))) t
              ∙ sym (ap (λ b. b && may_do p cap a.mark a.bound (next acts (at a place) c)) t)
        ]
    same_can a place (Forward m i) h = refl
    same_can a place (Bind l) h = refl

    -- the cell that acts goes on by itself likewise, and the others stay
    cell_moves : (a : Array X W) (place : ℕ → ℕ) (c : ℕ) (y : X) → Match a place
        → y ≡ (alone mc v start c (suc (place c))).state → (n : ℕ)
        → put a.cell c y n ≡ (alone mc v start n (raised place c n)).state
    cell_moves a place c y h e n =
        elim (one_at_tells c n) [
          | inl t ↦
              let up : suc (place n) ≡ raised place c n = omega (arith, t.1) in
              subst (λ j. put a.cell c y j ≡ (alone mc v start j (suc (place j))).state) t.0 (put_same a.cell c y ∙ e)
              ∙ ap (λ j. (alone mc v start n j).state) up
          | inr t ↦
              let up : place n ≡ raised place c n = omega (arith, t.1) in
              put_other a.cell c y n t.0 ∙ h.cell n ∙ ap (λ j. (alone mc v start n j).state) up
        ]

    -- what a cell becomes alone by an action
    alone_goes : (a : Array X W) (place : ℕ → ℕ) (c : ℕ) (x : Action) → Match a place → mc.action c (a.cell c) ≡ x
        → (alone_step mc v start c (alone mc v start c (place c)) x).state ≡ (alone mc v start c (suc (place c))).state
    alone_goes a place c x h e =
        ap (λ y. (alone_step mc v start c (alone mc v start c (place c)) y).state)
        (sym (ap (mc.action c) (sym (h.cell c)) ∙ e))

    -- a word that is read is the next one of the stream
    word_read : (a : Array X W) (place : ℕ → ℕ) (c m : ℕ) → Match a place → (m < p.messages) × (p.receiver m ≡ c)
        → a.mark m (hops p m) < a.mark m (pred (hops p m)) → place c ≤ steps c
        → get_or (a.history m) (a.mark m (hops p m)) mc.blank
        ≡ get_or (v m) ((alone mc v start c (place c)).taken m) mc.blank
    word_read a place c m h own word placed =
        let f : ℕ → Action = action_alone mc v start c in
        let falls : a.mark m (pred (hops p m)) ≤ a.mark m 0 =
        falls_along p cap a.mark a.bound h.holds.flows m 0 (pred (hops p m)) own.0 (omega arith) (omega arith)
        in
        let read : a.mark m (hops p m) ≡ count (Read m) (take (place c) (acts c)) =
        subst (λ n. a.mark m (hops p m) ≡ count (Read m) (take (place n) (acts n))) own.1 (h.holds.ends.read m own.0)
        in
        let taken : a.mark m (hops p m) ≡ (alone mc v start c (place c)).taken m =
        read ∙ ap (count (Read m)) (take_first f (place c) (steps c) placed)
        ∙ sym (alone_reads mc v start c (place c) m)
        in
        prefix_get (a.history m) (v m) (a.mark m (hops p m)) mc.blank (h.known m own.0) (omega (arith, h.long m))
        ∙ ap (λ n. get_or (v m) n mc.blank) taken

    -- one word more in a history is one more in its mark
    long_more : (a : Array X W) (m : ℕ) (w : W) → ((n : ℕ) → length (a.history n) ≡ a.mark n 0) → (n : ℕ)
        → length (put a.history m (a.history m ++ w ∷ []) n) ≡ raised_at a.mark m 0 n 0
    long_more a m w h n =
        elim (one_at_tells m n) [
          | inl t ↦
              let one : one_at_place m 0 m 0 ≡ one_at m m = refl in
              subst (λ j. length (put a.history m (a.history m ++ w ∷ []) j) ≡ raised_at a.mark m 0 j 0) t.0
              (ap length (put_same a.history m (a.history m ++ w ∷ []))
              ∙ omega (arith, length_push (a.history m) w, h m, one, one_at_self m))
          | inr t ↦
              let none : one_at_place m 0 n 0 ≡ one_at m n = refl in
              ap length (put_other a.history m (a.history m ++ w ∷ []) n t.0) ∙ omega (arith, h n, none, t.1)
        ]

    first_stays : (a : Array X W) (m : ℕ) → m < p.messages → ((n : ℕ) → length (a.history n) ≡ a.mark n 0) → (n : ℕ)
        → length (a.history n) ≡ raised_at a.mark m (hops p m) n 0
    first_stays a m l h n =
        elim (place_tells (λ i j. 0 < j) m (hops p m) n 0 (shaped.reaches m l)) [
          | inl z ↦ omega (arith, h n, z)
          | inr t ↦ absurd (omega (arith, t.1))
        ]

    -- what a cell has written alone after one action more
    written_goes : (a : Array X W) (place : ℕ → ℕ) (c : ℕ) (x : Action) → Match a place → mc.action c (a.cell c) ≡ x
        → (e m : ℕ)
        → ((c ≢ e) × (written_alone mc v start e (raised place c e) m ≡ written_alone mc v start e (place e) m))
        ⊎ ((c ≡ e) × (written_alone mc v start e (raised place c e) m
        ≡ written_alone mc v start e (place e) m ++ word_of mc v start c (a.cell c) x m))
    written_goes a place c x h is e m =
        elim (one_at_tells c e) [
          | inl t ↦
              let up : raised place c e ≡ suc (place e) = omega (arith, t.1) in
              let here : written_alone mc v start c (suc (place c)) m
              ≡ written_alone mc v start c (place c) m ++ word_of mc v start c (a.cell c) x m =
              ap (λ s. written_alone mc v start c (place c) m ++ word_of mc v start c s (mc.action c s) m) (sym
              (h.cell c))
              ∙ ap (λ y. written_alone mc v start c (place c) m ++ word_of mc v start c (a.cell c) y m) is
              in
              inr (
                t.0,
                ap (λ n. written_alone mc v start e n m) up
                    ∙ subst (λ j. written_alone mc v start j (suc (place j)) m
                    ≡ written_alone mc v start j (place j) m ++ word_of mc v start c (a.cell c) x m) t.0 here,
              )
          | inr t ↦
              let up : raised place c e ≡ place e = omega (arith, t.1) in
              inl (t.0, ap (λ n. written_alone mc v start e n m) up)
        ]

    -- an action that writes nothing to a message
    quiet_written : (a : Array X W) (place : ℕ → ℕ) (c : ℕ) (x : Action) → Match a place → mc.action c (a.cell c) ≡ x
        → (m : ℕ) → m < p.messages → word_of mc v start c (a.cell c) x m ≡ []
        → a.history m ≡ written_alone mc v start (p.sender m) (raised place c (p.sender m)) m
    quiet_written a place c x h is m l none =
        elim (written_goes a place c x h is (p.sender m) m) [
          | inl t ↦ h.written m l ∙ sym t.1
          | inr t ↦
              let before = written_alone mc v start (p.sender m) (place (p.sender m)) m in
              h.written m l ∙ sym (t.1 ∙ ap (λ r. before ++ r) none ∙ append-nil before)
        ]

    write_written : (a : Array X W) (place : ℕ → ℕ) (c k : ℕ) → Match a place → mc.action c (a.cell c) ≡ Write k
        → (k < p.messages) × (p.sender k ≡ c) → (m : ℕ) → m < p.messages
        → put a.history k (a.history k ++ mc.word c (a.cell c) ∷ []) m
        ≡ written_alone mc v start (p.sender m) (raised place c (p.sender m)) m
    write_written a place c k h is own m l =
        let w : List W = mc.word c (a.cell c) ∷ [] in
        elim (one_at_tells k m) [
          | inl t ↦
              let before = written_alone mc v start (p.sender k) (place (p.sender k)) k in
              let same : put a.history k (a.history k ++ w) k
              ≡ written_alone mc v start (p.sender k) (raised place c (p.sender k)) k =
              elim (written_goes a place c (Write k) h is (p.sender k) k) [
                | inl y ↦ absurd (y.0 (sym own.1))
                | inr y ↦ put_same a.history k (a.history k ++ w) ∙ ap (λ r. r ++ w) (h.written k own.0)
                    ∙ sym (y.1 ∙ ap (λ b. before ++ cond b w []) (eq-eqb k k refl))
              ]
              in
              subst (λ j. put a.history k (a.history k ++ w) j
              ≡ written_alone mc v start (p.sender j) (raised place c (p.sender j)) j) t.0 same
          | inr t ↦
              put_other a.history k (a.history k ++ w) m t.0
              ∙ quiet_written a place c (Write k) h is m l (ap (λ b. cond b w []) (ne_eqb k m t.0))
        ]

    -- what was written after an action is what the senders have written alone
    written_acted : (a : Array X W) (place : ℕ → ℕ) (c : ℕ) (x : Action) → Match a place → mc.action c (a.cell c) ≡ x
        → IsOwn p c x → (m : ℕ) → m < p.messages
        → (array_acted p mc a c x).history m ≡ written_alone mc v start (p.sender m) (places_acted place c x
        (p.sender m)) m
    written_acted a place c Halt h e own m l = h.written m l
    written_acted a place c Work h e own m l = quiet_written a place c Work h e m l refl
    written_acted a place c (Write k) h e own m l = write_written a place c k h e own m l
    written_acted a place c (Read k) h e own m l = quiet_written a place c (Read k) h e m l refl

    -- an action of a cell keeps the match
    acts_match : (a : Array X W) (place : ℕ → ℕ) (c : ℕ) (x : Action) → Match a place → mc.action c (a.cell c) ≡ x
        → place c ≤ steps c → IsOwn p c x → may_do p cap a.mark a.bound x ≡ true
        → ((m : ℕ) → m < p.messages → IsPrefix ((array_acted p mc a c x).history m) (v m))
        → Holds p acts cap (acted p (at a place) c x)
        → Match (array_acted p mc a c x) (places_acted place c x)
    acts_match a place c Halt h e placed own t known holds = h
    acts_match a place c Work h e placed own t known holds =
        record {
          cell = cell_moves a place c (mc.worked c (a.cell c)) h
              (ap (mc.worked c) (h.cell c) ∙ alone_goes a place c Work h e);
          known = known;
          written = written_acted a place c Work h e own;
          long = h.long;
          holds = holds;
        }
    acts_match a place c (Write m) h e placed own t known holds =
        record {
          cell = cell_moves a place c (mc.wrote c (a.cell c)) h
              (ap (mc.wrote c) (h.cell c) ∙ alone_goes a place c (Write m) h e);
          known = known;
          written = written_acted a place c (Write m) h e own;
          long = long_more a m (mc.word c (a.cell c)) h.long;
          holds = holds;
        }
    acts_match a place c (Read m) h e placed own t known holds =
        record {
          cell = cell_moves a place c (mc.got c (a.cell c) (get_or (a.history m) (a.mark m (hops p m)) mc.blank)) h
              (ap₂ (mc.got c) (h.cell c) (word_read a place c m h own (ltb-true _ _ t) placed)
              ∙ alone_goes a place c (Read m) h e);
          known = known;
          written = written_acted a place c (Read m) h e own;
          long = first_stays a m own.0 h.long;
          holds = holds;
        }

    same_acted : (a : Array X W) (place : ℕ → ℕ) (c : ℕ) (x : Action)
        → acted p (at a place) c x ≡ at (array_acted p mc a c x) (places_acted place c x)
    same_acted a place c Halt = refl
    same_acted a place c Work = refl
    same_acted a place c (Write m) = refl
    same_acted a place c (Read m) = refl

    same_after : (a : Array X W) (place : ℕ → ℕ) (x : Actor) → Match a place → array_can p mc cap a x ≡ true
        → after p acts (at a place) x ≡ at (array_after p mc a x) (places_after mc a place x)
    same_after a place (Cell c) h t =
        let l : c < p.cells = ltb-true _ _ (and_parts (nat_lt c p.cells) _ t).0 in
        ap (acted p (at a place) c) (next_is a place c l h) ∙ same_acted a place c (mc.action c (a.cell c))
    same_after a place (Forward m i) h t = refl
    same_after a place (Bind l) h t = refl

    -- a cell that has a step: what it does is its own, and it is within its list
    record Acting (a : Array X W) (place : ℕ → ℕ) (c : ℕ) : Type 0 where
      inside : c < p.cells
      may : may_do p cap a.mark a.bound (mc.action c (a.cell c)) ≡ true
      own : IsOwn p c (mc.action c (a.cell c))
      placed : place c ≤ steps c
      holds : Holds p acts cap (acted p (at a place) c (mc.action c (a.cell c)))

    acting : (a : Array X W) (place : ℕ → ℕ) (c : ℕ) → Match a place → array_can p mc cap a (Cell c) ≡ true
        → Acting a place c
    acting a place c h t =
        let can_is : can p acts cap (at a place) (Cell c) ≡ true = sym (same_can a place (Cell c) h) ∙ t in
        let l : c < p.cells = ((can_cell p acts cap (at a place) c).0 can_is).0 in
        let may = and_parts (nat_lt c p.cells) (may_do p cap a.mark a.bound (mc.action c (a.cell c))) t in
        let same : next acts (at a place) c ≡ mc.action c (a.cell c) = next_is a place c l h in
        record {
          inside = l;
          may = may.1;
          own = elim (own_next p acts (at a place) c shaped l) [
            | inl halted ↦ absurd (true≢false (sym may.1 ∙ ap (may_do p cap a.mark a.bound) (sym same ∙ halted)))
            | inr o ↦ subst (IsOwn p c) same o.1
          ];
          placed = omega (arith, h.holds.ends.placed c, length_first (action_alone mc v start c) (steps c));
          holds = subst (λ y. Holds p acts cap (acted p (at a place) c y)) same
              (step_keeps p acts cap shaped (at a place) (Cell c) can_is h.holds);
        }

    pub written_after : (a : Array X W) (place : ℕ → ℕ) (x : Actor) → Match a place → array_can p mc cap a x ≡ true
        → (m : ℕ) → m < p.messages
        → (array_after p mc a x).history m
        ≡ written_alone mc v start (p.sender m) (places_after mc a place x (p.sender m)) m
    written_after a place (Cell c) h t m l =
        written_acted a place c (mc.action c (a.cell c)) h refl (acting a place c h t).own m l
    written_after a place (Forward k i) h t m l = h.written m l
    written_after a place (Bind k) h t m l = h.written m l

    pub step_match : (a : Array X W) (place : ℕ → ℕ) (x : Actor) → Match a place → array_can p mc cap a x ≡ true
        → ((m : ℕ) → m < p.messages → IsPrefix ((array_after p mc a x).history m) (v m))
        → Match (array_after p mc a x) (places_after mc a place x)
    step_match a place (Cell c) h t known =
        let f = acting a place c h t in
        acts_match a place c (mc.action c (a.cell c)) h refl f.placed f.own f.may known f.holds
    step_match a place (Forward m i) h t known =
        record {
          cell = h.cell;
          known = h.known;
          written = h.written;
          long = λ n. h.long n ∙ first_mark m i n;
          holds = step_keeps p acts cap shaped (at a place) (Forward m i) t h.holds;
        }
      where
        first_mark : (m i n : ℕ) → a.mark n 0 ≡ raised_at a.mark m (suc i) n 0
        first_mark m i n =
            elim (place_tells (λ j k. 0 < k) m (suc i) n 0 (omega arith)) [
              | inl z ↦ omega (arith, z)
              | inr y ↦ absurd (omega (arith, y.1))
            ]
    step_match a place (Bind l) h t known =
        record {
          cell = h.cell;
          known = h.known;
          written = h.written;
          long = h.long;
          holds = step_keeps p acts cap shaped (at a place) (Bind l) t h.holds;
        }

    -- a run of the array of machines, and where it leaves the cells
    pub record Followed (a : Array X W) (place : ℕ → ℕ) (run : List Actor) : Type 0 where
      pub places : ℕ → ℕ
      pub is : IsRun p acts cap (at a place) run
      pub ends_at : end_of p acts (at a place) run ≡ at (array_end p mc a run) places
      pub match : Match (array_end p mc a run) places

    pub follows : (a : Array X W) (place : ℕ → ℕ) (run : List Actor) → Match a place → IsArrayRun p mc cap a run
        → ((m : ℕ) → m < p.messages → IsPrefix ((array_end p mc a run).history m) (v m)) → Followed a place run
    follows a place [] h r known = record { places = place; is = tt; ends_at = refl; match = h }
    follows a place (x ∷ rest) h r known =
        let on : (m : ℕ) → m < p.messages → IsPrefix ((array_after p mc a x).history m) (v m) =
        λ m l. prefix_trans _ _ _ (run_grows p mc (array_after p mc a x) rest m) (known m l)
        in
        let here = step_match a place x h r.0 on in
        let f = follows (array_after p mc a x) (places_after mc a place x) rest here r.1 known in
        let same = same_after a place x h r.0 in
        record {
          places = f.places;
          is = (sym (same_can a place x h) ∙ r.0, subst (λ s. IsRun p acts cap s rest) (sym same) f.is);
          ends_at = ap (λ s. end_of p acts s rest) same ∙ f.ends_at;
          match = f.match;
        }
