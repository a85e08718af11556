-- An image as an array of machines, and each step of the one as a step of the other.
use Rattle.std.proofs.Common.{◌≡◌, ℕ, suc, ◌+◌, ◌*◌, ◌≤◌, Bool, true, false, cond, ◌&&◌, nat_eq, nat_lt, nat_le, pos, List, [], ◌∷◌, ◌++◌, Option, Some, None, length, filter, get_or, refl, sym, ap, subst, ◌∙◌, arith, inl, inr, lt-ltb, le-ltb}
use Rattle.std.specs.Option.{option_and_then, is_some}
use Rattle.std.proofs.lemmas.Bool.{and_left, cases_Bool, cases_lt}
use Rattle.std.proofs.lemmas.Option.{none-some, same_Some}
use Rattle.sys_base.specs.declared.actor.Actor.{Actor}
use Rattle.sys_base.specs.declared.actor.Actor.TheVariants.{Cell, Forward, Bind}
use Rattle.sys_base.specs.declared.word.Word.{Word}
use Rattle.sys_base.specs.declared.word.Word.TheVariants.{Num}
use Rattle.array_runs.specs.Frame as F
use Rattle.array_runs.specs.Machines as P
use Rattle.array_runs.specs.Machines.{Array, Machine, IsArrayRun, array_acted, array_after, array_can, array_end, array_opening}
use Rattle.array_runs.specs.States as S
use Rattle.array_runs.specs.Steps.{may_do}
use Rattle.cell_code.specs.Marks.{groups_of, held, hop_on, hops, link_of, live, message_of, may_bind, place_of}
use Rattle.cell_code.specs.Rows.{Row, State, Stands, Moves, Sends, Receives, opening_state, received, row_at}
use Rattle.cell_code.specs.declared.image.Image.{Image}
use Rattle.array_model.specs.Runs.{after}
use Rattle.array_model.specs.States.{ArrayState, Inputs, cell_of, cells, code_of}
use Rattle.array_model.specs.Steps.{row_step, step, where_holds}

-- ---- rows as actions

abbrev pub action_of : Row → F.Action
action_of Stands = F.Halt
action_of (Moves next) = F.Work
action_of (Sends m word next) = F.Write m
action_of (Receives m variable next) = F.Read m

-- the state to which a row leads, but for a word that is read
abbrev pub next_of : State → Row → State
next_of s Stands = s
next_of s (Moves next) = next
next_of s (Sends m word next) = next
next_of s (Receives m variable next) = next

abbrev pub word_in : Row → Word
word_in (Sends m word next) = word
word_in _ = Num (pos 0)

abbrev pub got_in : State → Row → Word → State
got_in s (Receives m variable next) word = received next variable word
got_in s _ word = s

-- ---- the array of machines

abbrev pub frame : Image → F.Frame
frame image =
    record {
      cells = cells image;
      messages = length image.messages;
      links = 4 * cells image;
      sender = λ m. (message_of image m).from;
      receiver = λ m. (message_of image m).to;
      words = λ m. (message_of image m).length;
      label = λ m. (message_of image m).label;
      route = λ m. (message_of image m).route;
      queues = λ l. (link_of image.links l).queues;
      groups = groups_of image;
    }

abbrev pub row : Image → Inputs → ℕ → State → Row
row image inputs c x = row_at (code_of image c) c (inputs c) x

abbrev pub machine : Image → Inputs → Machine State Word
machine image inputs =
    record {
      action = λ c x. action_of (row image inputs c x);
      worked = λ c x. next_of x (row image inputs c x);
      word = λ c x. word_in (row image inputs c x);
      wrote = λ c x. next_of x (row image inputs c x);
      got = λ c x w. got_in x (row image inputs c x) w;
      blank = Num (pos 0);
    }

abbrev pub start : Image → ℕ → State
start image c = opening_state (cell_of image c).words (cell_of image c).counters

abbrev pub array : ArrayState → Array State Word
array s = record { cell = s.cell; history = s.history; mark = s.marks; bound = s.bound }

-- ---- bindings

place_same : (x : ℕ) (xs : List ℕ) → place_of x xs ≡ F.place_of x xs
place_same x [] = refl
place_same x (y ∷ ys) = ap (λ n. cond (nat_eq x y) 0 (suc n)) (place_same x ys)

module _ (image : Image) (marks : ℕ → ℕ → ℕ) (l : ℕ) where
  abbrev is_live : ℕ → Bool
  is_live m = nat_lt (marks m (suc (hop_on image l m))) (message_of image m).length

  live_one : (m : ℕ) → S.is_live (frame image) marks l m ≡ cond {A = ℕ} (is_live m) 1 0
  live_one m =
      ap (λ n. cond {A = ℕ} (nat_lt (marks m (suc n)) (message_of image m).length) 1 0)
      (sym (place_same l (message_of image m).route))

  length_kept : (xs : List ℕ) → S.total (S.is_live (frame image) marks l) xs ≡ length (filter is_live xs)
  length_kept [] = refl
  length_kept (x ∷ xs) =
      elim (cases_Bool (is_live x)) [
        | inl t ↦
            omega (
              arith,
              length_kept xs,
              live_one x,
              ap (λ b. cond {A = ℕ} b 1 0) t,
              ap (λ b. length (cond b (x ∷ filter is_live xs) (filter is_live xs))) t,
            )
        | inr t ↦
            omega (
              arith,
              length_kept xs,
              live_one x,
              ap (λ b. cond {A = ℕ} b 1 0) t,
              ap (λ b. length (cond b (x ∷ filter is_live xs) (filter is_live xs))) t,
            )
      ]

pub live_same : (image : Image) (marks : ℕ → ℕ → ℕ) (bound : ℕ → ℕ) (l : ℕ)
    → S.live (frame image) marks bound l ≡ length (live image marks bound l)
live_same image marks bound l = length_kept image marks l (held image l (bound l))

-- ---- steps

-- what a step is, beside whether the machines have one and what it makes of them
abbrev pub Matches : Option ArrayState → Bool → Array State Word → Type 0
Matches None can next = can ≡ false
Matches (Some s) can next = (can ≡ true) × (next ≡ array s)

held_matches : (test : Bool) (s : ArrayState) (next : Array State Word) → next ≡ array s
    → Matches (where_holds test s) test next
held_matches true s next e = (refl, e)
held_matches false s next e = refl

guard_matches : (b : Bool) (o : Option ArrayState) (can : Bool) (next : Array State Word) → Matches o can next
    → Matches (cond b o None) (b && can) next
guard_matches true o can next m = m
guard_matches false o can next m = refl

-- Past the last link of the grid no link has a group.
abbrev pub Bindable : Image → Type 0
Bindable image = (l : ℕ) → 4 * cells image ≤ l → groups_of image l ≡ []

module _ (image : Image) (inputs : Inputs) (cap : ℕ) where
  abbrev p : F.Frame
  p = frame image

  abbrev mc : Machine State Word
  mc = machine image inputs

  row_matches : (s : ArrayState) (c : ℕ) (r : Row) → row image inputs c (s.cell c) ≡ r
      → Matches (row_step image cap s c r) (may_do p cap s.marks s.bound (action_of r)) (array_acted p mc (array s) c (action_of r))
  row_matches s c Stands e = refl
  row_matches s c (Moves next) e =
      (refl, ap (λ r. record { cell = P.put s.cell c (next_of (s.cell c) r); history = s.history; mark = s.marks; bound = s.bound }) e)
  row_matches s c (Sends m word next) e =
      held_matches _ _ _
      (ap (λ r.
      record {
        cell = P.put s.cell c (next_of (s.cell c) r);
        history = P.put s.history m (s.history m ++ word_in r ∷ []);
        mark = S.raised_at s.marks m 0;
        bound = s.bound;
      }) e)
  row_matches s c (Receives m variable next) e =
      held_matches _ _ _
      (ap (λ r.
      record {
        cell =
            P.put s.cell c (got_in (s.cell c) r (get_or (s.history m) (s.marks m (hops image m)) (Num (pos 0))));
        history = s.history;
        mark = S.raised_at s.marks m (hops image m);
        bound = s.bound;
      }) e)

  -- a link binds in the one where it does in the other: past the last link there is no group
  bind_same : Bindable image → (s : ArrayState) (l : ℕ)
      → may_bind image s.marks s.bound l ≡ array_can p mc cap (array s) (Bind l)
  bind_same none s l =
      let rest : Bool = nat_lt (s.bound l) (length (groups_of image l))
      && nat_le (length (live image s.marks s.bound l) + length (get_or (groups_of image l) (s.bound l) []))
      (link_of image.links l).queues
      in
      let theirs : Bool → ℕ → Bool = λ b n. b && (nat_lt (s.bound l) (length (groups_of image l))
      && nat_le (n + length (get_or (groups_of image l) (s.bound l) [])) (link_of image.links l).queues)
      in
      let counted : theirs (nat_lt l (4 * cells image)) (length (live image s.marks s.bound l))
      ≡ array_can p mc cap (array s) (Bind l) =
      ap (theirs (nat_lt l (4 * cells image))) (sym (live_same image s.marks s.bound l))
      in
      elim (cases_lt l (4 * cells image)) [
        | inl h ↦ sym (ap (λ b. b && rest) (lt-ltb l (4 * cells image) h)) ∙ counted
        | inr h ↦
            let no : nat_lt l (4 * cells image) ≡ false = le-ltb l (4 * cells image) h in
            let none_left : rest ≡ false =
            ap (λ n. nat_lt (s.bound l) n
            && nat_le (length (live image s.marks s.bound l) + length (get_or (groups_of image l) (s.bound l) []))
            (link_of image.links l).queues)
            (ap length (none l h))
            ∙ and_left _ _ (le-ltb (s.bound l) 0 (omega arith))
            in
            none_left ∙ sym (ap (λ b. b && rest) no) ∙ counted
      ]

  step_matches : Bindable image → (s : ArrayState) (a : Actor)
      → Matches (step image inputs cap s a) (array_can p mc cap (array s) a) (array_after p mc (array s) a)
  step_matches none s (Cell c) =
      guard_matches (nat_lt c (cells image)) _ _ _ (row_matches s c (row image inputs c (s.cell c)) refl)
  step_matches none s (Forward m hop) = held_matches _ _ _ refl
  step_matches none s (Bind l) =
      subst (λ b. Matches (step image inputs cap s (Bind l)) b (array_after p mc (array s) (Bind l))) (bind_same none s l)
      (held_matches (may_bind image s.marks s.bound l) _ _ refl)

  pub enabled_same : Bindable image → (s : ArrayState) (a : Actor)
      → is_some (step image inputs cap s a) ≡ array_can p mc cap (array s) a
  enabled_same none s a = told (step image inputs cap s a) _ _ (step_matches none s a)
    where
      told : (o : Option ArrayState) (can : Bool) (next : Array State Word) → Matches o can next → is_some o ≡ can
      told None can next m = sym m
      told (Some t) can next m = sym m.0

  -- ---- runs

  -- The actors are a run of the machines too, to the same last state.
  abbrev pub Follows : List Actor → ArrayState → Array State Word → Type 0
  Follows run last next = IsArrayRun p mc cap next run × (array_end p mc next run ≡ array last)

  one_more : (rest : List Actor) (last : ArrayState)
      → ((t : ArrayState) → after image inputs cap t rest ≡ Some last → Follows rest last (array t))
      → (o : Option ArrayState) (can : Bool) (next : Array State Word) → Matches o can next
      → option_and_then (λ t. after image inputs cap t rest) o ≡ Some last
      → ((can ≡ true) × IsArrayRun p mc cap next rest) × (array_end p mc next rest ≡ array last)
  one_more rest last ih None can next m e = absurd (none-some last e)
  one_more rest last ih (Some t) can next m e =
      let later = ih t e in
      ((m.0, subst (λ x. IsArrayRun p mc cap x rest) (sym m.1) later.0), ap (λ x. array_end p mc x rest) m.1 ∙ later.1)

  pub follows : Bindable image → (s : ArrayState) (run : List Actor) (last : ArrayState)
      → after image inputs cap s run ≡ Some last → Follows run last (array s)
  follows none s [] last e = (tt, ap array (same_Some s last e))
  follows none s (a ∷ rest) last e =
      one_more rest last (λ t. follows none t rest last) (step image inputs cap s a) _ _ (step_matches none s a) e
