-- Every text has one answer of needs, and what is refused there is the first refusal of the text.
use Rattle.std.proofs.Common.{◌≡◌, ℕ, ◌⊎◌, ◌↔◌, List, Option, None, Some, inl, inr, refl, sym, ap, subst, ◌∙◌, ⊎_elim}
use Rattle.cell_tree.specs.declared.source.Source.{Source}
use Rattle.cell_types.specs.Code.{ProgramCode}
use Rattle.cell_types.specs.Resolved.{program_of}
use Rattle.cell_types.specs.declared.error.RouteFault.TheVariants as F
use Rattle.cell_types.specs.declared.error.StaticError.{StaticError}
use Rattle.cell_types.specs.declared.error.StaticError.TheVariants as S
use Rattle.refusals.specs.declared.refusal.Refusal.{Refusal}
use Rattle.refusals.specs.declared.refusal.Refusal.TheVariants as R
use Rattle.accept.specs.FirstRefusal.{IsLong, IsMisspelt, IsOver, IsMisplaced, IsFaulty, IsCostly, HasUnlikeArms, IsStalled, HasSomeLabels, HasFallingLabels, HasTooFewQueues, Trials, Passed, Try, cell_trials, naming_trials, room_trials, need_trials, of_source, then_, IsFirstOf, PassesAll, FirstRefusal, Accepts}
use Rattle.accept.specs.Labelled.{AreLabels}
use Rattle.accept.specs.Needs.{AreNeeds, IsForRoom, IsNeedRefused, IsTooFew, lines_of}
use Rattle.accept.specs.Source.{IsSource}
use Rattle.accept.specs.Told.{static_refusal}
use Rattle.accept.specs.bodies.Laws.{Existence, Laws}
use Rattle.accept.specs.declared.needing.NeedLine.{NeedLine}
use Rattle.accept.proofs.Needed.{some_labels, some_source}
use Rattle.accept.proofs.OneRefusal.{one_labelling, one_refusal, one_source}
use Rattle.accept.proofs.Trials.{accepted_of, first_cases, first_then, passes_first, then_first}

-- ---- what is not refused for room

-- What the trial refuses is not for room.
abbrev IsEarly : {A : Type 0} → (A → Refusal → Type 0) → Type 0
IsEarly {A} Applies = (a : A) (r : Refusal) → Applies a r → IsForRoom r → ⊥

-- The same of each of some trials.
abbrev AreEarly : {A : Type 0} → Trials A → Type 0
AreEarly Passed = Unit {0}
AreEarly (Try Applies rest) = IsEarly Applies × AreEarly rest

-- then the first of them isn't for room
early_first : {A : Type 0} (ts : Trials A) → AreEarly ts → IsEarly (IsFirstOf ts)
early_first Passed early a r h room = h
early_first (Try Applies rest) early a r (inl h) room = early.0 a r h room
early_first (Try Applies rest) early a r (inr h) room = early_first rest early.1 a r h.1 room

-- and those of programs as those of texts
early_source : (ts : Trials ProgramCode) → AreEarly ts → AreEarly (of_source ts)
early_source Passed early = tt
early_source (Try Applies rest) early = (λ text r h room. early.0 (program_of h.0) r h.2 room, early_source rest early.1)

long_early : IsEarly IsLong
long_early text r h room = subst IsForRoom h.1 room

misspelt_early : IsEarly IsMisspelt
misspelt_early text (R.TooFew link label need has group) h room = h
misspelt_early text (R.Bound bound) h room = h
misspelt_early text _ h room = room

over_early : IsEarly IsOver
over_early text (R.TooFew link label need has group) h room = h
over_early text (R.Bound bound) h room = h
over_early text _ h room = room

misplaced_early : IsEarly IsMisplaced
misplaced_early text (R.TooFew link label need has group) h room = h
misplaced_early text (R.Bound bound) h room = h
misplaced_early text _ h room = room

-- A refusal, if there is one, is for room.
abbrev MayBeForRoom : Option Refusal → Type 0
MayBeForRoom None = ⊥
MayBeForRoom (Some r) = IsForRoom r

told_early : (cols : ℕ) (e : StaticError) → MayBeForRoom (static_refusal cols e) → ⊥
told_early cols (S.Limit limit line) room = room
told_early cols (S.Twice what line) room = room
told_early cols (S.OutsideGrid line) room = room
told_early cols (S.SelfMessage name line) room = room
told_early cols (S.Unknown name line) room = room
told_early cols (S.WrongEnd name cell sends line) room = room
told_early cols (S.WrongKind name found line) room = room
told_early cols (S.Route name F.LeavesGrid line) room = room
told_early cols (S.Route name F.WrongEnd line) room = room
told_early cols (S.Route name (F.LinkTwice link) line) room = room
told_early cols S.Memory room = room

faulty_early : IsEarly IsFaulty
faulty_early text r (s, is, e, first, told) room = told_early s.cols e (subst MayBeForRoom (sym told) room)

costly_early : IsEarly IsCostly
costly_early p r h room = subst IsForRoom h.1 room

unlike_early : IsEarly HasUnlikeArms
unlike_early p (R.TooFew link label need has group) h room = h
unlike_early p (R.Bound bound) h room = h
unlike_early p _ h room = room

stalled_early : IsEarly IsStalled
stalled_early p (R.TooFew link label need has group) h room = h
stalled_early p (R.Bound bound) h room = h
stalled_early p _ h room = room

lacking_early : IsEarly HasSomeLabels
lacking_early p (R.TooFew link label need has group) h room = h
lacking_early p (R.Bound bound) h room = h
lacking_early p _ h room = room

falling_early : IsEarly HasFallingLabels
falling_early p r (labels, are, fall, is, same) room = subst IsForRoom same room

-- what needs refuses isn't for room
need_early : (text : List ℕ) (r : Refusal) → IsNeedRefused text r → IsForRoom r → ⊥
need_early text r h room =
    let cells : AreEarly (of_source (then_ cell_trials naming_trials)) =
    early_source (then_ cell_trials naming_trials)
    (costly_early, (unlike_early, (stalled_early, (lacking_early, (falling_early, tt))))) in
    early_first need_trials (long_early, (misspelt_early, (over_early, (misplaced_early, (faulty_early, cells))))) text r h room

-- ---- what is refused for room

-- too few queues, or too large a bound
few_for_room : (p : ProgramCode) (r : Refusal) → HasTooFewQueues p r → IsTooFew r
few_for_room p r (labels, are, lack, first, same) = subst IsTooFew (sym same) tt

-- what lacks queues is for room
few_is_room : (r : Refusal) → IsTooFew r → IsForRoom r
few_is_room (R.TooFew link label need has group) few = tt
few_is_room _ few = absurd few

room_for_room : (text : List ℕ) (r : Refusal) → IsFirstOf (of_source room_trials) text r → IsForRoom r
room_for_room text r (inl (s, is, h)) = few_is_room r (few_for_room (program_of s) r h)
room_for_room text r (inr (_, inl (s, is, (labels, are, over, same)))) = subst IsForRoom (sym same) tt
room_for_room text r (inr (_, inr (_, none))) = absurd none

-- the first refusal of a text is that of needs, or one for room
split : (text : List ℕ) (r : Refusal) → FirstRefusal text r
    → IsNeedRefused text r ⊎ (PassesAll need_trials text × IsFirstOf (of_source room_trials) text r)
split text r h = first_cases need_trials (of_source room_trials) text r h

-- what needs refuses is the first refusal of the text
pub refused_first : (text : List ℕ) (r : Refusal) → IsNeedRefused text r → FirstRefusal text r
refused_first text r h = first_then need_trials (of_source room_trials) text r h

-- so it is just the first refusal that isn't for room
pub but_for_room : (text : List ℕ) (r : Refusal) → (IsNeedRefused text r ↔ (FirstRefusal text r × (IsForRoom r → ⊥)))
but_for_room text r = (
  λ h. (refused_first text r h, need_early text r h),
  λ first. ⊎_elim (λ h. h) (λ others. absurd (first.1 (room_for_room text r others.1))) (split text r first.0),
)

-- ---- too few queues

module _ (laws : Laws) (text : List ℕ) (s : Source) (is : IsSource text s) (passes : PassesAll need_trials text) where
  -- where nothing else is refused, a program with too few queues is first refused for them
  pub few_first : (r : Refusal) → HasTooFewQueues (program_of s) r → FirstRefusal text r × IsTooFew r
  few_first r h =
      (then_first need_trials (of_source room_trials) text r passes (inl (s, is, h)), few_for_room (program_of s) r h)

  -- and one that is first refused for them has too few
  pub few_found : (r : Refusal) → FirstRefusal text r → IsTooFew r → HasTooFewQueues (program_of s) r
  few_found r h few =
      ⊎_elim
      (λ early. absurd (need_early text r early (few_is_room r few)))
      (λ others. found others.1)
      (split text r h)
    where
      found : IsFirstOf (of_source room_trials) text r → HasTooFewQueues (program_of s) r
      found (inl (t, it, h)) = subst (λ u. HasTooFewQueues (program_of u) r) (one_source laws text t s it is) h
      found (inr (_, inl (t, it, (labels, are, over, same)))) = absurd (subst IsTooFew same few)
      found (inr (_, inr (_, none))) = absurd none

-- ---- one answer

-- lines are one list
pub one_lines : Laws → (text : List ℕ) (a b : List NeedLine) → AreNeeds text a → AreNeeds text b → a ≡ b
one_lines laws text a b h k =
    let source : h.source ≡ k.source = one_source laws text h.source k.source h.is k.is in
    let moved : AreLabels (program_of k.source) h.labels = subst (λ s. AreLabels (program_of s) h.labels) source h.labels_are in
    let labels : h.labels ≡ k.labels = one_labelling laws (program_of k.source) h.labels k.labels moved k.labels_are in
    h.lines_are ∙ ap (λ s. lines_of (program_of s) h.labels) source ∙ ap (lines_of (program_of k.source)) labels ∙ sym k.lines_are

-- a refusal is one
pub one_need_refusal : Laws → (text : List ℕ) (r q : Refusal) → IsNeedRefused text r → IsNeedRefused text q → r ≡ q
one_need_refusal laws text r q h k = one_refusal laws text r q (refused_first text r h) (refused_first text q k)

-- and there are not both
pub lines_or_refusal : (text : List ℕ) (lines : List NeedLine) (r : Refusal) → AreNeeds text lines → IsNeedRefused text r → ⊥
lines_or_refusal text lines r h k = accepted_of need_trials text r h.passes k

-- ---- some answer

module _ (laws : Laws) (exist : Existence) (tried : (text : List ℕ) → Accepts text ⊎ ((r : Refusal) × FirstRefusal text r))
    (text : List ℕ) where
  -- a text without a refusal but for room has lines
  some_lines : PassesAll need_trials text → (lines : List NeedLine) × AreNeeds text lines
  some_lines passes =
      let source = some_source exist text passes in
      let labels = some_labels laws exist text passes source.0 source.1 in (
        lines_of (program_of source.0) labels.0,
        record {
          passes = passes;
          source = source.0;
          is = source.1;
          labels = labels.0;
          labels_are = labels.1;
          lines_are = refl;
        },
      )

  -- and any other one a refusal
  pub some_answer : ((lines : List NeedLine) × AreNeeds text lines) ⊎ ((r : Refusal) × IsNeedRefused text r)
  some_answer =
      ⊎_elim
      (λ accepts. inl (some_lines (passes_first need_trials (of_source room_trials) text accepts)))
      (λ refused.
      ⊎_elim (λ early. inr (refused.0, early)) (λ others. inl (some_lines others.0)) (split text refused.0 refused.1))
      (tried text)
