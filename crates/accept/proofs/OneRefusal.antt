-- A text has at most one first refusal, and none where it is accepted.
use Rattle.std.proofs.Common.{ℕ, ◌≡◌, Bool, List, [], Option, None, Some, inl, inr, true, false, length, take, slice_get, refl, sym, ap, subst, ◌∙◌}
use Rattle.std.specs.Prelude.{MatchOption, map, ◌∷◌}
use Rattle.std.proofs.lemmas.Bool.{cases_order, cases_Bool}
use Rattle.std.specs.List.{list_any}
use Rattle.cell_lexer.specs.declared.error.LexError.{LexError}
use Rattle.cell_lexer.specs.declared.error.LexError.TheVariants as L
use Rattle.cell_lexer.specs.declared.token.Token.{Token}
use Rattle.cell_lexer.specs.Faults.{FirstFault}
use Rattle.cell_lexer.specs.Tokens.{TokensOf}
use Rattle.cell_parser.specs.Grammar.{Reads}
use Rattle.cell_parser.specs.Lexeme.{lexemes}
use Rattle.cell_parser.specs.Limits.{parts, in_piece, open_in, Over, OverAt, FirstOver}
use Rattle.cell_parser.specs.Refusal.{HasPlace, WrongAt}
use Rattle.cell_parser.specs.declared.error.ParseError.{ParseError}
use Rattle.cell_parser.specs.declared.error.ParseError.TheVariants as P
use Rattle.cell_tree.specs.declared.source.Source.{Source}
use Rattle.cell_types.specs.Code.{ProgramCode}
use Rattle.cell_types.specs.Faults.{faults}
use Rattle.cell_types.specs.Groups.{bound}
use Rattle.cell_types.specs.Resolved.{program_of}
use Rattle.cell_types.specs.declared.error.StaticError.{StaticError}
use Rattle.comm_sequence.specs.Differing.{all_differing}
use Rattle.comm_sequence.specs.Sequences.{Sequences, sequences_of}
use Rattle.crossing_off.specs.Greedy.{left, fronts}
use Rattle.crossing_off.specs.Walk.{IsWalkOver}
use Rattle.labelling.specs.Falls.{IsFall}
use Rattle.refusals.specs.declared.refusal.Refusal.{Refusal}
use Rattle.refusals.specs.declared.refusal.Refusal.TheVariants as R
use Rattle.refusals.specs.declared.walk.WalkLine.{WalkLine}
use Rattle.accept.specs.declared.building.AcceptError.TheVariants as A
use Rattle.accept.specs.FirstRefusal.{IsLong, IsMisspelt, IsOver, IsMisplaced, IsFaulty, IsCostly, HasUnlikeArms, IsStalled, HasSomeLabels, HasFallingLabels, HasTooFewQueues, IsOverBound, Trials, Passed, Try, program_trials, OfSource, of_source, trials, IsFirstOf, FirstRefusal, Accepts}
use Rattle.accept.specs.Labelled.{IsLabelled, AreLabels, has_label, lacks_of, members_of}
use Rattle.accept.specs.bodies.Laws.{Laws}
use Rattle.accept.specs.bodies.Reading.{misspelt, misplaced}
use Rattle.accept.specs.Source.{IsSource}
use Rattle.accept.specs.Told.{static_refusal, walk_lines, fall_refusal, lack_refusal}
use Rattle.accept.proofs.OneFall.{one_fall}
use Rattle.accept.proofs.Trials.{accepted_of}

-- ---- the first token over a limit

-- a token is refused for one limit at most
one_over : (piece braces : ℕ) (t : Token) (e f : ParseError) → Over piece braces t e → Over piece braces t f → e ≡ f
one_over piece braces t (P.LongPiece l) (P.LongPiece m) a b = ap (λ n. P.LongPiece n) (a.0 ∙ sym b.0)
one_over piece braces t (P.Braces l) (P.Braces m) a b = ap (λ n. P.Braces n) (a.0 ∙ sym b.0)
one_over piece braces t (P.LongPiece l) (P.Braces m) a b = let x : true ≡ false = sym (ap parts b.1) ∙ a.1 in cc
one_over piece braces t (P.Braces l) (P.LongPiece m) a b = let x : true ≡ false = sym (ap parts a.1) ∙ b.1 in cc
one_over piece braces t (P.Unexpected l c) f a b = absurd a
one_over piece braces t P.Memory f a b = absurd a
one_over piece braces t e (P.Unexpected l c) a b = absurd b
one_over piece braces t e P.Memory a b = absurd b

-- and so is the token at a place
one_over_at : (ts : List Token) (at : ℕ) (e f : ParseError) → OverAt ts at e → OverAt ts at f → e ≡ f
one_over_at ts at e f a b =
    elim (slice_get ts at) as (λ o. MatchOption o ⊥ (λ u. Over (in_piece (take at ts)) (open_in (take at ts)) u e) → MatchOption o ⊥ (λ u. Over (in_piece (take at ts)) (open_in (take at ts)) u f) → e ≡ f) [
      | None ↦ λ x y. absurd x
      | Some t ↦ λ x y. one_over (in_piece (take at ts)) (open_in (take at ts)) t e f x y
    ] a b

-- the first token over a limit is refused in one way at most
one_first_over : (ts : List Token) (e f : ParseError) → FirstOver ts e → FirstOver ts f → e ≡ f
one_first_over ts e f a b = elim (cases_order a.at b.at) as (λ _. e ≡ f) [
  | inl same ↦ one_over_at ts b.at e f (subst (λ n. OverAt ts n e) same a.over) b.over
  | inr (inl less) ↦ absurd (b.first a.at e less a.over)
  | inr (inr more) ↦ absurd (a.first b.at f more b.over)
]

-- ---- what a trial that applies says

-- The refusal is what the lexer finds wrong.
abbrev pub Misspelling : List ℕ → Refusal → Type 0
Misspelling text r = (e : LexError) × FirstFault text e × (misspelt e ≡ A.Refused r)

-- and so is each one of the trial
pub misspelling : (text : List ℕ) (r : Refusal) → IsMisspelt text r → Misspelling text r
misspelling text (R.BadByte at) h = (L.BadByte at, h, refl)
misspelling text (R.BigNumber line) h = (L.BigNumber line, h, refl)
misspelling text (R.LongName line) h = (L.LongName line, h, refl)
misspelling text _ h = absurd h

-- The refusal is that of the first token over a limit.
abbrev pub Excess : List ℕ → Refusal → Type 0
Excess text r = (e : ParseError) × ((ts : List Token) × TokensOf text ts × FirstOver ts e) × (misplaced e ≡ A.Refused r)

-- and so is each one of the trial
pub excess : (text : List ℕ) (r : Refusal) → IsOver text r → Excess text r
excess text (R.LongPiece line) h = (P.LongPiece line, h, refl)
excess text (R.Braces line) h = (P.Braces line, h, refl)
excess text _ h = absurd h

-- The refusal is that of the first token that can't stand where it stands.
abbrev pub Misplacing : List ℕ → Refusal → Type 0
Misplacing text r = (line : ℕ) × (column : ℕ) × ((ts : List Token) × TokensOf text ts × WrongAt text ts line column) × (r ≡ R.Unexpected line column)

-- and so is each one of the trial
pub misplacing : (text : List ℕ) (r : Refusal) → IsMisplaced text r → Misplacing text r
misplacing text (R.Unexpected line column) h = (line, column, h, refl)
misplacing text _ h = absurd h

-- The refusal is that of the first `if` whose arms differ.
abbrev pub Unlikeness : ProgramCode → Refusal → Type 0
Unlikeness p r = (line : ℕ) × HasUnlikeArms p (R.ArmsDiffer line) × (r ≡ R.ArmsDiffer line)

-- and so is each one of the trial
pub unlikeness : (p : ProgramCode) (r : Refusal) → HasUnlikeArms p r → Unlikeness p r
unlikeness p (R.ArmsDiffer line) h = (line, h, refl)
unlikeness p _ h = absurd h

-- The refusal is that of a program that crossing-off doesn't empty.
abbrev pub Stalling : ProgramCode → Refusal → Type 0
Stalling p r = (n : ℕ) × (walk : List WalkLine) × IsStalled p (R.Crossing n walk) × (r ≡ R.Crossing n walk)

-- and so is each one of the trial
pub stalling : (p : ProgramCode) (r : Refusal) → IsStalled p r → Stalling p r
stalling p (R.Crossing n walk) h = (n, walk, h, refl)
stalling p _ h = absurd h

-- The refusal is that of a program of which only some messages have labels.
abbrev pub Lacking : ProgramCode → Refusal → Type 0
Lacking p r = (name : List ℕ) × HasSomeLabels p (R.SomeLabels name) × (r ≡ R.SomeLabels name)

-- and so is each one of the trial
pub lacking : (p : ProgramCode) (r : Refusal) → HasSomeLabels p r → Lacking p r
lacking p (R.SomeLabels name) h = (name, h, refl)
lacking p _ h = absurd h

-- ---- each trial gives one refusal

-- The trial gives one refusal at most.
abbrev IsUnique : {A : Type 0} → (A → Refusal → Type 0) → Type 0
IsUnique {A} Applies = (a : A) (r q : Refusal) → Applies a r → Applies a q → r ≡ q

-- equal errors hold equal refusals
same_refusal : (r q : Refusal) → A.Refused r ≡ A.Refused q → r ≡ q
same_refusal r q e = cc

-- Each of the trials gives one refusal at most.
abbrev AreUnique : {A : Type 0} → Trials A → Type 0
AreUnique Passed = Unit {0}
AreUnique (Try Applies rest) = IsUnique Applies × AreUnique rest

-- then their first refusal is one at most
first_unique : {A : Type 0} (ts : Trials A) → AreUnique ts → IsUnique (IsFirstOf ts)
first_unique Passed one a r q h k = absurd h
first_unique (Try Applies rest) one a r q (inl h) (inl k) = one.0 a r q h k
first_unique (Try Applies rest) one a r q (inl h) (inr k) = absurd (k.0 r h)
first_unique (Try Applies rest) one a r q (inr h) (inl k) = absurd (h.0 q k)
first_unique (Try Applies rest) one a r q (inr h) (inr k) = first_unique rest one.1 a r q h.1 k.1

-- a text is too long in one way
long_unique : IsUnique IsLong
long_unique text r q h k = h.1 ∙ sym k.1

-- cells cost too much in one way
costly_unique : IsUnique IsCostly
costly_unique p r q h k = h.1 ∙ sym k.1

-- a test isn't both
true_false : ◌≡◌ {A = Bool} true false → ⊥
true_false e = cc

-- nothing is no value
pub none_some : {X : Type 0} (x : X) → ◌≡◌ {A = Option X} None (Some x) → ⊥
none_some x e = cc

-- what is there is one value
same_some : {A : Type 0} (x y : A) → Some x ≡ Some y → x ≡ y
same_some x y e = cc

-- the first fault of a source is told in one way
same_fault : (s : Source) (e f : StaticError) (r q : Refusal) → slice_get (faults s) 0 ≡ Some e → slice_get (faults s) 0 ≡ Some f
    → static_refusal s.cols e ≡ Some r → static_refusal s.cols f ≡ Some q → r ≡ q
same_fault s e f r q x y told told_f =
    let same : e ≡ f = same_some e f (sym x ∙ y) in
    same_some r q (sym told ∙ ap (static_refusal s.cols) same ∙ told_f)

-- the first `if` of a program has one line
same_if : (p : ProgramCode) (c d l m : ℕ) → slice_get (all_differing p) 0 ≡ Some (c, l) → slice_get (all_differing p) 0 ≡ Some (d, m)
    → l ≡ m
same_if p c d l m x y = let same : ◌≡◌ {A = ℕ × ℕ} (c, l) (d, m) = same_some (c, l) (d, m) (sym x ∙ y) in ap (λ (at : ℕ × ℕ). at.1) same

-- arms differ first on one line
unlike_unique : IsUnique HasUnlikeArms
unlike_unique p r q h k =
    let (l, (c, at), e) = unlikeness p r h in
    let (m, (d, there), f) = unlikeness p q k in
    e ∙ ap (λ n. R.ArmsDiffer n) (same_if p c d l m at there) ∙ sym f

-- the first message without a label is one
lacking_unique : IsUnique HasSomeLabels
lacking_unique p r q h k =
    let (a, (_, first), e) = lacking p r h in
    let (b, (_, other), f) = lacking p q k in
    e ∙ ap (λ n. R.SomeLabels n) (same_some a b (sym first ∙ other)) ∙ sym f

-- what is there for each of two lists is one list
same_somes : {A : Type 0} (xs ys : List A) → map (λ x. Some x) xs ≡ map (λ y. Some y) ys → xs ≡ ys
same_somes [] [] e = refl
same_somes [] (y ∷ ys) e = absurd (cc)
same_somes (x ∷ xs) [] e = absurd (cc)
same_somes (x ∷ xs) (y ∷ ys) e =
    let first : x ≡ y = cc in
    let rest : map (λ x. Some x) xs ≡ map (λ y. Some y) ys = cc in
    let tail : xs ≡ ys = same_somes xs ys rest in
    cc

-- a token, or the end of the text, has one line and one column
place_unique : (text : List ℕ) (o : Option Token) (l c m d : ℕ) → HasPlace text o l c → HasPlace text o m d → R.Unexpected l c ≡ R.Unexpected m d
place_unique text (Some t) l c m d h k = λ i. R.Unexpected ((h.0 ∙ sym k.0) i) ((h.1 ∙ sym k.1) i)
place_unique text None l c m d h k = λ i. R.Unexpected ((h.0 ∙ sym k.0) i) ((h.1 ∙ sym k.1) i)

module _ (laws : Laws) where
  -- a text is misspelt in one way
  misspelt_unique : IsUnique IsMisspelt
  misspelt_unique text r q h k =
      let a = misspelling text r h in
      let b = misspelling text q k in
      same_refusal r q (sym a.2 ∙ ap misspelt (laws.faults text a.0 b.0 a.1 b.1) ∙ b.2)

  -- a text breaks a limit first in one way
  over_unique : IsUnique IsOver
  over_unique text r q h k =
      let a = excess text r h in
      let b = excess text q k in
      let ts : a.1.0 ≡ b.1.0 = laws.tokens text a.1.0 b.1.0 a.1.1 b.1.1 in
      same_refusal r q (sym a.2 ∙ ap misplaced (one_first_over b.1.0 a.0 b.0 (subst (λ us. FirstOver us a.0) ts a.1.2) b.1.2) ∙ b.2)

  -- tokens are first wrong at one line and column
  wrong_unique : (text : List ℕ) (ts : List Token) (l c m d : ℕ) → WrongAt text ts l c → WrongAt text ts m d → R.Unexpected l c ≡ R.Unexpected m d
  wrong_unique text ts l c m d h k =
      let at : h.at ≡ k.at = laws.wrong (lexemes text ts) h.at k.at h.wrong k.wrong in
      place_unique text (slice_get ts k.at) l c m d (subst (λ n. HasPlace text (slice_get ts n) l c) at h.stands) k.stands

  -- a text is first wrong at one line and column
  misplaced_unique : IsUnique IsMisplaced
  misplaced_unique text r q h k =
      let (l, c, x, e) = misplacing text r h in
      let (m, d, y, f) = misplacing text q k in
      let ts : x.0 ≡ y.0 = laws.tokens text x.0 y.0 x.1 y.1 in
      e ∙ wrong_unique text y.0 l c m d (subst (λ us. WrongAt text us l c) ts x.2) y.2 ∙ sym f

  -- a text is one source at most
  pub one_source : (text : List ℕ) (s t : Source) → IsSource text s → IsSource text t → s ≡ t
  one_source text s t h k =
      let ts : h.tokens ≡ k.tokens = laws.tokens text h.tokens k.tokens h.lexed k.lexed in
      laws.program (lexemes text k.tokens) s t (subst (λ us. Reads (lexemes text us) s) ts h.read) k.read

  -- a source has one first fault
  faulty_unique : IsUnique IsFaulty
  faulty_unique text r q (s, is, e, first, told) (t, it, f, first_f, told_f) =
      let moved = subst (λ u. (slice_get (faults u) 0 ≡ Some e) × (static_refusal u.cols e ≡ Some r)) (one_source text s t is it) (first, told) in
      same_fault t e f r q moved.0 first_f moved.1 told_f

  -- a program is stuck in one way
  stalled_unique : IsUnique IsStalled
  stalled_unique p r q h k =
      let (m, v, (a, ha, la, wa, da, iwa, ea), er) = stalling p r h in
      let (n, w, (b, hb, lb, wb, db, iwb, eb), eq) = stalling p q k in
      let s : Sequences = sequences_of p in
      let order : a ≡ b = laws.order s p.buffer a b ha.rule hb.rule in
      let lefts : m ≡ n = la ∙ ap (left s) order ∙ sym lb in
      let walks = laws.walk s (fronts s b) wa wb da db (subst (λ c. IsWalkOver s (fronts s c) wa da) order iwa) iwb in
      let lines : v ≡ w = ea ∙ (λ i. walk_lines p (walks.0 i) (walks.1 i)) ∙ sym eb in
      er ∙ (λ i. R.Crossing (lefts i) (lines i)) ∙ sym eq

  -- a program has one list of labels at most
  pub one_labelling : (p : ProgramCode) (a b : List ℕ) → AreLabels p a → AreLabels p b → a ≡ b
  one_labelling p a b h k = elim (cases_Bool (list_any has_label p.messages)) as (λ _. a ≡ b) [
    | inl some ↦ same_somes a b (sym (h.given some) ∙ k.given some)
    | inr none ↦
        let never = λ (some : IsLabelled p). true_false (sym some ∙ none) in
        laws.proposal (sequences_of p).lists (length p.messages) a b (h.proposed never) (k.proposed never)
  ]

  -- labels fall first in one way
  falling_unique : IsUnique HasFallingLabels
  falling_unique p r q (a, ha, f, is, e) (b, hb, g, it, k) =
      let same : a ≡ b = one_labelling p a b ha hb in
      let falls : f ≡ g = one_fall (sequences_of p).lists b f g (subst (λ ls. IsFall (sequences_of p).lists ls f) same is) it in
      e ∙ ap (λ ls. fall_refusal p ls f) same ∙ ap (fall_refusal p b) falls ∙ sym k

  -- queues are first too few in one way
  few_unique : IsUnique HasTooFewQueues
  few_unique p r q (a, ha, f, is, e) (b, hb, g, it, k) =
      let same : a ≡ b = one_labelling p a b ha hb in
      let lack : f ≡ g = same_some f g (sym is ∙ ap (λ ls. slice_get (lacks_of p ls) 0) same ∙ it) in
      e ∙ ap (λ ls. lack_refusal p f (members_of p ls f.link f.label)) same
      ∙ ap (λ l. lack_refusal p l (members_of p b l.link l.label)) lack ∙ sym k

  -- the bound is one
  bound_unique : IsUnique IsOverBound
  bound_unique p r q (a, ha, over, e) (b, hb, above, k) =
      e ∙ ap (λ ls. R.Bound (bound p ls)) (one_labelling p a b ha hb) ∙ sym k

  -- a text has one source, so it has one refusal of each trial of programs
  source_unique : (ts : Trials ProgramCode) → AreUnique ts → AreUnique (of_source ts)
  source_unique Passed one = tt
  source_unique (Try Applies rest) one = (unique, source_unique rest one.1)
    where
      unique : IsUnique (OfSource Applies)
      unique text r q (s, is, h) (t, it, k) =
          one.0 (program_of t) r q (subst (λ u. Applies (program_of u) r) (one_source text s t is it) h) k

  -- a text has one first refusal at most
  pub one_refusal : (text : List ℕ) (r q : Refusal) → FirstRefusal text r → FirstRefusal text q → r ≡ q
  one_refusal =
      let of_programs : AreUnique program_trials =
      (costly_unique, (unlike_unique, (stalled_unique, (lacking_unique, (falling_unique, (few_unique, (bound_unique, tt))))))) in
      first_unique trials
      (long_unique, (misspelt_unique, (over_unique, (misplaced_unique, (faulty_unique, source_unique program_trials of_programs)))))

-- a text that is accepted has no refusal
pub no_refusal : (text : List ℕ) (r : Refusal) → Accepts text → FirstRefusal text r → ⊥
no_refusal text r = accepted_of trials text r
