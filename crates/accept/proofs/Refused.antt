-- The first refusal of a text, and what there is of a text that has none.
use Rattle.std.proofs.Common.{ℕ, ◌≡◌, ◌<◌, ◌≤◌, ◌⊎◌, List, [], Some, inl, inr, length, slice_get, refl, sym, ap, subst, ◌∙◌, Result, Ok, Err, arith}
use Rattle.std.specs.Prelude.{IfErr, IfOk}
use Rattle.std.specs.Result.{IsErrAnd}
use Rattle.sys_base.specs.declared.limits.TheConstants.{SOURCE_BYTES}
use Rattle.cell_lexer.specs.declared.error.LexError.{LexError}
use Rattle.cell_lexer.specs.declared.error.LexError.TheVariants as L
use Rattle.cell_lexer.specs.declared.token.Token.{Token}
use Rattle.cell_lexer.specs.Faults.{FirstFault}
use Rattle.cell_lexer.specs.Tokens.{TokensOf}
use Rattle.cell_parser.specs.FirstWrong.{FirstWrong}
use Rattle.cell_parser.specs.Lexeme.{lexemes}
use Rattle.cell_parser.specs.Limits.{KeepLimits, OverAt}
use Rattle.cell_parser.specs.Refusal as C
use Rattle.cell_parser.specs.declared.error.ParseError.{ParseError}
use Rattle.cell_parser.specs.declared.error.ParseError.TheVariants as P
use Rattle.cell_tree.specs.declared.source.Source.{Source}
use Rattle.cell_types.specs.Code.{ProgramCode}
use Rattle.cell_types.specs.Faults.{faults}
use Rattle.cell_types.specs.Resolved.{program_of}
use Rattle.cell_types.specs.Typed.{Contents, plain}
use Rattle.cell_code.specs.declared.image.Image.{Image}
use Rattle.comm_sequence.specs.declared.comm.Comm.{Comm}
use Rattle.program_image.specs.ImageOf.{image_of}
use Rattle.refusals.specs.declared.refusal.Refusal.{Refusal}
use Rattle.refusals.specs.declared.refusal.Refusal.TheVariants as R
use Rattle.accept.specs.declared.building.AcceptError.{AcceptError}
use Rattle.accept.specs.declared.building.Built.{Built}
use Rattle.accept.specs.declared.building.AcceptError.TheVariants as A
use Rattle.accept.specs.Built.{IsBuilt, IsJudged, IsRefused}
use Rattle.accept.specs.FirstRefusal.{IsLong, IsMisspelt, IsOver, IsMisplaced, IsFaulty, Trials, Passed, Try, then_, text_trials, program_trials, OfSource, of_source, IsFirstOf, PassesAll}
use Rattle.accept.specs.bodies.Laws.{Laws}
use Rattle.accept.specs.bodies.Reading.{misspelt, misplaced}
use Rattle.accept.specs.Source.{IsSource}
use Rattle.accept.specs.bodies.Answers.{IsFaultTold, IsFound, IsProgramOf, IsUnread}
use Rattle.accept.proofs.Trials.{first_then, then_first, then_passes}
use Rattle.accept.proofs.OneRefusal.{misspelling, excess, misplacing, none_some, one_source}

-- the trial never applies
abbrev Never : {A : Type 0} → (A → Refusal → Type 0) → A → Type 0
Never Applies a = (q : Refusal) → Applies a q → ⊥

-- a text of too many bytes is refused first
pub long_refused : (text : List ℕ) → SOURCE_BYTES < length text → IsFirstOf text_trials text R.LongSource
long_refused text l = inl (l, refl)

module _ (text : List ℕ) (short : length text ≤ SOURCE_BYTES) where
  -- a text within the limit isn't too long
  not_long : Never IsLong text
  not_long q h = absurd (omega (arith, h.0))

  -- what the lexer finds wrong is refused first
  pub misspelt_refused : (e : LexError) → FirstFault text e ⊎ (e ≡ L.Memory) → IsUnread text (misspelt e)
  misspelt_refused (L.BadByte at) (inl f) = inr (not_long, inl f)
  misspelt_refused (L.BigNumber line) (inl f) = inr (not_long, inl f)
  misspelt_refused (L.LongName line) (inl f) = inr (not_long, inl f)
  misspelt_refused (L.BadByte at) (inr e) = absurd (cc)
  misspelt_refused (L.BigNumber line) (inr e) = absurd (cc)
  misspelt_refused (L.LongName line) (inr e) = absurd (cc)
  misspelt_refused L.Memory h = tt

  module _ (apart : (text : List ℕ) (ts : List Token) (e : LexError) → TokensOf text ts → FirstFault text e → ⊥)
      (one : (text : List ℕ) (ts us : List Token) → TokensOf text ts → TokensOf text us → ts ≡ us) (ts : List Token) (lexed : TokensOf text ts) where
    -- a text with tokens isn't misspelt
    not_misspelt : Never IsMisspelt text
    not_misspelt q h = let m = misspelling text q h in apart text ts m.0 lexed m.1

    -- a text whose tokens keep the limits breaks none
    not_over : KeepLimits ts → Never IsOver text
    not_over kept q h =
        let (e, (us, is, over), same) = excess text q h in
        kept over.at e (subst (λ vs. OverAt vs over.at e) (one text us ts is lexed) over.over)

    -- what the parser finds wrong is refused first
    pub misplaced_refused : (e : ParseError) → C.IsRefused text ts e → IsUnread text (misplaced e)
    misplaced_refused (P.LongPiece line) h = inr (not_long, inr (not_misspelt, inl (ts, lexed, h)))
    misplaced_refused (P.Braces line) h = inr (not_long, inr (not_misspelt, inl (ts, lexed, h)))
    misplaced_refused (P.Unexpected line column) h =
        inr (not_long, inr (not_misspelt, inr (not_over h.kept, inl (ts, lexed, h))))
    misplaced_refused P.Memory h = tt

  module _ (laws : Laws) (s : Source) (is : IsSource text s) where
    -- a text that is a source has no wrong token
    not_misplaced : Never IsMisplaced text
    not_misplaced q h =
        let (line, column, (us, lexed, wrong), same) = misplacing text q h in
        laws.none_wrong (lexemes text is.tokens) s wrong.at is.read
        (subst (λ vs. FirstWrong (lexemes text vs) wrong.at) (laws.tokens text us is.tokens lexed is.lexed) wrong.wrong)

    -- and isn't misspelt
    never_misspelt : Never IsMisspelt text
    never_misspelt = not_misspelt laws.apart laws.tokens is.tokens is.lexed

    -- and breaks no limit
    never_over : Never IsOver text
    never_over = not_over laws.apart laws.tokens is.tokens is.lexed is.kept

    -- the first fault is refused first
    pub fault_refused : (e : AcceptError) → IsFaultTold s e → IsUnread text e
    fault_refused (A.Refused r) (e, first, told) =
        inr (not_long, inr (never_misspelt, inr (never_over, inr (not_misplaced, inl (s, is, e, first, told)))))
    fault_refused A.Memory h = tt

    module _ (none : faults s ≡ []) where
      -- a source without faults has no first one
      not_faulty : Never IsFaulty text
      not_faulty q (t, it, e, first, told) =
          let moved = subst (λ u. slice_get (faults u) 0 ≡ Some e) (one_source laws text t s it is) first in
          none_some e (subst (λ fs. slice_get fs 0 ≡ Some e) none moved)

      -- what never applies to the program never applies to the text
      never_of : (Applies : ProgramCode → Refusal → Type 0) → Never Applies (program_of s) → Never (OfSource Applies) text
      never_of Applies never q (t, it, h) = never q (subst (λ u. Applies (program_of u) q) (one_source laws text t s it is) h)

      -- the first of some trials of the program is that of the text
      first_of : (ts : Trials ProgramCode) (r : Refusal) → IsFirstOf ts (program_of s) r → IsFirstOf (of_source ts) text r
      first_of Passed r h = absurd h
      first_of (Try Applies rest) r (inl h) = inl (s, is, h)
      first_of (Try Applies rest) r (inr h) = inr (never_of Applies h.0, first_of rest r h.1)

      -- and if none applies to the program, none does to the text
      passes_of : (ts : Trials ProgramCode) → PassesAll ts (program_of s) → PassesAll (of_source ts) text
      passes_of Passed h = tt
      passes_of (Try Applies rest) h = (never_of Applies h.0, passes_of rest h.1)

      -- neither the text nor its source is refused
      text_passes : PassesAll text_trials text
      text_passes = (not_long, (never_misspelt, (never_over, (not_misplaced, (not_faulty, tt)))))

      -- the first refusal of its program is that of the text
      pub first_in : (ts : Trials ProgramCode) (r : Refusal) → IsFirstOf ts (program_of s) r
          → IsFirstOf (then_ text_trials (of_source ts)) text r
      first_in ts r h = then_first text_trials (of_source ts) text r text_passes (first_of ts r h)

      -- and where its program has none, the text has none
      pub passes_in : (ts : Trials ProgramCode) → PassesAll ts (program_of s) → PassesAll (then_ text_trials (of_source ts)) text
      passes_in ts passes = then_passes text_trials (of_source ts) text text_passes (passes_of ts passes)

-- what a source is resolved to is the program of the text, or the refusal of its first fault
module _ (laws : Laws) (text : List ℕ) (short : length text ≤ SOURCE_BYTES) (s : Source) (is : IsSource text s) where
  pub program_read : (r : Result Contents AcceptError) → IfOk r (λ p. (faults s ≡ []) × (plain p ≡ program_of s))
      → IfOk r (λ p. IsProgramOf text (plain p))
  program_read (Ok p) h = record { short = short; source = s; is = is; faultless = h.0; program_is = h.1 }
  program_read (Err e) h = tt

  pub fault_read : (r : Result Contents AcceptError) → IfErr r (IsFaultTold s) → IfErr r (IsUnread text)
  fault_read (Ok p) h = tt
  fault_read (Err e) h = fault_refused text short laws s is e h

-- what is refused of a text and of its source is its first refusal
pub unread_refused : (text : List ℕ) (e : AcceptError) → IsUnread text e → IsRefused text e
unread_refused text (A.Refused r) h = first_then text_trials (of_source program_trials) text r h
unread_refused text A.Memory h = tt

-- A program, and the text whose source it is.
module _ (laws : Laws) (text : List ℕ) (p : ProgramCode) (is : IsProgramOf text p) where
  -- the first refusal of the program is that of the text
  pub first_of_text : (ts : Trials ProgramCode) (r : Refusal) → IsFirstOf ts p r → IsFirstOf (then_ text_trials (of_source ts)) text r
  first_of_text ts r h =
      first_in text is.short laws is.source is.is is.faultless ts r (subst (λ q. IsFirstOf ts q r) is.program_is h)

  -- and where the program has none, the text has none
  pub passes_of_text : (ts : Trials ProgramCode) → PassesAll ts p → PassesAll (then_ text_trials (of_source ts)) text
  passes_of_text ts passes =
      passes_in text is.short laws is.source is.is is.faultless ts (subst (PassesAll ts) is.program_is passes)

  -- an error of the program is one of the text
  pub program_refused : (e : AcceptError) → IsFound (IsFirstOf program_trials) p e → IsRefused text e
  program_refused (A.Refused r) h = first_of_text program_trials r h
  program_refused A.Memory h = tt

-- what is made of the program of a text is made of the text
module _ (laws : Laws) (text : List ℕ) (program : Contents) (is : IsProgramOf text (plain program)) where
  pub is_built : (b : Built) (order : List Comm) (labels : List ℕ) (steps : ℕ)
      → PassesAll program_trials (plain program) → IsJudged (plain program) order labels steps
      → b.program ≡ program → b.order ≡ order → b.image ≡ image_of (plain program) labels → IsBuilt text b
  is_built b order labels steps passes judged keeps orders images =
      let at : plain b.program ≡ plain program = ap plain keeps in
      let bounded : steps ≡ b.image.bound = judged.bound_is ∙ sym (ap (λ (i : Image). i.bound) images) in
      let counted : IsJudged (plain program) order labels b.image.bound =
      subst (λ n. IsJudged (plain program) order labels n) bounded judged in
      let ordered : IsJudged (plain program) b.order labels b.image.bound =
      subst (λ o. IsJudged (plain program) o labels b.image.bound) (sym orders) counted in
      record {
        accepts = passes_of_text laws text (plain program) is program_trials passes;
        source = is.source;
        is = is.is;
        program_is = at ∙ is.program_is;
        labels = labels;
        judged = subst (λ p. IsJudged p b.order labels b.image.bound) (sym at) ordered;
        image_is = images ∙ ap (λ p. image_of p labels) (sym at);
      }

-- what holds of an error holds where it is handed on
pub handed_on : {V : Type 0} (P : AcceptError → Type 0) (r : Result V AcceptError) (e : AcceptError) → IsErrAnd r (λ x. x ≡ e) → P e
    → IfErr r P
handed_on P (Ok v) e h k = tt
handed_on P (Err x) e h k = subst P (sym h) k
