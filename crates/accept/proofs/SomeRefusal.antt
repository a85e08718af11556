-- Every text is accepted or has a first refusal.
use Rattle.std.proofs.Common.{ℕ, ◌≡◌, ◌≢◌, ◌<◌, ◌≤◌, ◌⊎◌, List, [], ◌∷◌, Option, None, Some, inl, inr, is_some, length, map, slice_get, take, refl, sym, ap, subst, ◌∙◌, ⊎_elim, arith}
use Rattle.std.specs.Prelude.{All, MatchOption, not, find, option_map, if◌then◌else◌}
use Rattle.std.specs.List.{list_any}
use Rattle.std.proofs.lemmas.Bool.{cases_lt, cases_Bool, false≢true}
use Rattle.std.proofs.lemmas.List.{length-map}
use Rattle.sys_base.specs.declared.limits.TheConstants.{SOURCE_BYTES, STEPS}
use Rattle.cell_lexer.specs.Faults.{FirstFault}
use Rattle.cell_lexer.specs.Tokens.{TokensOf}
use Rattle.cell_lexer.specs.declared.error.LexError.{LexError}
use Rattle.cell_lexer.specs.declared.error.LexError.TheVariants as L
use Rattle.cell_lexer.specs.declared.token.Token.{Token}
use Rattle.cell_parser.specs.Grammar.{Reads}
use Rattle.cell_parser.specs.Lexeme.{lexemes}
use Rattle.cell_parser.specs.Limits.{in_piece, open_in, KeepLimits, Over, FirstOver}
use Rattle.cell_parser.specs.declared.error.ParseError.{ParseError}
use Rattle.cell_parser.specs.declared.error.ParseError.TheVariants as P
use Rattle.cell_tree.specs.declared.source.Source.{Source}
use Rattle.cell_types.specs.Code.{ProgramCode}
use Rattle.cell_types.specs.Cost.{cells_cost}
use Rattle.cell_types.specs.Groups.{bound}
use Rattle.cell_types.specs.Resolved.{program_of}
use Rattle.cell_types.specs.Sound.{IsSound}
use Rattle.cell_types.specs.declared.error.RouteFault.TheVariants as F
use Rattle.cell_types.specs.declared.error.StaticError.{StaticError}
use Rattle.cell_types.specs.declared.error.StaticError.TheVariants as S
use Rattle.cell_types.specs.declared.program.Message.{Message}
use Rattle.comm_sequence.specs.Differing.{all_differing}
use Rattle.comm_sequence.specs.Labels.{IsConsistent}
use Rattle.comm_sequence.specs.Sequences.{Sequences, IsSequences, message_of, sequences_of}
use Rattle.comm_sequence.specs.declared.comm.Comm.{Comm}
use Rattle.comm_sequence.specs.declared.error.CommError.TheVariants as C
use Rattle.crossing_off.specs.Greedy.{left, IsCrossed}
use Rattle.queue_plan.specs.declared.lack.Lack.{Lack}
use Rattle.refusals.specs.declared.refusal.Refusal.{Refusal}
use Rattle.refusals.specs.declared.refusal.Refusal.TheVariants as R
use Rattle.accept.specs.FirstRefusal.{IsStalled, StopsShort, Trials, of_source, text_trials, cell_trials, naming_trials, room_trials, label_trials, program_trials, IsFirstOf, PassesAll, FirstRefusal, Accepts}
use Rattle.accept.specs.Labelled.{IsLabelled, AreLabels, has_label, first_unlabelled, lacks_of, members_of}
use Rattle.accept.specs.bodies.Laws.{Existence, Laws}
use Rattle.accept.specs.Source.{IsSource}
use Rattle.accept.specs.Told.{static_refusal, walk_lines, fall_refusal, lack_refusal}
use Rattle.accept.specs.declared.building.AcceptError.TheVariants as A
use Rattle.accept.proofs.Judged.{costly_first, unlike_first, stalled_first, lacking_first, falling_first, few_first, over_first, passes, not_costly, not_unlike}
use Rattle.accept.proofs.OneRefusal.{stalling}
use Rattle.accept.proofs.Refused.{long_refused, misspelt_refused, misplaced_refused, fault_refused, first_in, passes_in}
use Rattle.accept.proofs.Trials.{first_then}

-- None of the trials applies, or there is a first that does.
abbrev Tried : {A : Type 0} → Trials A → A → Type 0
Tried trials a = PassesAll trials a ⊎ ((r : Refusal) × IsFirstOf trials a r)

-- ---- the parts of texts

-- what the lexer finds wrong is no want of memory
pub no_memory : (text : List ℕ) → FirstFault text L.Memory → ⊥
no_memory text h = h.4

-- no token is over a limit by a place that can't be
pub never_misplaced : (ts : List Token) (line column : ℕ) → FirstOver ts (P.Unexpected line column) → ⊥
never_misplaced ts line column h =
    none (slice_get ts h.at) h.over
  where
    -- nor the token at a place
    none : (o : Option Token) → MatchOption o ⊥ (λ t. Over (in_piece (take h.at ts)) (open_in (take h.at ts)) t (P.Unexpected line column)) → ⊥
    none None over = over
    none (Some t) over = over

-- nor by want of memory
pub never_memory : (ts : List Token) → FirstOver ts P.Memory → ⊥
never_memory ts h =
    none (slice_get ts h.at) h.over
  where
    -- nor the token at a place
    none : (o : Option Token) → MatchOption o ⊥ (λ t. Over (in_piece (take h.at ts)) (open_in (take h.at ts)) t P.Memory) → ⊥
    none None over = over
    none (Some t) over = over

-- a fault that is no want of memory is told by a refusal
pub told : (cols : ℕ) (e : StaticError) → e ≢ S.Memory → (r : Refusal) × (static_refusal cols e ≡ Some r)
told cols (S.Limit limit line) n = (_, refl)
told cols (S.Twice what line) n = (_, refl)
told cols (S.OutsideGrid line) n = (_, refl)
told cols (S.SelfMessage name line) n = (_, refl)
told cols (S.Unknown name line) n = (_, refl)
told cols (S.WrongEnd name cell sends line) n = (_, refl)
told cols (S.WrongKind name found line) n = (_, refl)
told cols (S.Route name F.LeavesGrid line) n = (_, refl)
told cols (S.Route name F.WrongEnd line) n = (_, refl)
told cols (S.Route name (F.LinkTwice link) line) n = (_, refl)
told cols S.Memory n = absurd (n refl)

-- ---- labels

-- a message with a label, and others
labels_more : (m : Message) (ms : List Message) (o : Option ℕ) → m.label ≡ o → first_unlabelled (m ∷ ms) ≡ None
    → (first_unlabelled ms ≡ None → (labels : List ℕ) × (map (λ (n : Message). n.label) ms ≡ map Some labels))
    → (labels : List ℕ) × (map (λ (n : Message). n.label) (m ∷ ms) ≡ map Some labels)
labels_more m ms None is none rest =
    let first : first_unlabelled (m ∷ ms) ≡ Some m.name =
    ap (λ o. option_map (λ (n : Message). n.name) (if not (is_some o) then Some m else find (λ n. not (has_label n)) ms)) is in
    absurd (cc)
labels_more m ms (Some label) is none rest =
    let more : first_unlabelled (m ∷ ms) ≡ first_unlabelled ms =
    ap (λ o. option_map (λ (n : Message). n.name) (if not (is_some o) then Some m else find (λ n. not (has_label n)) ms)) is in
    let others = rest (sym more ∙ none) in
    let tail : map (λ (n : Message). n.label) ms ≡ map Some others.0 = others.1 in
    (label ∷ others.0, cc)

-- where no message is without a label, they have labels
pub all_labels : (ms : List Message) → first_unlabelled ms ≡ None → (labels : List ℕ) × (map (λ (n : Message). n.label) ms ≡ map Some labels)
all_labels [] none = ([], refl)
all_labels (m ∷ ms) none = labels_more m ms m.label refl none (all_labels ms)

module _ (laws : Laws) (exist : Existence) where
  module _ (p : ProgramCode) where
    -- queues and the bound, where labels are consistent
    with_consistent : (labels : List ℕ) → AreLabels p labels → IsConsistent (sequences_of p).lists labels → (lacks : List Lack)
        → lacks_of p labels ≡ lacks → Tried label_trials p
    with_consistent labels are consistent [] enough =
        ⊎_elim
        (λ over. inr (
          R.Bound (bound p labels),
          over_first laws p labels are consistent enough (bound p labels) (A.Refused (R.Bound (bound p labels))) refl (over, refl),
        ))
        (λ within. inl (passes laws p labels are consistent enough (bound p labels) refl within))
        (cases_lt STEPS (bound p labels))
    with_consistent labels are consistent (lack ∷ rest) lacking =
        let r : Refusal = lack_refusal p lack (members_of p labels lack.link lack.label) in
        inr (r, few_first laws p labels are consistent (A.Refused r) (labels, are, lack, ap (λ ls. slice_get ls 0) lacking, refl))

    -- falls, queues and the bound
    with_labels : (labels : List ℕ) → AreLabels p labels → Tried label_trials p
    with_labels labels are =
        ⊎_elim
        (λ consistent. with_consistent labels are consistent (lacks_of p labels) refl)
        (λ found.
        let r : Refusal = fall_refusal p labels found.0 in
        inr (r, first_then naming_trials room_trials p r (falling_first laws p labels are (A.Refused r) (labels, are, found.0, found.1, refl))))
        (exist.fall (sequences_of p).lists labels)

    -- labels that the source gives to some messages
    given : IsLabelled p → (o : Option (List ℕ)) → first_unlabelled p.messages ≡ o → Tried label_trials p
    given some None none =
        let all = all_labels p.messages none in
        with_labels all.0 (record { given = λ _. all.1; proposed = λ never. absurd (never some) })
    given some (Some name) first =
        inr (
          R.SomeLabels name,
          first_then naming_trials room_trials p (R.SomeLabels name) (lacking_first laws p (A.Refused (R.SomeLabels name)) (some, first)),
        )

    -- labels, queues and the bound
    labels_tried : IsSequences (sequences_of p) → Tried label_trials p
    labels_tried sequences =
        elim (cases_Bool (list_any has_label p.messages)) [
          | inl some ↦ given some (first_unlabelled p.messages) refl
          | inr none ↦
              let s : Sequences = sequences_of p in
              let count : length s.ends ≡ length p.messages = length-map p.messages (λ (m : Message). (m.from, m.to)) in
              let known = subst (λ n. All (λ list. All (λ comm. message_of comm < n) list) s.lists) count sequences.known in
              let labels = exist.proposal s.lists (length p.messages) known in
              with_labels labels.0 (record {
                given = λ some. absurd (false≢true (sym none ∙ some));
                proposed = λ _. labels.1;
              })
        ]

    module _ (few : cells_cost p ≤ STEPS) (alike : all_differing p ≡ []) (sequences : IsSequences (sequences_of p))
        (order : List Comm) (rule : IsCrossed (sequences_of p) p.buffer order) where
      -- where the greedy rule leaves nothing, the program isn't stalled
      not_stalled : left (sequences_of p) order ≤ 0 → (q : Refusal) → IsStalled p q → ⊥
      not_stalled nothing q h =
          let stall = stalling p q h in
          let stuck : StopsShort (sequences_of p) p.buffer stall.2.0 = stall.2.1 in
          let same : order ≡ stall.2.0 = laws.order (sequences_of p) p.buffer order stall.2.0 rule stuck.rule in
          absurd (omega (arith, nothing, ap (left (sequences_of p)) same, stuck.some))

      -- where it leaves something, the program is
      stalled : 1 ≤ left (sequences_of p) order → Tried program_trials p
      stalled some =
          let s : Sequences = sequences_of p in
          let walk = exist.walk s order sequences some in
          let r : Refusal = R.Crossing (left s order) (walk_lines p walk.0 walk.1) in
          let stuck : StopsShort s p.buffer order = record {
            rule = rule;
            some = some;
            no_order = λ other is. absurd (omega (arith, some, exist.emptied s p.buffer other order sequences is rule));
          } in
          inr (
            r,
            first_then cell_trials label_trials p r (stalled_first laws p few alike (A.Refused r) (order, stuck, refl, walk.0, walk.1, walk.2, refl)),
          )

      -- crossing-off, labels, queues and the bound
      with_order : Tried program_trials p
      with_order =
          ⊎_elim
          (λ some. stalled some)
          (λ nothing.
          let never = not_stalled nothing in
          ⊎_elim
          (λ all. inl (not_costly laws p few, (not_unlike laws p few alike, (never, all))))
          (λ first. inr (first.0, inr (not_costly laws p few, inr (not_unlike laws p few alike, inr (never, first.1)))))
          (labels_tried sequences))
          (cases_lt 0 (left (sequences_of p) order))

    -- arms, and what comes after them
    with_few : IsSound p → cells_cost p ≤ STEPS → (differing : List (ℕ × ℕ)) → all_differing p ≡ differing → Tried program_trials p
    with_few sound few [] alike =
        let sequences = exist.sequences p sound few in
        let order = exist.order (sequences_of p) p.buffer sequences in
        with_order few alike sequences order.0 order.1
    with_few sound few ((cell, line) ∷ rest) differ =
        inr (
          R.ArmsDiffer line,
          first_then cell_trials label_trials p (R.ArmsDiffer line) (unlike_first laws p few (C.ArmsDiffer cell line) (ap (λ ds. slice_get ds 0) differ)),
        )

    -- a program without a refusal, or its first one
    program_tried : IsSound p → Tried program_trials p
    program_tried sound =
        ⊎_elim
        (λ many. inr (R.CellSteps, first_then cell_trials label_trials p R.CellSteps (costly_first laws p many)))
        (λ few. with_few sound few (all_differing p) refl)
        (cases_lt STEPS (cells_cost p))

  -- The text is accepted, or has a first refusal.
  abbrev Judged : List ℕ → Type 0
  Judged text = Accepts text ⊎ ((r : Refusal) × FirstRefusal text r)

  module _ (text : List ℕ) (short : length text ≤ SOURCE_BYTES) where
    -- what is refused of the text and of its source is its first refusal
    early : (r : Refusal) → IsFirstOf text_trials text r → FirstRefusal text r
    early r h = first_then text_trials (of_source program_trials) text r h

    -- the refusal of what the lexer finds wrong
    misspelt_text : (e : LexError) → FirstFault text e → Judged text
    misspelt_text (L.BadByte at) h = inr (R.BadByte at, early (R.BadByte at) (misspelt_refused text short (L.BadByte at) (inl h)))
    misspelt_text (L.BigNumber line) h = inr (R.BigNumber line, early (R.BigNumber line) (misspelt_refused text short (L.BigNumber line) (inl h)))
    misspelt_text (L.LongName line) h = inr (R.LongName line, early (R.LongName line) (misspelt_refused text short (L.LongName line) (inl h)))
    misspelt_text L.Memory h = absurd (no_memory text h)

    module _ (ts : List Token) (lexed : TokensOf text ts) where
      -- the refusal of the first token over a limit
      over_text : (e : ParseError) → FirstOver ts e → Judged text
      over_text (P.LongPiece line) h =
          inr (R.LongPiece line, early (R.LongPiece line) (misplaced_refused text short laws.apart laws.tokens ts lexed (P.LongPiece line) h))
      over_text (P.Braces line) h =
          inr (R.Braces line, early (R.Braces line) (misplaced_refused text short laws.apart laws.tokens ts lexed (P.Braces line) h))
      over_text (P.Unexpected line column) h = absurd (never_misplaced ts line column h)
      over_text P.Memory h = absurd (never_memory ts h)

      module _ (kept : KeepLimits ts) (s : Source) (reads : Reads (lexemes text ts) s) where
        -- the text is this source
        is_source : IsSource text s
        is_source = record { tokens = ts; lexed = lexed; kept = kept; read = reads }

        -- a source, by its faults
        source_text : Judged text
        source_text =
            ⊎_elim
            (λ none.
            let sound = exist.sound s (exist.printable text ts s lexed kept reads) none in
            ⊎_elim
            (λ all. inl (passes_in text short laws s is_source none program_trials all))
            (λ first. inr (first.0, first_in text short laws s is_source none program_trials first.0 first.1))
            (program_tried (program_of s) sound))
            (λ fault.
            let r = told s.cols fault.0 fault.2 in
            inr (r.0, early r.0 (fault_refused text short laws s is_source (A.Refused r.0) (fault.0, fault.1, r.1))))
            (exist.fault s)

      -- a text with tokens that keep the limits
      read_text : KeepLimits ts → Judged text
      read_text kept =
          ⊎_elim
          (λ source. source_text kept source.0 source.1)
          (λ wrong. inr (
            R.Unexpected wrong.0 wrong.1,
            early (R.Unexpected wrong.0 wrong.1)
                (misplaced_refused text short laws.apart laws.tokens ts lexed (P.Unexpected wrong.0 wrong.1) wrong.2),
          ))
          (exist.source text ts kept)

    -- a text that is not too long
    short_text : Judged text
    short_text =
        ⊎_elim
        (λ lexed. ⊎_elim (λ kept. read_text lexed.0 lexed.1 kept) (λ over. over_text lexed.0 lexed.1 over.0 over.1) (exist.limits lexed.0))
        (λ fault. misspelt_text fault.0 fault.1)
        (exist.tokens text)

  -- every text is accepted or has a first refusal
  pub tried : (text : List ℕ) → Judged text
  tried text =
      ⊎_elim (λ long. inr (R.LongSource, first_then text_trials (of_source program_trials) text R.LongSource (long_refused text long))) (λ short. short_text text short)
      (cases_lt SOURCE_BYTES (length text))
