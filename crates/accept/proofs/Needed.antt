-- What there is of a text that has no refusal but of its queues and its bound.
use Rattle.std.proofs.Common.{ℕ, ◌≡◌, ◌<◌, ◌≤◌, List, [], ◌∷◌, Option, None, Some, inl, inr, length, slice_get, refl, sym, ap, subst, ◌∙◌, ⊎_elim, arith}
use Rattle.std.specs.Prelude.{All}
use Rattle.std.specs.List.{list_any}
use Rattle.std.proofs.lemmas.Bool.{cases_lt, cases_Bool, false≢true}
use Rattle.std.proofs.lemmas.List.{length-map}
use Rattle.sys_base.specs.declared.limits.TheConstants.{STEPS}
use Rattle.cell_lexer.specs.Faults.{FirstFault}
use Rattle.cell_lexer.specs.Tokens.{TokensOf}
use Rattle.cell_lexer.specs.declared.error.LexError.{LexError}
use Rattle.cell_lexer.specs.declared.error.LexError.TheVariants as L
use Rattle.cell_lexer.specs.declared.token.Token.{Token}
use Rattle.cell_parser.specs.Limits.{KeepLimits, FirstOver}
use Rattle.cell_parser.specs.declared.error.ParseError.{ParseError}
use Rattle.cell_parser.specs.declared.error.ParseError.TheVariants as P
use Rattle.cell_tree.specs.declared.source.Source.{Source}
use Rattle.cell_types.specs.Alike.{Alike}
use Rattle.cell_types.specs.Code.{ProgramCode}
use Rattle.cell_types.specs.Cost.{cells_cost}
use Rattle.cell_types.specs.Faults.{faults}
use Rattle.cell_types.specs.Resolved.{program_of}
use Rattle.cell_types.specs.Sound.{IsSound}
use Rattle.cell_types.specs.declared.program.Message.{Message}
use Rattle.comm_sequence.specs.BufferedOrder.{IsBufferedOrder}
use Rattle.comm_sequence.specs.Differing.{all_differing}
use Rattle.comm_sequence.specs.Labels.{IsConsistent}
use Rattle.comm_sequence.specs.Sequences.{Sequences, IsSequences, message_of, sequences_of}
use Rattle.comm_sequence.specs.declared.comm.Comm.{Comm}
use Rattle.crossing_off.specs.Greedy.{left, IsCrossed}
use Rattle.refusals.specs.declared.refusal.Refusal.TheVariants as R
use Rattle.accept.specs.FirstRefusal.{IsFaulty, PassesAll, StopsShort, Try, cell_trials, naming_trials, need_trials, of_source, then_}
use Rattle.accept.specs.Labelled.{IsLabelled, AreLabels, has_label, first_unlabelled}
use Rattle.accept.specs.Source.{IsSource}
use Rattle.accept.specs.Told.{fall_refusal, walk_lines}
use Rattle.accept.specs.bodies.Laws.{Existence, Laws}
use Rattle.accept.proofs.SomeRefusal.{no_memory, never_misplaced, never_memory, told, all_labels}

-- Where the greedy rule leaves nothing, its list is an order for the buffer.
abbrev pub NothingLeft : Type 0
NothingLeft =
    (s : Sequences) (buffer : ℕ) (greedy : List Comm) → IsSequences s → IsCrossed s buffer greedy → left s greedy ≡ 0
    → IsBufferedOrder s.lists s.ends buffer greedy

module _ (exist : Existence) (text : List ℕ) (passes : PassesAll need_trials text) where
  -- what the lexer finds wrong is refused
  not_misspelt : (e : LexError) → FirstFault text e → ⊥
  not_misspelt (L.BadByte at) h = passes.1.0 (R.BadByte at) h
  not_misspelt (L.BigNumber line) h = passes.1.0 (R.BigNumber line) h
  not_misspelt (L.LongName line) h = passes.1.0 (R.LongName line) h
  not_misspelt L.Memory h = no_memory text h

  module _ (ts : List Token) (lexed : TokensOf text ts) where
    -- so is a token over a limit
    not_over : (e : ParseError) → FirstOver ts e → ⊥
    not_over (P.LongPiece line) h = passes.1.1.0 (R.LongPiece line) (ts, lexed, h)
    not_over (P.Braces line) h = passes.1.1.0 (R.Braces line) (ts, lexed, h)
    not_over (P.Unexpected line column) h = never_misplaced ts line column h
    not_over P.Memory h = never_memory ts h

    -- so is a wrong token
    read_as : KeepLimits ts → (s : Source) × IsSource text s
    read_as kept =
        ⊎_elim
        (λ source. (source.0, record { tokens = ts; lexed = lexed; kept = kept; read = source.1 }))
        (λ wrong. absurd (passes.1.1.1.0 (R.Unexpected wrong.0 wrong.1) (ts, lexed, wrong.2)))
        (exist.source text ts kept)

  -- such a text is a source
  pub some_source : (s : Source) × IsSource text s
  some_source =
      ⊎_elim
      (λ lexed. ⊎_elim (λ kept. read_as lexed.0 lexed.1 kept) (λ over. absurd (not_over lexed.0 lexed.1 over.0 over.1)) (exist.limits lexed.0))
      (λ fault. absurd (not_misspelt fault.0 fault.1))
      (exist.tokens text)

module _ (laws : Laws) (exist : Existence) (text : List ℕ) (passes : PassesAll need_trials text) (s : Source) (is : IsSource text s) where
  abbrev p : ProgramCode
  p = program_of s

  -- what is said of its source, and of its program
  passes_source : PassesAll (Try IsFaulty (of_source (then_ cell_trials naming_trials))) text
  passes_source = passes.1.1.1.1

  passes_program : PassesAll (of_source (then_ cell_trials naming_trials)) text
  passes_program = passes_source.1

  passes_labels : PassesAll (of_source naming_trials) text
  passes_labels = passes_program.1.1.1

  -- a source without a first fault has none
  no_faults : faults s ≡ []
  no_faults =
      ⊎_elim
      (λ none. none)
      (λ fault.
      let r = told s.cols fault.0 fault.2 in
      absurd (passes_source.0 r.0 (s, is, fault.0, fault.1, r.1)))
      (exist.fault s)

  pub sound : IsSound p
  sound = exist.sound s (exist.printable text is.tokens s is.lexed is.kept is.read) no_faults

  pub few : cells_cost p ≤ STEPS
  few = ⊎_elim (λ many. absurd (passes_program.0 R.CellSteps (s, is, (many, refl)))) (λ few. few) (cases_lt STEPS (cells_cost p))

  -- no `if` is listed
  none_differ : (differing : List (ℕ × ℕ)) → all_differing p ≡ differing → all_differing p ≡ []
  none_differ [] none = none
  none_differ ((cell, line) ∷ rest) some =
      absurd (passes_program.1.0 (R.ArmsDiffer line) (s, is, (cell, ap (λ ds. slice_get ds 0) some)))

  pub alike : Alike p
  alike = (laws.alike p).1 (none_differ (all_differing p) refl)

  kept : IsSequences (sequences_of p)
  kept = exist.sequences p sound few

  -- the greedy rule leaves nothing
  rule : (crossed : List Comm) × IsCrossed (sequences_of p) p.buffer crossed
  rule = exist.order (sequences_of p) p.buffer kept

  none_left : left (sequences_of p) rule.0 ≡ 0
  none_left =
      elim (cases_lt 0 (left (sequences_of p) rule.0)) [
        | inl some ↦
            let walk = exist.walk (sequences_of p) rule.0 kept some in
            let stuck : StopsShort (sequences_of p) p.buffer rule.0 =
            record {
              rule = rule.1;
              some = some;
              no_order = λ other o.
                  absurd (omega (arith, some, exist.emptied (sequences_of p) p.buffer other rule.0 kept o rule.1));
            } in
            absurd (passes_program.1.1.0 (R.Crossing (left (sequences_of p) rule.0) (walk_lines p walk.0 walk.1))
            (s, is, (rule.0, stuck, refl, walk.0, walk.1, walk.2, refl)))
        | inr nothing ↦ omega (arith, nothing)
      ]

  pub ordered : NothingLeft → (order : List Comm) × IsBufferedOrder (sequences_of p).lists (sequences_of p).ends p.buffer order
  ordered nothing_left = (rule.0, nothing_left (sequences_of p) p.buffer rule.0 kept rule.1 none_left)

  -- labels that the source gives to some messages
  given : IsLabelled p → (o : Option (List ℕ)) → first_unlabelled p.messages ≡ o → (labels : List ℕ) × AreLabels p labels
  given some None none =
      let all = all_labels p.messages none in
      (all.0, record { given = λ _. all.1; proposed = λ never. absurd (never some) })
  given some (Some name) first = absurd (passes_labels.0 (R.SomeLabels name) (s, is, (some, first)))

  -- the messages have labels
  pub some_labels : (labels : List ℕ) × AreLabels p labels
  some_labels =
      elim (cases_Bool (list_any has_label p.messages)) [
        | inl some ↦ given some (first_unlabelled p.messages) refl
        | inr none ↦
            let q : Sequences = sequences_of p in
            let count : length q.ends ≡ length p.messages = length-map p.messages (λ (m : Message). (m.from, m.to)) in
            let known = subst (λ n. All (λ list. All (λ comm. message_of comm < n) list) q.lists) count kept.known in
            let labels = exist.proposal q.lists (length p.messages) known in (
              labels.0,
              record {
                given = λ some. absurd (false≢true (sym none ∙ some));
                proposed = λ _. labels.1;
              },
            )
      ]

  -- which never fall
  pub no_fall : (labels : List ℕ) → AreLabels p labels → IsConsistent (sequences_of p).lists labels
  no_fall labels are =
      elim (exist.fall (sequences_of p).lists labels) [
        | inl never ↦ never
        | inr fall ↦
            absurd (passes_labels.1.0 (fall_refusal p labels fall.0) (s, is, (labels, are, fall.0, fall.1, refl)))
      ]
