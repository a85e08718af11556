-- The canonical text of a generated source has no refusal, and its pairs in order are an order of its program.
use Rattle.std.proofs.Common.{◌≡◌, ℕ, ◌<◌, ◌≤◌, List, [], ◌∷◌, length, sym, refl, subst, ap, ◌∙◌, arith}
use Rattle.std.specs.Prelude.{All}
use Rattle.std.proofs.lemmas.List.FromFn.{length-map-range_with_len}
use Rattle.cell_lexer.specs.Tokens.{TokensOf}
use Rattle.cell_lexer.specs.declared.token.Token.{Token}
use Rattle.cell_tree.specs.Canonical.{canonical}
use Rattle.cell_tree.specs.Printable.{IsPrintable}
use Rattle.cell_tree.specs.declared.source.Source.{Source}
use Rattle.cell_types.specs.Faults.{faults, source_faults}
use Rattle.cell_types.specs.Resolved.{program_of, resolved_program}
use Rattle.cell_types.specs.Sound.{IsSound}
use Rattle.cell_types.specs.Written.{WrittenSource, written}
use Rattle.cell_types.specs.declared.error.StaticError.{StaticError}
use Rattle.comm_sequence.specs.BufferedOrder.{IsBufferedOrder}
use Rattle.comm_sequence.specs.Sequences.{sequences_of}
use Rattle.accept.specs.FirstRefusal.{Accepts, program_trials}
use Rattle.accept.specs.Source.{IsSource}
use Rattle.accept.specs.bodies.Laws.{Laws}
use Rattle.accept.proofs.OneRefusal.{one_source}
use Rattle.accept.proofs.Refused.{passes_in}
use Rattle.pair_gen.specs.Generated.{generated, source_of}
use Rattle.pair_gen.specs.Pairs.{message_drawn, messages_drawn}
use Rattle.pair_gen.proofs.Drawn.{drawn_known}
use Rattle.pair_laws.specs.Crossings.{crossings}
use Rattle.pair_laws.specs.bodies.Bare.{bare_source}
use Rattle.pair_laws.specs.bodies.Laws.{LawsBelow}
use Rattle.pair_laws.specs.bodies.Paired.{paired}
use Rattle.pair_laws.proofs.Accepted.{program_passes}
use Rattle.pair_laws.proofs.Bare.{sources_alike}
use Rattle.pair_laws.proofs.Crossed.{pairs_ordered}
use Rattle.pair_laws.proofs.Faultless.{paired_faultless}
use Rattle.pair_laws.proofs.Paired.{paired_is}
use Rattle.pair_laws.proofs.Printable.{printable}
use Rattle.pair_laws.proofs.Same.{IsBare, program_bare}
use Rattle.pair_laws.proofs.Size.{text_size}
use Rattle.pair_laws.proofs.Written.{same_bare}

-- a list as long as none
none_long : (es fs : List StaticError) → length es ≡ length fs → fs ≡ [] → es ≡ []
none_long [] fs h none = refl
none_long (e ∷ es) fs h none = absurd (omega (arith, h, ap length none))

module _ (laws : Laws) (below_laws : LawsBelow) (ms : List ℕ) (known : All (λ m. m < 24) ms) where
  abbrev text : List ℕ
  text = canonical (source_of ms)

  source_printable : IsPrintable (source_of ms)
  source_printable = printable ms known

  -- what the text reads to
  lexed : (ts : List Token) × TokensOf text ts
  lexed = below_laws.tokens (source_of ms) source_printable

  abbrev read : Source
  read = (below_laws.reads (source_of ms) source_printable lexed.0 lexed.1).0

  read_is : IsSource text read
  read_is =
      record {
        tokens = lexed.0;
        lexed = lexed.1;
        kept = below_laws.keeps (source_of ms) source_printable lexed.0 lexed.1;
        read = (below_laws.reads (source_of ms) source_printable lexed.0 lexed.1).1;
      }

  -- is the source of the pairs, but for lines
  bare_is : bare_source (written read) ≡ paired ms
  bare_is = same_bare read (source_of ms) (below_laws.reads (source_of ms) source_printable lexed.0 lexed.1).2 ∙ paired_is ms

  faultless : faults read ≡ []
  faultless =
      none_long (source_faults (written read)) (source_faults (bare_source (written read))) (sources_alike (written read))
      (ap source_faults bare_is ∙ paired_faultless ms known)

  -- and so is its program
  program_is : IsBare (resolved_program (paired ms)) (program_of read)
  program_is = subst (λ (w : WrittenSource). IsBare (resolved_program w) (program_of read)) bare_is (program_bare (written read))

  sound : IsSound (program_of read)
  sound = below_laws.sound read (below_laws.printable text read_is.tokens read read_is.lexed read_is.kept read_is.read) faultless

  pub text_accepted : length ms ≤ 20000 → Accepts text
  text_accepted few =
      passes_in text (text_size ms known few) laws read read_is faultless program_trials
      (program_passes laws below_laws ms known few (program_of read) program_is sound)

  pub text_ordered : (source : Source) → IsSource text source
      → IsBufferedOrder (sequences_of (program_of source)).lists (sequences_of (program_of source)).ends (program_of source).buffer (crossings ms)
  text_ordered source is =
      subst (λ (s : Source). IsBufferedOrder (sequences_of (program_of s)).lists (sequences_of (program_of s)).ends (program_of s).buffer (crossings ms))
      (one_source laws text read source read_is is) (pairs_ordered ms known (program_of read) program_is)

  pub text_unbuffered : (source : Source) → IsSource text source → (program_of source).buffer ≡ 0
  text_unbuffered source is =
      subst (λ (s : Source). (program_of s).buffer ≡ 0) (one_source laws text read source read_is is) (sym program_is.buffer)

-- the messages of the pairs are as many as these
drawn_count : (seed pairs : ℕ) → length (messages_drawn seed pairs) ≡ pairs
unfolding messages_drawn
drawn_count seed pairs = length-map-range_with_len (message_drawn seed pairs) 0 pairs

pub generated_accepted : Laws → LawsBelow → (seed pairs : ℕ) → pairs ≤ 20000 → Accepts (canonical (generated seed pairs))
generated_accepted laws below_laws seed pairs few =
    text_accepted laws below_laws (messages_drawn seed pairs) (drawn_known seed pairs) (omega (arith, few, drawn_count seed pairs))

pub generated_ordered : Laws → LawsBelow → (seed pairs : ℕ) (source : Source) → IsSource (canonical (generated seed pairs)) source
    → IsBufferedOrder (sequences_of (program_of source)).lists (sequences_of (program_of source)).ends (program_of source).buffer
    (crossings (messages_drawn seed pairs))
generated_ordered laws below_laws seed pairs source is =
    text_ordered laws below_laws (messages_drawn seed pairs) (drawn_known seed pairs) source is

pub generated_unbuffered : Laws → LawsBelow → (seed pairs : ℕ) (source : Source) → IsSource (canonical (generated seed pairs)) source
    → (program_of source).buffer ≡ 0
generated_unbuffered laws below_laws seed pairs source is =
    text_unbuffered laws below_laws (messages_drawn seed pairs) (drawn_known seed pairs) source is
