-- The canonical text of a printable source reads back to it, by what the lexer's laws say.
use Rattle.std.proofs.Common.{◌≡◌, ℕ, ◌≤◌, ◌++◌, true, false, IsTrue, List, [], map, sym, subst, ap, ◌∙◌}
use Rattle.std.specs.Fmt.{decimal}
use Rattle.std.specs.Prelude.{codes}
use Rattle.sys_base.specs.Bytes.{is_space}
use Rattle.cell_lexer.specs.Forms.{Says, greatest}
use Rattle.cell_lexer.specs.Pieces.{Piece as LexedPiece, text_of, prolongs, Legible, placed, words_of, words_in}
use Rattle.cell_lexer.specs.Tokens.{TokensOf}
use Rattle.cell_lexer.specs.declared.token.Sort.{Sort}
use Rattle.cell_lexer.specs.declared.token.Sort.TheVariants as S
use Rattle.cell_lexer.specs.declared.token.Token.{Token}
use Rattle.cell_tree.specs.Canonical.{canonical}
use Rattle.cell_tree.specs.Pieces.{joined}
use Rattle.cell_tree.specs.Printable.{IsPrintable}
use Rattle.cell_tree.specs.declared.source.Source.{Source}
use Rattle.cell_parser.specs.Grammar.{Reads}
use Rattle.cell_parser.specs.Lexeme.{lexemes}
use Rattle.cell_parser.specs.Printed.{spoken, Covers, unlined}
use Rattle.cell_parser.specs.Inner.Told.{told}
use Rattle.cell_parser.proofs.SaidSources.{source_said}
use Rattle.cell_parser.proofs.ToldClear.{source_clear}
use Rattle.cell_parser.proofs.ToldLegible.{lexed, told_text, clear_legible, placed_heard}
use Rattle.cell_parser.proofs.ToldPieces.{source_spelt}

-- the lexer's pieces of a source
abbrev pieces : Source → List LexedPiece
pieces s = map lexed (told s)

-- their tokens in the canonical text
abbrev pub canonical_tokens : Source → List Token
canonical_tokens s = placed (canonical s) 0 (pieces s)

text_is : (s : Source) → text_of (pieces s) (codes "\n") ≡ canonical s
text_is s = told_text (told s) (codes "\n") ∙ ap (λ ps. joined ps ++ codes "\n") (source_spelt s)

module _ (separators : (sort : Sort) (b : ℕ) → IsTrue (is_space b) → prolongs sort b ≡ false)
    (decimals : (n : ℕ) → n ≤ greatest → Says (decimal n) (S.Number n))
    (tokens : (ps : List LexedPiece) (last : List ℕ) → Legible ps last → TokensOf (text_of ps last) (placed (text_of ps last) 0 ps)) where
  -- the canonical text of a printable source has the tokens of its pieces
  pub canonical_stands : (s : Source) → IsPrintable s → TokensOf (canonical s) (canonical_tokens s)
  canonical_stands s p =
      subst (λ (text : List ℕ). TokensOf text (placed text 0 (pieces s))) (text_is s)
      (tokens (pieces s) (codes "\n") (clear_legible separators decimals (told s) true (source_clear s p)))

  module _ (words : (ps : List LexedPiece) (last : List ℕ)
      → words_of (text_of ps last) (placed (text_of ps last) 0 ps) ≡ words_in ps)
      (one : (text : List ℕ) (ts us : List Token) → TokensOf text ts → TokensOf text us → ts ≡ us) where
    canonical_heard : (s : Source) → Covers (spoken s) (lexemes (canonical s) (canonical_tokens s)) []
    canonical_heard s =
        placed_heard (told s) (canonical s)
        (subst (λ (text : List ℕ). words_of text (placed text 0 (pieces s)) ≡ words_in (pieces s)) (text_is s)
        (words (pieces s) (codes "\n")))

    -- the tokens of the canonical text of a printable source are those of a source, the same but for its lines
    pub canonical_reads : (s : Source) → IsPrintable s → (ts : List Token) → TokensOf (canonical s) ts
        → (t : Source) × Reads (lexemes (canonical s) ts) t × (unlined t ≡ unlined s)
    canonical_reads s p ts h =
        let e : ts ≡ canonical_tokens s = one (canonical s) ts (canonical_tokens s) h (canonical_stands s p) in
        source_said s (lexemes (canonical s) ts)
        (subst (λ (us : List Token). Covers (spoken s) (lexemes (canonical s) us) []) (sym e) (canonical_heard s))
