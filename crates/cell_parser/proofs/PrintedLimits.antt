-- The tokens of the canonical text of a printable source keep the limits.
use Rattle.std.proofs.Common.{◌≡◌, ℕ, ◌+◌, ◌≤◌, true, false, IsTrue, Bool, List, [], ◌∷◌, length, map, refl, sym, subst, ap, ◌∙◌}
use Rattle.std.specs.Fmt.{decimal}
use Rattle.sys_base.specs.Bytes.{is_space}
use Rattle.cell_lexer.specs.Forms.{Says, greatest}
use Rattle.cell_lexer.specs.Pieces.{Piece as LexedPiece, text_of, prolongs, Legible, placed}
use Rattle.cell_lexer.specs.Tokens.{TokensOf}
use Rattle.cell_lexer.specs.declared.token.Sort.{Sort}
use Rattle.cell_lexer.specs.declared.token.Sort.TheVariants as S
use Rattle.cell_lexer.specs.declared.token.Token.{Token}
use Rattle.cell_tree.specs.Canonical.{canonical}
use Rattle.cell_tree.specs.Pieces.{Piece, words_of}
use Rattle.cell_tree.specs.Printable.{runs_fit, braces_fit, IsPrintable}
use Rattle.cell_tree.specs.declared.source.Source.{Source}
use Rattle.cell_parser.specs.Limits.{KeepLimits}
use Rattle.cell_parser.specs.Inner.Told.{Told, Tell, spelling, told_word, told_piece, told}
use Rattle.cell_parser.proofs.Rooms.{Room, sorts_of, room_kept, says_alike, AllAlike, alike_none, alike_next, fit_room}
use Rattle.cell_parser.proofs.ToldClear.{source_clear}
use Rattle.cell_parser.proofs.ToldLegible.{told_sort, lexed, opens, Clear, fine_says}
use Rattle.cell_parser.proofs.ToldPieces.{source_spelt}
use Rattle.cell_parser.proofs.ToldReadBack.{canonical_tokens, canonical_stands}

-- the sorts of told words
abbrev pub told_sorts : List Told → List Sort
told_sorts = map (λ t. told_sort (told_word t))

placed_sorts : (text : List ℕ) (from : ℕ) (ps : List Told) → sorts_of (placed text from (map lexed ps)) ≡ told_sorts ps
placed_sorts text from [] = refl
placed_sorts text from (Tell gap word ∷ ps) =
    ap (λ (sorts : List Sort). told_sort word ∷ sorts)
    (placed_sorts text (from + length gap + length (spelling word)) ps)

module _ (separators : (sort : Sort) (b : ℕ) → IsTrue (is_space b) → prolongs sort b ≡ false)
    (decimals : (n : ℕ) → n ≤ greatest → Says (decimal n) (S.Number n)) where
  -- clear words are as their sorts say
  pub clear_alike : (b c : Bool) (ps : List Told) → Clear b ps c → AllAlike (words_of (map told_piece ps)) (told_sorts ps)
  clear_alike b c [] h = alike_none
  clear_alike b c (Tell gap word ∷ ps) (p, f, h, r) =
      alike_next (says_alike (spelling word) (told_sort word) (fine_says separators decimals word f)) (clear_alike (opens word) c ps r)

  printed_room : (s : Source) → IsPrintable s → Room 0 0 (told_sorts (told s))
  printed_room s p =
      fit_room (clear_alike true false (told s) (source_clear s p)) 0 0
      (subst (λ (ps : List Piece). IsTrue (runs_fit 0 (words_of ps))) (sym (source_spelt s)) p.runs)
      (subst (λ (ps : List Piece). IsTrue (braces_fit 0 (words_of ps))) (sym (source_spelt s)) p.braces)

  module _ (tokens : (ps : List LexedPiece) (last : List ℕ) → Legible ps last
      → TokensOf (text_of ps last) (placed (text_of ps last) 0 ps))
      (one : (text : List ℕ) (ts us : List Token) → TokensOf text ts → TokensOf text us → ts ≡ us) where
    -- the tokens of the canonical text of a printable source keep the limits
    pub printed_kept : (s : Source) → IsPrintable s → (ts : List Token) → TokensOf (canonical s) ts → KeepLimits ts
    printed_kept s p ts h =
        let e : ts ≡ canonical_tokens s = one (canonical s) ts (canonical_tokens s) h (canonical_stands separators decimals tokens s p) in
        room_kept ts (subst (λ (sorts : List Sort). Room 0 0 sorts)
        (sym (ap sorts_of e ∙ placed_sorts (canonical s) 0 (told s))) (printed_room s p))
