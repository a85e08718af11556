-- A source that was read from tokens that keep the limits is printable.
use Rattle.std.proofs.Common.{◌≡◌, ℕ, ◌+◌, ◌≤◌, true, false, IsTrue, List, [], ◌∷◌, length, map, take, drop, refl, sym, subst, ap, ◌∙◌, arith}
use Rattle.std.specs.Fmt.{decimal}
use Rattle.std.specs.Prelude.{if◌then◌else◌}
use Rattle.std.proofs.lemmas.List.Elements.{All-from_recursion}
use Rattle.sys_base.specs.Bytes.{is_space}
use Rattle.sys_base.specs.Name.{IsName}
use Rattle.cell_lexer.specs.Forms.{Says, greatest}
use Rattle.cell_lexer.specs.Pieces.{prolongs}
use Rattle.cell_lexer.specs.Tokens.{Stand, TokensOf}
use Rattle.cell_lexer.specs.declared.token.Sort.{Sort}
use Rattle.cell_lexer.specs.declared.token.Sort.TheVariants as S
use Rattle.cell_lexer.specs.declared.token.Token.{Token}
use Rattle.cell_tree.specs.Pieces.{Piece, words_of}
use Rattle.cell_tree.specs.Printable.{source_names, source_numbers, runs_fit, braces_fit, IsPrintable}
use Rattle.cell_tree.specs.declared.source.Source.{Source}
use Rattle.cell_parser.specs.Grammar.{Reads}
use Rattle.cell_parser.specs.Lexeme.{word_of, Lexeme, At, lexemes}
use Rattle.cell_parser.specs.Limits.{parts, piece_after, braces_after, KeepLimits}
use Rattle.cell_parser.specs.Inner.Told.{Told, told_piece, told}
use Rattle.cell_parser.proofs.FewerWords.{Fewer, fewer_none, fewer_same, fewer_open, fewer_close, fewer_line, Sound}
use Rattle.cell_parser.proofs.PrintedLimits.{told_sorts, clear_alike}
use Rattle.cell_parser.proofs.ReadSources.{source_read}
use Rattle.cell_parser.proofs.Rooms.{Room, sorts_of, kept_room, AllAlike, room_runs, room_braces}
use Rattle.cell_parser.proofs.ToldClear.{source_words}
use Rattle.cell_parser.proofs.ToldLegible.{told_sort, Fine}
use Rattle.cell_parser.proofs.ToldPieces.{source_spelt}

-- the sorts of lexemes
abbrev lexeme_sorts : List Lexeme → List Sort
lexeme_sorts [] = []
lexeme_sorts (At l w ∷ ts) = told_sort w ∷ lexeme_sorts ts

same_sort : (bytes : List ℕ) (sort : Sort) → told_sort (word_of bytes sort) ≡ sort
same_sort bytes S.Name = refl
same_sort bytes (S.Number n) = refl
same_sort bytes (S.Key key) = refl
same_sort bytes (S.Mark m) = refl

same_sorts : (text : List ℕ) (ts : List Token) → sorts_of ts ≡ lexeme_sorts (lexemes text ts)
same_sorts text [] = refl
same_sorts text (t ∷ ts) =
    ap (λ (sort : Sort). sort ∷ sorts_of ts) (sym (same_sort (take t.len (drop t.at text)) t.sort))
    ∙ ap (λ (sorts : List Sort). told_sort (word_of (take t.len (drop t.at text)) t.sort) ∷ sorts) (same_sorts text ts)

says_fine : (bytes : List ℕ) (sort : Sort) → Says bytes sort → Fine (word_of bytes sort)
says_fine bytes S.Name h = h
says_fine bytes (S.Number n) h = h.2
says_fine bytes (S.Key key) h = tt
says_fine bytes (S.Mark m) h = tt

tokens_sound : (text : List ℕ) (from : ℕ) (ts : List Token) (to : ℕ) → Stand text from ts to → Sound (lexemes text ts)
tokens_sound text from [] to h = tt
tokens_sound text from (t ∷ ts) to h =
    (says_fine (take t.len (drop t.at text)) t.sort h.1.says, tokens_sound text (t.at + t.len) ts to h.2)

shorter : (sort : Sort) (less more : ℕ) → less ≤ more → piece_after sort less ≤ piece_after sort more
shorter sort less more le =
    elim (parts sort) as (λ b. (if b then 0 else (1 + less)) ≤ (if b then 0 else (1 + more))) [
      | true ↦ omega arith
      | false ↦ omega arith
    ]

fewer_room : {ps : List Told} {ts us : List Lexeme} → Fewer ps ts us → (less more braces : ℕ) → less ≤ more
    → Room more braces (lexeme_sorts ts) → Room less braces (told_sorts ps)
fewer_room fewer_none less more braces le r = tt
fewer_room (fewer_same {w = w} p) less more braces le r = (
  λ e. (let lt = r.0 e in omega arith),
  r.1,
  fewer_room p (piece_after (told_sort w) less) (piece_after (told_sort w) more) (braces_after (told_sort w) braces)
      (shorter (told_sort w) less more le) r.2,
)
fewer_room (fewer_open p) less more braces le r = fewer_room p less (1 + more) braces (omega arith) r.2
fewer_room (fewer_close p) less more braces le r = fewer_room p less (1 + more) braces (omega arith) r.2
fewer_room (fewer_line p) less more braces le r =
    (λ e. (let lt = r.0 e in omega arith), r.1, fewer_room p 0 0 braces (omega arith) r.2.2.2.2)

module _ (separators : (sort : Sort) (b : ℕ) → IsTrue (is_space b) → prolongs sort b ≡ false)
    (decimals : (n : ℕ) → n ≤ greatest → Says (decimal n) (S.Number n)) where
  -- a source that was read from tokens that keep the limits is printable
  pub read_printable : (text : List ℕ) (ts : List Token) (s : Source) → TokensOf text ts → KeepLimits ts → Reads (lexemes text ts) s
      → IsPrintable s
  read_printable text ts s stand limits reads =
      let h = source_read reads in
      let (names, numbers, rest) = h.fine (tokens_sound text 0 ts (length text) stand) in
      let alike : AllAlike (words_of (map told_piece (told s))) (told_sorts (told s)) =
      clear_alike separators decimals true false (told s) (source_words s names numbers) in
      let room : Room 0 0 (told_sorts (told s)) =
      fewer_room h.told 0 0 0 (omega arith)
      (subst (λ (sorts : List Sort). Room 0 0 sorts) (same_sorts text ts) (kept_room ts limits)) in record {
        names = All-from_recursion IsName (source_names s) names;
        numbers = All-from_recursion (λ n. n ≤ 9223372036854775807) (source_numbers s) numbers;
        runs = subst (λ (ps : List Piece). IsTrue (runs_fit 0 (words_of ps))) (source_spelt s) (room_runs alike 0 0 room);
        braces = subst (λ (ps : List Piece). IsTrue (braces_fit 0 (words_of ps))) (source_spelt s) (room_braces alike 0 0 room);
      }
