-- The machine at two small sources.
use Rattle.std.proofs.Common.{◌≡◌, ℕ, List, [], ◌∷◌, ◌++◌, refl}
use Rattle.std.specs.Prelude.{codes, Some, Ok, Err, map}
use Rattle.sys_base.specs.declared.key.Key.TheVariants as K
use Rattle.sys_base.specs.declared.kinds.Dir.TheVariants as D
use Rattle.sys_base.specs.declared.kinds.Op.TheVariants as O
use Rattle.cell_lexer.specs.declared.token.Mark.TheVariants as M
use Rattle.cell_lexer.specs.declared.token.Sort.TheVariants as S
use Rattle.cell_tree.specs.declared.expression.Expr.TheVariants as E
use Rattle.cell_tree.specs.declared.source.Source.{Source}
use Rattle.cell_tree.specs.declared.statement.Act.TheVariants as A
use Rattle.cell_parser.specs.FirstWrong.{FirstWrong}
use Rattle.cell_parser.specs.Grammar.{Reads, on_line}
use Rattle.cell_parser.specs.Lexeme.{Word, Named, Numeral, Keyword, Marked, Lexeme, At, lexemes}
use Rattle.cell_parser.specs.Inner.Machine.{run, start}
use Rattle.cell_parser.proofs.Backward.{backward}
use Rattle.cell_parser.proofs.FirstWrongs.{first_wrong}

-- words on one line
abbrev on : ℕ → List Word → List Lexeme
on l ws = map (λ w. At l w) ws

abbrev nothing : Source
nothing = record {
  rows = 1;
  cols = 2;
  array_line = 1;
  queues = 3;
  queues_line = 2;
  buffer = 0;
  buffer_line = 0;
  links = [];
  messages = [];
  cells = [];
}

abbrev settings : List Lexeme → List Lexeme
settings ts =
    At 1 (Keyword K.Array) ∷ At 1 (Numeral 1) ∷ At 1 (Named (codes "x")) ∷ At 1 (Numeral 2) ∷ At 1 (Marked M.Semicolon)
    ∷ At 2 (Keyword K.Queues) ∷ At 2 (Numeral 3) ∷ At 2 (Marked M.Semicolon) ∷ ts

-- `array 1 x 2;` and `queues 3;` are a source.
smallest : run start (settings []) ≡ Ok nothing
smallest = refl

-- With `buffer 3;` on a third line, behind them, they are one with that buffer.
abbrev buffer_line : List Lexeme
buffer_line = on 3 (Keyword K.Buffer ∷ Numeral 3 ∷ Marked M.Semicolon ∷ [])

buffered : run start (settings buffer_line) ≡ Ok (record nothing { buffer = 3; buffer_line = 3 })
buffered = refl

-- A second `buffer` line leaves its three words, one before `queues` all that follows, and one without its number the
-- semicolon.
buffer_twice : run start (settings (buffer_line ++ buffer_line)) ≡ Err 3
buffer_twice = refl

buffer_first : run start (on 1 (Keyword K.Array ∷ Numeral 1 ∷ Named (codes "x") ∷ Numeral 2 ∷ Marked M.Semicolon ∷ []) ++ buffer_line) ≡ Err 3
buffer_first = refl

no_number : run start (settings (on 3 (Keyword K.Buffer ∷ Marked M.Semicolon ∷ []))) ≡ Err 1
no_number = refl

-- Without the last semicolon they are none, and no word is left.
cut_off : run start (on 1 (Keyword K.Array ∷ Numeral 1 ∷ Named (codes "x") ∷ Numeral 2 ∷ [])) ≡ Err 0
cut_off = refl

-- A name other than `x` after the rows leaves it and what follows.
no_x : run start (on 1 (Keyword K.Array ∷ Numeral 1 ∷ Named (codes "y") ∷ Numeral 2 ∷ [])) ≡ Err 2
no_x = refl

-- It is the first wrong word.
x_is_wrong : FirstWrong (on 1 (Keyword K.Array ∷ Numeral 1 ∷ Named (codes "y") ∷ Numeral 2 ∷ [])) 2
x_is_wrong = first_wrong (on 1 (Keyword K.Array ∷ Numeral 1 ∷ Named (codes "y") ∷ Numeral 2 ∷ [])) 2 no_x

-- The source below, with one declaration of each sort:
--   link 0.0 E queues 2;
--   message m from 0.0 to 0.1 route E label 7;
--   cell 0.0 {
--     var a[4];
--     a[1] = 1 + 2 * -x;
--     if x < 1 { emit (1 - 2) - 3; } else { for i 2 { read m x; } }
--   }
abbrev larger : List Lexeme
larger =
    settings
    (At 3 (Keyword K.Link) ∷ At 3 (Numeral 0) ∷ At 3 (Marked M.Dot) ∷ At 3 (Numeral 0) ∷ At 3 (Named (codes "E"))
    ∷ At 3 (Keyword K.Queues) ∷ At 3 (Numeral 2) ∷ At 3 (Marked M.Semicolon)
    ∷ At 4 (Keyword K.Message) ∷ At 4 (Named (codes "m")) ∷ At 4 (Keyword K.From) ∷ At 4 (Numeral 0) ∷ At 4 (Marked M.Dot)
    ∷ At 4 (Numeral 0) ∷ At 4 (Keyword K.To) ∷ At 4 (Numeral 0) ∷ At 4 (Marked M.Dot) ∷ At 4 (Numeral 1)
    ∷ At 4 (Keyword K.Route) ∷ At 4 (Named (codes "E")) ∷ At 4 (Keyword K.Label) ∷ At 4 (Numeral 7) ∷ At 4 (Marked M.Semicolon)
    ∷ At 5 (Keyword K.Cell) ∷ At 5 (Numeral 0) ∷ At 5 (Marked M.Dot) ∷ At 5 (Numeral 0) ∷ At 5 (Marked M.OpenBrace)
    ∷ At 6 (Keyword K.Var) ∷ At 6 (Named (codes "a")) ∷ At 6 (Marked M.OpenBracket) ∷ At 6 (Numeral 4)
    ∷ At 6 (Marked M.CloseBracket) ∷ At 6 (Marked M.Semicolon)
    ∷ At 7 (Named (codes "a")) ∷ At 7 (Marked M.OpenBracket) ∷ At 7 (Numeral 1) ∷ At 7 (Marked M.CloseBracket)
    ∷ At 7 (Marked M.Assign) ∷ At 7 (Numeral 1) ∷ At 7 (Marked M.Plus) ∷ At 7 (Numeral 2) ∷ At 7 (Marked M.Star)
    ∷ At 7 (Marked M.Minus) ∷ At 7 (Named (codes "x")) ∷ At 7 (Marked M.Semicolon)
    ∷ At 8 (Keyword K.If) ∷ At 8 (Named (codes "x")) ∷ At 8 (Marked M.Less) ∷ At 8 (Numeral 1) ∷ At 8 (Marked M.OpenBrace)
    ∷ At 8 (Keyword K.Emit) ∷ At 8 (Marked M.OpenParen) ∷ At 8 (Numeral 1) ∷ At 8 (Marked M.Minus) ∷ At 8 (Numeral 2)
    ∷ At 8 (Marked M.CloseParen) ∷ At 8 (Marked M.Minus) ∷ At 8 (Numeral 3) ∷ At 8 (Marked M.Semicolon)
    ∷ At 8 (Marked M.CloseBrace) ∷ At 8 (Keyword K.Else) ∷ At 8 (Marked M.OpenBrace)
    ∷ At 9 (Keyword K.For) ∷ At 9 (Named (codes "i")) ∷ At 9 (Numeral 2) ∷ At 9 (Marked M.OpenBrace)
    ∷ At 10 (Keyword K.Read) ∷ At 10 (Named (codes "m")) ∷ At 10 (Named (codes "x")) ∷ At 10 (Marked M.Semicolon)
    ∷ At 11 (Marked M.CloseBrace) ∷ At 12 (Marked M.CloseBrace) ∷ At 13 (Marked M.CloseBrace)
    ∷ [])

abbrev tree : Source
tree = record nothing {
  links = record { place = record { row = 0; col = 0 }; dir = D.E; queues = 2; line = 3 } ∷ [];
  messages = record {
    name = codes "m";
    from = record { row = 0; col = 0 };
    to = record { row = 0; col = 1 };
    route = D.E ∷ [];
    label = Some 7;
    line = 4;
  } ∷ [];
  cells = record {
    place = record { row = 0; col = 0 };
    vars = record { name = codes "a"; length = Some 4; line = 6 } ∷ [];
    body =
        on_line 7 (A.SetAt (codes "a") (E.Number 1) (E.Binary O.Add (E.Number 1) (E.Binary O.Mul (E.Number 2) (E.Negate (E.Named (codes "x"))))))
        ∷ on_line 8
        (A.If (E.Binary O.Less (E.Named (codes "x")) (E.Number 1))
        (on_line 8 (A.Emit (E.Binary O.Sub (E.Binary O.Sub (E.Number 1) (E.Number 2)) (E.Number 3))) ∷ [])
        (on_line 9 (A.For (codes "i") 2 (on_line 10 (A.Read (codes "m") (codes "x")) ∷ [])) ∷ []))
        ∷ [];
    line = 5;
  } ∷ [];
}

larger_read : run start larger ≡ Ok tree
larger_read = refl

larger_in_grammar : Reads larger tree
larger_in_grammar = backward larger tree larger_read

-- The lexemes of `-x1 07` on the lines 3 and 4.
of_text : lexemes (codes "-x1 07")
    (record { sort = S.Mark M.Minus; at = 0; len = 1; line = 3; column = 1 }
    ∷ record { sort = S.Name; at = 1; len = 2; line = 3; column = 2 }
    ∷ record { sort = S.Number 7; at = 4; len = 2; line = 4; column = 5 } ∷ [])
    ≡ At 3 (Marked M.Minus) ∷ At 3 (Named (codes "x1")) ∷ At 4 (Numeral 7) ∷ []
of_text = refl
