-- From each state some words lead to a source.
use Rattle.std.proofs.Common.{◌≡◌, ℕ, List, [], ◌∷◌, ◌++◌, length, suc, None, Result, Ok, refl, ap, ◌∙◌}
use Rattle.std.specs.Prelude.{codes}
use Rattle.sys_base.specs.declared.key.Key.TheVariants as K
use Rattle.sys_base.specs.declared.kinds.Dir.TheVariants as D
use Rattle.cell_lexer.specs.declared.token.Mark.TheVariants as M
use Rattle.cell_tree.specs.declared.expression.Expr.{Expr}
use Rattle.cell_tree.specs.declared.expression.Expr.TheVariants as E
use Rattle.cell_tree.specs.declared.source.Source.{Source}
use Rattle.cell_tree.specs.declared.statement.Act.TheVariants as A
use Rattle.cell_tree.specs.declared.statement.Stmt.{Stmt}
use Rattle.cell_parser.specs.Grammar.{class, on_line}
use Rattle.cell_parser.specs.Lexeme.{Word, Named, Numeral, Keyword, Marked, Lexeme, At}
use Rattle.cell_parser.specs.Inner.Machine.{Closer, ByParen, ByBracket, BySemicolon, ByBrace, closing, Around, InCell, InLoop, InYes, InNo, Open, Negates, Operand, Terms, Sums, Compares, Then, State, Want, WantAtom, Called, Have, Body, Target, Expect, ExpectName, ExpectNumber, ExpectKey, ExpectDir, Route, Dirs, Label, Length, Buffer, Links, Messages, Cells, Vars, if_same, going, run}
use Rattle.cell_parser.proofs.Words.{equal_words}
use Rattle.cell_parser.proofs.Forward.{Clear, Passes, past_called, past_terms, past_sums, past_compares, past_operand, past_minus, sum_clear, term_clear, unary_clear, atom_clear}
use Rattle.cell_parser.specs.Grammar.{Whole}

-- a word of the ending, whose line does not matter
abbrev word : Word → List Lexeme → List Lexeme
word w us = At 0 w ∷ us

-- a name of the language
abbrev some_name : List ℕ
some_name = codes "a"

-- the ending of the blocks around
abbrev closing_braces : Around → List Lexeme
closing_braces (InCell s c) = word (Marked M.CloseBrace) []
closing_braces (InLoop l c n before around) = word (Marked M.CloseBrace) (closing_braces around)
closing_braces (InYes l e before around) =
    word (Marked M.CloseBrace) (word (Keyword K.Else) (word (Marked M.OpenBrace) (word (Marked M.CloseBrace) (closing_braces around))))
closing_braces (InNo l e first before around) = word (Marked M.CloseBrace) (closing_braces around)

abbrev mutual
  -- the ending after an operand
  operand_ending : Open → Expr → List Lexeme
  operand_ending (Negates k) e = operand_ending k (E.Negate e)
  operand_ending (Operand op e k) f = operand_ending k (E.Binary op e f)
  operand_ending (Terms k) e = operand_ending k e
  operand_ending (Sums k) e = operand_ending k e
  operand_ending (Compares k) e = operand_ending k e
  operand_ending (Then c f) e = word (Marked (closing c)) (ending (f e))

  -- one ending from each state on
  pub ending : State → List Lexeme
  ending (Want k) = word (Numeral 0) (operand_ending k (E.Number 0))
  ending (WantAtom k) = word (Numeral 0) (operand_ending k (E.Number 0))
  ending (Called n k) = operand_ending k (E.Named n)
  ending (Have e k) = operand_ending k e
  ending (Body b around) = closing_braces around
  ending (Target l n b around) = word (Marked M.Assign) (word (Numeral 0) (word (Marked M.Semicolon) (closing_braces around)))
  ending (Expect w state) = word w (ending state)
  ending (ExpectName f) = word (Named some_name) (ending (f some_name))
  ending (ExpectNumber f) = word (Numeral 0) (ending (f 0))
  ending (ExpectKey k f) = word (Keyword k) (ending (f 0))
  ending (ExpectDir f) = word (Named (codes "N")) (ending (f D.N))
  ending (Route f) = word (Marked M.Semicolon) (ending (f [] None))
  ending (Dirs ds f) = word (Marked M.Semicolon) (ending (f ds None))
  ending (Label f) = word (Marked M.Semicolon) (ending (f None))
  ending (Length f) = word (Marked M.Semicolon) (ending (f None))
  ending (Buffer f) = []
  ending (Links s) = []
  ending (Messages s) = []
  ending (Cells s) = []
  ending (Vars s c) = word (Marked M.CloseBrace) []

-- Nothing after a whole expression goes on with it.
closer_clear : (c : Closer) → Passes Whole (class (Marked (closing c)))
closer_clear ByParen = tt
closer_clear ByBracket = tt
closer_clear BySemicolon = tt
closer_clear ByBrace = tt

ending_clear : (k : Open) (e : Expr) → Clear Whole (operand_ending k e)
ending_clear (Negates k) e = ending_clear k (E.Negate e)
ending_clear (Operand op e k) f = ending_clear k (E.Binary op e f)
ending_clear (Terms k) e = ending_clear k e
ending_clear (Sums k) e = ending_clear k e
ending_clear (Compares k) e = ending_clear k e
ending_clear (Then c f) e = closer_clear c

-- A run comes to a source.
abbrev pub Comes : State → List Lexeme → Type 0
Comes state ts = (s : Source) × (run state ts ≡ Ok s)

-- A run that goes on as another one comes to what that comes to.
comes : {a b : Result Source ℕ} → a ≡ b → (s : Source) × (b ≡ Ok s) → (s : Source) × (a ≡ Ok s)
comes e (s, h) = (s, e ∙ h)

same_comes : (v : Word) (l : ℕ) (state : State) (us : List Lexeme) → Comes state us → Comes (Expect v state) (At l v ∷ us)
same_comes v l state us (s, h) = (s, ap (λ b. going (if_same b state) (λ next. run next us) (suc (length us))) (equal_words v) ∙ h)

braces_come : (around : Around) (b : List Stmt) → Comes (Body b around) (closing_braces around)
braces_come (InCell s c) b = (_, refl)
braces_come (InLoop l c n before around) b = braces_come around (before ++ on_line l (A.For c n b) ∷ [])
braces_come (InYes l e before around) b = braces_come around (before ++ on_line l (A.If e b []) ∷ [])
braces_come (InNo l e first before around) b = braces_come around (before ++ on_line l (A.If e first b) ∷ [])

mutual
  operand_comes : (k : Open) (e : Expr) → Comes (Have e k) (operand_ending k e)
  operand_comes (Negates k) e = comes (past_minus e k (operand_ending k (E.Negate e))) (operand_comes k (E.Negate e))
  operand_comes (Operand op e k) f =
      comes (past_operand op e f k (operand_ending k (E.Binary op e f))) (operand_comes k (E.Binary op e f))
  operand_comes (Terms k) e =
      comes (past_terms e k (operand_ending k e) (sum_clear (operand_ending k e) (ending_clear k e))) (operand_comes k e)
  operand_comes (Sums k) e = comes (past_sums e k (operand_ending k e) (ending_clear k e)) (operand_comes k e)
  operand_comes (Compares k) e = comes (past_compares e k (operand_ending k e) (ending_clear k e)) (operand_comes k e)
  operand_comes (Then c f) e = same_comes (Marked (closing c)) 0 (f e) (ending (f e)) (ending_comes (f e))

  -- A state's ending leads to a source.
  pub ending_comes : (state : State) → Comes state (ending state)
  ending_comes (Want k) = operand_comes k (E.Number 0)
  ending_comes (WantAtom k) = operand_comes k (E.Number 0)
  ending_comes (Called n k) =
      let us = operand_ending k (E.Named n) in
      let clear = atom_clear us (unary_clear us (term_clear us (sum_clear us (ending_clear k (E.Named n))))) in
      comes (past_called n k us clear) (operand_comes k (E.Named n))
  ending_comes (Have e k) = operand_comes k e
  ending_comes (Body b around) = braces_come around b
  ending_comes (Target l n b around) = braces_come around (b ++ on_line l (A.Set n (E.Number 0)) ∷ [])
  ending_comes (Expect w state) = same_comes w 0 state (ending state) (ending_comes state)
  ending_comes (ExpectName f) = ending_comes (f some_name)
  ending_comes (ExpectNumber f) = ending_comes (f 0)
  ending_comes (ExpectKey k f) = same_comes (Keyword k) 0 (f 0) (ending (f 0)) (ending_comes (f 0))
  ending_comes (ExpectDir f) = ending_comes (f D.N)
  ending_comes (Route f) = ending_comes (f [] None)
  ending_comes (Dirs ds f) = ending_comes (f ds None)
  ending_comes (Label f) = ending_comes (f None)
  ending_comes (Length f) = ending_comes (f None)
  ending_comes (Buffer f) = (f 0 0, refl)
  ending_comes (Links s) = (s, refl)
  ending_comes (Messages s) = (s, refl)
  ending_comes (Cells s) = (s, refl)
  ending_comes (Vars s c) = (_, refl)
