-- What the words from a state of the machine on have to be, for a source to be read.
use Rattle.std.proofs.Common.{◌≡◌, ℕ, List, [], ◌∷◌, ◌++◌, Option, Some, None}
use Rattle.sys_base.specs.declared.key.Key.{Key}
use Rattle.sys_base.specs.declared.key.Key.TheVariants as K
use Rattle.cell_lexer.specs.declared.token.Mark.TheVariants as M
use Rattle.cell_tree.specs.declared.expression.Expr.{Expr}
use Rattle.cell_tree.specs.declared.expression.Expr.TheVariants as E
use Rattle.cell_tree.specs.declared.source.Source.{Source}
use Rattle.cell_tree.specs.declared.statement.Act.TheVariants as A
use Rattle.cell_tree.specs.declared.statement.Stmt.{Stmt}
use Rattle.cell_parser.specs.Grammar.{Level, Whole, Sum, Term, Unary, Atom, ReadsExpr, ReadsStmt, ReadsBody, Star, ReadsDir, ReadsBuffer, ReadsLink, ReadsRoute, ReadsLabel, ReadsMessage, ReadsLength, ReadsVar, ReadsCell, on_line}
use Rattle.cell_parser.specs.Lexeme.{Word, Named, Numeral, Keyword, Marked, Lexeme, At}
use Rattle.cell_parser.specs.Inner.Machine.{Around, InCell, InLoop, InYes, InNo, closing, Open, Negates, Operand, Terms, Sums, Compares, Then, State, Want, WantAtom, Called, Have, Body, Target, Expect, ExpectName, ExpectNumber, ExpectKey, ExpectDir, Route, Dirs, Label, Length, Buffer, Links, Messages, Cells, Vars, with_cell}

-- This word stands first, and after it something holds.
pub data Takes (w : Word) (P : List Lexeme → Type 0) : List Lexeme → Type 0 where
  takes : {l : ℕ} {us : List Lexeme} → P us → Takes w P (At l w ∷ us)

-- A name stands first, and after it something holds of it.
pub data TakesName (P : List ℕ → List Lexeme → Type 0) : List Lexeme → Type 0 where
  takes_name : {l : ℕ} {n : List ℕ} {us : List Lexeme} → P n us → TakesName P (At l (Named n) ∷ us)

-- A number stands first, and after it something holds of it.
pub data TakesNumber (P : ℕ → List Lexeme → Type 0) : List Lexeme → Type 0 where
  takes_number : {l n : ℕ} {us : List Lexeme} → P n us → TakesNumber P (At l (Numeral n) ∷ us)

-- This keyword stands first, and after it something holds of its line.
pub data TakesKey (k : Key) (P : ℕ → List Lexeme → Type 0) : List Lexeme → Type 0 where
  takes_key : {l : ℕ} {us : List Lexeme} → P l us → TakesKey k P (At l (Keyword k) ∷ us)

-- Words that read to a part stand first, and after them something holds of the part.
pub data Part {A : Type 0} (R : A → List Lexeme → List Lexeme → Type 0) (P : A → List Lexeme → Type 0) : List Lexeme → Type 0 where
  part : {a : A} {ts us : List Lexeme} → R a ts us → P a us → Part R P ts

-- Whatever reads as this expression up to here reads as another one, up to where something holds of that.
pub data Grown (low high : Level) (e : Expr) (P : Expr → List Lexeme → Type 0) : List Lexeme → Type 0 where
  grown : {f : Expr} {us vs : List Lexeme} → ((ts : List Lexeme) → ReadsExpr low e ts us → ReadsExpr high f ts vs) → P f vs
      → Grown low high e P us

-- No word is left, and the source is the one that was read.
pub data Ends (s p : Source) : List Lexeme → Type 0 where
  ends : s ≡ p → Ends s p []

-- The words after a name that make an expression of it.
abbrev pub ReadsCalled : List ℕ → Expr → List Lexeme → List Lexeme → Type 0
ReadsCalled n e ts us = (l : ℕ) → ReadsExpr Atom e (At l (Named n) ∷ ts) us

-- The words after a name on a line that make a statement of it.
abbrev pub ReadsTarget : ℕ → List ℕ → Stmt → List Lexeme → List Lexeme → Type 0
ReadsTarget l n s ts us = ReadsStmt s (At l (Named n) ∷ ts) us

-- Cells go on to the source, after this part of it.
abbrev pub CellsGo : Source → Source → List Lexeme → Type 0
CellsGo p s = Part (Star ReadsCell) (λ xs. Ends (record s { cells = s.cells ++ xs }) p)

-- Messages and cells go on to the source, after this part of it.
abbrev pub MessagesGo : Source → Source → List Lexeme → Type 0
MessagesGo p s = Part (Star ReadsMessage) (λ xs. CellsGo p (record s { messages = s.messages ++ xs }))

-- `link` lines, messages and cells go on to the source, after this part of it.
abbrev pub LinksGo : Source → Source → List Lexeme → Type 0
LinksGo p s = Part (Star ReadsLink) (λ xs. MessagesGo p (record s { links = s.links ++ xs }))

-- The blocks around close, from these statements of the innermost one on.
abbrev pub Closes : Source → Around → List Stmt → List Lexeme → Type 0
Closes p (InCell s c) b = Takes (Marked M.CloseBrace) (CellsGo p (with_cell s (record c { body = b })))
Closes p (InLoop l c n before around) b =
    Takes (Marked M.CloseBrace) (Part ReadsBody (λ d. Closes p around ((before ++ on_line l (A.For c n b) ∷ []) ++ d)))
Closes p (InYes l e before around) b =
    Takes (Marked M.CloseBrace) (Takes (Keyword K.Else) (Takes (Marked M.OpenBrace) (Part ReadsBody (λ c.
    Takes (Marked M.CloseBrace) (Part ReadsBody (λ d. Closes p around ((before ++ on_line l (A.If e b c) ∷ []) ++ d)))))))
Closes p (InNo l e first before around) b =
    Takes (Marked M.CloseBrace) (Part ReadsBody (λ d. Closes p around ((before ++ on_line l (A.If e first b) ∷ []) ++ d)))

-- Statements go on after these ones, and the blocks around close.
abbrev pub BodyGoes : Source → Around → List Stmt → List Lexeme → Type 0
BodyGoes p around b = Part ReadsBody (λ c. Closes p around (b ++ c))

abbrev mutual
  -- An operand goes on to the source.
  pub Goes : Source → Open → Expr → List Lexeme → Type 0
  Goes p (Negates k) e us = Goes p k (E.Negate e) us
  Goes p (Operand op e k) f us = Goes p k (E.Binary op e f) us
  Goes p (Terms k) e us = Grown Term Term e (λ f vs. Goes p k f vs) us
  Goes p (Sums k) e us = Grown Sum Sum e (λ f vs. Goes p k f vs) us
  Goes p (Compares k) e us = Grown Sum Whole e (λ f vs. Goes p k f vs) us
  Goes p (Then c f) e us = Takes (Marked (closing c)) (λ vs. Sentence p (f e) vs) us

  -- A state goes on to the source.
  pub Sentence : Source → State → List Lexeme → Type 0
  Sentence p (Want k) ts = Part (ReadsExpr Unary) (λ e us. Goes p k e us) ts
  Sentence p (WantAtom k) ts = Part (ReadsExpr Atom) (λ e us. Goes p k e us) ts
  Sentence p (Called n k) ts = Part (ReadsCalled n) (λ e us. Goes p k e us) ts
  Sentence p (Have e k) ts = Goes p k e ts
  Sentence p (Body b around) ts = BodyGoes p around b ts
  Sentence p (Target l n b around) ts = Part (ReadsTarget l n) (λ s us. BodyGoes p around (b ++ s ∷ []) us) ts
  Sentence p (Expect w state) ts = Takes w (λ us. Sentence p state us) ts
  Sentence p (ExpectName f) ts = TakesName (λ n us. Sentence p (f n) us) ts
  Sentence p (ExpectNumber f) ts = TakesNumber (λ n us. Sentence p (f n) us) ts
  Sentence p (ExpectKey k f) ts = TakesKey k (λ l us. Sentence p (f l) us) ts
  Sentence p (ExpectDir f) ts = Part ReadsDir (λ d us. Sentence p (f d) us) ts
  Sentence p (Route f) ts =
      Part ReadsRoute (λ r us. Part ReadsLabel (λ o vs. Takes (Marked M.Semicolon) (λ ws. Sentence p (f r o) ws) vs) us) ts
  Sentence p (Dirs ds f) ts =
      Part (Star ReadsDir) (λ r us. Part ReadsLabel (λ o vs. Takes (Marked M.Semicolon) (λ ws. Sentence p (f (ds ++ r) o) ws) vs) us) ts
  Sentence p (Label f) ts = Part ReadsLabel (λ o us. Takes (Marked M.Semicolon) (λ vs. Sentence p (f o) vs) us) ts
  Sentence p (Length f) ts = Part ReadsLength (λ o us. Takes (Marked M.Semicolon) (λ vs. Sentence p (f o) vs) us) ts
  Sentence p (Buffer f) ts = Part ReadsBuffer (λ b us. LinksGo p (f b.0 b.1) us) ts
  Sentence p (Links s) ts = LinksGo p s ts
  Sentence p (Messages s) ts = MessagesGo p s ts
  Sentence p (Cells s) ts = CellsGo p s ts
  Sentence p (Vars s c) ts =
      Part (Star ReadsVar) (λ xs us. Part ReadsBody (λ b vs. Takes (Marked M.CloseBrace) (λ ws. CellsGo p (with_cell s (record c { vars = c.vars ++ xs; body = b })) ws) vs) us) ts

-- A step's state goes on to the source.
abbrev pub After : Source → Option State → List Lexeme → Type 0
After p None ts = ⊥
After p (Some state) ts = Sentence p state ts
