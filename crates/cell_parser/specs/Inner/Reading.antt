-- What the parser's functions say of the tokens that they read, in terms of the machine.
use Rattle.std.specs.Prelude.{ℕ, ◌≡◌, ◌+◌, ◌≤◌, List, [], ◌∷◌, ◌++◌, length, take, drop, Err}
use Rattle.sys_base.specs.declared.key.Key.{Key}
use Rattle.cell_lexer.specs.Forms.{Says}
use Rattle.cell_lexer.specs.declared.token.Mark.{Mark}
use Rattle.cell_lexer.specs.declared.token.Mark.TheVariants as M
use Rattle.cell_lexer.specs.declared.token.Token.{Token}
use Rattle.cell_tree.specs.declared.expression.Expr.{Expr}
use Rattle.cell_tree.specs.declared.statement.Act.{Act}
use Rattle.cell_tree.specs.declared.statement.Act.TheVariants as A
use Rattle.cell_tree.specs.declared.statement.Stmt.{Stmt}
use Rattle.cell_parser.specs.Lexeme.{Word, Keyword, Lexeme, At, lexemes}
use Rattle.cell_parser.specs.Inner.Machine.{Around, Closer, closing, State, Open, Want, Terms, Sums, Compares, Have, Body, Expect, whole, mark, stated, ended, closed, run}
use Rattle.cell_parser.specs.declared.fault.Fault.{Fault}
use Rattle.cell_parser.specs.declared.fault.Fault.TheVariants as F

-- The token's bytes stand in the text, and it says what they say.
pub record Stands (text : List ℕ) (t : Token) : Type 0 where
  pub inside : t.at + t.len ≤ length text
  pub says : Says (take t.len (drop t.at text)) t.sort

-- Each of these tokens stands in the text.
unfoldable pub AreTokens : List ℕ → List Token → Type 0
AreTokens text [] = Unit {0}
AreTokens text (t ∷ ts) = Stands text t × AreTokens text ts

-- the line of the first token, or 0 where there is none
abbrev pub first_line : List Token → ℕ
first_line [] = 0
first_line (t ∷ ts) = t.line

-- This word stands first, and the others after it.
abbrev pub Begins : List ℕ → Word → List Token → List Token → Type 0
Begins text w ts us = lexemes text ts ≡ At (first_line ts) w ∷ lexemes text us

-- This word does not stand first.
abbrev pub Lacks : List ℕ → Word → List Token → Type 0
Lacks text w ts = (l : ℕ) (us : List Lexeme) → lexemes text ts ≡ At l w ∷ us → ⊥

-- With whatever is done with this value, the machine goes on at the words after it.
abbrev pub IsRead : {A : Type 0} → List ℕ → ((A → State) → State) → List Token → A → List Token → Type 0
IsRead {A = A} text state ts a us = (k : A → State) → run (state k) (lexemes text ts) ≡ run (k a) (lexemes text us)

-- The machine stops where this many words are left as the fault says, with whatever were done with a value.
abbrev pub IsStuck : {A : Type 0} → List ℕ → ((A → State) → State) → List Token → Fault → Type 0
IsStuck {A = A} text state ts e = (left : ℕ) → e ≡ F.Unexpected left → (k : A → State)
    → run (state k) (lexemes text ts) ≡ Err left

-- This word comes first, with whatever is wanted after it.
abbrev pub Takes : List ℕ → Word → List Token → List Token → Type 0
Takes text w ts us = (k : State) → run (Expect w k) (lexemes text ts) ≡ run k (lexemes text us)

-- This word does not come first, and the machine stops there.
abbrev pub Misses : List ℕ → Word → List Token → Fault → Type 0
Misses text w ts e = (left : ℕ) → e ≡ F.Unexpected left → (k : State) → run (Expect w k) (lexemes text ts) ≡ Err left

-- Where this operand is wanted, the machine has it at the words after it, with whatever is done with it.
abbrev pub IsOperand : List ℕ → (Open → State) → List Token → Expr → List Token → Type 0
IsOperand text state ts e us = (k : Open) → run (state k) (lexemes text ts) ≡ run (Have e k) (lexemes text us)

-- Where this operand is wanted, the machine stops, with whatever were done with it.
abbrev pub NoOperand : List ℕ → (Open → State) → List Token → Fault → Type 0
NoOperand text state ts e = (left : ℕ) → e ≡ F.Unexpected left → (k : Open) → run (state k) (lexemes text ts) ≡ Err left

-- what is wanted for an operand of each level
abbrev pub a_term : Open → State
a_term k = Want (Terms k)

abbrev pub a_sum : Open → State
a_sum k = Want (Terms (Sums k))

abbrev pub a_whole : Open → State
a_whole k = Want (Terms (Sums (Compares k)))

-- A whole expression comes first, and this mark after it.
abbrev pub IsWhole : List ℕ → Mark → List Token → Expr → List Token → Type 0
IsWhole text m ts e us = (c : Closer) → closing c ≡ m → IsRead text (λ f. whole c f) ts e us

-- No whole expression comes first, or this mark does not come after it.
abbrev pub NoWhole : List ℕ → Mark → List Token → Fault → Type 0
NoWhole text m ts e = (c : Closer) → closing c ≡ m → IsStuck text (λ f. whole c f) ts e

-- After what a statement begins with, it does this.
abbrev pub IsAct : List ℕ → (ℕ → List Stmt → Around → State) → List Token → Act → List Token → Type 0
IsAct text state ts act us = (l : ℕ) (b : List Stmt) (around : Around) → run (state l b around) (lexemes text ts)
    ≡ run (stated l act b around) (lexemes text us)

-- After what a statement begins with, the machine stops.
abbrev pub NoAct : List ℕ → (ℕ → List Stmt → Around → State) → List Token → Fault → Type 0
NoAct text state ts e = (left : ℕ) → e ≡ F.Unexpected left → (l : ℕ) (b : List Stmt) (around : Around)
    → run (state l b around) (lexemes text ts) ≡ Err left

-- what follows the name of a variable that is assigned to
abbrev pub set_state : List ℕ → ℕ → List Stmt → Around → State
set_state n l b around = ended l (λ e. A.Set n e) b around

-- A statement that begins with this keyword does this.
abbrev pub IsKeyed : List ℕ → Key → List Token → Act → List Token → Type 0
IsKeyed text key ts act us =
    (l : ℕ) (b : List Stmt) (around : Around) → run (Body b around) (At l (Keyword key) ∷ lexemes text ts)
    ≡ run (stated l act b around) (lexemes text us)

-- At this keyword or after it the machine stops.
abbrev pub NoKeyed : List ℕ → Key → List Token → Fault → Type 0
NoKeyed text key ts e =
    (left : ℕ) → e ≡ F.Unexpected left → (l : ℕ) (b : List Stmt) (around : Around)
    → run (Body b around) (At l (Keyword key) ∷ lexemes text ts) ≡ Err left

-- This statement comes first.
abbrev pub IsStatement : List ℕ → List Token → Stmt → List Token → Type 0
IsStatement text ts s us = (b : List Stmt) (around : Around) → run (Body b around) (lexemes text ts)
    ≡ run (Body (b ++ s ∷ []) around) (lexemes text us)

-- No statement comes first.
abbrev pub NoStatement : List ℕ → List Token → Fault → Type 0
NoStatement text ts e = (left : ℕ) → e ≡ F.Unexpected left → (b : List Stmt) (around : Around)
    → run (Body b around) (lexemes text ts) ≡ Err left

-- These statements and the brace that ends their block come first.
abbrev pub IsBody : List ℕ → List Token → List Stmt → List Token → Type 0
IsBody text ts b us = (around : Around) → run (Body [] around) (lexemes text ts)
    ≡ run (closed b around) (lexemes text us)

-- No statements with a brace after them come first.
abbrev pub NoBody : List ℕ → List Token → Fault → Type 0
NoBody text ts e = (left : ℕ) → e ≡ F.Unexpected left → (around : Around) → run (Body [] around) (lexemes text ts)
    ≡ Err left

-- A block with these statements comes first.
abbrev pub IsBlock : List ℕ → List Token → List Stmt → List Token → Type 0
IsBlock text ts b us = (around : Around) → run (mark M.OpenBrace (Body [] around)) (lexemes text ts)
    ≡ run (closed b around) (lexemes text us)

-- No block comes first.
abbrev pub NoBlock : List ℕ → List Token → Fault → Type 0
NoBlock text ts e = (left : ℕ) → e ≡ F.Unexpected left → (around : Around)
    → run (mark M.OpenBrace (Body [] around)) (lexemes text ts) ≡ Err left
