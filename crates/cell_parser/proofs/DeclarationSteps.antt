-- Single steps of the machine at declarations, at what the parser's tests of the next word find.
use Rattle.std.proofs.Common.{◌≡◌, ℕ, ◌==◌, false, suc, List, [], ◌∷◌, ◌++◌, length, Option, Some, None, Err, refl, sym, ap, ◌∙◌}
use Rattle.sys_base.specs.declared.key.Key.TheVariants as K
use Rattle.sys_base.specs.declared.kinds.Dir.{Dir}
use Rattle.cell_lexer.specs.declared.token.Mark.TheVariants as M
use Rattle.cell_lexer.specs.declared.token.Token.{Token}
use Rattle.cell_tree.specs.declared.source.CellDecl.{CellDecl}
use Rattle.cell_tree.specs.declared.source.Source.{Source}
use Rattle.cell_parser.specs.Lexeme.{Word, Named, Numeral, Keyword, Marked, Lexeme, At, lexemes}
use Rattle.cell_parser.specs.Inner.Machine.{State, InCell, Body, Route, Dirs, Label, Length, Buffer, Links, Messages, Cells, Vars, same_word, dir_of, mark, run, going, if_same, at_body, at_dir, at_label, at_route, at_length, at_cells, at_messages, at_links, at_buffer, at_vars}
use Rattle.cell_parser.proofs.Steps.{Without}

-- the step at the first word, where another state has the same one
same_step : (l : ℕ) (w : Word) (us : List Lexeme) (o p : Option State) → o ≡ p → going o (λ next. run next us) (suc (length us)) ≡ going p (λ next. run next us) (suc (length us))
same_step l w us o p e = ap (λ o. going o (λ next. run next us) (suc (length us))) e

without : (v w : Word) (l : ℕ) (us : List Lexeme) → Without v (At l w ∷ us) → w ≡ v → ⊥
without v w l us h e = h l us (ap (λ x. At l x ∷ us) e)

buffer_other : (w : Word) (l : ℕ) (f : ℕ → ℕ → Source) → (w ≡ Keyword K.Buffer → ⊥) → at_buffer w l f ≡ at_links w l (f 0 0)
buffer_other (Keyword K.Buffer) l f h = absurd (h refl)
buffer_other w l f h = refl

pub buffer_pass : (f : ℕ → ℕ → Source) (xs : List Lexeme) → Without (Keyword K.Buffer) xs → run (Buffer f) xs ≡ run (Links (f 0 0)) xs
buffer_pass f [] h = refl
buffer_pass f (At l w ∷ us) h = same_step l w us _ _ (buffer_other w l f (without (Keyword K.Buffer) w l us h))

links_other : (w : Word) (l : ℕ) (s : Source) → (w ≡ Keyword K.Link → ⊥) → at_links w l s ≡ at_messages w l s
links_other (Keyword K.Link) l s h = absurd (h refl)
links_other w l s h = refl

pub links_pass : (s : Source) (xs : List Lexeme) → Without (Keyword K.Link) xs → run (Links s) xs ≡ run (Messages s) xs
links_pass s [] h = refl
links_pass s (At l w ∷ us) h = same_step l w us _ _ (links_other w l s (without (Keyword K.Link) w l us h))

messages_other : (w : Word) (l : ℕ) (s : Source) → (w ≡ Keyword K.Message → ⊥) → at_messages w l s ≡ at_cells w l s
messages_other (Keyword K.Message) l s h = absurd (h refl)
messages_other w l s h = refl

pub messages_pass : (s : Source) (xs : List Lexeme) → Without (Keyword K.Message) xs → run (Messages s) xs ≡ run (Cells s) xs
messages_pass s [] h = refl
messages_pass s (At l w ∷ us) h = same_step l w us _ _ (messages_other w l s (without (Keyword K.Message) w l us h))

cells_other : (w : Word) (l : ℕ) (s : Source) → (w ≡ Keyword K.Cell → ⊥) → at_cells w l s ≡ None
cells_other (Keyword K.Cell) l s h = absurd (h refl)
cells_other w l s h = refl

-- No cell comes first, and some word does.
pub cells_stuck : (s : Source) (xs : List Lexeme) → (xs ≡ [] → ⊥) → Without (Keyword K.Cell) xs → run (Cells s) xs ≡ Err (length xs)
cells_stuck s [] some h = absurd (some refl)
cells_stuck s (At l w ∷ us) some h = same_step l w us _ _ (cells_other w l s (without (Keyword K.Cell) w l us h))

vars_other : (w : Word) (l : ℕ) (s : Source) (c : CellDecl) → (w ≡ Keyword K.Var → ⊥) → at_vars w l s c ≡ at_body w l [] (InCell s c)
vars_other (Keyword K.Var) l s c h = absurd (h refl)
vars_other w l s c h = refl

pub vars_pass : (s : Source) (c : CellDecl) (xs : List Lexeme) → Without (Keyword K.Var) xs → run (Vars s c) xs ≡ run (Body [] (InCell s c)) xs
vars_pass s c [] h = refl
vars_pass s c (At l w ∷ us) h = same_step l w us _ _ (vars_other w l s c (without (Keyword K.Var) w l us h))

route_other : (w : Word) (f : List Dir → Option ℕ → State) → (w ≡ Keyword K.Route → ⊥) → at_route w f ≡ at_label w (f [])
route_other (Keyword K.Route) f h = absurd (h refl)
route_other w f h = refl

pub route_pass : (f : List Dir → Option ℕ → State) (xs : List Lexeme) → Without (Keyword K.Route) xs → run (Route f) xs ≡ run (Label (λ o. f [] o)) xs
route_pass f [] h = refl
route_pass f (At l w ∷ us) h = same_step l w us _ _ (route_other w f (without (Keyword K.Route) w l us h))

pub dirs_pass : (ds : List Dir) (f : List Dir → Option ℕ → State) (xs : List Lexeme) → ((n : List ℕ) → Without (Named n) xs) → run (Dirs ds f) xs ≡ run (Label (λ o. f ds o)) xs
dirs_pass ds f [] h = refl
dirs_pass ds f (At l (Named n) ∷ us) h = absurd (h n l us refl)
dirs_pass ds f (At l (Numeral n) ∷ us) h = refl
dirs_pass ds f (At l (Keyword k) ∷ us) h = refl
dirs_pass ds f (At l (Marked m) ∷ us) h = refl

-- A name comes first, which is a direction or none.
pub dirs_step : (ds : List Dir) (f : List Dir → Option ℕ → State) (d : Dir) (n : List ℕ) (l : ℕ) (xs us : List Lexeme) → xs ≡ At l (Named n) ∷ us → dir_of n ≡ Some d → run (Dirs ds f) xs ≡ run (Dirs (ds ++ d ∷ []) f) us
dirs_step ds f d n l xs us e is =
    ap (run (Dirs ds f)) e ∙ ap (λ o. going (at_dir o (λ d. Dirs (ds ++ d ∷ []) f)) (λ next. run next us) (suc (length us))) is

pub dirs_stuck : (ds : List Dir) (f : List Dir → Option ℕ → State) (n : List ℕ) (l : ℕ) (xs us : List Lexeme) → xs ≡ At l (Named n) ∷ us → dir_of n ≡ None → run (Dirs ds f) xs ≡ Err (length xs)
dirs_stuck ds f n l xs us e is =
    ap (run (Dirs ds f)) e ∙ ap (λ o. going (at_dir o (λ d. Dirs (ds ++ d ∷ []) f)) (λ next. run next us) (suc (length us))) is ∙ ap (λ ys. Err (length ys)) (sym e)

label_other : (w : Word) (f : Option ℕ → State) → (w ≡ Keyword K.Label → ⊥) → at_label w f ≡ if_same (same_word (Marked M.Semicolon) w) (f None)
label_other (Keyword K.Label) f h = absurd (h refl)
label_other (Keyword k) f h = refl
label_other (Named n) f h = refl
label_other (Numeral n) f h = refl
label_other (Marked M.OpenBrace) f h = refl
label_other (Marked M.CloseBrace) f h = refl
label_other (Marked M.OpenBracket) f h = refl
label_other (Marked M.CloseBracket) f h = refl
label_other (Marked M.OpenParen) f h = refl
label_other (Marked M.CloseParen) f h = refl
label_other (Marked M.Semicolon) f h = refl
label_other (Marked M.Dot) f h = refl
label_other (Marked M.Assign) f h = refl
label_other (Marked M.Same) f h = refl
label_other (Marked M.Differ) f h = refl
label_other (Marked M.Less) f h = refl
label_other (Marked M.AtMost) f h = refl
label_other (Marked M.Plus) f h = refl
label_other (Marked M.Minus) f h = refl
label_other (Marked M.Star) f h = refl
label_other (Marked M.Slash) f h = refl
label_other (Marked M.Percent) f h = refl

pub label_pass : (f : Option ℕ → State) (xs : List Lexeme) → Without (Keyword K.Label) xs → run (Label f) xs ≡ run (mark M.Semicolon (f None)) xs
label_pass f [] h = refl
label_pass f (At l w ∷ us) h = same_step l w us _ _ (label_other w f (without (Keyword K.Label) w l us h))

length_other : (w : Word) (f : Option ℕ → State) → (w ≡ Marked M.OpenBracket → ⊥) → at_length w f ≡ if_same (same_word (Marked M.Semicolon) w) (f None)
length_other (Marked M.OpenBrace) f h = refl
length_other (Marked M.CloseBrace) f h = refl
length_other (Marked M.OpenBracket) f h = absurd (h refl)
length_other (Marked M.CloseBracket) f h = refl
length_other (Marked M.OpenParen) f h = refl
length_other (Marked M.CloseParen) f h = refl
length_other (Marked M.Semicolon) f h = refl
length_other (Marked M.Dot) f h = refl
length_other (Marked M.Assign) f h = refl
length_other (Marked M.Same) f h = refl
length_other (Marked M.Differ) f h = refl
length_other (Marked M.Less) f h = refl
length_other (Marked M.AtMost) f h = refl
length_other (Marked M.Plus) f h = refl
length_other (Marked M.Minus) f h = refl
length_other (Marked M.Star) f h = refl
length_other (Marked M.Slash) f h = refl
length_other (Marked M.Percent) f h = refl
length_other (Keyword k) f h = refl
length_other (Named n) f h = refl
length_other (Numeral n) f h = refl

pub length_pass : (f : Option ℕ → State) (xs : List Lexeme) → Without (Marked M.OpenBracket) xs → run (Length f) xs ≡ run (mark M.Semicolon (f None)) xs
length_pass f [] h = refl
length_pass f (At l w ∷ us) h = same_step l w us _ _ (length_other w f (without (Marked M.OpenBracket) w l us h))

-- Where a list of tokens is not empty, some word comes first.
pub some_lexeme : (text : List ℕ) (ts : List Token) → false ≡ (length ts == 0) → lexemes text ts ≡ [] → ⊥
some_lexeme text [] some e = cc
some_lexeme text (t ∷ ts) some e = cc
