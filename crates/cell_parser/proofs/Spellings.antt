-- No two marks and no two keywords are spelt alike.
use Rattle.std.proofs.Common.{ℕ, ◌≡◌, ◌+◌, ◌*◌, ◌==◌, List, get_or, if◌then◌else◌, sym, refl, ap, ◌∙◌}
use Rattle.sys_base.specs.Key.{key_text}
use Rattle.sys_base.specs.declared.key.Key.{Key}
use Rattle.sys_base.specs.declared.key.Key.TheVariants as K
use Rattle.cell_lexer.specs.Forms.{mark_text}
use Rattle.cell_lexer.specs.declared.token.Mark.{Mark}
use Rattle.cell_lexer.specs.declared.token.Mark.TheVariants as M

-- the two first bytes in one number
abbrev front_number : List ℕ → ℕ
front_number bs = 256 * get_or bs 0 0 + get_or bs 1 0

abbrev mark_from : ℕ → Mark
mark_from n = if n == 31488 then M.OpenBrace else (if n == 32000 then M.CloseBrace else (if n == 23296 then M.OpenBracket else (if n == 23808 then M.CloseBracket else (if n == 10240 then M.OpenParen else (if n == 10496 then M.CloseParen else (if n == 15104 then M.Semicolon else (if n == 11776 then M.Dot else (if n == 15616 then M.Assign else (if n == 15677 then M.Same else (if n == 8509 then M.Differ else (if n == 15360 then M.Less else (if n == 15421 then M.AtMost else (if n == 11008 then M.Plus else (if n == 11520 then M.Minus else (if n == 10752 then M.Star else (if n == 12032 then M.Slash else M.Percent))))))))))))))))

mark_back : (m : Mark) → mark_from (front_number (mark_text m)) ≡ m
mark_back M.OpenBrace = refl
mark_back M.CloseBrace = refl
mark_back M.OpenBracket = refl
mark_back M.CloseBracket = refl
mark_back M.OpenParen = refl
mark_back M.CloseParen = refl
mark_back M.Semicolon = refl
mark_back M.Dot = refl
mark_back M.Assign = refl
mark_back M.Same = refl
mark_back M.Differ = refl
mark_back M.Less = refl
mark_back M.AtMost = refl
mark_back M.Plus = refl
mark_back M.Minus = refl
mark_back M.Star = refl
mark_back M.Slash = refl
mark_back M.Percent = refl

pub one_mark : (m n : Mark) → mark_text m ≡ mark_text n → m ≡ n
one_mark m n e = sym (mark_back m) ∙ ap (λ bs. mark_from (front_number bs)) e ∙ mark_back n

abbrev key_from : ℕ → Key
key_from n = if n == 24946 then K.Array else (if n == 29045 then K.Queues else (if n == 27753 then K.Link else (if n == 28005 then K.Message else (if n == 26226 then K.From else (if n == 29807 then K.To else (if n == 29295 then K.Route else (if n == 27745 then K.Label else (if n == 25445 then K.Cell else (if n == 30305 then K.Var else (if n == 30578 then K.Write else (if n == 29285 then K.Read else (if n == 29793 then K.Take else (if n == 25965 then K.Emit else (if n == 26223 then K.For else (if n == 26982 then K.If else (if n == 25964 then K.Else else K.Buffer))))))))))))))))

key_back : (k : Key) → key_from (front_number (key_text k)) ≡ k
key_back K.Array = refl
key_back K.Queues = refl
key_back K.Link = refl
key_back K.Message = refl
key_back K.From = refl
key_back K.To = refl
key_back K.Route = refl
key_back K.Label = refl
key_back K.Cell = refl
key_back K.Var = refl
key_back K.Write = refl
key_back K.Read = refl
key_back K.Take = refl
key_back K.Emit = refl
key_back K.For = refl
key_back K.If = refl
key_back K.Else = refl
key_back K.Buffer = refl

pub one_key : (j k : Key) → key_text j ≡ key_text k → j ≡ k
one_key j k e = sym (key_back j) ∙ ap (λ bs. key_from (front_number bs)) e ∙ key_back k
