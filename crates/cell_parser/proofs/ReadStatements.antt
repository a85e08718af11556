-- The words of a statement that was read are those that were read but for some parentheses, and are of the language.
use Rattle.std.proofs.Common.{◌≡◌, ℕ, ◌+◌, ◌++◌, List, ◌∷◌, sym, subst, ap, ◌∙◌}
use Rattle.cell_lexer.specs.declared.token.Mark.TheVariants as M
use Rattle.cell_tree.specs.Pieces.{none, space, line}
use Rattle.cell_tree.specs.Printable.{names_of, numbers_of, act_names, statement_names, act_numbers, statement_numbers}
use Rattle.cell_tree.specs.declared.statement.Act.{Act}
use Rattle.cell_tree.specs.declared.statement.Act.TheFolds.{fold-roll-Stmt, fold-roll-Act, map-Act}
use Rattle.cell_tree.specs.declared.statement.Act.TheOpen.{Act-F, Stmt-F}
use Rattle.cell_tree.specs.declared.statement.Act.TheVariants as A
use Rattle.cell_tree.specs.declared.statement.Act.TheVariants.{rolls-Set, rolls-SetAt, rolls-Write, rolls-Read, rolls-Take, rolls-Emit, rolls-For, rolls-If}
use Rattle.cell_tree.specs.declared.statement.Act.TheViews.{roll-Act}
use Rattle.cell_tree.specs.declared.statement.Stmt.{Stmt}
use Rattle.cell_parser.specs.Grammar.{ReadsStmt, ReadsBody, on_line}
use Rattle.cell_parser.specs.Grammar as G
use Rattle.cell_parser.specs.Lexeme.{Marked, Lexeme, At}
use Rattle.cell_parser.specs.Inner.Told.{Told, Tell, tell, Uttered, tell_act, tell_step, tell_statement}
use Rattle.cell_parser.proofs.FewerWords.{Fewer, fewer_none, fewer_same, fewer_join, fewer_end, Sound, names_join, numbers_join}
use Rattle.cell_parser.proofs.ReadExpressions.{expression_read}
use Rattle.cell_parser.proofs.SaidStatements.{tell_of}
use Rattle.cell_parser.proofs.ToldClear.{Names, Numbers, names_in, numbers_in, body_names, body_numbers, body_told}

-- What is uttered is what the lexemes say but for some parentheses, and its names and numbers are those of the lexemes.
pub record Uttering (u : Uttered) (names : List (List ℕ)) (numbers : List ℕ) (ts us : List Lexeme) : Type 0 where
  pub told : (depth : ℕ) → Fewer (u depth) ts us
  pub fine : Sound ts → Names names × Numbers numbers × Sound us

-- The words of a statement are those that were read but for some parentheses.
abbrev pub StmtRead : Stmt → List Lexeme → List Lexeme → Type 0
StmtRead s ts us = Uttering (tell_statement s) (statement_names s) (statement_numbers s) ts us

-- The words of statements are those that were read but for some parentheses.
abbrev pub BodyRead : List Stmt → List Lexeme → List Lexeme → Type 0
BodyRead b ts us = Uttering (body_told b) (body_names b) (body_numbers b) ts us

close : (l : ℕ) {ts us : List Lexeme} (x : Act-F Act Stmt) (a : Act) → roll-Act x ≡ a
    → Uttering (tell_act (map-Act Act Stmt Uttered Uttered tell_of tell_statement x))
    (act_names (map-Act Act Stmt (List (List ℕ)) (List (List ℕ)) names_in statement_names x))
    (act_numbers (map-Act Act Stmt (List ℕ) (List ℕ) numbers_in statement_numbers x)) ts us
    → StmtRead (on_line l a) ts us
close l {ts} {us} x a r h =
    let s : Stmt-F Act Stmt = record { line = l; act = a } in
    let ns : List (List ℕ) = act_names (map-Act Act Stmt (List (List ℕ)) (List (List ℕ)) names_in statement_names x) in
    let ks : List ℕ = act_numbers (map-Act Act Stmt (List ℕ) (List ℕ) numbers_in statement_numbers x) in
    let told : tell_statement (on_line l a) ≡ tell_act (map-Act Act Stmt Uttered Uttered tell_of tell_statement x) =
    fold-roll-Stmt Uttered Uttered tell_act tell_step s ∙ ap tell_of (sym r) ∙ fold-roll-Act Uttered Uttered tell_act tell_step x in
    let names : statement_names (on_line l a) ≡ ns =
    fold-roll-Stmt (List (List ℕ)) (List (List ℕ)) act_names (λ statement. statement.act) s ∙ ap names_in (sym r)
    ∙ fold-roll-Act (List (List ℕ)) (List (List ℕ)) act_names (λ statement. statement.act) x in
    let numbers : statement_numbers (on_line l a) ≡ ks =
    fold-roll-Stmt (List ℕ) (List ℕ) act_numbers (λ statement. statement.act) s ∙ ap numbers_in (sym r)
    ∙ fold-roll-Act (List ℕ) (List ℕ) act_numbers (λ statement. statement.act) x in
    subst (λ (k : List ℕ). Uttering (tell_statement (on_line l a)) (statement_names (on_line l a)) k ts us) (sym numbers)
    (subst (λ (n : List (List ℕ)). Uttering (tell_statement (on_line l a)) n ks ts us) (sym names)
    (subst (λ (u : Uttered). Uttering u ns ks ts us) (sym told) h))

-- statements in braces
braces_read : (words : List Told) (g h : List ℕ) {k j : ℕ} {ts us : List Lexeme} → Fewer words ts (At j (Marked M.CloseBrace) ∷ us)
    → Fewer (Tell g (Marked M.OpenBrace) ∷ (words ++ tell h (Marked M.CloseBrace))) (At k (Marked M.OpenBrace) ∷ ts) us
braces_read words g h p = fewer_same (fewer_end h p)

mutual
  -- the words of a statement that was read are those that were read but for some parentheses
  pub statement_read : {s : Stmt} {ts us : List Lexeme} → ReadsStmt s ts us → StmtRead s ts us
  statement_read (G.set {l = l} {n = n} {e = e} r) =
      let h = expression_read r in close l (Act-F.Set n e) (A.Set n e) (rolls-Set n e) (record {
        told = λ depth. fewer_same (fewer_same (fewer_end none (h.bare space)));
        fine = λ s. let (a, b, c) = h.fine s.1.1 in ((s.0, a), b, c.1);
      })
  statement_read (G.set_at {l = l} {n = n} {e = e} {f = f} p q) =
      let h = expression_read p in
      let k = expression_read q in close l (Act-F.SetAt n e f) (A.SetAt n e f) (rolls-SetAt n e f) (record {
        told = λ depth. fewer_same (fewer_same (fewer_end none
            (fewer_join (fewer_end space (fewer_end none (h.bare none))) (k.bare space))));
        fine = λ s.
            let (a, b, c) = h.fine s.1.1 in
            let (x, y, z) = k.fine c.1.1 in
            ((s.0, names_join (names_of e) (names_of f) a x), numbers_join (numbers_of e) (numbers_of f) b y, z.1);
      })
  statement_read (G.write {l = l} {m = m} {e = e} r) =
      let h = expression_read r in close l (Act-F.Write m e) (A.Write m e) (rolls-Write m e) (record {
        told = λ depth. fewer_same (fewer_same (fewer_end none (h.bare space)));
        fine = λ s. let (a, b, c) = h.fine s.1.1 in ((s.1.0, a), b, c.1);
      })
  statement_read (G.read {l = l} {m = m} {n = n}) = close l (Act-F.Read m n) (A.Read m n) (rolls-Read m n) (record {
    told = λ depth. fewer_same (fewer_same (fewer_same (fewer_same fewer_none)));
    fine = λ s. ((s.1.0, (s.1.1.0, tt)), tt, s.1.1.1.1);
  })
  statement_read (G.take {l = l} {n = n}) = close l (Act-F.Take n) (A.Take n) (rolls-Take n) (record {
    told = λ depth. fewer_same (fewer_same (fewer_same fewer_none));
    fine = λ s. ((s.1.0, tt), tt, s.1.1.1);
  })
  statement_read (G.emit {l = l} {e = e} r) =
      let h = expression_read r in close l (Act-F.Emit e) (A.Emit e) (rolls-Emit e) (record {
        told = λ depth. fewer_same (fewer_end none (h.bare space));
        fine = λ s. let (a, b, c) = h.fine s.1 in (a, b, c.1);
      })
  statement_read (G.loop {l = l} {n = n} {c = c} {b = b} r) =
      let h = body_read r in close l (Act-F.For c n b) (A.For c n b) (rolls-For c n b) (record {
        told = λ depth. fewer_same (fewer_same (fewer_same
            (braces_read (body_told b (depth + 1)) space (line depth) (h.told (depth + 1)))));
        fine = λ s. let (x, y, z) = h.fine s.1.1.1.1 in ((s.1.0, x), (s.1.1.0, y), z.1);
      })
  statement_read (G.choice {l = l} {e = e} {b = b} {c = c} p q r) =
      let h = expression_read p in
      let first = body_read q in
      let second = body_read r in close l (Act-F.If e b c) (A.If e b c) (rolls-If e b c) (record {
        told = λ depth. fewer_same (fewer_join (fewer_end space (fewer_join (h.bare space)
            (braces_read (body_told b (depth + 1)) space (line depth) (first.told (depth + 1)))))
            (braces_read (body_told c (depth + 1)) space (line depth) (second.told (depth + 1))));
        fine = λ s.
            let (a, x, t) = h.fine s.1 in
            let (m, y, u) = first.fine t.1 in
            let (n, z, v) = second.fine u.1.1.1 in (
              names_join (names_of e ++ body_names b) (body_names c) (names_join (names_of e) (body_names b) a m) n,
              numbers_join (numbers_of e ++ body_numbers b) (body_numbers c) (numbers_join (numbers_of e) (body_numbers b) x y) z,
              v.1,
            );
      })

  -- the words of statements that were read are those that were read but for some parentheses
  pub body_read : {b : List Stmt} {ts us : List Lexeme} → ReadsBody b ts us → BodyRead b ts us
  body_read G.none = record { told = λ depth. fewer_none; fine = λ s. (tt, tt, s) }
  body_read (G.more {s = s} {b = b} p q) =
      let h = statement_read p in
      let k = body_read q in record {
        told = λ depth. fewer_join (h.told depth) (k.told depth);
        fine = λ sound.
            let (a, x, t) = h.fine sound in
            let (c, y, u) = k.fine t in (
              names_join (statement_names s) (body_names b) a c,
              numbers_join (statement_numbers s) (body_numbers b) x y,
              u,
            );
      }
