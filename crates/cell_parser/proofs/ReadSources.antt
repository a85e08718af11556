-- The words of a source that was read are those that were read but for some parentheses and a `buffer` line, and are of
-- the language.
use Rattle.std.proofs.Common.{◌≡◌, ℕ, ◌==◌, ◌≤◌, ◌++◌, Bool, true, false, List, [], ◌∷◌, map, Option, refl, subst, ap, arith}
use Rattle.std.specs.List.{flat_map}
use Rattle.std.specs.Prelude.{if◌then◌else◌}
use Rattle.sys_base.specs.declared.key.Key.TheVariants as K
use Rattle.sys_base.specs.declared.kinds.Dir.{Dir}
use Rattle.cell_lexer.specs.declared.token.Mark.TheVariants as M
use Rattle.cell_tree.specs.Pieces.{none, space, line}
use Rattle.cell_tree.specs.Printable.{statement_names, statement_numbers, given, place_numbers, link_numbers, message_numbers, cell_names, cell_numbers, source_names, source_numbers}
use Rattle.cell_tree.specs.declared.source.CellDecl.{CellDecl}
use Rattle.cell_tree.specs.declared.source.LinkDecl.{LinkDecl}
use Rattle.cell_tree.specs.declared.source.MessageDecl.{MessageDecl}
use Rattle.cell_tree.specs.declared.source.Place.{Place}
use Rattle.cell_tree.specs.declared.source.Source.{Source}
use Rattle.cell_tree.specs.declared.source.VarDecl.{VarDecl}
use Rattle.cell_tree.specs.declared.statement.Stmt.{Stmt}
use Rattle.cell_parser.specs.Grammar.{Star, Reads, ReadsPlace, ReadsDir, ReadsRoute, ReadsLabel, ReadsLength, ReadsBuffer, ReadsLink, ReadsMessage, ReadsVar, ReadsCell}
use Rattle.cell_parser.specs.Grammar as G
use Rattle.cell_parser.specs.Lexeme.{Named, Numeral, Keyword, Marked, Lexeme, At}
use Rattle.cell_parser.specs.Inner.Told.{Told, Tell, tell, tell_place, tell_dir, tell_link, tell_route, tell_label, tell_message, tell_length, tell_var, tell_statement, tell_setting, tell_buffer, tell_cell, told}
use Rattle.cell_parser.proofs.FewerWords.{Fewer, fewer_none, fewer_same, fewer_line, fewer_join, fewer_end, Sound, names_join, numbers_join}
use Rattle.cell_parser.proofs.ReadStatements.{BodyRead, body_read}
use Rattle.cell_parser.proofs.ToldClear.{Names, Numbers, body_names, body_numbers, body_told}

-- The words are what the lexemes say but for some parentheses, and the names and numbers are those of the lexemes.
pub record Telling (words : List Told) (names : List (List ℕ)) (numbers : List ℕ) (ts us : List Lexeme) : Type 0 where
  pub told : Fewer words ts us
  pub fine : Sound ts → Names names × Numbers numbers × Sound us

place_read : {p : Place} {ts us : List Lexeme} → ReadsPlace p ts us → Telling (tell_place p) [] (place_numbers p) ts us
place_read G.place = record {
  told = fewer_same (fewer_same (fewer_same fewer_none));
  fine = λ s. (tt, (s.0, (s.1.1.0, tt)), s.1.1.1);
}

dir_read : {d : Dir} {ts us : List Lexeme} → ReadsDir d ts us → Telling (tell_dir d) [] [] ts us
dir_read (G.dir {l = l} {n = n} {d = d} {us = us} e) = record {
  told = subst (λ (m : List ℕ). Fewer (tell space (Named m)) (At l (Named n) ∷ us) us) e (fewer_same fewer_none);
  fine = λ s. (tt, tt, s.1);
}

dirs_read : {ds : List Dir} {ts us : List Lexeme} → Star ReadsDir ds ts us → Telling (flat_map tell_dir ds) [] [] ts us
dirs_read G.done = record { told = fewer_none; fine = λ s. (tt, tt, s) }
dirs_read (G.next p q) =
    let h = dir_read p in
    let k = dirs_read q in record {
      told = fewer_join h.told k.told;
      fine = λ s. k.fine (h.fine s).2;
    }

route_read : {ds : List Dir} {ts us : List Lexeme} → ReadsRoute ds ts us → Telling (tell_route ds) [] [] ts us
route_read G.no_route = record { told = fewer_none; fine = λ s. (tt, tt, s) }
route_read (G.route p q) =
    let h = dir_read p in
    let k = dirs_read q in record {
      told = fewer_same (fewer_join h.told k.told);
      fine = λ s. k.fine (h.fine s.1).2;
    }

label_read : {o : Option ℕ} {ts us : List Lexeme} → ReadsLabel o ts us → Telling (tell_label o) [] (given o) ts us
label_read G.no_label = record { told = fewer_none; fine = λ s. (tt, tt, s) }
label_read G.label = record { told = fewer_same (fewer_same fewer_none); fine = λ s. (tt, (s.1.0, tt), s.1.1) }

length_read : {o : Option ℕ} {ts us : List Lexeme} → ReadsLength o ts us → Telling (tell_length o) [] (given o) ts us
length_read G.no_length = record { told = fewer_none; fine = λ s. (tt, tt, s) }
length_read G.length =
    record { told = fewer_same (fewer_same (fewer_same fewer_none)); fine = λ s. (tt, (s.1.0, tt), s.1.1.1) }

link_read : {a : LinkDecl} {ts us : List Lexeme} → ReadsLink a ts us → Telling (tell_link a) [] (link_numbers a) ts us
link_read (G.link {p = p} {d = d} x y) =
    let h = place_read x in
    let k = dir_read y in record {
      told = fewer_same (fewer_join {xs = tell_place p} h.told (fewer_join {xs = tell_dir d} k.told
          (fewer_same (fewer_same (fewer_same fewer_none)))));
      fine = λ s.
          let (a, b, c) = h.fine s.1 in
          let (m, n, t) = k.fine c in (tt, (b.0, (b.1.0, (t.1.0, tt))), t.1.1.1);
    }

message_read : {m : MessageDecl} {ts us : List Lexeme} → ReadsMessage m ts us
    → Telling (tell_message m) (m.name ∷ []) (message_numbers m) ts us
message_read (G.message {p = p} {q = q} x y z w) =
    let from = place_read x in
    let to = place_read y in
    let route = route_read z in
    let label = label_read w in record {
      told = fewer_same (fewer_same (fewer_same (fewer_join {xs = tell_place p} from.told
          (fewer_same (fewer_join {xs = tell_place q} to.told (fewer_end none (fewer_join route.told label.told)))))));
      fine = λ s.
          let (a, b, t) = from.fine s.1.1.1 in
          let (c, d, u) = to.fine t.1 in
          let (e, f, v) = route.fine u in
          let (g, h, i) = label.fine v in ((s.1.0, tt), (b.0, (b.1.0, (d.0, (d.1.0, h)))), i.1);
    }

variable_read : {v : VarDecl} {ts us : List Lexeme} → ReadsVar v ts us → Telling (tell_var v) (v.name ∷ []) (given v.length) ts us
variable_read (G.variable x) =
    let h = length_read x in record {
      told = fewer_same (fewer_same (fewer_end none h.told));
      fine = λ s. let (a, b, c) = h.fine s.1.1 in ((s.1.0, tt), b, c.1);
    }

star_read : {A : Type 0} (R : A → List Lexeme → List Lexeme → Type 0) (f : A → List Told) (names : A → List (List ℕ))
    (numbers : A → List ℕ)
    → ((a : A) (ts us : List Lexeme) → R a ts us → Telling (f a) (names a) (numbers a) ts us)
    → {xs : List A} {ts us : List Lexeme} → Star R xs ts us
    → Telling (flat_map f xs) (flat_map names xs) (flat_map numbers xs) ts us
star_read R f names numbers g G.done = record { told = fewer_none; fine = λ s. (tt, tt, s) }
star_read R f names numbers g (G.next {a = a} {rest = rest} {ts = ts} {us = us} p q) =
    let h = g a ts us p in
    let k = star_read R f names numbers g q in record {
      told = fewer_join h.told k.told;
      fine = λ s.
          let (m, n, t) = h.fine s in
          let (o, r, u) = k.fine t in
          (names_join (names a) (flat_map names rest) m o, numbers_join (numbers a) (flat_map numbers rest) n r, u);
    }

named_once : {A : Type 0} (name : A → List ℕ) (xs : List A) → flat_map (λ a. name a ∷ []) xs ≡ map name xs
named_once name [] = refl
named_once name (x ∷ xs) = ap (λ (ns : List (List ℕ)). name x ∷ ns) (named_once name xs)

told_once : (b : List Stmt) (depth : ℕ) → body_told b depth ≡ flat_map (λ (s : Stmt). tell_statement s depth) b
told_once [] depth = refl
told_once (s ∷ b) depth = ap (λ (ps : List Told). tell_statement s depth ++ ps) (told_once b depth)

names_once : (b : List Stmt) → body_names b ≡ flat_map statement_names b
names_once [] = refl
names_once (s ∷ b) = ap (λ (ns : List (List ℕ)). statement_names s ++ ns) (names_once b)

numbers_once : (b : List Stmt) → body_numbers b ≡ flat_map statement_numbers b
numbers_once [] = refl
numbers_once (s ∷ b) = ap (λ (ns : List ℕ). statement_numbers s ++ ns) (numbers_once b)

contents_read : (b : List Stmt) {ts us : List Lexeme} → BodyRead b ts us
    → Telling (flat_map (λ (s : Stmt). tell_statement s 1) b) (flat_map statement_names b) (flat_map statement_numbers b) ts us
contents_read b {ts} {us} h = record {
  told = subst (λ (ps : List Told). Fewer ps ts us) (told_once b 1) (h.told 1);
  fine = λ s. let (a, x, t) = h.fine s in (
    subst (λ (ns : List (List ℕ)). Names ns) (names_once b) a,
    subst (λ (ns : List ℕ). Numbers ns) (numbers_once b) x,
    t,
  );
}

cell_read : {c : CellDecl} {ts us : List Lexeme} → ReadsCell c ts us → Telling (tell_cell c) (cell_names c) (cell_numbers c) ts us
cell_read (G.cell {p = p} {xs = xs} {b = b} x y z) =
    let place = place_read x in
    let variables = star_read ReadsVar tell_var (λ v. v.name ∷ []) (λ v. given v.length) (λ v ts us r. variable_read r) y in
    let body = contents_read b (body_read z) in record {
      told = fewer_same (fewer_join {xs = tell_place p} place.told
          (fewer_same (fewer_end (line 0) (fewer_join variables.told body.told))));
      fine = λ s.
          let (a, k, t) = place.fine s.1 in
          let (c, l, u) = variables.fine t.1 in
          let (d, m, v) = body.fine u in (
            names_join (map (λ (v : VarDecl). v.name) xs) (flat_map statement_names b)
                (subst (λ (ns : List (List ℕ)). Names ns) (named_once (λ (v : VarDecl). v.name) xs) c) d,
            (k.0, (k.1.0, numbers_join (flat_map (λ (v : VarDecl). given v.length) xs) (flat_map statement_numbers b) l m)),
            v.1,
          );
    }

-- The words of a `buffer` line, behind a semicolon, are those that were read, or it is left out.
record BufferTelling (b : ℕ × ℕ) (ts us : List Lexeme) : Type 0 where
  told : (e : ℕ) → Fewer (Tell none (Marked M.Semicolon) ∷ tell_buffer b.0) (At e (Marked M.Semicolon) ∷ ts) us
  fine : Sound ts → (b.0 ≤ 9223372036854775807) × Sound us

buffer_told : (n l k j e : ℕ) (us : List Lexeme) (left_out : Bool)
    → Fewer (Tell none (Marked M.Semicolon) ∷ (if left_out then [] else tell_setting K.Buffer n))
    (At e (Marked M.Semicolon) ∷ At l (Keyword K.Buffer) ∷ At k (Numeral n) ∷ At j (Marked M.Semicolon) ∷ us) us
buffer_told n l k j e us true = fewer_line fewer_none
buffer_told n l k j e us false = fewer_same (fewer_same (fewer_same (fewer_same fewer_none)))

buffer_read : {b : ℕ × ℕ} {ts us : List Lexeme} → ReadsBuffer b ts us → BufferTelling b ts us
buffer_read G.no_buffer = record { told = λ e. fewer_same fewer_none; fine = λ s. (omega arith, s) }
buffer_read (G.buffer {l = l} {k = k} {j = j} {n = n} {us = us}) =
    record { told = λ e. buffer_told n l k j e us (n == 0); fine = λ s. (s.1.0, s.1.1.1) }

-- the words of a source that was read are those that were read but for some parentheses and a `buffer` line
pub source_read : {s : Source} {ts : List Lexeme} → Reads ts s → Telling (told s) (source_names s) (source_numbers s) ts []
source_read (G.program {l = l} {k = k} {j = j} {i = i} {h = h} {g = g} {f = f} {e = e} {r = r} {c = c} {q = q} {x = x} {b = b}
    {links = links} {messages = messages} {cells = cells} {ts = ts} is o p m n) =
    let zero = buffer_read o in
    let one = star_read ReadsLink tell_link (λ a. []) link_numbers (λ a ts us d. link_read d) p in
    let two = star_read ReadsMessage tell_message (λ a. a.name ∷ []) message_numbers (λ a ts us d. message_read d) m in
    let three = star_read ReadsCell tell_cell cell_names cell_numbers (λ a ts us d. cell_read d) n in
    let rest : List Told =
    (Tell none (Marked M.Semicolon) ∷ tell_buffer b.0) ++ flat_map tell_link links ++ flat_map tell_message messages ++ flat_map tell_cell cells in
    let Links : List ℕ = flat_map link_numbers links in
    let Messages : List ℕ = flat_map message_numbers messages in
    let Cells : List ℕ = flat_map cell_numbers cells in
    let P : List ℕ → Type 0 = λ name. Fewer
    (Tell none (Keyword K.Array) ∷ Tell space (Numeral r) ∷ Tell space (Named name) ∷ Tell space (Numeral c)
    ∷ Tell none (Marked M.Semicolon) ∷ Tell (line 0) (Keyword K.Queues) ∷ Tell space (Numeral q) ∷ rest)
    (At l (Keyword K.Array) ∷ At k (Numeral r) ∷ At j (Named x) ∷ At i (Numeral c) ∷ At h (Marked M.Semicolon)
    ∷ At g (Keyword K.Queues) ∷ At f (Numeral q) ∷ At e (Marked M.Semicolon) ∷ ts) [] in record {
      told = subst P is (fewer_same (fewer_same (fewer_same (fewer_same (fewer_same (fewer_same (fewer_same
          (fewer_join (fewer_join (fewer_join (zero.told e) one.told) two.told) three.told))))))));
      fine = λ s.
          let (k, t) = zero.fine s.1.1.1.1.1.1.1.1 in
          let (a, x, u) = one.fine t in
          let (b, y, v) = two.fine u in
          let (d, z, w) = three.fine v in (
            names_join (map (λ (m : MessageDecl). m.name) messages) (flat_map cell_names cells)
                (subst (λ (ns : List (List ℕ)). Names ns) (named_once (λ (m : MessageDecl). m.name) messages) b) d,
            (
              s.1.0,
              (
                s.1.1.1.0,
                (
                  s.1.1.1.1.1.1.0,
                  (
                    k,
                    numbers_join (Links ++ Messages) Cells (numbers_join Links Messages x y) z,
                  ),
                ),
              ),
            ),
            w,
          );
    }
