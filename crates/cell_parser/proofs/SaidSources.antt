-- The words of a source's canonical text are those of a source, the same but for its lines.
use Rattle.std.proofs.Common.{◌≡◌, ℕ, ◌==◌, ◌++◌, Bool, true, false, List, [], ◌∷◌, map, Option, Some, None, refl, sym, subst, ap, ◌∙◌, append_assoc, eqb-true}
use Rattle.std.specs.List.{flat_map}
use Rattle.std.specs.Prelude.{codes, if◌then◌else◌}
use Rattle.sys_base.specs.declared.key.Key.TheVariants as K
use Rattle.sys_base.specs.declared.kinds.Dir.{Dir}
use Rattle.cell_lexer.specs.declared.token.Mark.TheVariants as M
use Rattle.cell_tree.specs.Pieces.{none, line}
use Rattle.cell_tree.specs.declared.source.CellDecl.{CellDecl}
use Rattle.cell_tree.specs.declared.source.LinkDecl.{LinkDecl}
use Rattle.cell_tree.specs.declared.source.MessageDecl.{MessageDecl}
use Rattle.cell_tree.specs.declared.source.Source.{Source}
use Rattle.cell_tree.specs.declared.source.VarDecl.{VarDecl}
use Rattle.cell_tree.specs.declared.statement.Stmt.{Stmt}
use Rattle.cell_parser.specs.Grammar.{Star, Reads, ReadsDir, ReadsRoute, ReadsLabel, ReadsLength, ReadsBuffer, ReadsLink, ReadsMessage, ReadsVar, ReadsCell}
use Rattle.cell_parser.specs.Grammar as G
use Rattle.cell_parser.specs.Lexeme.{Named, Numeral, Keyword, Marked, Lexeme, At}
use Rattle.cell_parser.specs.Printed.{spoken, Covers, unlined_statement, unlined_cell, unlined}
use Rattle.cell_parser.specs.Inner.Told.{Told, tell_setting, tell_buffer, tell_settings, tell_dir, tell_link, tell_route, tell_label, tell_message, tell_length, tell_var, tell_statement, tell_cell, told}
use Rattle.cell_parser.proofs.SaidWords.{Said, said_none, said_next, said_of, split, split_end}
use Rattle.cell_parser.proofs.SaidStatements.{statements_said}

dirs_said : (ds : List Dir) {ts us : List Lexeme} → Said (flat_map tell_dir ds) ts us → Star ReadsDir ds ts us
dirs_said [] said_none = G.done
dirs_said (d ∷ ds) (said_next r) = G.next (G.dir refl) (dirs_said ds r)

route_said : (ds : List Dir) {ts us : List Lexeme} → Said (tell_route ds) ts us → ReadsRoute ds ts us
route_said [] said_none = G.no_route
route_said (d ∷ ds) (said_next (said_next r)) = G.route (G.dir refl) (dirs_said ds r)

label_said : (label : Option ℕ) {ts us : List Lexeme} → Said (tell_label label) ts us → ReadsLabel label ts us
label_said None said_none = G.no_label
label_said (Some n) (said_next (said_next said_none)) = G.label

length_said : (size : Option ℕ) {ts us : List Lexeme} → Said (tell_length size) ts us → ReadsLength size ts us
length_said None said_none = G.no_length
length_said (Some n) (said_next (said_next (said_next said_none))) = G.length

-- The words read to an item that is the same but for what is left out of it.
abbrev ReadsLike : {A : Type 0} → (A → List Lexeme → List Lexeme → Type 0) → (A → A) → A → List Lexeme → List Lexeme → Type 0
ReadsLike {A} R left a ts us = (b : A) × R b ts us × (left b ≡ left a)

stars_said : {A : Type 0} (R : A → List Lexeme → List Lexeme → Type 0) (telling : A → List Told) (left : A → A)
    → ((a : A) (ts us : List Lexeme) → Said (telling a) ts us → ReadsLike R left a ts us)
    → (xs : List A) (ts us : List Lexeme) → Said (flat_map telling xs) ts us
    → (ys : List A) × Star R ys ts us × (map left ys ≡ map left xs)
stars_said R telling left f [] ts us said_none = ([], G.done, refl)
stars_said R telling left f (x ∷ xs) ts us c =
    let (mid, a, b) = split (telling x) (flat_map telling xs) c in
    let (y, r, p) = f x ts mid a in
    let (ys, s, q) = stars_said R telling left f xs mid us b in
    (y ∷ ys, G.next r s, ap (λ z. z ∷ map left ys) p ∙ ap (λ z. left x ∷ z) q)

abbrev link_left : LinkDecl → LinkDecl
link_left link = record link { line = 0 }

abbrev message_left : MessageDecl → MessageDecl
message_left message = record message { line = 0 }

abbrev var_left : VarDecl → VarDecl
var_left variable = record variable { line = 0 }

link_said : (link : LinkDecl) (ts us : List Lexeme) → Said (tell_link link) ts us → ReadsLike ReadsLink link_left link ts us
link_said link ts us (said_next {l = l} (said_next (said_next (said_next (said_next (said_next (said_next (said_next said_none)))))))) =
    (record link { line = l }, G.link G.place (G.dir refl), refl)

message_said : (message : MessageDecl) (ts us : List Lexeme) → Said (tell_message message) ts us
    → ReadsLike ReadsMessage message_left message ts us
message_said message ts us (said_next {l = l} (said_next (said_next (said_next (said_next (said_next (said_next (said_next (said_next (said_next r)))))))))) =
    let (j, a) = split_end (tell_route message.route ++ tell_label message.label) none (Marked M.Semicolon) r in
    let (mid, b, c) = split (tell_route message.route) (tell_label message.label) a in
    (record message { line = l }, G.message G.place G.place (route_said message.route b) (label_said message.label c), refl)

var_said : (variable : VarDecl) (ts us : List Lexeme) → Said (tell_var variable) ts us → ReadsLike ReadsVar var_left variable ts us
var_said variable ts us (said_next {l = l} (said_next r)) =
    let (j, a) = split_end (tell_length variable.length) none (Marked M.Semicolon) r in
    (record variable { line = l }, G.variable (length_said variable.length a), refl)

cell_said : (cell : CellDecl) (ts us : List Lexeme) → Said (tell_cell cell) ts us → ReadsLike ReadsCell unlined_cell cell ts us
cell_said cell ts us (said_next {l = l} (said_next (said_next (said_next (said_next {ts = start} r))))) =
    let body : List Told = flat_map (λ (s : Stmt). tell_statement s 1) cell.body in
    let (j, a) = split_end (flat_map tell_var cell.vars ++ body) (line 0) (Marked M.CloseBrace) r in
    let (mid, b, c) = split (flat_map tell_var cell.vars) body a in
    let (vars, p, q) = stars_said ReadsVar tell_var var_left var_said cell.vars start mid b in
    let (inner, s, t) = statements_said cell.body 1 mid (At j (Marked M.CloseBrace) ∷ us) c in
    let Vars : List VarDecl → CellDecl = λ xs. record cell { vars = xs; body = map unlined_statement inner; line = 0 } in
    let Body : List Stmt → CellDecl = λ xs. record cell { vars = map var_left cell.vars; body = xs; line = 0 } in
    (record cell { vars = vars; body = inner; line = l }, G.cell G.place p s, ap Vars q ∙ ap Body t)

-- The number and the line of a `buffer` line are read, with this number.
abbrev BufferRead : ℕ → List Lexeme → List Lexeme → Type 0
BufferRead n ts us = (b : ℕ × ℕ) × ReadsBuffer b ts us × (b.0 ≡ n)

buffer_said : (n : ℕ) (none_told : Bool) → (n == 0) ≡ none_told → (ts us : List Lexeme)
    → Said (if none_told then [] else tell_setting K.Buffer n) ts us → BufferRead n ts us
buffer_said n true e ts us said_none = ((0, 0), G.no_buffer, sym (eqb-true n 0 e))
buffer_said n false e ts us (said_next {l = l} (said_next (said_next said_none))) = ((n, l), G.buffer, refl)

lists_said : (s : Source) (l k j i h g f e : ℕ) (ts us : List Lexeme) → BufferRead s.buffer ts us
    → Said (flat_map tell_link s.links ++ flat_map tell_message s.messages ++ flat_map tell_cell s.cells) us []
    → (t : Source) × Reads
    (At l (Keyword K.Array) ∷ At k (Numeral s.rows) ∷ At j (Named (codes "x")) ∷ At i (Numeral s.cols) ∷ At h (Marked M.Semicolon)
    ∷ At g (Keyword K.Queues) ∷ At f (Numeral s.queues) ∷ At e (Marked M.Semicolon) ∷ ts) t × (unlined t ≡ unlined s)
lists_said s l k j i h g f e ts us (b, o, d) c =
    let (ws, a, z) = split (flat_map tell_link s.links ++ flat_map tell_message s.messages) (flat_map tell_cell s.cells) c in
    let (vs, x, y) = split (flat_map tell_link s.links) (flat_map tell_message s.messages) a in
    let (links, p, q) = stars_said ReadsLink tell_link link_left link_said s.links us vs x in
    let (messages, r, m) = stars_said ReadsMessage tell_message message_left message_said s.messages vs ws y in
    let (cells, t, n) = stars_said ReadsCell tell_cell unlined_cell cell_said s.cells ws [] z in
    let Made : ℕ → List LinkDecl → List MessageDecl → List CellDecl → Source = λ buffer ls ms cs. record {
      rows = s.rows;
      cols = s.cols;
      array_line = 0;
      queues = s.queues;
      queues_line = 0;
      buffer = buffer;
      buffer_line = 0;
      links = ls;
      messages = ms;
      cells = cs;
    } in (
      record {
        rows = s.rows;
        cols = s.cols;
        array_line = l;
        queues = s.queues;
        queues_line = g;
        buffer = b.0;
        buffer_line = b.1;
        links = links;
        messages = messages;
        cells = cells;
      },
      G.program refl o p r t,
      ap (λ n. Made n (map link_left links) (map message_left messages) (map unlined_cell cells)) d
          ∙ ap (λ ls. Made s.buffer ls (map message_left messages) (map unlined_cell cells)) q
          ∙ ap (λ ms. Made s.buffer (map link_left s.links) ms (map unlined_cell cells)) m
          ∙ ap (λ cs. Made s.buffer (map link_left s.links) (map message_left s.messages) cs) n,
    )

settings_said : (s : Source) (ts : List Lexeme)
    → Said (tell_settings s ++ (flat_map tell_link s.links ++ flat_map tell_message s.messages ++ flat_map tell_cell s.cells)) ts []
    → (t : Source) × Reads ts t × (unlined t ≡ unlined s)
settings_said s ts
    (said_next {l = l} (said_next {l = k} (said_next {l = j} (said_next {l = i} (said_next {l = h}
    (said_next {l = g} (said_next {l = f} (said_next {l = e} {ts = us} r)))))))) =
    let lists : List Told = flat_map tell_link s.links ++ flat_map tell_message s.messages ++ flat_map tell_cell s.cells in
    let (vs, a, b) = split (tell_buffer s.buffer) lists r in
    lists_said s l k j i h g f e us vs (buffer_said s.buffer (s.buffer == 0) refl us vs a) b

-- the words of a source are those of its settings and then those of its lists
apart : (s : Source)
    → told s ≡ tell_settings s ++ (flat_map tell_link s.links ++ flat_map tell_message s.messages ++ flat_map tell_cell s.cells)
apart s =
    let A : List Told = tell_settings s in
    let L : List Told = flat_map tell_link s.links in
    let M : List Told = flat_map tell_message s.messages in
    let C : List Told = flat_map tell_cell s.cells in
    ap (λ (xs : List Told). xs ++ C) (append_assoc A L M) ∙ append_assoc A (L ++ M) C

-- lexemes that say just the words of a source are those of a source, the same but for its lines
pub source_said : (s : Source) (ts : List Lexeme) → Covers (spoken s) ts [] → (t : Source) × Reads ts t × (unlined t ≡ unlined s)
source_said s ts c = settings_said s ts (subst (λ (ps : List Told). Said ps ts []) (apart s) (said_of (told s) c))
