-- The cells of a printable source are shallow.
use Rattle.std.proofs.Common.{ℕ, ◌+◌, ◌≤◌, ◌++◌, ◌==◌, true, false, List, [], ◌∷◌, length, map, Option, Some, None, refl, subst, arith, append_assoc}
use Rattle.std.specs.List.{All, AllByRecursion, flat_map}
use Rattle.std.specs.Prelude.{if◌then◌else◌, codes}
use Rattle.std.proofs.lemmas.List.Elements.{recursion_from_All, All-from_recursion}
use Rattle.sys_base.specs.Key.{key_text}
use Rattle.sys_base.specs.Name.{IsName}
use Rattle.sys_base.specs.declared.key.Key.TheVariants as K
use Rattle.sys_base.specs.declared.kinds.Dir.{Dir}
use Rattle.cell_tree.specs.Canonical.{dir_text, place_pieces, array_pieces, setting_pieces, buffer_pieces, link_pieces, route_pieces, label_pieces, ends_pieces, message_pieces, length_pieces, var_pieces, cell_pieces}
use Rattle.cell_tree.specs.Depth.{greatest, statement_stack, cell_stack, statement_loops, cell_loops}
use Rattle.cell_tree.specs.Pieces.{Piece, after, none, space, line}
use Rattle.cell_tree.specs.Printable.{statement_names, cell_names, source_names, IsPrintable}
use Rattle.cell_tree.specs.Statement.{statement_pieces}
use Rattle.cell_tree.specs.declared.source.CellDecl.{CellDecl}
use Rattle.cell_tree.specs.declared.source.LinkDecl.{LinkDecl}
use Rattle.cell_tree.specs.declared.source.MessageDecl.{MessageDecl}
use Rattle.cell_tree.specs.declared.source.Place.{Place}
use Rattle.cell_tree.specs.declared.source.Source.{Source}
use Rattle.cell_tree.specs.declared.source.VarDecl.{VarDecl}
use Rattle.cell_tree.specs.declared.statement.Stmt.{Stmt}
use Rattle.cell_tree.proofs.Bounded.{Runs, Braces, Bounded, bounded_none, bounded_join, bounded_less, bounded_line, bounded_block}
use Rattle.cell_tree.proofs.PlainWords.{IsPlain, AllPlain, plain_none, plain_next, all_join, Stretch, stretch_plain, stretch_one, stretch_join, stretch_less, name_plain, decimal_plain, dir_plain}
use Rattle.cell_tree.proofs.ShallowExpressions.{Names, names_front, names_back}
use Rattle.cell_tree.proofs.ShallowStatements.{statement_bounded}

-- a word that is not a mark which ends a run
one : {gap word : List ℕ} → IsPlain word → AllPlain (after gap word)
one p = plain_next p plain_none

-- the pieces of a place, and further down those of routes, labels, ends and lengths
place_plain : (place : Place) → AllPlain (place_pieces place)
place_plain place = plain_next (decimal_plain place.row) (plain_next (record { ends = refl }) (one (decimal_plain place.col)))

-- plain pieces and a semicolon, where nothing is counted
simple : {pieces : List Piece} → AllPlain pieces → Bounded 0 0 (pieces ++ after none (codes ";"))
simple p = bounded_line (stretch_plain p)

-- each line of a source and of a cell's variables
array_bounded : (s : Source) → Bounded 0 0 (array_pieces s)
array_bounded s =
    simple (plain_next (record { ends = refl }) (plain_next (decimal_plain s.rows)
    (plain_next (record { ends = refl }) (one (decimal_plain s.cols)))))

setting_bounded : (key : List ℕ) (number : ℕ) → IsPlain key → Bounded 0 0 (setting_pieces key number)
setting_bounded key number p = simple (plain_next p (one (decimal_plain number)))

buffer_bounded : (buffer : ℕ) → Bounded 0 0 (buffer_pieces buffer)
buffer_bounded buffer =
    elim (buffer == 0) as (λ b. Bounded 0 0 (if b then [] else setting_pieces (key_text K.Buffer) buffer)) [
      | true ↦ bounded_none
      | false ↦ setting_bounded (key_text K.Buffer) buffer (record { ends = refl })
    ]

link_bounded : (l : LinkDecl) → Bounded 0 0 (link_pieces l)
link_bounded l =
    simple (plain_next (record { ends = refl }) (all_join (place_plain l.place)
    (plain_next (dir_plain l.dir) (plain_next (record { ends = refl }) (one (decimal_plain l.queues))))))

label_plain : (label : Option ℕ) → AllPlain (label_pieces label)
label_plain None = plain_none
label_plain (Some n) = plain_next (record { ends = refl }) (one (decimal_plain n))

ends_plain : (m : MessageDecl) → AllPlain (ends_pieces m)
ends_plain m =
    plain_next (record { ends = refl }) (all_join (place_plain m.from) (plain_next (record { ends = refl }) (place_plain m.to)))

dirs_stretch : (dirs : List Dir) → Stretch (length dirs) (flat_map (λ dir. after space (dir_text dir)) dirs)
dirs_stretch [] = stretch_plain plain_none
dirs_stretch (dir ∷ dirs) = stretch_less (omega arith) (stretch_join (stretch_one {gap = space} (dir_plain dir)) (dirs_stretch dirs))

-- a route has as many plain pieces as directions at least
route_stretch : (dirs : List Dir) → Stretch (length dirs) (route_pieces dirs)
route_stretch [] = stretch_plain plain_none
route_stretch (dir ∷ dirs) =
    stretch_less (omega arith)
    (stretch_join (stretch_one {gap = space} {word = key_text K.Route} (record { ends = refl })) (dirs_stretch (dir ∷ dirs)))

message_bounded : (m : MessageDecl) → IsName m.name → Bounded (length m.route) 0 (message_pieces m)
message_bounded m n =
    let front = stretch_plain (plain_next (record { ends = refl }) (plain_next (name_plain m.name n) (ends_plain m))) in
    bounded_line (stretch_less (omega arith)
    (stretch_join (stretch_join front (route_stretch m.route)) (stretch_plain (label_plain m.label))))

length_plain : (size : Option ℕ) → AllPlain (length_pieces size)
length_plain None = plain_none
length_plain (Some n) = plain_next (record { ends = refl }) (plain_next (decimal_plain n) (one (record { ends = refl })))

var_bounded : (v : VarDecl) → IsName v.name → Bounded 0 0 (var_pieces v)
var_bounded v n = simple (plain_next (record { ends = refl }) (plain_next (name_plain v.name n) (length_plain v.length)))

-- the lines of each list, one after another
links_bounded : (ls : List LinkDecl) → Bounded 0 0 (flat_map link_pieces ls)
links_bounded [] = bounded_none
links_bounded (l ∷ ls) = bounded_join (link_bounded l) (links_bounded ls)

messages_bounded : (ms : List MessageDecl) → Names (map (λ (m : MessageDecl). m.name) ms) → Bounded 0 0 (flat_map message_pieces ms)
messages_bounded [] ns = bounded_none
messages_bounded (m ∷ ms) ns =
    bounded_less (omega arith) (omega arith) (bounded_join (message_bounded m ns.0) (messages_bounded ms ns.1))

vars_bounded : (vs : List VarDecl) → Names (map (λ (v : VarDecl). v.name) vs) → Bounded 0 0 (flat_map var_pieces vs)
vars_bounded [] ns = bounded_none
vars_bounded (v ∷ vs) ns = bounded_join (var_bounded v ns.0) (vars_bounded vs ns.1)

-- the statements of a cell, one after another
body_bounded : (body : List Stmt) → Names (flat_map statement_names body)
    → Bounded (greatest (map statement_stack body)) (greatest (map statement_loops body)) (flat_map (λ s. statement_pieces s 1) body)
body_bounded [] ns = bounded_none
body_bounded (s ∷ body) ns =
    bounded_join (statement_bounded s (names_front (statement_names s) (flat_map statement_names body) ns) 1)
    (body_bounded body (names_back (statement_names s) (flat_map statement_names body) ns))

-- a cell is a block of its own around its loops
cell_bounded : (c : CellDecl) → Names (cell_names c) → Bounded (cell_stack c) (1 + cell_loops c) (cell_pieces c)
cell_bounded c ns =
    let vars : List (List ℕ) = map (λ (v : VarDecl). v.name) c.vars in
    let body : List (List ℕ) = flat_map statement_names c.body in
    let head : Stretch 0 (after (line 0) (key_text K.Cell) ++ place_pieces c.place) =
    stretch_plain (plain_next (record { ends = refl }) (place_plain c.place)) in
    bounded_less (omega arith) (omega arith)
    (bounded_block space (line 0) head
    (bounded_join (vars_bounded c.vars (names_front vars body ns)) (body_bounded c.body (names_back vars body ns))))

-- The cell needs no deep stack, and has few loops inside one another.
abbrev pub IsShallow : CellDecl → Type 0
IsShallow c = (cell_stack c ≤ 256) × (cell_loops c ≤ 16)

-- each of the cells whose runs and braces fit is shallow
cells_shallow : (cells : List CellDecl) → Names (flat_map cell_names cells) → Runs 0 (flat_map cell_pieces cells)
    → Braces 0 (flat_map cell_pieces cells) → AllByRecursion IsShallow cells
cells_shallow [] ns p q = tt
cells_shallow (c ∷ cells) ns p q =
    let rest : List Piece = flat_map cell_pieces cells in
    let bounded = cell_bounded c (names_front (cell_names c) (flat_map cell_names cells) ns) in
    let runs = bounded.runs rest p in
    let braces = bounded.braces 0 rest (omega arith) q in
    let few = braces.0 in
    ((runs.0, omega (arith, few)), cells_shallow cells (names_back (cell_names c) (flat_map cell_names cells) ns) runs.1 braces.1)

-- each cell of a printable source is shallow
shallow : (s : Source) → IsPrintable s → AllByRecursion IsShallow s.cells
shallow s p =
    let names : List (List ℕ) = map (λ (m : MessageDecl). m.name) s.messages in
    let inner : List (List ℕ) = flat_map cell_names s.cells in
    let ns : Names (source_names s) = recursion_from_All IsName (source_names s) p.names in
    let cells : List Piece = flat_map cell_pieces s.cells in
    let head = bounded_join (bounded_join (bounded_join (bounded_join (array_bounded s)
    (setting_bounded (key_text K.Queues) s.queues (record { ends = refl }))) (buffer_bounded s.buffer)) (links_bounded s.links))
    (messages_bounded s.messages (names_front names inner ns)) in
    let runs = head.runs cells p.runs in
    let braces = head.braces 0 cells (omega arith) p.braces in
    cells_shallow s.cells (names_back names inner ns) runs.1 braces.1

-- the two facts apart
pub cells_stack : (s : Source) → IsPrintable s → All (λ c. cell_stack c ≤ 256) s.cells
cells_stack s p k d lt = (All-from_recursion IsShallow s.cells (shallow s p) k d lt).0

pub cells_loops : (s : Source) → IsPrintable s → All (λ c. cell_loops c ≤ 16) s.cells
cells_loops s p k d lt = (All-from_recursion IsShallow s.cells (shallow s p) k d lt).1

-- The messages' routes are short where the runs of their lines fit.
abbrev IsShort : MessageDecl → Type 0
IsShort m = length m.route ≤ 256

messages_short : (ms : List MessageDecl) (rest : List Piece) → Names (map (λ (m : MessageDecl). m.name) ms)
    → Runs 0 (flat_map message_pieces ms ++ rest) → AllByRecursion IsShort ms
messages_short [] rest ns h = tt
messages_short (m ∷ ms) rest ns h =
    let more : List Piece = flat_map message_pieces ms in
    let first = (message_bounded m ns.0).runs (more ++ rest)
    (subst (λ (zs : List Piece). Runs 0 zs) (append_assoc (message_pieces m) more rest) h) in
    (first.0, messages_short ms rest ns.1 first.1)

-- each route of a printable source is short
pub routes_short : (s : Source) → IsPrintable s → All (λ m. length m.route ≤ 256) s.messages
routes_short s p =
    let names : List (List ℕ) = map (λ (m : MessageDecl). m.name) s.messages in
    let ns : Names (source_names s) = recursion_from_All IsName (source_names s) p.names in
    let messages : List Piece = flat_map message_pieces s.messages in
    let cells : List Piece = flat_map cell_pieces s.cells in
    let front : List Piece =
    array_pieces s ++ setting_pieces (key_text K.Queues) s.queues ++ buffer_pieces s.buffer ++ flat_map link_pieces s.links in
    let head = bounded_join (bounded_join (bounded_join (array_bounded s)
    (setting_bounded (key_text K.Queues) s.queues (record { ends = refl }))) (buffer_bounded s.buffer)) (links_bounded s.links) in
    let runs = head.runs (messages ++ cells) (subst (λ (zs : List Piece). Runs 0 zs) (append_assoc front messages cells) p.runs) in
    All-from_recursion IsShort s.messages
    (messages_short s.messages cells (names_front names (flat_map cell_names s.cells) ns) runs.1)
