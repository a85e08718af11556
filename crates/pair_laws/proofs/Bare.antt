-- Lines are no part of what is wrong with a source, nor of what its program communicates and costs.
use Rattle.std.proofs.Common.{◌≡◌, ℕ, ◌+◌, Bool, true, false, List, [], ◌∷◌, ◌++◌, Option, None, Some, map, length, length-append, refl, sym, ap, ap₂, ◌∙◌, subst, arith}
use Rattle.std.specs.Prelude.{◌||◌, nat_le, nat_lt, Ok, Err}
use Rattle.std.proofs.lemmas.List.{map-append, length-map}
use Rattle.std.proofs.lemmas.List.Sums.{sum_by-cons}
use Rattle.sys_base.specs.declared.limits.TheConstants.{MESSAGES, VARIABLES, WORDS}
use Rattle.cell_types.specs.Route.{Walked}
use Rattle.sys_base.specs.Grid.{Extent}
use Rattle.std.specs.Prelude.{nat_eq}
use Rattle.std.specs.List.{list_any}
use Rattle.std.specs.Option.{option_map_or}
use Rattle.cell_tree.specs.declared.source.LinkDecl.{LinkDecl}
use Rattle.cell_tree.specs.declared.source.MessageDecl.{MessageDecl}
use Rattle.cell_tree.specs.declared.source.VarDecl.{VarDecl}
use Rattle.cell_types.specs.Faults.{declared_link, route_faults, faults_behind, link_faults, message_faults, var_faults, cell_faults, source_faults}
use Rattle.cell_types.specs.Names.{Scope, meaning, message_named, NamedMessage, NamedVariable, Meaning, placed_from, scope_of, inside_loop, total_words, words_of, is_among, cell_index, extent_of, named_message}
use Rattle.cell_types.specs.Statics.{when, misnamed, expression_faults, action_faults, block_faults, name_faults, write_faults, read_faults}
use Rattle.cell_types.specs.Written.{WrittenExpression, Number, Named, Element, Negated, Applied, WrittenAction, Set, SetAt, Write, Read, Take, Emit, For, If, WrittenBlock, End, Then, WrittenCell, WrittenSource}
use Rattle.cell_types.specs.declared.error.StaticError.{StaticError}
use Rattle.pair_laws.specs.bodies.Bare.{bare_action, bare_block, bare_link, bare_message, bare_variable, bare_cell, bare_source}

-- as many faults
abbrev Alike : List StaticError → List StaticError → Type 0
Alike es fs = length es ≡ length fs

-- of two parts each
joined : (a b c d : List StaticError) → Alike a c → Alike b d → Alike (a ++ b) (c ++ d)
joined a b c d x y = omega (arith, length-append a b, length-append c d, x, y)

-- one test
tested : (b : Bool) (e f : StaticError) → Alike (when b e) (when b f)
tested true e f = refl
tested false e f = refl

-- and one that comes out alike
by_test : (b c : Bool) (e f : StaticError) → b ≡ c → Alike (when b e) (when c f)
by_test b c e f h = subst (λ (d : Bool). Alike (when b e) (when d f)) h (tested b e f)

-- ---- statements

misnamed_alike : (wanted : Meaning → Bool) (name : List ℕ) (k l : ℕ) (o : Option Meaning) → Alike (misnamed wanted name k o) (misnamed wanted name l o)
misnamed_alike wanted name k l None = refl
misnamed_alike wanted name k l (Some m) = tested _ _ _

ends_alike : (o : Option NamedMessage) (f g : NamedMessage → List StaticError) → ((m : NamedMessage) → Alike (f m) (g m))
    → Alike (option_map_or f o []) (option_map_or g o [])
ends_alike None f g h = refl
ends_alike (Some m) f g h = h m

names_alike : (wanted : Meaning → Bool) (s : Scope) (k l : ℕ) (name : List ℕ) → Alike (name_faults wanted s k name) (name_faults wanted s l name)
names_alike wanted s k l name = misnamed_alike wanted name k l (meaning s name)

writes_alike : (s : Scope) (k l : ℕ) (name : List ℕ) → Alike (write_faults s k name) (write_faults s l name)
writes_alike s k l name =
    joined _ _ _ _ (misnamed_alike _ name k l (meaning s name)) (ends_alike (message_named s name) _ _ (λ m. tested _ _ _))

reads_alike : (s : Scope) (k l : ℕ) (name : List ℕ) → Alike (read_faults s k name) (read_faults s l name)
reads_alike s k l name =
    joined _ _ _ _ (misnamed_alike _ name k l (meaning s name)) (ends_alike (message_named s name) _ _ (λ m. tested _ _ _))

expressions_alike : (s : Scope) (k l : ℕ) (e : WrittenExpression) → Alike (expression_faults s k e) (expression_faults s l e)
expressions_alike s k l (Number n) = refl
expressions_alike s k l (Named name) = misnamed_alike _ name k l (meaning s name)
expressions_alike s k l (Element name index) = joined _ _ _ _ (misnamed_alike _ name k l (meaning s name)) (expressions_alike s k l index)
expressions_alike s k l (Negated e) = expressions_alike s k l e
expressions_alike s k l (Applied op a b) = joined _ _ _ _ (expressions_alike s k l a) (expressions_alike s k l b)

mutual
  actions_alike : (s : Scope) (k l : ℕ) (a : WrittenAction) → Alike (action_faults s k a) (action_faults s l (bare_action a))
  actions_alike s k l (Set name value) = joined _ _ _ _ (names_alike _ s k l name) (expressions_alike s k l value)
  actions_alike s k l (SetAt name index value) =
      joined _ _ _ _ (joined _ _ _ _ (names_alike _ s k l name) (expressions_alike s k l index)) (expressions_alike s k l value)
  actions_alike s k l (Write message value) = joined _ _ _ _ (writes_alike s k l message) (expressions_alike s k l value)
  actions_alike s k l (Read message name) = joined _ _ _ _ (reads_alike s k l message) (names_alike _ s k l name)
  actions_alike s k l (Take name) = names_alike _ s k l name
  actions_alike s k l (Emit value) = expressions_alike s k l value
  actions_alike s k l (For counter turns body) =
      let b = blocks_alike (inside_loop counter s) body in search (joined, tested, b)
  actions_alike s k l (If test first second) =
      joined _ _ _ _ (joined _ _ _ _ (expressions_alike s k l test) (blocks_alike s first)) (blocks_alike s second)

  pub blocks_alike : (s : Scope) (b : WrittenBlock) → Alike (block_faults s b) (block_faults s (bare_block b))
  blocks_alike s End = refl
  blocks_alike s (Then line action rest) = joined _ _ _ _ (actions_alike s line 0 action) (blocks_alike s rest)

-- ---- lists of declarations

-- declarations one after another are as much at fault without lines, where each behind others is
behind : {A : Type 0} (f g : List A → A → List StaticError) (bare : A → A)
    → ((earlier : List A) (d : A) → Alike (f earlier d) (g (map bare earlier) (bare d)))
    → (earlier ds : List A) → Alike (faults_behind f earlier ds) (faults_behind g (map bare earlier) (map bare ds))
behind {A} f g bare h earlier [] = refl
behind {A} f g bare h earlier (d ∷ ds) =
    let Rest : List A → Type 0 = λ before. Alike (faults_behind f (earlier ++ d ∷ []) ds) (faults_behind g before (map bare ds)) in
    joined _ _ _ _ (h earlier d) (subst Rest (map-append bare earlier (d ∷ [])) (behind f g bare h (earlier ++ d ∷ []) ds))

-- a test of what was made of some things is one of them
any_map : {A B : Type 0} (p : B → Bool) (f : A → B) (xs : List A) → list_any p (map f xs) ≡ list_any (λ x. p (f x)) xs
any_map p f [] = refl
any_map p f (x ∷ xs) = ap (λ b. p (f x) || b) (any_map p f xs)

-- what has no line in it stays
pub stays : {A B : Type 0} (f : A → B) (bare : A → A) → ((a : A) → f (bare a) ≡ f a) → (xs : List A) → map f (map bare xs) ≡ map f xs
stays {B} f bare h [] = refl
stays {B} f bare h (x ∷ xs) = ap₂ (λ (y : B) (ys : List B). y ∷ ys) (h x) (stays f bare h xs)

links_alike : (g : Extent) (earlier : List LinkDecl) (l : LinkDecl)
    → Alike (link_faults g earlier l) (link_faults g (map bare_link earlier) (bare_link l))
links_alike g earlier l =
    let twice : LinkDecl → Bool = λ other. nat_eq (declared_link g other) (declared_link g l) in
    let same : list_any twice (map bare_link earlier) ≡ list_any twice earlier = any_map twice bare_link earlier in
    search (joined, tested, by_test, sym same)

routes_alike : (name : List ℕ) (k l : ℕ) (w : Walked) → Alike (route_faults name k w) (route_faults name l w)
routes_alike name k l (Ok links) = refl
routes_alike name k l (Err fault) = refl

messages_alike : (g : Extent) (earlier : List MessageDecl) (m : MessageDecl)
    → Alike (message_faults g earlier m) (message_faults g (map bare_message earlier) (bare_message m))
messages_alike g earlier m =
    let count : nat_le MESSAGES (length earlier) ≡ nat_le MESSAGES (length (map bare_message earlier)) =
    ap (nat_le MESSAGES) (sym (length-map earlier bare_message)) in
    let among : is_among (map (λ (n : MessageDecl). n.name) earlier) m.name
    ≡ is_among (map (λ (n : MessageDecl). n.name) (map bare_message earlier)) m.name =
    ap (λ names. is_among names m.name) (sym (stays (λ (n : MessageDecl). n.name) bare_message (λ n. refl) earlier)) in
    search (joined, tested, by_test, count, among, routes_alike) depth 12

-- variables have as many words
total_stays : (vs : List VarDecl) → total_words (map bare_variable vs) ≡ total_words vs
total_stays [] = refl
total_stays (v ∷ vs) =
    sum_by-cons words_of (bare_variable v) (map bare_variable vs) ∙ ap (λ n. words_of v + n) (total_stays vs) ∙ sym (sum_by-cons words_of v vs)

vars_alike : (messages : List (List ℕ)) (earlier : List VarDecl) (v : VarDecl)
    → Alike (var_faults messages earlier v) (var_faults messages (map bare_variable earlier) (bare_variable v))
vars_alike messages earlier v =
    let among : (is_among messages v.name || is_among (map (λ (n : VarDecl). n.name) earlier) v.name)
    ≡ (is_among messages v.name || is_among (map (λ (n : VarDecl). n.name) (map bare_variable earlier)) v.name) =
    ap (λ names. is_among messages v.name || is_among names v.name) (sym (stays (λ (n : VarDecl). n.name) bare_variable (λ n. refl) earlier)) in
    let count : nat_le VARIABLES (length earlier) ≡ nat_le VARIABLES (length (map bare_variable earlier)) =
    ap (nat_le VARIABLES) (sym (length-map earlier bare_variable)) in
    let words : total_words (earlier ++ v ∷ []) ≡ total_words (map bare_variable earlier ++ bare_variable v ∷ []) =
    sym (total_stays (earlier ++ v ∷ [])) ∙ ap total_words (map-append bare_variable earlier (v ∷ [])) in
    let few : (nat_eq (words_of v) 0 || nat_lt WORDS (total_words (earlier ++ v ∷ [])))
    ≡ (nat_eq (words_of v) 0 || nat_lt WORDS (total_words (map bare_variable earlier ++ bare_variable v ∷ []))) =
    ap (λ n. nat_eq (words_of v) 0 || nat_lt WORDS n) words in
    search (joined, by_test, among, count, few) depth 8

-- variables stand where they stood
placed_stays : (offset : ℕ) (vs : List VarDecl) → placed_from offset (map bare_variable vs) ≡ placed_from offset vs
placed_stays offset [] = refl
placed_stays offset (v ∷ vs) =
    let Next : List NamedVariable → List NamedVariable = λ rest. record { name = v.name; offset = offset; length = v.length } ∷ rest in
    ap Next (placed_stays (offset + words_of v) vs)

-- names mean what they meant
pub scope_stays : (w : WrittenSource) (c : WrittenCell) → scope_of (bare_source w) (bare_cell c) ≡ scope_of w c
scope_stays w c =
    let g : Extent = extent_of w in
    let With : List NamedMessage → List NamedVariable → Scope =
    λ messages variables. record { cell = cell_index g c.place; messages = messages; variables = variables; counters = [] } in
    ap₂ With (stays (named_message g) bare_message (λ m. refl) w.messages) (placed_stays 0 c.vars)

cells_alike : (w : WrittenSource) (earlier : List WrittenCell) (c : WrittenCell)
    → Alike (cell_faults w earlier c) (cell_faults (bare_source w) (map bare_cell earlier) (bare_cell c))
cells_alike w earlier c =
    let g : Extent = extent_of w in
    let twice : WrittenCell → Bool = λ d. nat_eq (cell_index g d.place) (cell_index g c.place) in
    let same : list_any twice (map bare_cell earlier) ≡ list_any twice earlier = any_map twice bare_cell earlier in
    let names : List (List ℕ) = map (λ (m : MessageDecl). m.name) w.messages in
    let others : names ≡ map (λ (m : MessageDecl). m.name) (map bare_message w.messages) =
    sym (stays (λ (m : MessageDecl). m.name) bare_message (λ m. refl) w.messages) in
    let Vars : List (List ℕ) → Type 0 = λ ns. Alike (faults_behind (var_faults names) [] c.vars) (faults_behind (var_faults ns) [] (map bare_variable c.vars)) in
    let vars = subst Vars others (behind (var_faults names) (var_faults names) bare_variable (vars_alike names) [] c.vars) in
    let Body : Scope → Type 0 = λ s. Alike (block_faults (scope_of w c) c.body) (block_faults s (bare_block c.body)) in
    let body = subst Body (sym (scope_stays w c)) (blocks_alike (scope_of w c) c.body) in
    search (joined, tested, by_test, sym same, vars, body) depth 8

-- a source has as many faults without its lines
pub sources_alike : (w : WrittenSource) → Alike (source_faults w) (source_faults (bare_source w))
sources_alike w =
    let g : Extent = extent_of w in
    let links = behind (link_faults g) (link_faults g) bare_link (links_alike g) [] w.links in
    let messages = behind (message_faults g) (message_faults g) bare_message (messages_alike g) [] w.messages in
    let cells = behind (cell_faults w) (cell_faults (bare_source w)) bare_cell (cells_alike w) [] w.cells in
    search (joined, tested, links, messages, cells) depth 12
