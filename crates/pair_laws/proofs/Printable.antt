-- The source of pairs is printable.
use Rattle.std.proofs.Common.{◌≡◌, ℕ, ◌+◌, ◌<◌, ◌≤◌, ◌++◌, Bool, true, false, List, [], ◌∷◌, map, refl, sym, subst, ap, ap₂, ◌∙◌, arith}
use Rattle.std.specs.Prelude.{nat_eq, nat_le, ◌&&◌, get_or, if◌then◌else◌}
use Rattle.std.specs.List.{flat_map, list_all, All}
use Rattle.std.proofs.lemmas.Bool.{leb-true, false≢true}
use Rattle.std.proofs.lemmas.List.Elements.{All-head, All-tail, All-cons, All-append, All-map}
use Rattle.std.proofs.lemmas.List.FromFn.{get_or-range_with_len}
use Rattle.sys_base.specs.Groups.{below}
use Rattle.sys_base.specs.Name.{IsName}
use Rattle.sys_base.specs.declared.kinds.Op.TheVariants as O
use Rattle.cell_lexer.specs.declared.limits.TheConstants.{GREATEST_NUMBER}
use Rattle.cell_tree.specs.Printable.{names_step, names_of, numbers_step, numbers_of, act_names, statement_names, act_numbers, statement_numbers, message_numbers, place_numbers, cell_names, cell_numbers, IsPrintable}
use Rattle.cell_tree.specs.declared.expression.Expr.TheFolds.{fold-roll-Expr}
use Rattle.cell_tree.specs.declared.expression.Expr.TheOpen.{Expr-F}
use Rattle.cell_tree.specs.declared.expression.Expr.TheVariants as X
use Rattle.cell_tree.specs.declared.expression.Expr.TheVariants.{rolls-Number, rolls-Named, rolls-Binary}
use Rattle.cell_tree.specs.declared.source.MessageDecl.{MessageDecl}
use Rattle.cell_tree.specs.declared.statement.Act.{Act}
use Rattle.cell_tree.specs.declared.statement.Act.TheFolds.{fold-Act, fold-roll-Stmt, fold-roll-Act}
use Rattle.cell_tree.specs.declared.statement.Act.TheOpen.{Act-F}
use Rattle.cell_tree.specs.declared.statement.Act.TheVariants.{rolls-Set, rolls-Write, rolls-Read, rolls-Emit}
use Rattle.cell_tree.specs.declared.statement.Stmt.{Stmt}
use Rattle.pair_gen.specs.Generated.{message_name, variable_name, variable, sender, receiver, place_of, set_act, write_act, read_act, emit_act, pair_acts, cell_acts, on_lines, first_line, cell_decl, message_decl, source_of}
use Rattle.pair_gen.proofs.Below.{passes_below}
use Rattle.pair_gen.proofs.NamesAre.{message_is_name, variable_is_name}
use Rattle.pair_laws.proofs.Fits.{below_sixteen, runs_kept, braces_kept}

and_both : (a b : Bool) → (a && b) ≡ true → (a ≡ true) × (b ≡ true)
and_both true true h = (refl, refl)
and_both true false h = (refl, h)
and_both false b h = absurd (false≢true h)

-- ---- lists of lists

no_items : {X : Type 0} (P : X → Type 0) → All P []
no_items P i d within = absurd (omega arith)

all_flat : {A X : Type 0} (P : X → Type 0) (f : A → List X) (xs : List A) → All (λ x. All P (f x)) xs → All P (flat_map f xs)
all_flat P f [] h = no_items P
all_flat P f (x ∷ xs) h =
    All-append P (f x) (flat_map f xs) (All-head (λ y. All P (f y)) x xs h) (all_flat P f xs (All-tail (λ y. All P (f y)) x xs h))

-- what holds of what each action of pairs has holds of what a cell has
module _ {X : Type 0} (P : X → Type 0) (F : Act → List X) (G : Stmt → List X) (same : (line : ℕ) (act : Act) → G (record { line = line; act = act }) ≡ F act)
    (sets : (c : ℕ) → c < 16 → All P (F (set_act c))) (writes : (m : ℕ) → m < 24 → All P (F (write_act m)))
    (reads : (m : ℕ) → m < 24 → All P (F (read_act m))) (emits : All P (F emit_act)) where
  on_each : (line : ℕ) (acts : List Act) → All (λ act. All P (F act)) acts → All P (flat_map G (on_lines line acts))
  on_each line [] h = no_items P
  on_each line (act ∷ acts) h =
      let first = subst (All P) (sym (same line act)) (All-head (λ a. All P (F a)) act acts h) in
      All-append P (G (record { line = line; act = act })) (flat_map G (on_lines (line + 1) acts)) first
      (on_each (line + 1) acts (All-tail (λ a. All P (F a)) act acts h))

  one_if : (b : Bool) (act : Act) → All P (F act) → All (λ a. All P (F a)) (if b then act ∷ [] else [])
  one_if true act h = All-cons (λ a. All P (F a)) act [] h (no_items (λ a. All P (F a)))
  one_if false act h = no_items (λ a. All P (F a))

  pairs_each : (cell : ℕ) (ms : List ℕ) → All (λ m. m < 24) ms → All (λ a. All P (F a)) (flat_map (pair_acts cell) ms)
  pairs_each cell [] known = no_items (λ a. All P (F a))
  pairs_each cell (m ∷ ms) known =
      let within : m < 24 = All-head (λ k. k < 24) m ms known in
      All-append (λ a. All P (F a)) (pair_acts cell m) (flat_map (pair_acts cell) ms)
      (All-append (λ a. All P (F a)) (if nat_eq (sender m) cell then write_act m ∷ [] else []) (if nat_eq (receiver m) cell then read_act m ∷ [] else [])
      (one_if (nat_eq (sender m) cell) (write_act m) (writes m within))
      (one_if (nat_eq (receiver m) cell) (read_act m) (reads m within)))
      (pairs_each cell ms (All-tail (λ k. k < 24) m ms known))

  acts_each : (cell : ℕ) (ms : List ℕ) → cell < 16 → All (λ m. m < 24) ms → All (λ a. All P (F a)) (cell_acts ms cell)
  unfolding cell_acts
  acts_each cell ms within known =
      All-cons (λ a. All P (F a)) (set_act cell) (flat_map (pair_acts cell) ms ++ emit_act ∷ []) (sets cell within)
      (All-append (λ a. All P (F a)) (flat_map (pair_acts cell) ms) (emit_act ∷ []) (pairs_each cell ms known)
      (All-cons (λ a. All P (F a)) emit_act [] emits (no_items (λ a. All P (F a)))))

  body_each : (line cell : ℕ) (ms : List ℕ) → cell < 16 → All (λ m. m < 24) ms → All P (flat_map G (on_lines line (cell_acts ms cell)))
  body_each line cell ms within known = on_each line (cell_acts ms cell) (acts_each cell ms within known)

-- ---- names

abbrev named_in : Act → List (List ℕ)
named_in = fold-Act (List (List ℕ)) (List (List ℕ)) act_names (λ statement. statement.act)

names_named : (name : List ℕ) → names_of (X.Named name) ≡ name ∷ []
names_named name = ap names_of (sym (rolls-Named name)) ∙ fold-roll-Expr (List (List ℕ)) names_step (Expr-F.Named name)

names_number : (n : ℕ) → names_of (X.Number n) ≡ []
names_number n = ap names_of (sym (rolls-Number n)) ∙ fold-roll-Expr (List (List ℕ)) names_step (Expr-F.Number n)

names_more : names_of (X.Binary O.Add variable (X.Number 1)) ≡ variable_name ∷ []
names_more =
    ap names_of (sym (rolls-Binary O.Add variable (X.Number 1)))
    ∙ fold-roll-Expr (List (List ℕ)) names_step (Expr-F.Binary O.Add variable (X.Number 1))
    ∙ ap₂ (λ (xs ys : List (List ℕ)). xs ++ ys) (names_named variable_name) (names_number 1)

set_names : (c : ℕ) → named_in (set_act c) ≡ variable_name ∷ []
set_names c =
    ap named_in (sym (rolls-Set variable_name (X.Number c)))
    ∙ fold-roll-Act (List (List ℕ)) (List (List ℕ)) act_names (λ statement. statement.act) (Act-F.Set variable_name (X.Number c))
    ∙ ap (λ xs. variable_name ∷ xs) (names_number c)

write_names : (m : ℕ) → named_in (write_act m) ≡ message_name m ∷ variable_name ∷ []
write_names m =
    ap named_in (sym (rolls-Write (message_name m) (X.Binary O.Add variable (X.Number 1))))
    ∙ fold-roll-Act (List (List ℕ)) (List (List ℕ)) act_names (λ statement. statement.act) (Act-F.Write (message_name m) (X.Binary O.Add variable (X.Number 1)))
    ∙ ap (λ xs. message_name m ∷ xs) names_more

read_names : (m : ℕ) → named_in (read_act m) ≡ message_name m ∷ variable_name ∷ []
read_names m =
    ap named_in (sym (rolls-Read (message_name m) variable_name))
    ∙ fold-roll-Act (List (List ℕ)) (List (List ℕ)) act_names (λ statement. statement.act) (Act-F.Read (message_name m) variable_name)

emit_names : named_in emit_act ≡ variable_name ∷ []
emit_names =
    ap named_in (sym (rolls-Emit variable))
    ∙ fold-roll-Act (List (List ℕ)) (List (List ℕ)) act_names (λ statement. statement.act) (Act-F.Emit variable)
    ∙ names_named variable_name

one_name : All IsName (variable_name ∷ [])
one_name = All-cons IsName variable_name [] variable_is_name (no_items IsName)

two_names : (m : ℕ) → m < 24 → All IsName (message_name m ∷ variable_name ∷ [])
two_names m within = All-cons IsName (message_name m) (variable_name ∷ []) (message_is_name m within) one_name

body_names : (line cell : ℕ) (ms : List ℕ) → cell < 16 → All (λ m. m < 24) ms → All IsName (flat_map statement_names (on_lines line (cell_acts ms cell)))
body_names line cell ms within known =
    body_each IsName named_in statement_names
    (λ l act. fold-roll-Stmt (List (List ℕ)) (List (List ℕ)) act_names (λ statement. statement.act) (record { line = l; act = act }))
    (λ c h. subst (All IsName) (sym (set_names c)) one_name)
    (λ m h. subst (All IsName) (sym (write_names m)) (two_names m h))
    (λ m h. subst (All IsName) (sym (read_names m)) (two_names m h))
    (subst (All IsName) (sym emit_names) one_name) line cell ms within known

-- ---- numbers

abbrev Small : ℕ → Type 0
Small n = n ≤ GREATEST_NUMBER

small_list : (xs : List ℕ) → list_all (λ n. nat_le n GREATEST_NUMBER) xs ≡ true → All Small xs
small_list [] h = no_items Small
small_list (x ∷ xs) h =
    let parts = and_both (nat_le x GREATEST_NUMBER) (list_all (λ n. nat_le n GREATEST_NUMBER) xs) h in
    All-cons Small x xs (leb-true x GREATEST_NUMBER parts.0) (small_list xs parts.1)

abbrev numbered_in : Act → List ℕ
numbered_in = fold-Act (List ℕ) (List ℕ) act_numbers (λ statement. statement.act)

numbers_named : (name : List ℕ) → numbers_of (X.Named name) ≡ []
numbers_named name = ap numbers_of (sym (rolls-Named name)) ∙ fold-roll-Expr (List ℕ) numbers_step (Expr-F.Named name)

numbers_number : (n : ℕ) → numbers_of (X.Number n) ≡ n ∷ []
numbers_number n = ap numbers_of (sym (rolls-Number n)) ∙ fold-roll-Expr (List ℕ) numbers_step (Expr-F.Number n)

numbers_more : numbers_of (X.Binary O.Add variable (X.Number 1)) ≡ 1 ∷ []
numbers_more =
    ap numbers_of (sym (rolls-Binary O.Add variable (X.Number 1)))
    ∙ fold-roll-Expr (List ℕ) numbers_step (Expr-F.Binary O.Add variable (X.Number 1))
    ∙ ap₂ (λ (xs ys : List ℕ). xs ++ ys) (numbers_named variable_name) (numbers_number 1)

set_numbers : (c : ℕ) → numbered_in (set_act c) ≡ c ∷ []
set_numbers c =
    ap numbered_in (sym (rolls-Set variable_name (X.Number c)))
    ∙ fold-roll-Act (List ℕ) (List ℕ) act_numbers (λ statement. statement.act) (Act-F.Set variable_name (X.Number c))
    ∙ numbers_number c

write_numbers : (m : ℕ) → numbered_in (write_act m) ≡ 1 ∷ []
write_numbers m =
    ap numbered_in (sym (rolls-Write (message_name m) (X.Binary O.Add variable (X.Number 1))))
    ∙ fold-roll-Act (List ℕ) (List ℕ) act_numbers (λ statement. statement.act) (Act-F.Write (message_name m) (X.Binary O.Add variable (X.Number 1)))
    ∙ numbers_more

read_numbers : (m : ℕ) → numbered_in (read_act m) ≡ []
read_numbers m =
    ap numbered_in (sym (rolls-Read (message_name m) variable_name))
    ∙ fold-roll-Act (List ℕ) (List ℕ) act_numbers (λ statement. statement.act) (Act-F.Read (message_name m) variable_name)

emit_numbers : numbered_in emit_act ≡ []
emit_numbers =
    ap numbered_in (sym (rolls-Emit variable))
    ∙ fold-roll-Act (List ℕ) (List ℕ) act_numbers (λ statement. statement.act) (Act-F.Emit variable)
    ∙ numbers_named variable_name

body_numbers : (line cell : ℕ) (ms : List ℕ) → cell < 16 → All (λ m. m < 24) ms → All Small (flat_map statement_numbers (on_lines line (cell_acts ms cell)))
body_numbers line cell ms within known =
    body_each Small numbered_in statement_numbers
    (λ l act. fold-roll-Stmt (List ℕ) (List ℕ) act_numbers (λ statement. statement.act) (record { line = l; act = act }))
    (λ c h. subst (All Small) (sym (set_numbers c)) (All-cons Small c [] (omega (arith, h)) (no_items Small)))
    (λ m h. subst (All Small) (sym (write_numbers m)) (small_list (1 ∷ []) refl))
    (λ m h. subst (All Small) (sym (read_numbers m)) (no_items Small))
    (subst (All Small) (sym emit_numbers) (no_items Small)) line cell ms within known

-- ---- the source

module _ (ms : List ℕ) (known : All (λ m. m < 24) ms) where
  cell_named : (cell : ℕ) → cell < 16 → All IsName (cell_names (cell_decl ms cell))
  cell_named cell within =
      All-append IsName (variable_name ∷ []) (flat_map statement_names (cell_decl ms cell).body) one_name
      (body_names (first_line ms cell + 2) cell ms within known)

  cell_numbered : (cell : ℕ) → cell < 16 → All Small (cell_numbers (cell_decl ms cell))
  cell_numbered cell within =
      All-append Small (place_numbers (place_of cell)) (flat_map statement_numbers (cell_decl ms cell).body)
      (small_list (place_numbers (place_of cell))
      (passes_below (λ c. list_all (λ n. nat_le n GREATEST_NUMBER) (place_numbers (place_of c))) 16 cell within refl))
      (body_numbers (first_line ms cell + 2) cell ms within known)

  messages_named : All IsName (map (λ (m : MessageDecl). m.name) (map message_decl (below 24)))
  messages_named =
      All-map IsName (λ (m : MessageDecl). m.name) (map message_decl (below 24))
      (All-map (λ (m : MessageDecl). IsName m.name) message_decl (below 24)
      (λ i d within. message_is_name (get_or (below 24) i d) (omega (arith, get_or-range_with_len 0 24 i d within, within))))

  pub printable : IsPrintable (source_of ms)
  unfolding source_of
  printable =
      record {
        names = All-append IsName (map (λ (m : MessageDecl). m.name) (map message_decl (below 24)))
            (flat_map cell_names (map (cell_decl ms) (below 16))) messages_named
            (all_flat IsName cell_names (map (cell_decl ms) (below 16))
            (All-map (λ c. All IsName (cell_names c)) (cell_decl ms) (below 16)
            (λ i d within. cell_named (get_or (below 16) i d) (below_sixteen i d within))));
        numbers = All-append Small (4 ∷ 4 ∷ 24 ∷ 0 ∷ flat_map message_numbers (map message_decl (below 24)))
            (flat_map cell_numbers (map (cell_decl ms) (below 16)))
            (small_list (4 ∷ 4 ∷ 24 ∷ 0 ∷ flat_map message_numbers (map message_decl (below 24))) refl)
            (all_flat Small cell_numbers (map (cell_decl ms) (below 16))
            (All-map (λ c. All Small (cell_numbers c)) (cell_decl ms) (below 16)
            (λ i d within. cell_numbered (get_or (below 16) i d) (below_sixteen i d within))));
        runs = runs_kept ms known;
        braces = braces_kept ms known;
      }
