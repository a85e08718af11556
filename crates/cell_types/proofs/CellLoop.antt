-- The steps of the loop over the declared cells.
use Rattle.std.proofs.Common.{ℕ, ◌≡◌, ◌+◌, ◌<◌, ◌≤◌, Bool, true, false, cond, List, [], ◌∷◌, ◌++◌, Option, Some, None, length, map, replicate, take, set, get_or, find, nat_eq, refl, sym, ap, subst, ◌∙◌, ⊎_elim, eq-eqb, arith, append_assoc, ◌||◌}
use Rattle.std.specs.List.{list_any}
use Rattle.std.specs.Option.{option_or}
use Rattle.std.specs.Prelude.{All}
use Rattle.std.proofs.lemmas.Bool.{cases_eq, ne_eqb, or_right}
use Rattle.std.proofs.lemmas.List.{take_more, take_all, length-append, length-set, get_or-set_same, get_or-set_other, get_or-map, get_or-replicate, get_or_at, length-map, length-replicate}
use Rattle.std.proofs.lemmas.List.Elements.{All-get_or}
use Rattle.std.proofs.lemmas.List.Folds.{find-append, list_any-append}
use Rattle.std.proofs.lemmas.List.FromFn.{fill_by_all}
use Rattle.std.proofs.lemmas.Simd.{map-map}
use Rattle.sys_base.specs.Grid.{Extent, cell_count}
use Rattle.cell_tree.specs.declared.source.CellDecl.{CellDecl}
use Rattle.cell_types.specs.Code.{CellCode, End}
use Rattle.cell_types.specs.bodies.Declarations.{place_faults, HasMarks}
use Rattle.cell_types.specs.Faults.{faults_behind, var_faults, is_off_grid, cell_faults, IsFirst}
use Rattle.cell_types.specs.Names.{NamedMessage, total_words, cell_index, extent_of, named_message, scope_of}
use Rattle.cell_types.specs.Resolved.{cell_with, resolved_block, cell_code, declaration_of, cells_of}
use Rattle.cell_types.specs.bodies.Scopes.{cell_scope, inner_faults, inner_code}
use Rattle.cell_types.specs.Statics.{when, block_faults}
use Rattle.cell_types.specs.Written.{WrittenCell, WrittenSource, written, written_cell, written_block}
use Rattle.cell_tree.specs.declared.source.Source.{Source}
use Rattle.cell_types.specs.declared.error.StaticError.{StaticError}
use Rattle.cell_types.proofs.Behind.{behind_more, behind_stop, behind_all}
use Rattle.cell_types.proofs.FirstFaults.{first_left, first_right, none_joined}
use Rattle.cell_types.proofs.LinkSteps.{find_none}
use Rattle.cell_types.proofs.NoFaults.{none_back, when_none}
use Rattle.cell_types.specs.declared.error.StaticError.TheVariants as E
use Rattle.cell_tree.specs.declared.source.MessageDecl.{MessageDecl}

-- the declaration of a cell among some, by its index
abbrev declared_among : Extent → List WrittenCell → ℕ → Option WrittenCell
declared_among g cells index = find (λ (c : WrittenCell). nat_eq (cell_index g c.place) index) cells

-- nothing changes beside a test that fails, and beside nothing
or_false : (b : Bool) → (b || false) ≡ b
or_false true = refl
or_false false = refl

option_or_none : {X : Type 0} (o : Option X) → option_or o None ≡ o
option_or_none None = refl
option_or_none (Some x) = refl

-- The first cells have no fault, and the marks and the programs are theirs.
pub record CellsSoFar (s : WrittenSource) (marks : List Bool) (codes : List CellCode) (i : ℕ) : Type 0 where
  pub none : faults_behind (cell_faults s) [] (take i s.cells) ≡ []
  pub marked : HasMarks (extent_of s) (take i s.cells) marks
  pub count : length codes ≡ cell_count (extent_of s)
  pub each : (k : ℕ) → k < cell_count (extent_of s)
      → get_or codes k (cell_with 0 End) ≡ cell_code s (declared_among (extent_of s) (take i s.cells) k)

module _ (s : WrittenSource) where
  module _ (messages : List NamedMessage) (same : messages ≡ map (named_message (extent_of s)) s.messages) (cell : CellDecl)
      (index : ℕ) (is : index ≡ cell_index (extent_of s) cell.place) where
    abbrev g : Extent
    g = extent_of s

    -- what is wrong with the variables, by the names of the messages
    abbrev variables : List (List ℕ) → List StaticError
    variables names = faults_behind (var_faults names) [] cell.vars

    -- the messages' names as declared and as statements see them
    all_names : map (λ (m : MessageDecl). m.name) s.messages ≡ map (λ (m : NamedMessage). m.name) messages
    all_names =
        sym (ap (map (λ (m : NamedMessage). m.name)) same ∙ map-map (λ (m : NamedMessage). m.name) (named_message g) s.messages)

    -- what can be named in the cell
    scopes : scope_of s (written_cell cell) ≡ cell_scope messages index cell
    scopes =
        ap (λ k. cell_scope (map (named_message g) s.messages) k cell) (sym is) ∙ ap (λ ms. cell_scope ms index cell) (sym same)

    -- the faults of a cell are those of its place, and those inside it
    parts : (earlier : List WrittenCell) → cell_faults s earlier (written_cell cell)
        ≡ place_faults (extent_of s) earlier cell.place cell.line ++ inner_faults messages index cell
    parts earlier =
        let placed = place_faults g earlier cell.place cell.line in
        let inside = block_faults (scope_of s (written_cell cell)) (written_block cell.body) in
        append_assoc placed (variables (map (λ (m : MessageDecl). m.name) s.messages)) inside
        ∙ ap (λ names. placed ++ (variables names ++ inside)) all_names
        ∙ ap (λ scope. placed ++ (variables (map (λ (m : NamedMessage). m.name) messages) ++ block_faults scope (written_block cell.body))) scopes

    -- and its program is that of what is inside it
    code : cell_code s (Some (written_cell cell)) ≡ inner_code messages index cell
    code = ap (λ scope. cell_with (total_words cell.vars) (resolved_block scope (written_block cell.body))) scopes

    module _ (marks : List Bool) (codes : List CellCode) (i : ℕ) (so : CellsSoFar s marks codes i)
        (l : i < length s.cells) (e : written_cell cell ≡ get_or s.cells i (written_cell cell)) where
      -- the declarations of a cell among one more
      found_more : take (i + 1) s.cells ≡ take i s.cells ++ written_cell cell ∷ [] → (k : ℕ) → declared_among g (take (i + 1) s.cells) k
          ≡ option_or (declared_among g (take i s.cells) k) (cond (nat_eq (cell_index g cell.place) k) (Some (written_cell cell)) None)
      found_more more k =
          ap (λ cs. declared_among g cs k) more
          ∙ find-append (λ (c : WrittenCell). nat_eq (cell_index g c.place) k) (take i s.cells) (written_cell cell ∷ [])

      -- and the marks of one more
      marked_more : take (i + 1) s.cells ≡ take i s.cells ++ written_cell cell ∷ [] → (k : ℕ)
          → list_any (λ (c : WrittenCell). nat_eq (cell_index g c.place) k) (take (i + 1) s.cells)
          ≡ (list_any (λ (c : WrittenCell). nat_eq (cell_index g c.place) k) (take i s.cells) || nat_eq (cell_index g cell.place) k)
      marked_more more k =
          ap (list_any (λ (c : WrittenCell). nat_eq (cell_index g c.place) k)) more
          ∙ list_any-append (λ (c : WrittenCell). nat_eq (cell_index g c.place) k) (take i s.cells) (written_cell cell ∷ [])
          ∙ ap (λ b. list_any (λ (c : WrittenCell). nat_eq (cell_index g c.place) k) (take i s.cells) || b)
          (or_false (nat_eq (cell_index g cell.place) k))

      -- the first fault of its place is the first of all
      pub place_stops : (error : StaticError) → IsFirst (place_faults (extent_of s) (take i s.cells) cell.place cell.line) error
          → IsFirst (faults_behind (cell_faults s) [] s.cells) error
      place_stops error first =
          behind_stop (cell_faults s) s.cells i (written_cell cell) l e so.none error
          (subst (λ fs. IsFirst fs error) (sym (parts (take i s.cells)))
          (first_left (place_faults (extent_of s) (take i s.cells) cell.place cell.line) (inner_faults messages index cell) error first))

      -- the first fault inside it is the first of all, where its place has none
      pub inner_stops : (error : StaticError) → place_faults (extent_of s) (take i s.cells) cell.place cell.line ≡ []
          → IsFirst (inner_faults messages index cell) error → IsFirst (faults_behind (cell_faults s) [] s.cells) error
      inner_stops error placed first =
          behind_stop (cell_faults s) s.cells i (written_cell cell) l e so.none error
          (subst (λ fs. IsFirst fs error) (sym (parts (take i s.cells)))
          (first_right (place_faults (extent_of s) (take i s.cells) cell.place cell.line) (inner_faults messages index cell) error placed first))

      -- it has no fault
      pub cells_more : (made : CellCode) → index < cell_count (extent_of s)
          → place_faults (extent_of s) (take i s.cells) cell.place cell.line ≡ [] → inner_faults messages index cell ≡ []
          → made ≡ inner_code messages index cell → CellsSoFar s (set marks index true) (set codes index made) (i + 1)
      cells_more made below placed fine made_is =
          let one_more : take (i + 1) s.cells ≡ take i s.cells ++ written_cell cell ∷ [] =
          take_more s.cells i (written_cell cell) l ∙ ap (λ c. take i s.cells ++ c ∷ []) (sym e) in
          let here : nat_eq (cell_index g cell.place) index ≡ true = eq-eqb (cell_index g cell.place) index (sym is) in
          let free : list_any (λ (c : WrittenCell). nat_eq (cell_index g c.place) index) (take i s.cells) ≡ false =
          ap (λ k. list_any (λ (c : WrittenCell). nat_eq (cell_index g c.place) k) (take i s.cells)) is
          ∙ when_none _ _ (none_back (when (is_off_grid g cell.place) (E.OutsideGrid cell.line)) _ placed) in
          record {
            none = behind_more (cell_faults s) s.cells i (written_cell cell) l e so.none
                (parts (take i s.cells) ∙ none_joined (place_faults g (take i s.cells) cell.place cell.line) (inner_faults messages index cell) placed fine);
            marked = record {
              size = length-set marks index true ∙ so.marked.size;
              each = λ k m. ⊎_elim
                  (λ at. ap (λ j. get_or (set marks index true) j false) at
                  ∙ get_or-set_same marks index true false (omega (arith, so.marked.size))
                  ∙ sym (marked_more one_more k ∙ or_right (list_any (λ (c : WrittenCell). nat_eq (cell_index g c.place) k) (take i s.cells))
                  (nat_eq (cell_index g cell.place) k) (eq-eqb (cell_index g cell.place) k (sym is ∙ sym at))))
                  (λ other. get_or-set_other marks index k true false other ∙ so.marked.each k m
                  ∙ sym (marked_more one_more k
                  ∙ ap (λ b. list_any (λ (c : WrittenCell). nat_eq (cell_index g c.place) k) (take i s.cells) || b)
                  (ne_eqb (cell_index g cell.place) k (λ q. other (sym q ∙ sym is)))
                  ∙ or_false (list_any (λ (c : WrittenCell). nat_eq (cell_index g c.place) k) (take i s.cells))))
                  (cases_eq k index);
            };
            count = length-set codes index made ∙ so.count;
            each = λ k m. ⊎_elim
                (λ at. ap (λ j. get_or (set codes index made) j (cell_with 0 End)) at
                ∙ get_or-set_same codes index made (cell_with 0 End) (omega (arith, so.count)) ∙ made_is ∙ sym code
                ∙ ap (cell_code s) (sym (ap (declared_among g (take (i + 1) s.cells)) at ∙ found_more one_more index
                ∙ ap (λ o. option_or o (cond (nat_eq (cell_index g cell.place) index) (Some (written_cell cell)) None))
                (find_none (λ (c : WrittenCell). nat_eq (cell_index g c.place) index) (take i s.cells) free)
                ∙ ap (λ b. cond b (Some (written_cell cell)) None) here)))
                (λ other. get_or-set_other codes index k made (cell_with 0 End) other ∙ so.each k m
                ∙ ap (cell_code s) (sym (found_more one_more k
                ∙ ap (λ b. option_or (declared_among g (take i s.cells) k) (cond b (Some (written_cell cell)) None))
                (ne_eqb (cell_index g cell.place) k (λ q. other (sym q ∙ sym is)))
                ∙ option_or_none (declared_among g (take i s.cells) k))))
                (cases_eq k index);
          }

  -- all cells are declared
  pub cells_all : (marks : List Bool) (codes : List CellCode) (i : ℕ) → CellsSoFar s marks codes i → length s.cells ≤ i
      → (faults_behind (cell_faults s) [] s.cells ≡ []) × (codes ≡ map (λ cell. cell_code s (declaration_of s cell)) (cells_of s))
  cells_all marks codes i so l =
      let all : take i s.cells ≡ s.cells = take_all i s.cells l in (
        behind_all (cell_faults s) s.cells i l so.none,
        fill_by_all (λ cell. cell_code s (declaration_of s cell)) codes (cell_count (extent_of s)) (cell_with 0 End) so.count
            (λ k m. so.each k m ∙ ap (λ cs. cell_code s (declared_among (extent_of s) cs k)) all),
      )

-- The cells that were taken have no fault, and the marks and the programs are theirs, in each source with these cells.
pub record CellsTaken (grid : Extent) (messages : List NamedMessage) (declared : List CellDecl) (marks : List Bool) (codes : List CellCode)
    (taken left : List CellDecl) : Type 0 where
  pub all : declared ≡ taken ++ left
  pub marks_count : length marks ≡ cell_count grid
  pub codes_count : length codes ≡ cell_count grid
  pub so_far : (source : Source) → grid ≡ extent_of (written source) → source.cells ≡ declared
      → messages ≡ map (named_message grid) source.messages → CellsSoFar (written source) marks codes (length taken)

-- before the first
pub none_taken : (grid : Extent) (messages : List NamedMessage) (declared left : List CellDecl) (count : ℕ) (marks : List Bool)
    (codes : List CellCode) → count ≡ cell_count grid → left ≡ declared → marks ≡ replicate count false
    → codes ≡ replicate count (cell_with 0 End) → CellsTaken grid messages declared marks codes [] left
none_taken grid messages declared left count marks codes counted all no_marks no_codes =
    let marks_size : length marks ≡ cell_count grid = ap length no_marks ∙ length-replicate count false ∙ counted in
    let codes_size : length codes ≡ cell_count grid = ap length no_codes ∙ length-replicate count (cell_with 0 End) ∙ counted in
    let none_marked : (k : ℕ) → k < cell_count grid → get_or marks k false ≡ false =
    λ k l. ap (λ ms. get_or ms k false) no_marks ∙ get_or-replicate count k false false (omega (arith, l, counted)) in
    let none_coded : (k : ℕ) → k < cell_count grid → get_or codes k (cell_with 0 End) ≡ cell_with 0 End =
    λ k l. ap (λ cs. get_or cs k (cell_with 0 End)) no_codes
    ∙ get_or-replicate count k (cell_with 0 End) (cell_with 0 End) (omega (arith, l, counted)) in
    record {
      all = sym all;
      marks_count = marks_size;
      codes_count = codes_size;
      so_far = λ source same _ _. record {
        none = refl;
        marked = record { size = marks_size ∙ ap cell_count same; each = λ k l. none_marked k (subst (λ g. k < cell_count g) (sym same) l) };
        count = codes_size ∙ ap cell_count same;
        each = λ k l. none_coded k (subst (λ g. k < cell_count g) (sym same) l);
      };
    }

-- a cell that is taken, as plain data
pub cell_taken : (source : Source) (declared taken rest : List CellDecl) (cell : CellDecl) → source.cells ≡ declared
    → declared ≡ taken ++ cell ∷ rest
    → (length taken < length (written source).cells)
    × (written_cell cell ≡ get_or (written source).cells (length taken) (written_cell cell))
cell_taken source declared taken rest cell same all =
    let here : source.cells ≡ taken ++ cell ∷ rest = same ∙ all in
    let below : length taken < length source.cells = omega (arith, ap length here, length-append taken (cell ∷ rest)) in (
      subst (λ n. length taken < n) (sym (length-map source.cells written_cell)) below,
      ap written_cell (sym (get_or_at taken cell rest cell (length taken) refl) ∙ ap (λ cs. get_or cs (length taken) cell) (sym here))
          ∙ sym (get_or-map written_cell source.cells (length taken) cell (written_cell cell) below),
    )

-- what holds of all declared cells holds of the one that is taken
pub holds_of_taken : (P : CellDecl → Type 0) (declared taken rest : List CellDecl) (cell : CellDecl) → declared ≡ taken ++ cell ∷ rest
    → All P declared → P cell
holds_of_taken P declared taken rest cell all each =
    subst P (get_or_at taken cell rest cell (length taken) refl)
    (All-get_or P (taken ++ cell ∷ rest) (length taken) cell (omega (arith, length-append taken (cell ∷ rest))) (subst (All P) all each))
