-- The first fault of a source names cells and links with rows and columns that some grid has, and it is no want of memory.
use Rattle.std.proofs.Common.{◌≡◌, ℕ, ◌*◌, ◌/◌, ◌<◌, ◌≤◌, Bool, true, false, not, ◌||◌, ◌⊎◌, List, [], ◌∷◌, ◌++◌, slice_get, Option, Some, None, Result, Ok, Err, IfErr, is_none, is_some, nat_eq, nat_lt, nat_le, length, map, refl, sym, subst, inl, inr, arith}
use Rattle.std.specs.List.{list_any}
use Rattle.std.specs.Option.{option_map_or}
use Rattle.std.specs.Prelude.{if◌then◌else◌}
use Rattle.sys_base.specs.declared.kinds.Dir.{Dir}
use Rattle.sys_base.specs.declared.kinds.Dir.TheVariants.{N, E, S, W}
use Rattle.sys_base.specs.declared.kinds.Limit.TheVariants as L
use Rattle.sys_base.specs.Grid.{Extent, IsExtent, cell_count, neighbour_of, link_id}
use Rattle.cell_tree.specs.declared.source.LinkDecl.{LinkDecl}
use Rattle.cell_tree.specs.declared.source.MessageDecl.{MessageDecl}
use Rattle.cell_tree.specs.declared.source.Source.{Source}
use Rattle.cell_tree.specs.declared.source.VarDecl.{VarDecl}
use Rattle.cell_types.specs.Faults.{is_off_grid, is_outside, faults_behind, array_faults, queues_faults, declared_link, link_faults, route_faults, message_faults, var_faults, cell_faults, source_faults, faults, IsFirst}
use Rattle.cell_types.specs.Names.{NamedMessage, Scope, Meaning, is_among, cell_index, words_of, total_words, extent_of, inside_loop, meaning, message_named, scope_of}
use Rattle.cell_types.specs.Route.{Walked, hop, walk_on, route_between}
use Rattle.cell_types.specs.Statics.{when, is_message, is_variable, is_array, is_value, misnamed, name_faults, write_faults, read_faults, expression_faults, action_faults, block_faults, found_of}
use Rattle.cell_types.specs.Written as W
use Rattle.cell_types.specs.Written.{WrittenExpression, WrittenAction, WrittenBlock, WrittenCell, WrittenSource, written}
use Rattle.cell_types.specs.declared.error.RouteFault.TheVariants as P
use Rattle.cell_types.specs.declared.error.StaticError.{StaticError}
use Rattle.cell_types.specs.declared.error.StaticError.TheVariants as S
use Rattle.cell_types.specs.declared.error.What.TheVariants as T
use Rattle.cell_types.proofs.NoFaults.{none_front, none_back, when_none}
use Rattle.cell_types.proofs.SoundGrid.{grid_kept}
use Rattle.cell_types.proofs.SoundMessages.{on_grid}
use Rattle.cell_types.proofs.Paths.{PathLaws}
use Rattle.routes.specs.Walks.{directions}
use Rattle.cell_types.specs.Near.{IsNear, IsWhatNear, NamesNear}

-- ---- the first of some faults

-- A fault of a source names what is near, and it is no want of memory.
abbrev IsTold : ℕ → StaticError → Type 0
IsTold cols S.Memory = ⊥
IsTold cols (S.Twice what line) = IsWhatNear cols what
IsTold cols (S.WrongEnd name cell sends line) = IsNear cols cell
IsTold cols (S.Route name (P.LinkTwice link) line) = IsNear cols (link / 4)
IsTold cols _ = Unit {0}

told_near : (cols : ℕ) (e : StaticError) → IsTold cols e → NamesNear cols e
told_near cols S.Memory h = absurd h
told_near cols (S.Twice what line) h = h
told_near cols (S.WrongEnd name cell sends line) h = h
told_near cols (S.Route name (P.LinkTwice link) line) h = h
told_near cols (S.Route name P.LeavesGrid line) h = tt
told_near cols (S.Route name P.WrongEnd line) h = tt
told_near cols (S.Limit limit line) h = tt
told_near cols (S.OutsideGrid line) h = tt
told_near cols (S.SelfMessage name line) h = tt
told_near cols (S.Unknown name line) h = tt
told_near cols (S.WrongKind name found line) h = tt

-- The first of the faults, if there is one, is such a fault.
abbrev Begins : ℕ → List StaticError → Type 0
Begins cols [] = Unit {0}
Begins cols (e ∷ es) = IsTold cols e

-- the first of two lists of faults
begins_append : (cols : ℕ) (xs ys : List StaticError) → Begins cols xs → (xs ≡ [] → Begins cols ys) → Begins cols (xs ++ ys)
begins_append cols [] ys h k = k refl
begins_append cols (x ∷ xs) ys h k = h

-- a check with such a fault
begins_when : (cols : ℕ) (b : Bool) (e : StaticError) → IsTold cols e → Begins cols (when b e)
begins_when cols true e h = h
begins_when cols false e h = tt

-- the first fault of declarations
begins_behind : {D : Type 0} (cols : ℕ) (judged : List D → D → List StaticError) → ((earlier : List D) (d : D) → Begins cols (judged earlier d))
    → (earlier ds : List D) → Begins cols (faults_behind judged earlier ds)
begins_behind cols judged each earlier [] = tt
begins_behind cols judged each earlier (d ∷ ds) =
    begins_append cols (judged earlier d) (faults_behind judged (earlier ++ d ∷ []) ds) (each earlier d)
    (λ _. begins_behind cols judged each (earlier ++ d ∷ []) ds)

-- ---- cells of a grid

-- a cell of a grid is near
near : (g : Extent) (cell : ℕ) → IsExtent g → cell < cell_count g → IsNear g.cols cell
near g cell grid inside = let most : g.rows * g.cols ≤ 16 * g.cols = grind (arith, grid.most_rows) in record {
  some = grid.some_cols;
  most = grid.most_cols;
  row = omega arith;
}

-- the cell of a link
link_cell : (cell : ℕ) (dir : Dir) → link_id cell dir / 4 ≡ cell
link_cell cell N = omega arith
link_cell cell E = omega arith
link_cell cell S = omega arith
link_cell cell W = omega arith

-- a link that leaves a near cell is near
near_link : (cols cell : ℕ) (dir : Dir) → IsNear cols cell → IsNear cols (link_id cell dir / 4)
near_link cols cell dir h = subst (IsNear cols) (sym (link_cell cell dir)) h

-- ---- statements

module _ (cols : ℕ) where
  -- names
  names : (wanted : Meaning → Bool) (name : List ℕ) (line : ℕ) (m : Option Meaning) → Begins cols (misnamed wanted name line m)
  names wanted name line None = tt
  names wanted name line (Some m) = begins_when cols (not (wanted m)) (S.WrongKind name (found_of m) line) tt

  -- a message at its wrong end
  ends : (f : NamedMessage → Bool) (name : List ℕ) (cell line : ℕ) (sends : Bool) (o : Option NamedMessage) → IsNear cols cell
      → Begins cols (option_map_or (λ (m : NamedMessage). when (f m) (S.WrongEnd name cell sends line)) o [])
  ends f name cell line sends None here = tt
  ends f name cell line sends (Some m) here = begins_when cols (f m) (S.WrongEnd name cell sends line) here

  -- a message that is written
  writes : (scope : Scope) (line : ℕ) (name : List ℕ) → IsNear cols scope.cell → Begins cols (write_faults scope line name)
  writes scope line name here =
      begins_append cols (name_faults is_message scope line name) _ (names is_message name line (meaning scope name))
      (λ _. ends (λ m. not (nat_eq m.sender scope.cell)) name scope.cell line true (message_named scope name) here)

  -- a message that is read
  reads : (scope : Scope) (line : ℕ) (name : List ℕ) → IsNear cols scope.cell → Begins cols (read_faults scope line name)
  reads scope line name here =
      begins_append cols (name_faults is_message scope line name) _ (names is_message name line (meaning scope name))
      (λ _. ends (λ m. not (nat_eq m.receiver scope.cell)) name scope.cell line false (message_named scope name) here)

  -- an expression
  expressions : (scope : Scope) (line : ℕ) (e : WrittenExpression) → Begins cols (expression_faults scope line e)
  expressions scope line (W.Number number) = tt
  expressions scope line (W.Named name) = names is_value name line (meaning scope name)
  expressions scope line (W.Element name index) =
      begins_append cols (name_faults is_array scope line name) _ (names is_array name line (meaning scope name))
      (λ _. expressions scope line index)
  expressions scope line (W.Negated operand) = expressions scope line operand
  expressions scope line (W.Applied op left right) =
      begins_append cols (expression_faults scope line left) _ (expressions scope line left) (λ _. expressions scope line right)

  mutual
    -- an action
    actions : (scope : Scope) (line : ℕ) (a : WrittenAction) → IsNear cols scope.cell → Begins cols (action_faults scope line a)
    actions scope line (W.Set name value) here =
        begins_append cols (name_faults is_variable scope line name) _ (names is_variable name line (meaning scope name))
        (λ _. expressions scope line value)
    actions scope line (W.SetAt name index value) here =
        begins_append cols (name_faults is_array scope line name ++ expression_faults scope line index) _
        (begins_append cols (name_faults is_array scope line name) _ (names is_array name line (meaning scope name))
        (λ _. expressions scope line index))
        (λ _. expressions scope line value)
    actions scope line (W.Write message value) here =
        begins_append cols (write_faults scope line message) _ (writes scope line message here) (λ _. expressions scope line value)
    actions scope line (W.Read message name) here =
        begins_append cols (read_faults scope line message) _ (reads scope line message here)
        (λ _. names is_variable name line (meaning scope name))
    actions scope line (W.Take name) here = names is_variable name line (meaning scope name)
    actions scope line (W.Emit value) here = expressions scope line value
    actions scope line (W.For counter turns body) here =
        let twice : List StaticError = when (is_some (meaning scope counter)) (S.Twice (T.Named counter) line) in
        let turned : List StaticError = when (nat_lt 65535 turns) (S.Limit L.Turns line) in
        begins_append cols (twice ++ turned) _
        (begins_append cols twice turned (begins_when cols (is_some (meaning scope counter)) (S.Twice (T.Named counter) line) tt)
        (λ _. begins_when cols (nat_lt 65535 turns) (S.Limit L.Turns line) tt))
        (λ _. blocks (inside_loop counter scope) body here)
    actions scope line (W.If test first second) here =
        begins_append cols (expression_faults scope line test ++ block_faults scope first) _
        (begins_append cols (expression_faults scope line test) _ (expressions scope line test) (λ _. blocks scope first here))
        (λ _. blocks scope second here)

    -- statements
    blocks : (scope : Scope) (b : WrittenBlock) → IsNear cols scope.cell → Begins cols (block_faults scope b)
    blocks scope W.End here = tt
    blocks scope (W.Then line action rest) here =
        begins_append cols (action_faults scope line action) _ (actions scope line action here) (λ _. blocks scope rest here)

-- ---- declarations

-- a hop from a cell of the grid leads to one
hop_inside : PathLaws → (g : Extent) (cell : ℕ) (d : Dir) (next : ℕ) → cell < cell_count g → neighbour_of g cell d ≡ Some next
    → next < cell_count g
hop_inside laws g cell d next inside there =
    laws.inside g cell next (link_id cell d ∷ []) inside (record {
      leads = (d ∷ [], (refl, next, there, refl));
      differ = λ i j d i_j j_0. absurd (omega arith);
    })

module _ (laws : PathLaws) (g : Extent) (grid : IsExtent g) where
  -- a `link` line
  links : (earlier : List LinkDecl) (l : LinkDecl) → Begins g.cols (link_faults g earlier l)
  links earlier l =
      let off : List StaticError = when (is_off_grid g l.place) (S.OutsideGrid l.line) in
      let cell : ℕ = cell_index g l.place in
      let none : List StaticError = when (is_none (neighbour_of g cell l.dir)) (S.OutsideGrid l.line) in
      let taken : Bool = list_any (λ other. nat_eq (declared_link g other) (declared_link g l)) earlier in
      let twice : List StaticError = when taken (S.Twice (T.Link (declared_link g l)) l.line) in
      begins_append g.cols (off ++ none ++ twice) _
      (begins_append g.cols (off ++ none) twice
      (begins_append g.cols off none (begins_when g.cols (is_off_grid g l.place) (S.OutsideGrid l.line) tt)
      (λ _. begins_when g.cols (is_none (neighbour_of g cell l.dir)) (S.OutsideGrid l.line) tt))
      (λ e. begins_when g.cols taken (S.Twice (T.Link (declared_link g l)) l.line)
      (near_link g.cols cell l.dir (near g cell grid (on_grid g l.place
      (when_none (is_off_grid g l.place) (S.OutsideGrid l.line) (none_front off none e)))))))
      (λ _. begins_when g.cols (is_outside 1 32 l.queues) (S.Limit L.Queues l.line) tt)

  -- a walk that ends
  ended : (name : List ℕ) (line : ℕ) (used : List ℕ) (b : Bool)
      → Begins g.cols (route_faults name line (if b then Ok used else Err P.WrongEnd))
  ended name line used true = tt
  ended name line used false = tt

  -- a hop that has not used its link, and the walk behind it
  fresh : (name : List ℕ) (line link next : ℕ) (b : Bool) (on : ℕ → Walked) → IsNear g.cols (link / 4)
      → Begins g.cols (route_faults name line (on next))
      → Begins g.cols (route_faults name line (if b then Err (P.LinkTwice link) else on next))
  fresh name line link next true on here behind = here
  fresh name line link next false on here behind = behind

  -- a hop, and the walk behind it
  hopped : (name : List ℕ) (line link : ℕ) (used : List ℕ) (o : Option ℕ) (on : ℕ → Walked) → IsNear g.cols (link / 4)
      → ((next : ℕ) → o ≡ Some next → Begins g.cols (route_faults name line (on next)))
      → Begins g.cols (route_faults name line (hop used link o on))
  hopped name line link used None on here behind = tt
  hopped name line link used (Some next) on here behind =
      fresh name line link next (list_any (nat_eq link) used) on here (behind next refl)

  -- a walk from a cell of the grid
  walks : (name : List ℕ) (line to : ℕ) (used : List ℕ) (cell : ℕ) (ds : List Dir) → cell < cell_count g
      → Begins g.cols (route_faults name line (walk_on g to used cell ds))
  walks name line to used cell [] inside = ended name line used (nat_eq cell to)
  walks name line to used cell (d ∷ ds) inside =
      let link : ℕ = link_id cell d in
      hopped name line link used (neighbour_of g cell d) (λ next. walk_on g to (used ++ link ∷ []) next ds)
      (near_link g.cols cell d (near g cell grid inside))
      (λ next there. walks name line to (used ++ link ∷ []) next ds (hop_inside laws g cell d next inside there))

  -- a `message` line
  messages : (earlier : List MessageDecl) (m : MessageDecl) → Begins g.cols (message_faults g earlier m)
  messages earlier m =
      let from : ℕ = cell_index g m.from in
      let to : ℕ = cell_index g m.to in
      let many : List StaticError = when (nat_le 512 (length earlier)) (S.Limit L.Messages m.line) in
      let among : Bool = is_among (map (λ (n : MessageDecl). n.name) earlier) m.name in
      let twice : List StaticError = when among (S.Twice (T.Named m.name) m.line) in
      let off : List StaticError = when (is_off_grid g m.from) (S.OutsideGrid m.line) in
      let off_to : List StaticError = when (is_off_grid g m.to) (S.OutsideGrid m.line) in
      let self : List StaticError = when (nat_eq from to) (S.SelfMessage m.name m.line) in
      let route : List StaticError = route_faults m.name m.line (route_between g from to m.route) in
      let label : Bool = option_map_or (nat_lt 65535) m.label false in
      begins_append g.cols (many ++ twice ++ off ++ off_to ++ self ++ route) _
      (begins_append g.cols (many ++ twice ++ off ++ off_to ++ self) route
      (begins_append g.cols (many ++ twice ++ off ++ off_to) self
      (begins_append g.cols (many ++ twice ++ off) off_to
      (begins_append g.cols (many ++ twice) off
      (begins_append g.cols many twice (begins_when g.cols (nat_le 512 (length earlier)) (S.Limit L.Messages m.line) tt)
      (λ _. begins_when g.cols among (S.Twice (T.Named m.name) m.line) tt))
      (λ _. begins_when g.cols (is_off_grid g m.from) (S.OutsideGrid m.line) tt))
      (λ _. begins_when g.cols (is_off_grid g m.to) (S.OutsideGrid m.line) tt))
      (λ _. begins_when g.cols (nat_eq from to) (S.SelfMessage m.name m.line) tt))
      (λ e. walks m.name m.line to [] from (directions g from to m.route) (on_grid g m.from
      (when_none (is_off_grid g m.from) (S.OutsideGrid m.line)
      (none_back (many ++ twice) off (none_front (many ++ twice ++ off) off_to
      (none_front (many ++ twice ++ off ++ off_to) self e)))))))
      (λ _. begins_when g.cols label (S.Limit L.Label m.line) tt)

  -- a `var` line
  variables : (known : List (List ℕ)) (earlier : List VarDecl) (v : VarDecl) → Begins g.cols (var_faults known earlier v)
  variables known earlier v =
      let among : Bool = is_among known v.name || is_among (map (λ (u : VarDecl). u.name) earlier) v.name in
      let twice : List StaticError = when among (S.Twice (T.Named v.name) v.line) in
      let many : List StaticError = when (nat_le 64 (length earlier)) (S.Limit L.Names v.line) in
      let over : Bool = nat_eq (words_of v) 0 || nat_lt 1024 (total_words (earlier ++ v ∷ [])) in
      begins_append g.cols (twice ++ many) _
      (begins_append g.cols twice many (begins_when g.cols among (S.Twice (T.Named v.name) v.line) tt)
      (λ _. begins_when g.cols (nat_le 64 (length earlier)) (S.Limit L.Names v.line) tt))
      (λ _. begins_when g.cols over (S.Limit L.Words v.line) tt)

-- a cell
cells : PathLaws → (s : WrittenSource) → IsExtent (extent_of s) → (earlier : List WrittenCell) (c : WrittenCell)
    → Begins s.cols (cell_faults s earlier c)
cells laws s grid earlier c =
    let g : Extent = extent_of s in
    let index : ℕ = cell_index g c.place in
    let off : List StaticError = when (is_off_grid g c.place) (S.OutsideGrid c.line) in
    let taken : Bool = list_any (λ (d : WrittenCell). nat_eq (cell_index g d.place) index) earlier in
    let twice : List StaticError = when taken (S.Twice (T.Cell index) c.line) in
    let known : List (List ℕ) = map (λ (m : MessageDecl). m.name) s.messages in
    let vars : List StaticError = faults_behind (var_faults known) [] c.vars in
    let body : List StaticError = block_faults (scope_of s c) c.body in
    let inside = λ (e : off ≡ []). near g index grid (on_grid g c.place (when_none (is_off_grid g c.place) (S.OutsideGrid c.line) e)) in
    begins_append s.cols (off ++ twice ++ vars) body
    (begins_append s.cols (off ++ twice) vars
    (begins_append s.cols off twice (begins_when s.cols (is_off_grid g c.place) (S.OutsideGrid c.line) tt)
    (λ e. begins_when s.cols taken (S.Twice (T.Cell index) c.line) (inside e)))
    (λ _. begins_behind s.cols (var_faults known) (variables laws g grid known) [] c.vars))
    (λ e. blocks s.cols (scope_of s c) c.body
    (inside (none_front off twice (none_front (off ++ twice) vars e))))

-- a source
sources : PathLaws → (s : WrittenSource) → Begins s.cols (source_faults s)
sources laws s =
    let g : Extent = extent_of s in
    let array : List StaticError = array_faults s in
    let queues : List StaticError = queues_faults s in
    let linked : List StaticError = faults_behind (link_faults g) [] s.links in
    let sent : List StaticError = faults_behind (message_faults g) [] s.messages in
    begins_append s.cols (array ++ queues ++ linked ++ sent) _
    (begins_append s.cols (array ++ queues ++ linked) sent
    (begins_append s.cols (array ++ queues) linked
    (begins_append s.cols array queues
    (begins_append s.cols (when (is_outside 1 16 s.rows) (S.Limit L.Rows s.array_line)) _
    (begins_when s.cols (is_outside 1 16 s.rows) (S.Limit L.Rows s.array_line) tt)
    (λ _. begins_when s.cols (is_outside 1 16 s.cols) (S.Limit L.Columns s.array_line) tt))
    (λ _. begins_append s.cols (when (is_outside 1 32 s.queues) (S.Limit L.Queues s.queues_line)) _
    (begins_when s.cols (is_outside 1 32 s.queues) (S.Limit L.Queues s.queues_line) tt)
    (λ _. begins_when s.cols (nat_lt 64 s.buffer) (S.Limit L.Buffer s.buffer_line) tt)))
    (λ e. begins_behind s.cols (link_faults g) (links laws g (grid_kept s (none_front array queues e))) [] s.links))
    (λ e. begins_behind s.cols (message_faults g)
    (messages laws g (grid_kept s (none_front array queues (none_front (array ++ queues) linked e)))) [] s.messages))
    (λ e. begins_behind s.cols (cell_faults s)
    (cells laws s (grid_kept s (none_front array queues (none_front (array ++ queues) linked (none_front (array ++ queues ++ linked) sent e)))))
    [] s.cells)

-- the first of a list
first_near : (cols : ℕ) (fs : List StaticError) (e : StaticError) → Begins cols fs → IsFirst fs e → NamesNear cols e
first_near cols [] e h same = subst (NamesNear cols) (sym same) tt
first_near cols (f ∷ fs) e h (inl same) = subst (NamesNear cols) (sym same) (told_near cols f h)
first_near cols (f ∷ fs) e h (inr memory) = subst (NamesNear cols) (sym memory) tt

-- the first fault of a source, or want of memory
fault_near : PathLaws → (s : Source) (e : StaticError) → IsFirst (faults s) e → NamesNear s.cols e
fault_near laws s e h = first_near s.cols (faults s) e (sources laws (written s)) h

-- the first fault of a source, where nothing is made of it
pub error_near : {V : Type 0} → PathLaws → (s : Source) (made : Result V StaticError) → IfErr made (IsFirst (faults s))
    → IfErr made (NamesNear s.cols)
error_near laws s (Ok v) h = tt
error_near laws s (Err e) h = fault_near laws s e h

-- faults are none, or the first of them is no want of memory
first_of : (cols : ℕ) (fs : List StaticError) → Begins cols fs
    → (fs ≡ []) ⊎ ((e : StaticError) × (slice_get fs 0 ≡ Some e) × (e ≡ S.Memory → ⊥))
first_of cols [] h = inl refl
first_of cols (e ∷ es) h = inr (e, refl, λ is. subst (IsTold cols) is h)

-- a source has no fault, or a first one
pub first_fault : PathLaws → (s : Source)
    → (faults s ≡ []) ⊎ ((e : StaticError) × (slice_get (faults s) 0 ≡ Some e) × (e ≡ S.Memory → ⊥))
first_fault laws s = first_of s.cols (faults s) (sources laws (written s))
