-- The steps by which the lines of links are noted in a table.
use Rattle.std.proofs.Common.{ℕ, ◌≡◌, ◌≢◌, ◌*◌, ◌<◌, ◌≤◌, ◌||◌, Bool, true, false, cond, List, [], ◌∷◌, ◌++◌, Option, Some, None, get_or, set, nat_eq, is_none, All, refl, sym, ap, subst, ◌∙◌, ⊎_elim, eq-eqb, arith, true≢false, find}
use Rattle.std.specs.List.{list_any}
use Rattle.std.specs.Option.{option_map_or, option_or}
use Rattle.std.proofs.lemmas.Bool.{cases_eq, ne_eqb, false_from_ne_true, or_parts}
use Rattle.std.proofs.lemmas.List.{length-set, get_or-set_same, get_or-set_other}
use Rattle.std.proofs.lemmas.List.Elements.{All-push, All-head, All-tail}
use Rattle.std.proofs.lemmas.List.Folds.{find-append}
use Rattle.sys_base.specs.Grid.{Extent, cell_count, neighbour_of}
use Rattle.cell_tree.specs.declared.source.LinkDecl.{LinkDecl}
use Rattle.cell_types.specs.bodies.Declarations.{HasOwnQueues, own_queues, count_faults}
use Rattle.cell_types.specs.Faults.{link_faults, declared_link, is_off_grid, IsFirst}
use Rattle.cell_types.specs.Names.{cell_index}
use Rattle.cell_types.specs.Statics.{when}
use Rattle.cell_types.specs.declared.error.StaticError.{StaticError}
use Rattle.cell_types.specs.declared.error.StaticError.TheVariants as E
use Rattle.cell_types.specs.declared.error.What.TheVariants as W
use Rattle.cell_types.proofs.FirstFaults.{first_here, first_left, first_right, none_joined, when_fails, when_passes}

-- nothing is found where nothing passes
pub find_none : {X : Type 0} (p : X → Bool) (xs : List X) → list_any p xs ≡ false → find p xs ≡ None
find_none p [] h = refl
find_none p (x ∷ xs) h =
    let parts = or_parts (p x) (list_any p xs) h in
    rw parts.0 (find_none p xs parts.1)

-- the queues of lines that have some are found where a line is
some_found : (p : LinkDecl → Bool) (links : List LinkDecl) → All (λ (l : LinkDecl). 1 ≤ l.queues) links → list_any p links ≡ true
    → 1 ≤ option_map_or (λ (l : LinkDecl). l.queues) (find p links) 0
some_found p [] some h = absurd (true≢false (sym h))
some_found p (l ∷ ls) some h = by (p l) h (some_found p ls (All-tail (λ (l : LinkDecl). 1 ≤ l.queues) l ls some))
  where
    by : (b : Bool) → (b || list_any p ls) ≡ true
        → (list_any p ls ≡ true → 1 ≤ option_map_or (λ (l : LinkDecl). l.queues) (find p ls) 0)
        → 1 ≤ option_map_or (λ (l : LinkDecl). l.queues) (cond b (Some l) (find p ls)) 0
    by true e later = All-head (λ (l : LinkDecl). 1 ≤ l.queues) l ls some
    by false e later = later e

module _ (g : Extent) (earlier : List LinkDecl) (link : LinkDecl) (id : ℕ) (table : List ℕ) (so : HasOwnQueues g earlier table)
    (inside : is_off_grid g link.place ≡ false) (there : is_none (neighbour_of g (cell_index g link.place) link.dir) ≡ false)
    (is : id ≡ declared_link g link) (below : id < 4 * cell_count g) where
  -- a line for the link stands before this one
  abbrev known : Bool
  known = list_any (λ other. nat_eq (declared_link g other) (declared_link g link)) earlier

  abbrev off : List StaticError
  off = when (is_off_grid g link.place) (E.OutsideGrid link.line)

  abbrev lone : List StaticError
  lone = when (is_none (neighbour_of g (cell_index g link.place) link.dir)) (E.OutsideGrid link.line)

  abbrev twice : List StaticError
  twice = when known (E.Twice (W.Link (declared_link g link)) link.line)

  -- the link is one of the grid
  linked : off ++ lone ≡ []
  linked =
      none_joined off lone (when_passes (is_off_grid g link.place) (E.OutsideGrid link.line) inside)
      (when_passes (is_none (neighbour_of g (cell_index g link.place) link.dir)) (E.OutsideGrid link.line) there)

  -- what the table has at the link
  at_link : get_or table id 0 ≡ own_queues g earlier (declared_link g link)
  at_link = so.each id below ∙ ap (own_queues g earlier) is

  -- where the table has queues, a line stands before
  known_from : get_or table id 0 ≢ 0 → known ≡ true
  known_from some = by known refl
    where
      by : (b : Bool) → known ≡ b → b ≡ true
      by true e = refl
      by false e =
          absurd (some (at_link ∙ ap (λ o. option_map_or (λ (l : LinkDecl). l.queues) o 0)
          (find_none (λ l. nat_eq (declared_link g l) (declared_link g link)) earlier e)))

  -- where it has none, no line does
  unknown_from : get_or table id 0 ≡ 0 → known ≡ false
  unknown_from none =
      false_from_ne_true known (λ h. let some = some_found (λ l. nat_eq (declared_link g l) (declared_link g link)) earlier so.some h in
      let same = at_link in omega arith)

  -- the line is the second one of its link
  pub link_twice : get_or table id 0 ≢ 0 → IsFirst (link_faults g earlier link) (E.Twice (W.Link id) link.line)
  link_twice some =
      first_left (off ++ lone ++ twice) (count_faults link.queues link.line) (E.Twice (W.Link id) link.line)
      (first_right (off ++ lone) twice (E.Twice (W.Link id) link.line) linked
      (subst (λ n. IsFirst twice (E.Twice (W.Link n) link.line)) (sym is)
      (subst (λ fs. IsFirst fs (E.Twice (W.Link (declared_link g link)) link.line))
      (sym (when_fails known (E.Twice (W.Link (declared_link g link)) link.line) (known_from some)))
      (first_here (E.Twice (W.Link (declared_link g link)) link.line) []))))

  -- the link has no line before
  new : get_or table id 0 ≡ 0 → off ++ lone ++ twice ≡ []
  new none = none_joined (off ++ lone) twice linked (when_passes known (E.Twice (W.Link (declared_link g link)) link.line) (unknown_from none))

  -- its queues are outside the limit
  pub link_count : (e : StaticError) → get_or table id 0 ≡ 0 → IsFirst (count_faults link.queues link.line) e → IsFirst (link_faults g earlier link) e
  link_count e none first = first_right (off ++ lone ++ twice) (count_faults link.queues link.line) e (new none) first

  -- it has no fault
  pub link_none : get_or table id 0 ≡ 0 → count_faults link.queues link.line ≡ [] → link_faults g earlier link ≡ []
  link_none none fine = none_joined (off ++ lone ++ twice) (count_faults link.queues link.line) (new none) fine

  -- nothing beside nothing
  option_or_none : {X : Type 0} (o : Option X) → option_or o None ≡ o
  option_or_none None = refl
  option_or_none (Some x) = refl

  -- the queues of a link with one line more
  queues_more : (k : ℕ) → own_queues g (earlier ++ link ∷ []) k
      ≡ option_map_or (λ (l : LinkDecl). l.queues) (option_or (find (λ l. nat_eq (declared_link g l) k) earlier)
      (cond (nat_eq (declared_link g link) k) (Some link) None)) 0
  queues_more k =
      ap (λ o. option_map_or (λ (l : LinkDecl). l.queues) o 0) (find-append (λ l. nat_eq (declared_link g l) k) earlier (link ∷ []))

  -- and it is noted
  pub link_noted : (queues : ℕ) → get_or table id 0 ≡ 0 → queues ≡ link.queues → 1 ≤ queues
      → HasOwnQueues g (earlier ++ link ∷ []) (set table id queues)
  link_noted queues none same some = record {
    size = length-set table id queues ∙ so.size;
    each = λ k l. ⊎_elim
        (λ here. ap (λ j. get_or (set table id queues) j 0) here
        ∙ get_or-set_same table id queues 0 (omega (arith, so.size)) ∙ same
        ∙ sym (ap (own_queues g (earlier ++ link ∷ [])) (here ∙ is) ∙ queues_more (declared_link g link)
        ∙ ap (λ o. option_map_or (λ (m : LinkDecl). m.queues) (option_or o
        (cond (nat_eq (declared_link g link) (declared_link g link)) (Some link) None)) 0)
        (find_none (λ m. nat_eq (declared_link g m) (declared_link g link)) earlier (unknown_from none))
        ∙ ap (λ b. option_map_or (λ (m : LinkDecl). m.queues) (cond b (Some link) None) 0)
        (eq-eqb (declared_link g link) (declared_link g link) refl)))
        (λ other. get_or-set_other table id k queues 0 other ∙ so.each k l
        ∙ sym (queues_more k
        ∙ ap (λ b. option_map_or (λ (m : LinkDecl). m.queues) (option_or (find (λ m. nat_eq (declared_link g m) k) earlier)
        (cond b (Some link) None)) 0) (ne_eqb (declared_link g link) k (λ q. other (sym q ∙ sym is)))
        ∙ ap (λ o. option_map_or (λ (m : LinkDecl). m.queues) o 0) (option_or_none (find (λ m. nat_eq (declared_link g m) k) earlier))))
        (cases_eq k id);
    some = All-push (λ (l : LinkDecl). 1 ≤ l.queues) earlier link so.some (subst (λ n. 1 ≤ n) same some);
  }
