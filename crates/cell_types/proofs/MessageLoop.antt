-- The steps of the loop over the declared messages.
use Rattle.std.proofs.Common.{ℕ, ◌≡◌, ◌+◌, ◌<◌, ◌≤◌, List, [], ◌∷◌, ◌++◌, Bor, length, map, take, get_or, refl, sym, ap, subst, ◌∙◌, append_assoc, arith, nat_eq, nat_lt, nat_le, false}
use Rattle.std.proofs.lemmas.List.{take_more, take_all, length-map, map_push, length-take-le}
use Rattle.std.specs.Option.{option_map_or}
use Rattle.sys_base.specs.Grid.{Extent}
use Rattle.sys_base.specs.declared.kinds.Limit.TheVariants as L
use Rattle.cell_tree.specs.declared.source.MessageDecl.{MessageDecl}
use Rattle.cell_types.specs.bodies.Declarations.{naming_faults, names_of, ends_faults, ends_of, way_faults, message_between}
use Rattle.cell_types.specs.Faults.{faults_behind, message_faults, route_faults, is_off_grid, IsFirst}
use Rattle.cell_types.specs.Names.{named_message, cell_index, is_among}
use Rattle.cell_types.specs.Route.{route_between}
use Rattle.cell_types.specs.Statics.{when}
use Rattle.cell_types.specs.Resolved.{resolved_message}
use Rattle.cell_types.specs.bodies.Tables.{named_with}
use Rattle.cell_types.specs.declared.error.StaticError.{StaticError}
use Rattle.cell_types.specs.declared.error.StaticError.TheVariants as E
use Rattle.cell_types.specs.declared.error.What.TheVariants as W
use Rattle.cell_types.specs.declared.program.Message.{Message}
use Rattle.cell_types.specs.declared.table.Ends.{Ends}
use Rattle.cell_types.proofs.Behind.{behind_more, behind_stop}
use Rattle.cell_types.proofs.FirstFaults.{first_left, first_right, none_joined}
use Rattle.cell_types.proofs.TableNames.{named}

-- The first messages have no fault; their names, ends and resolved forms are in the lists.
pub record MessagesSoFar (g : Extent) (declared : List MessageDecl) (names : List (List ℕ)) (between : List Ends) (made : List Message) (i : ℕ) : Type 0 where
  pub none : faults_behind (message_faults g) [] (take i declared) ≡ []
  pub named : names ≡ names_of (take i declared)
  pub ends : between ≡ map (ends_of g) (take i declared)
  pub list : made ≡ map (resolved_message g) (take i declared)
  pub few : i ≤ 512

-- the same parts in other groups
regroup : {X : Type 0} (a f o s r b : List X) → a ++ f ++ o ++ s ++ r ++ b ≡ a ++ (f ++ o ++ s ++ (r ++ b))
regroup a f o s r b = simp append_assoc

-- the messages of names and ends that are those of the declared messages
pub all_named : (g : Extent) (keys : List (Bor (List ℕ))) (declared : List MessageDecl) → map (λ k. k.now) keys ≡ names_of declared
    → named keys (map (ends_of g) declared) ≡ map (named_message g) declared
all_named g [] [] e = refl
all_named g [] (m ∷ ms) e = cc
all_named g (k ∷ ks) [] e = cc
all_named g (k ∷ ks) (m ∷ ms) e =
    let name : k.now ≡ m.name = cc in
    let rest : map (λ k. k.now) ks ≡ names_of ms = cc in
    ap (λ n. named_with n (ends_of g m) ∷ named ks (map (ends_of g) ms)) name
    ∙ ap (λ ns. named_message g m ∷ ns) (all_named g ks ms rest)

module _ (g : Extent) (declared : List MessageDecl) where
  -- the faults of a message are those of its name, its ends, and its way
  parts : (earlier : List MessageDecl) (m : MessageDecl)
      → message_faults g earlier m ≡ naming_faults (names_of earlier) m ++ (ends_faults g m ++ way_faults g (ends_of g m) m)
  parts earlier m =
      let twice = when (is_among (names_of earlier) m.name) (E.Twice (W.Named m.name) m.line) in
      let from = when (is_off_grid g m.from) (E.OutsideGrid m.line) in
      let to = when (is_off_grid g m.to) (E.OutsideGrid m.line) in
      let same = when (nat_eq (cell_index g m.from) (cell_index g m.to)) (E.SelfMessage m.name m.line) in
      let route = route_faults m.name m.line (route_between g (cell_index g m.from) (cell_index g m.to) m.route) in
      let label = when (option_map_or (nat_lt 65535) m.label false) (E.Limit L.Label m.line) in
      ap (λ n. when (nat_le 512 n) (E.Limit L.Messages m.line) ++ twice ++ from ++ to ++ same ++ route ++ label)
      (sym (length-map earlier (λ (n : MessageDecl). n.name)))
      ∙ regroup (naming_faults (names_of earlier) m) from to same route label

  module _ (names : List (List ℕ)) (ends : List Ends) (list : List Message) (i : ℕ) (m : MessageDecl) (so : MessagesSoFar g declared names ends list i)
      (l : i < length declared) (e : m ≡ get_or declared i m) where
    -- the first fault of this message is the first of all
    stop : (error : StaticError) → IsFirst (naming_faults names m ++ (ends_faults g m ++ way_faults g (ends_of g m) m)) error
        → IsFirst (faults_behind (message_faults g) [] declared) error
    stop error first =
        behind_stop (message_faults g) declared i m l e so.none error
        (subst (λ fs. IsFirst fs error) (sym (parts (take i declared) m))
        (subst (λ ns. IsFirst (naming_faults ns m ++ (ends_faults g m ++ way_faults g (ends_of g m) m)) error) so.named first))

    -- a fault of its name
    pub name_stops : (error : StaticError) → IsFirst (naming_faults names m) error → IsFirst (faults_behind (message_faults g) [] declared) error
    name_stops error first = stop error (first_left (naming_faults names m) (ends_faults g m ++ way_faults g (ends_of g m) m) error first)

    -- a fault of its ends
    pub ends_stop : (error : StaticError) → naming_faults names m ≡ [] → IsFirst (ends_faults g m) error
        → IsFirst (faults_behind (message_faults g) [] declared) error
    ends_stop error well first =
        stop error (first_right (naming_faults names m) (ends_faults g m ++ way_faults g (ends_of g m) m) error well
        (first_left (ends_faults g m) (way_faults g (ends_of g m) m) error first))

    -- a fault of its way
    pub way_stops : (error : StaticError) (between : Ends) → naming_faults names m ≡ [] → ends_faults g m ≡ [] → between ≡ ends_of g m
        → IsFirst (way_faults g between m) error → IsFirst (faults_behind (message_faults g) [] declared) error
    way_stops error between well apart is first =
        stop error (first_right (naming_faults names m) (ends_faults g m ++ way_faults g (ends_of g m) m) error well
        (first_right (ends_faults g m) (way_faults g (ends_of g m) m) error apart
        (subst (λ es. IsFirst (way_faults g es m) error) is first)))

    -- the first messages with this one
    one_more : take (i + 1) declared ≡ take i declared ++ m ∷ []
    one_more = take_more declared i m l ∙ ap (λ x. take i declared ++ x ∷ []) (sym e)

    -- it has no fault
    pub messages_more : (between : Ends) (made : Message) (all_names : List (List ℕ)) (all_ends : List Ends) (all : List Message)
        → naming_faults names m ≡ [] → ends_faults g m ≡ [] → between ≡ ends_of g m → way_faults g between m ≡ []
        → made ≡ message_between g between m → length names < 512
        → all_names ≡ names ++ m.name ∷ [] → all_ends ≡ ends ++ between ∷ [] → all ≡ list ++ made ∷ []
        → MessagesSoFar g declared all_names all_ends all (i + 1)
    messages_more between made all_names all_ends all well apart is way made_is few a b d = record {
      none = behind_more (message_faults g) declared i m l e so.none
          (parts (take i declared) m
          ∙ none_joined (naming_faults (names_of (take i declared)) m) (ends_faults g m ++ way_faults g (ends_of g m) m)
          (ap (λ ns. naming_faults ns m) (sym so.named) ∙ well)
          (none_joined (ends_faults g m) (way_faults g (ends_of g m) m) apart (ap (λ es. way_faults g es m) (sym is) ∙ way)));
      named = a ∙ ap (λ ns. ns ++ m.name ∷ []) so.named ∙ sym (ap names_of one_more ∙ map_push (λ (n : MessageDecl). n.name) (take i declared) m);
      ends = b ∙ ap (λ es. es ++ between ∷ []) so.ends ∙ ap (λ x. map (ends_of g) (take i declared) ++ x ∷ []) is
          ∙ sym (ap (map (ends_of g)) one_more ∙ map_push (ends_of g) (take i declared) m);
      list = d ∙ ap (λ ms. ms ++ made ∷ []) so.list ∙ ap (λ x. map (resolved_message g) (take i declared) ++ x ∷ []) (made_is ∙ ap (λ es. message_between g es m) is)
          ∙ sym (ap (map (resolved_message g)) one_more ∙ map_push (resolved_message g) (take i declared) m);
      few = let count = ap length so.named ∙ length-map (take i declared) (λ (n : MessageDecl). n.name) ∙ length-take-le i declared (omega arith) in omega arith;
    }

  module _ (keys : List (Bor (List ℕ))) (ends : List Ends) (list : List Message) (i : ℕ) (so : MessagesSoFar g declared (map (λ k. k.now) keys) ends list i)
      (l : length declared ≤ i) where
    -- these are all messages
    all : take i declared ≡ declared
    all = take_all i declared l

    -- the table has them
    pub messages_named : named keys ends ≡ map (named_message g) declared
    messages_named =
        ap (named keys) (so.ends ∙ ap (map (ends_of g)) all) ∙ all_named g keys declared (so.named ∙ ap names_of all)
