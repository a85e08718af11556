-- The messages of a source without faults.
use Rattle.std.proofs.Common.{◌≡◌, ◌≢◌, ℕ, ◌+◌, ◌<◌, ◌≤◌, Bool, false, Option, Some, None, List, [], ◌∷◌, ◌++◌, Ok, Err, length, map, All, AllPairs, refl, sym, ap, ◌∙◌, subst, arith, append-nil, append_assoc, length-append, nat_eq, nat_le, nat_lt, ltb-true, ltb-false, leb-false, bytes_eq, IfSome}
use Rattle.std.proofs.lemmas.Bool.{eqb-false, not-false, and_parts, or_parts, both_ways}
use Rattle.std.proofs.lemmas.List.Elements.{All-from_recursion, recursion_from_All}
use Rattle.std.proofs.lemmas.List.Quantifiers.{all_pairs_push}
use Rattle.std.proofs.lemmas.Nat.{mul-add-lt}
use Rattle.std.proofs.lemmas.Slice.Eq.{bytes_eq-Decides}
use Rattle.std.specs.List.{AllByRecursion}
use Rattle.std.specs.Option.{option_map_or}
use Rattle.sys_base.specs.declared.kinds.Dir.{Dir}
use Rattle.sys_base.specs.declared.kinds.Limit.TheVariants as L
use Rattle.sys_base.specs.Grid.{Extent, IsExtent, cell_count}
use Rattle.routes.specs.Walks.{directions, IsRoute, IsPath}
use Rattle.cell_tree.specs.declared.source.MessageDecl.{MessageDecl}
use Rattle.cell_tree.specs.declared.source.Place.{Place}
use Rattle.cell_types.specs.Faults.{is_off_grid, faults_behind, route_faults, message_faults}
use Rattle.cell_types.specs.Names.{is_among, cell_index}
use Rattle.cell_types.specs.Resolved.{links_of, resolved_message}
use Rattle.cell_types.specs.Route.{Walked, route_between}
use Rattle.cell_types.specs.Sound.{IsSoundMessage}
use Rattle.cell_types.specs.Statics.{when}
use Rattle.cell_types.specs.declared.error.StaticError.{StaticError}
use Rattle.cell_types.specs.declared.error.StaticError.TheVariants as E
use Rattle.cell_types.specs.declared.error.What.TheVariants as W
use Rattle.cell_types.specs.declared.program.Message.{Message}
use Rattle.cell_types.proofs.NoFaults.{none_front, none_back, when_none, each_kept}
use Rattle.cell_types.proofs.Paths.{PathLaws}
use Rattle.cell_types.proofs.SoundRoutes.{route_kept}

-- a place that is not off the grid has a cell of it
pub on_grid : (g : Extent) (place : Place) → is_off_grid g place ≡ false → cell_index g place < cell_count g
on_grid g place h =
    let both = and_parts (nat_lt place.row g.rows) (nat_lt place.col g.cols) (not-false _ h) in
    let below = mul-add-lt place.row g.cols place.col g.rows (ltb-true place.row g.rows both.0) (ltb-true place.col g.cols both.1) in
    omega arith

-- a walk without faults has links
walked : (name : List ℕ) (line : ℕ) (w : Walked) → route_faults name line w ≡ [] → w ≡ Ok (links_of w)
walked name line (Ok links) h = refl
walked name line (Err fault) h = cc

-- a label that is not too large
label_kept : (label : Option ℕ) → option_map_or (nat_lt 65535) label false ≡ false → IfSome label (λ label. label ≤ 65535)
label_kept None h = tt
label_kept (Some n) h = ltb-false 65535 n h

-- What a `message` line without faults keeps.
record IsKept (g : Extent) (earlier : List MessageDecl) (m : MessageDecl) : Type 0 where
  few : length earlier < 512
  fresh : is_among (map (λ (m : MessageDecl). m.name) earlier) m.name ≡ false
  from : cell_index g m.from < cell_count g
  to : cell_index g m.to < cell_count g
  apart : cell_index g m.from ≢ cell_index g m.to
  route : route_between g (cell_index g m.from) (cell_index g m.to) m.route
      ≡ Ok (links_of (route_between g (cell_index g m.from) (cell_index g m.to) m.route))
  label : IfSome m.label (λ label. label ≤ 65535)

-- one check behind others: the others have no fault, and it has not hit
unhit : (xs : List StaticError) (b : Bool) (e : StaticError) → xs ++ when b e ≡ [] → (xs ≡ []) × (b ≡ false)
unhit xs b e h = (none_front xs (when b e) h, when_none b e (none_back xs (when b e) h))

-- a line without faults keeps all of this
line_kept : (g : Extent) (earlier : List MessageDecl) (m : MessageDecl) → message_faults g earlier m ≡ [] → IsKept g earlier m
line_kept g earlier m h =
    let w : Walked = route_between g (cell_index g m.from) (cell_index g m.to) m.route in
    let label = unhit _ (option_map_or (nat_lt 65535) m.label false) (E.Limit L.Label m.line) h in
    let route : route_faults m.name m.line w ≡ [] = none_back _ (route_faults m.name m.line w) label.0 in
    let before = none_front _ (route_faults m.name m.line w) label.0 in
    let apart = unhit _ (nat_eq (cell_index g m.from) (cell_index g m.to)) (E.SelfMessage m.name m.line) before in
    let to = unhit _ (is_off_grid g m.to) (E.OutsideGrid m.line) apart.0 in
    let from = unhit _ (is_off_grid g m.from) (E.OutsideGrid m.line) to.0 in
    let names : List (List ℕ) = map (λ (m : MessageDecl). m.name) earlier in
    let fresh = unhit _ (is_among names m.name) (E.Twice (W.Named m.name) m.line) from.0 in
    record {
      few = leb-false 512 (length earlier) (when_none (nat_le 512 (length earlier)) (E.Limit L.Messages m.line) fresh.0);
      fresh = fresh.1;
      from = on_grid g m.from from.1;
      to = on_grid g m.to to.1;
      apart = eqb-false (cell_index g m.from) (cell_index g m.to) apart.1;
      route = walked m.name m.line w route;
      label = label_kept m.label label.1;
    }

-- a route by few directions, or by none, has few links
route_short : PathLaws → (g : Extent) → IsExtent g → (from to : ℕ) (given : List Dir) (links : List ℕ) → from < cell_count g
    → to < cell_count g → length given ≤ 256 → IsRoute g from to given links → length links ≤ 256
route_short laws g grid from to [] links f t few r =
    omega (arith, laws.default g from to links f t r, grid.most_rows, grid.most_cols)
route_short laws g grid from to (d ∷ ds) links f t few r = omega (arith, laws.given g from to d ds links r, few)

-- a message by its line, where few directions are given
message_kept : PathLaws → (g : Extent) → IsExtent g → (earlier : List MessageDecl) (m : MessageDecl) → message_faults g earlier m ≡ []
    → length m.route ≤ 256 → IsSoundMessage g (resolved_message g m)
message_kept laws g grid earlier m h few =
    let kept : IsKept g earlier m = line_kept g earlier m h in
    let from : ℕ = cell_index g m.from in
    let to : ℕ = cell_index g m.to in
    let links : List ℕ = links_of (route_between g from to m.route) in
    let route : IsRoute g from to m.route links = route_kept g from to m.route links kept.route in
    let path : IsPath g from links to = record { leads = (directions g from to m.route, route.walk); differ = route.differ } in
    record {
      sender = kept.from;
      receiver = kept.to;
      apart = kept.apart;
      path = path;
      some = laws.some g from to links kept.apart path;
      short = route_short laws g grid from to m.route links kept.from kept.to few route;
      links = laws.each g from to links kept.from path;
      label = kept.label;
    }

-- what holds of each message whose directions are few holds of each resolved message
mapped : (g : Extent) (ms : List MessageDecl) → AllByRecursion (λ m. length m.route ≤ 256 → IsSoundMessage g (resolved_message g m)) ms
    → AllByRecursion (λ m. length m.route ≤ 256) ms → AllByRecursion (IsSoundMessage g) (map (resolved_message g) ms)
mapped g [] h few = tt
mapped g (m ∷ ms) h few = (h.0 few.0, mapped g ms h.1 few.1)

-- each message is sound
pub messages_kept : PathLaws → (g : Extent) → IsExtent g → (ms : List MessageDecl) → faults_behind (message_faults g) [] ms ≡ []
    → All (λ m. length m.route ≤ 256) ms → All (IsSoundMessage g) (map (resolved_message g) ms)
messages_kept laws g grid ms h few =
    All-from_recursion (IsSoundMessage g) (map (resolved_message g) ms)
    (mapped g ms (each_kept (message_faults g) (λ m. length m.route ≤ 256 → IsSoundMessage g (resolved_message g m))
    (message_kept laws g grid) [] ms h) (recursion_from_All (λ m. length m.route ≤ 256) ms few))

-- messages behind others are few together with those
few_behind : (g : Extent) (earlier ms : List MessageDecl) → faults_behind (message_faults g) earlier ms ≡ [] → length earlier ≤ 512
    → length earlier + length ms ≤ 512
few_behind g earlier [] h few = omega arith
few_behind g earlier (m ∷ ms) h few =
    let kept : IsKept g earlier m = line_kept g earlier m (none_front (message_faults g earlier m) _ h) in
    let more : length (earlier ++ m ∷ []) ≡ length earlier + 1 = length-append earlier (m ∷ []) in
    let rest = few_behind g (earlier ++ m ∷ []) ms (none_back (message_faults g earlier m) _ h) (omega (arith, kept.few)) in
    omega arith

-- resolving drops no message
count_map : (g : Extent) (ms : List MessageDecl) → length (map (resolved_message g) ms) ≡ length ms
count_map g [] = refl
count_map g (m ∷ ms) = let e = count_map g ms in omega arith

-- there are at most 512 messages
pub messages_few : (g : Extent) (ms : List MessageDecl) → faults_behind (message_faults g) [] ms ≡ []
    → length (map (resolved_message g) ms) ≤ 512
messages_few g ms h = let few = few_behind g [] ms h (omega arith) in let e = count_map g ms in omega arith

-- Two messages have different names.
abbrev Apart : Message → Message → Type 0
Apart a b = a.name ≢ b.name

-- a name that is not among those of messages
unnamed : (g : Extent) (ms : List MessageDecl) (name : List ℕ) → is_among (map (λ (m : MessageDecl). m.name) ms) name ≡ false
    → AllByRecursion (λ (m : Message). m.name ≢ name) (map (resolved_message g) ms)
unnamed g [] name h = tt
unnamed g (m ∷ ms) name h =
    let names : List (List ℕ) = map (λ (m : MessageDecl). m.name) ms in
    let parts = or_parts (bytes_eq m.name name) (is_among names name) h in
    (λ same. both_ways _ parts.0 ((bytes_eq-Decides m.name name).1 same), unnamed g ms name parts.1)

-- one more message is resolved behind the others
map_more : (g : Extent) (ms : List MessageDecl) (m : MessageDecl)
    → map (resolved_message g) (ms ++ m ∷ []) ≡ map (resolved_message g) ms ++ resolved_message g m ∷ []
map_more g [] m = refl
map_more g (n ∷ ms) m = ap (λ rest. resolved_message g n ∷ rest) (map_more g ms m)

-- messages behind others have other names, and different ones
names_behind : (g : Extent) (earlier ms : List MessageDecl) → faults_behind (message_faults g) earlier ms ≡ []
    → AllPairs Apart (map (resolved_message g) earlier) → AllPairs Apart (map (resolved_message g) earlier ++ map (resolved_message g) ms)
names_behind g earlier [] h pairs = subst (AllPairs Apart) (sym (append-nil (map (resolved_message g) earlier))) pairs
names_behind g earlier (m ∷ ms) h pairs =
    let kept : IsKept g earlier m = line_kept g earlier m (none_front (message_faults g earlier m) _ h) in
    let old : List Message = map (resolved_message g) earlier in
    let here : Message = resolved_message g m in
    let fresh : All (λ (n : Message). n.name ≢ m.name) old =
    All-from_recursion (λ (n : Message). n.name ≢ m.name) old (unnamed g earlier m.name kept.fresh) in
    let more : AllPairs Apart (old ++ here ∷ []) = all_pairs_push Apart old here pairs fresh in
    let rest = names_behind g (earlier ++ m ∷ []) ms (none_back (message_faults g earlier m) _ h)
    (subst (AllPairs Apart) (sym (map_more g earlier m)) more) in
    subst (AllPairs Apart)
    (ap (λ ns. ns ++ map (resolved_message g) ms) (map_more g earlier m) ∙ append_assoc old (here ∷ []) (map (resolved_message g) ms))
    rest

-- no two messages have one name
pub names_differ : (g : Extent) (ms : List MessageDecl) → faults_behind (message_faults g) [] ms ≡ []
    → AllPairs (λ (a b : Message). a.name ≢ b.name) (map (resolved_message g) ms)
names_differ g ms h = names_behind g [] ms h (λ i j d i_j j_0. absurd (omega arith))
