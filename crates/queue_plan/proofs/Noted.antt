-- Steps by which messages are noted at the links that they use.
use Rattle.std.proofs.Common.{◌≡◌, ℕ, ◌+◌, ◌<◌, ◌≤◌, ◌&&◌, false, cond, List, [], ◌∷◌, ◌++◌, filter, length, map, get_or, take, slice_index_or, sym, ◌∙◌, ap, append-nil}
use Rattle.std.proofs.lemmas.Bool.{le-ltb, lt-ltb}
use Rattle.std.proofs.lemmas.List.Elements.{filter_more}
use Rattle.std.proofs.lemmas.List.{get_or-map}
use Rattle.cell_types.specs.Code.{ProgramCode}
use Rattle.cell_types.specs.Groups.{is_one_of, route}
use Rattle.cell_types.specs.declared.program.Message.{Message}
use Rattle.queue_plan.specs.bodies.ByLabel.{uses}
use Rattle.queue_plan.proofs.UserSteps.{one_if}

-- the route of a message that is read
pub route_read : (program : ProgramCode) (messages : List Message) (index : ℕ) (other : Message) → messages ≡ program.messages
    → index < length messages → route program index ≡ (get_or messages index other).route
route_read program messages index other all within =
    ap (λ ms. slice_index_or (map (λ (m : Message). m.route) ms) index []) (sym all)
    ∙ get_or-map (λ (m : Message). m.route) messages index other [] within

-- a message of length 0 uses no link
pub unused : (program : ProgramCode) (lengths order : List ℕ) (i message link : ℕ) → i < length order → message ≡ get_or order i 0
    → get_or lengths message 0 ≤ 0
    → filter (uses program lengths link) (take i order) ≡ filter (uses program lengths link) (take (i + 1) order)
unused program lengths order i message link l is none =
    let users = filter (uses program lengths link) (take i order) in
    let no : uses program lengths link message ≡ false =
    ap (λ b. b && is_one_of (route program message) link) (le-ltb 0 (get_or lengths message 0) none) in
    sym (filter_more (uses program lengths link) order i 0 l
    ∙ ap (λ m. users ++ cond (uses program lengths link m) (m ∷ []) []) (sym is)
    ∙ ap (λ b. users ++ cond b (message ∷ []) []) no ∙ append-nil users)

-- another message uses the links of its route
pub used : (program : ProgramCode) (lengths order : List ℕ) (i message link : ℕ) (links : List ℕ) → i < length order
    → message ≡ get_or order i 0 → 0 < get_or lengths message 0 → route program message ≡ links
    → filter (uses program lengths link) (take i order) ++ one_if links message link
    ≡ filter (uses program lengths link) (take (i + 1) order)
used program lengths order i message link links l is some at =
    let users = filter (uses program lengths link) (take i order) in
    let yes : uses program lengths link message ≡ is_one_of links link =
    ap (λ b. b && is_one_of (route program message) link) (lt-ltb 0 (get_or lengths message 0) some)
    ∙ ap (λ ks. is_one_of ks link) at in
    sym (filter_more (uses program lengths link) order i 0 l
    ∙ ap (λ m. users ++ cond (uses program lengths link m) (m ∷ []) []) (sym is)
    ∙ ap (λ b. users ++ cond b (message ∷ []) []) yes)
