-- The steps by which messages are declared.
use Rattle.std.proofs.Common.{ℕ, ◌≡◌, ◌<◌, ◌⊎◌, Bool, true, false, not, List, [], nat_le, is_some, length, refl, sym, ap, subst, ◌∙◌, ⊎_elim, true≢false, cond, bytes_eq}
use Rattle.std.proofs.lemmas.Bool.{lt-leb}
use Rattle.sys_base.specs.declared.kinds.Dir.{Dir}
use Rattle.sys_base.specs.declared.kinds.Limit.TheVariants as L
use Rattle.sys_base.specs.Grid.{Extent}
use Rattle.routes.specs.declared.error.RouteError.{RouteError}
use Rattle.routes.specs.declared.error.RouteError.TheVariants as Q
use Rattle.routes.specs.Faults.{IsFault}
use Rattle.routes.specs.Walks.{IsRoute}
use Rattle.cell_tree.specs.declared.source.MessageDecl.{MessageDecl}
use Rattle.cell_types.specs.bodies.Declarations.{naming_faults}
use Rattle.cell_types.specs.Faults.{route_faults, IsFirst}
use Rattle.cell_types.specs.Names.{is_among}
use Rattle.cell_types.specs.Resolved.{links_of}
use Rattle.cell_types.specs.Route.{route_between, walked_with}
use Rattle.cell_types.specs.bodies.Scopes.{place_of}
use Rattle.cell_types.specs.Statics.{when}
use Rattle.cell_types.specs.declared.error.StaticError.{StaticError}
use Rattle.cell_types.specs.declared.error.StaticError.TheVariants as E
use Rattle.cell_types.specs.declared.error.What.TheVariants as W
use Rattle.cell_types.proofs.FirstFaults.{first_of_memory, first_right, first_here, none_joined, when_passes, when_fails}
use Rattle.cell_types.proofs.FirstPlaces.{is_some-position}
use Rattle.cell_types.proofs.RouteFound.{route_found, fault_found}

-- what the answer of a set says
is_new : (there new : Bool) → new ≡ not there → new ≡ true → there ≡ false
is_new true new n h = absurd (true≢false (sym h ∙ n))
is_new false new n h = refl

-- and that a name is there already
is_old : (there new : Bool) → new ≡ not there → new ≡ false → there ≡ true
is_old true new n h = refl
is_old false new n h = absurd (true≢false (sym n ∙ h))

-- a new name is added
pub added_since : {X : Type 0} (new : Bool) (after more before : List X) → after ≡ cond new more before → new ≡ true → after ≡ more
added_since new after more before e h = e ∙ ap (λ b. cond b more before) h

module _ (g : Extent) (from to : ℕ) (given : List Dir) (name : List ℕ) (line : ℕ) where
  -- a route has no fault, and its links are those of the walk
  pub route_there : (links : List ℕ) → IsRoute g from to given links
      → (route_faults name line (route_between g from to given) ≡ []) × (links ≡ links_of (route_between g from to given))
  route_there links route =
      let found = route_found g from to given links route in
      (ap (route_faults name line) found, ap links_of (sym found))

  -- where there is no route, the error is the walk's fault
  pub route_not_there : (e : RouteError) (error : StaticError) → IsFault g from to given e ⊎ (e ≡ Q.Memory)
      → IsFirst (route_faults name line (walked_with e)) error → IsFirst (route_faults name line (route_between g from to given)) error
  route_not_there e error why first =
      ⊎_elim
      (λ fault. subst (λ w. IsFirst (route_faults name line w) error) (sym (fault_found g from to given e fault)) first)
      (λ memory. first_of_memory (route_faults name line (route_between g from to given)) error
      (subst (λ x. IsFirst (route_faults name line (walked_with x)) error) memory first))
      why

module _ (names : List (List ℕ)) (message : MessageDecl) (few : length names < 512) where
  -- the fault of a name that is there already
  abbrev pub twice : StaticError
  twice = E.Twice (W.Named message.name) message.line

  -- one more message has room
  room : when (nat_le 512 (length names)) (E.Limit L.Messages message.line) ≡ []
  room = when_passes (nat_le 512 (length names)) (E.Limit L.Messages message.line) (lt-leb 512 (length names) few)

  -- whether a name is new, by the names
  among : (new : Bool) → new ≡ not (is_some (place_of names message.name)) → new ≡ not (is_among names message.name)
  among new is = is ∙ ap not (is_some-position (λ other. bytes_eq other message.name) names)

  -- a name that is there already
  pub named_twice : (new : Bool) → new ≡ not (is_some (place_of names message.name)) → new ≡ false → IsFirst (naming_faults names message) twice
  named_twice new is old =
      first_right (when (nat_le 512 (length names)) (E.Limit L.Messages message.line)) (when (is_among names message.name) twice) twice room
      (subst (λ fs. IsFirst fs twice) (sym (when_fails (is_among names message.name) twice (is_old (is_among names message.name) new (among new is) old)))
      (first_here twice []))

  -- a name that is new
  pub named_once : (new : Bool) → new ≡ not (is_some (place_of names message.name)) → new ≡ true → naming_faults names message ≡ []
  named_once new is fresh =
      none_joined (when (nat_le 512 (length names)) (E.Limit L.Messages message.line)) (when (is_among names message.name) twice) room
      (when_passes (is_among names message.name) twice (is_new (is_among names message.name) new (among new is) fresh))
