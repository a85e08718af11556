-- What follows where the answer is the outcome of the walk.
use Rattle.std.proofs.Common.{ℕ, ◌≡◌, ◌<◌, ◌⊎◌, List, [], inl, inr, subst, Result, Ok, Err}
use Rattle.std.specs.Prelude.{IfOk, IfErr, MatchResult, ⊤}
use Rattle.sys_base.specs.declared.kinds.Dir.{Dir}
use Rattle.sys_base.specs.Grid.{Extent, cell_count}
use Rattle.routes.specs.declared.error.RouteError.{RouteError}
use Rattle.routes.specs.declared.error.RouteError.TheVariants as R
use Rattle.routes.specs.Faults.{IsFault}
use Rattle.routes.specs.Walks.{directions, IsRoute, IsPath}
use Rattle.routes.proofs.DefaultRoute.{no_default_fault}
use Rattle.routes.proofs.OneRoute.{one_route, one_route_fault, route_no_fault}

-- V is what holds the links
module _ {V : Type 0} (items : V → List ℕ) (g : Extent) (from to : ℕ) (given : List Dir) where
  -- where there is a route, it or want of memory is the answer
  pub only_route : (r : Result V RouteError) → IfOk r (λ v. IsRoute g from to given (items v)) → IfErr r (λ e. IsFault g from to given e ⊎ (e ≡ R.Memory))
      → (links : List ℕ) → IsRoute g from to given links → MatchResult r (λ v. items v ≡ links) (λ e. e ≡ R.Memory)
  only_route (Ok v) h f links k = one_route g from to given (items v) links h k
  only_route (Err e) h f links k = memory f
    where
      memory : IsFault g from to given e ⊎ (e ≡ R.Memory) → e ≡ R.Memory
      memory (inl p) = absurd (route_no_fault g from to given links e k p)
      memory (inr m) = m

  -- where there is a fault, it or want of memory is the answer
  pub only_fault : (r : Result V RouteError) → IfOk r (λ v. IsRoute g from to given (items v)) → IfErr r (λ e. IsFault g from to given e ⊎ (e ≡ R.Memory))
      → (f : RouteError) → IsFault g from to given f → MatchResult r (λ _. ⊥) (λ e. (e ≡ f) ⊎ (e ≡ R.Memory))
  only_fault (Ok v) h w f k = route_no_fault g from to given (items v) f h k
  only_fault (Err e) h w f k = same w
    where
      same : IsFault g from to given e ⊎ (e ≡ R.Memory) → (e ≡ f) ⊎ (e ≡ R.Memory)
      same (inl p) = inl (one_route_fault g from to given e f p k)
      same (inr m) = inr m

  -- where no directions are given, want of memory is the only error
  pub only_memory : (r : Result V RouteError) → IfErr r (λ e. IsFault g from to given e ⊎ (e ≡ R.Memory)) → from < cell_count g → to < cell_count g → given ≡ []
      → MatchResult r (λ _. ⊤) (λ e. e ≡ R.Memory)
  only_memory (Ok v) w f t none = tt
  only_memory (Err e) w f t none = memory w
    where
      memory : IsFault g from to given e ⊎ (e ≡ R.Memory) → e ≡ R.Memory
      memory (inl p) = absurd (no_default_fault g from to e f t (subst (λ ds. IsFault g from to ds e) none p))
      memory (inr m) = m

-- a route is a path
pub route_is_path : (g : Extent) (from to : ℕ) (given : List Dir) (links : List ℕ) → IsRoute g from to given links → IsPath g from links to
route_is_path g from to given links r = record { leads = (directions g from to given, r.walk); differ = r.differ }
