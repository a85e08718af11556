-- The first of some faults behind others.
use Rattle.std.proofs.Common.{◌≡◌, Bool, true, false, List, [], ◌∷◌, ◌++◌, refl, sym, ap, subst, ◌∙◌, inl, inr}
use Rattle.std.specs.Prelude.{Result, Ok, Err, IsErrAnd}
use Rattle.cell_types.specs.Faults.{IsFirst}
use Rattle.cell_types.specs.bodies.Scopes.{Resolves}
use Rattle.cell_types.specs.Statics.{when}
use Rattle.cell_types.specs.declared.error.StaticError.{StaticError}
use Rattle.cell_types.specs.declared.error.StaticError.TheVariants as E

-- want of memory may come whatever the faults are
pub first_memory : (xs : List StaticError) → IsFirst xs E.Memory
first_memory [] = refl
first_memory (x ∷ xs) = inr refl

pub first_of_memory : (xs : List StaticError) (e : StaticError) → e ≡ E.Memory → IsFirst xs e
first_of_memory xs e is = subst (IsFirst xs) (sym is) (first_memory xs)

-- the fault that stands first
pub first_here : (x : StaticError) (xs : List StaticError) → IsFirst (x ∷ xs) x
first_here x xs = inl refl

-- what is first of some faults is first of those and more
pub first_left : (xs ys : List StaticError) (e : StaticError) → IsFirst xs e → IsFirst (xs ++ ys) e
first_left [] ys e h = first_of_memory ys e h
first_left (x ∷ xs) ys e h = h

-- where there are no faults before them, the first of some faults is the first of all
pub first_right : (xs ys : List StaticError) (e : StaticError) → xs ≡ [] → IsFirst ys e → IsFirst (xs ++ ys) e
first_right xs ys e none h = subst (λ zs. IsFirst (zs ++ ys) e) (sym none) h

-- no faults behind no faults
pub none_joined : (xs ys : List StaticError) → xs ≡ [] → ys ≡ [] → xs ++ ys ≡ []
none_joined xs ys none none_behind = ap (λ zs. zs ++ ys) none ∙ none_behind

-- a check that fails, and one that passes
pub when_fails : (b : Bool) (x : StaticError) → b ≡ true → when b x ≡ x ∷ []
when_fails b x is = ap (λ c. when c x) is

pub when_passes : (b : Bool) (x : StaticError) → b ≡ false → when b x ≡ []
when_passes b x is = ap (λ c. when c x) is

-- the fault of a check that fails is first of it and more
pub first_when : (b : Bool) (x : StaticError) (ys : List StaticError) → b ≡ true → IsFirst (when b x ++ ys) x
first_when b x ys is = first_left (when b x) ys x (subst (λ zs. IsFirst zs x) (sym (when_fails b x is)) (first_here x []))

module _ {A V : Type 0} (stands_for : A → V) (value : V) where
  -- where a part has a fault that is the first of all, so has the whole
  pub stops_with : (faults : List StaticError) (result : Result A StaticError) (e : StaticError)
      → IsErrAnd result (λ given. given ≡ e) → IsFirst faults e → Resolves faults stands_for value result
  stops_with faults (Ok a) e is first = absurd is
  stops_with faults (Err d) e is first = subst (IsFirst faults) (sym is) first

  -- an equal value, for equal faults
  pub resolves_same : (faults faults_2 : List StaticError) (value_2 : V) (result : Result A StaticError) → faults ≡ faults_2 → value ≡ value_2
      → Resolves faults_2 stands_for value_2 result → Resolves faults stands_for value result
  resolves_same faults faults_2 value_2 (Ok a) same_faults same_value h = (same_faults ∙ h.0, h.1 ∙ sym same_value)
  resolves_same faults faults_2 value_2 (Err e) same_faults same_value h = subst (λ fs. IsFirst fs e) (sym same_faults) h
