-- What the checks that give no fault tell.
use Rattle.std.proofs.Common.{◌≡◌, ℕ, ◌≤◌, Bool, true, false, List, [], ◌∷◌, ◌++◌, nat_lt, refl, IfSome, Option, Some, None, find}
use Rattle.std.specs.List.{AllByRecursion}
use Rattle.std.specs.Option.{option_map_or}
use Rattle.std.proofs.lemmas.Bool.{or_parts, ltb-false, cond_both}
use Rattle.cell_types.specs.Faults.{is_outside, faults_behind}
use Rattle.cell_types.specs.Statics.{when}
use Rattle.cell_types.specs.declared.error.StaticError.{StaticError}

-- both parts of no faults are none
pub none_front : {A : Type 0} (xs ys : List A) → xs ++ ys ≡ [] → xs ≡ []
none_front [] ys h = refl
none_front (x ∷ xs) ys h = cc

-- and the second part
pub none_back : {A : Type 0} (xs ys : List A) → xs ++ ys ≡ [] → ys ≡ []
none_back [] ys h = h
none_back (x ∷ xs) ys h = cc

-- a check without its fault has not hit
pub when_none : (b : Bool) (e : StaticError) → when b e ≡ [] → b ≡ false
when_none true e h = cc
when_none false e h = refl

-- a number that is not outside two bounds
pub within : (low high n : ℕ) → is_outside low high n ≡ false → (low ≤ n) × (n ≤ high)
within low high n h =
    let parts = or_parts (nat_lt n low) (nat_lt high n) h in
    (ltb-false n low parts.0, ltb-false high n parts.1)

-- what each judgement without faults tells holds of each declaration
pub each_kept : {A : Type 0} (judged : List A → A → List StaticError) (P : A → Type 0)
    → ((earlier : List A) (d : A) → judged earlier d ≡ [] → P d)
    → (earlier ds : List A) → faults_behind judged earlier ds ≡ [] → AllByRecursion P ds
each_kept judged P tells earlier [] h = tt
each_kept judged P tells earlier (d ∷ ds) h =
    let here = judged earlier d in
    let behind = faults_behind judged (earlier ++ d ∷ []) ds in
    (tells earlier d (none_front here behind h), each_kept judged P tells (earlier ++ d ∷ []) ds (none_back here behind h))

-- what is found is one of the list
pub find_kept : {A : Type 0} (P : A → Type 0) (test : A → Bool) (xs : List A) → AllByRecursion P xs → IfSome (find test xs) P
find_kept P test [] h = tt
find_kept P test (x ∷ xs) h =
    cond_both (test x) (Some x) (find test xs) (λ o. IfSome o P) (λ _. h.0) (λ _. find_kept P test xs h.1)

-- what holds of all values and of the default holds of the one that is taken
pub map_or_kept : {A B : Type 0} (P : A → Type 0) (Q : B → Type 0) (f : A → B) (o : Option A) (d : B)
    → IfSome o P → Q d → ((x : A) → P x → Q (f x)) → Q (option_map_or f o d)
map_or_kept P Q f None d h default tells = default
map_or_kept P Q f (Some x) d h default tells = tells x h
