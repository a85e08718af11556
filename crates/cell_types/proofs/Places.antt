-- Where a name stands in a set, and what is found there.
use Rattle.std.proofs.Common.{ℕ, ◌≡◌, ◌+◌, ◌<◌, ◌≤◌, Bool, true, false, not, cond, List, [], ◌∷◌, ◌++◌, Option, Some, None, Bor, suc, length, map, position, is_some, nat_lt, refl, sym, ap, ◌∙◌, arith, bytes_eq, get_or}
use Rattle.std.specs.List.{find, list_any, position_or_len}
use Rattle.std.specs.Option.{option_map, option_and_then, option_copied, IfSome}
use Rattle.std.proofs.lemmas.Option.{slice_get_past, slice_get-get_or}
use Rattle.std.specs.Prelude.{slice_get}
use Rattle.std.proofs.lemmas.Bool.{lt-ltb}
use Rattle.std.proofs.lemmas.Bool.Decides.{nat_tests}
use Rattle.std.proofs.lemmas.List.{map_push}
use Rattle.std.proofs.lemmas.Slice.Eq.{bytes_eq-Decides}
use Rattle.cell_types.specs.Names.{NamedVariable}
use Rattle.cell_types.specs.bodies.Scopes.{place_of, variable_with, variables_with}
use Rattle.cell_types.specs.declared.variables.Slot.{Slot}
use Rattle.cell_types.proofs.FirstPlaces.{bytes_eq_comm, position_agree, position-map, is_some-position}

-- what a set with these keys says of a name
pub position-keys : (keys : List (Bor (List ℕ))) (bytes name : List ℕ) → bytes ≡ name
    → position (λ k. bytes_eq bytes k.now) keys ≡ place_of (map (λ k. k.now) keys) name
position-keys keys bytes name e =
    position_agree (λ k. bytes_eq bytes k.now) (λ k. bytes_eq k.now name) (λ k. bytes_eq_comm bytes k.now ∙ ap (bytes_eq k.now) e) keys
    ∙ sym (position-map (λ n. bytes_eq n name) (λ (k : Bor (List ℕ)). k.now) keys)

pub any-keys : (keys : List (Bor (List ℕ))) (bytes name : List ℕ) → bytes ≡ name
    → list_any (λ k. bytes_eq bytes k.now) keys ≡ is_some (place_of (map (λ k. k.now) keys) name)
any-keys keys bytes name e =
    sym (is_some-position (λ (k : Bor (List ℕ)). bytes_eq bytes k.now) keys) ∙ ap is_some (position-keys keys bytes name e)

-- what `insert` leaves in a set
pub keys-insert : (keys after : List (Bor (List ℕ))) (key : Bor (List ℕ)) (name : List ℕ) (new : Bool) → key.now ≡ name
    → new ≡ not (list_any (λ k. bytes_eq key.now k.now) keys)
    → after ≡ cond (list_any (λ k. bytes_eq key.now k.now) keys) keys (keys ++ key ∷ [])
    → map (λ k. k.now) after ≡ cond new (map (λ k. k.now) keys ++ name ∷ []) (map (λ k. k.now) keys)
keys-insert keys after key name new e n a =
    by (list_any (λ k. bytes_eq key.now k.now) keys) a ∙ ap (λ b. cond b (map (λ k. k.now) keys ++ name ∷ []) (map (λ k. k.now) keys)) (sym n)
  where
    by : (there : Bool) → after ≡ cond there keys (keys ++ key ∷ [])
        → map (λ k. k.now) after ≡ cond (not there) (map (λ k. k.now) keys ++ name ∷ []) (map (λ k. k.now) keys)
    by true h = ap (map (λ (k : Bor (List ℕ)). k.now)) h
    by false h =
        ap (map (λ (k : Bor (List ℕ)). k.now)) h ∙ map_push (λ (k : Bor (List ℕ)). k.now) keys key
        ∙ ap (λ y. map (λ (k : Bor (List ℕ)). k.now) keys ++ y ∷ []) e

-- the place behind one more name
lt_more : (a n : ℕ) → nat_lt (1 + a) (suc n) ≡ nat_lt a n
lt_more a n = grind (arith, nat_tests)

further : (b : Bool) (a : ℕ) → cond b (Some (1 + a)) None ≡ option_map (λ i. 1 + i) (cond b (Some a) None)
further true a = refl
further false a = refl

place_here : (p : List ℕ → Bool) (n : List ℕ) (ns : List (List ℕ)) → p n ≡ true → position p (n ∷ ns) ≡ Some 0
place_here p n ns is = rw is (rw (lt-ltb 0 (suc (length ns)) (omega arith)) refl)

place_further : (p : List ℕ → Bool) (n : List ℕ) (ns : List (List ℕ)) → p n ≡ false
    → position p (n ∷ ns) ≡ option_map (λ i. 1 + i) (position p ns)
place_further p n ns is =
    rw is (rw (lt_more (position_or_len p ns) (length ns)) (further (nat_lt (position_or_len p ns) (length ns)) (position_or_len p ns)))

nothing_there : (o : Option ℕ) → option_and_then (slice_get {X = Slot} []) o ≡ None
nothing_there None = refl
nothing_there (Some i) = refl

one_further : (s : Slot) (ss : List Slot) (o : Option ℕ)
    → option_and_then (slice_get (s ∷ ss)) (option_map (λ i. 1 + i) o) ≡ option_and_then (slice_get ss) o
one_further s ss None = refl
one_further s ss (Some i) = rw one-add refl
  where
    one-add : (n : ℕ) → 1 + n ≡ suc n
    one-add n = omega arith

-- the variable of a name, by its place
pub variable_at_place : (names : List (List ℕ)) (slots : List Slot) (name : List ℕ)
    → find (λ (v : NamedVariable). bytes_eq v.name name) (variables_with names slots)
    ≡ option_map (variable_with name) (option_and_then (slice_get slots) (place_of names name))
variable_at_place [] slots name = refl
variable_at_place (n ∷ ns) [] name = sym (ap (option_map (variable_with name)) (nothing_there (place_of (n ∷ ns) name)))
variable_at_place (n ∷ ns) (s ∷ ss) name = by (bytes_eq n name) refl (variable_at_place ns ss name)
  where
    by : (b : Bool) → bytes_eq n name ≡ b
        → find (λ (v : NamedVariable). bytes_eq v.name name) (variables_with ns ss)
        ≡ option_map (variable_with name) (option_and_then (slice_get ss) (place_of ns name))
        → find (λ (v : NamedVariable). bytes_eq v.name name) (variables_with (n ∷ ns) (s ∷ ss))
        ≡ option_map (variable_with name) (option_and_then (slice_get (s ∷ ss)) (place_of (n ∷ ns) name))
    by true is h =
        let same : n ≡ name = (bytes_eq-Decides n name).0 is in
        ap (λ b. cond b (Some (variable_with n s)) (find (λ (v : NamedVariable). bytes_eq v.name name) (variables_with ns ss))) is
        ∙ ap (λ m. Some (variable_with m s)) same
        ∙ sym (ap (λ o. option_map (variable_with name) (option_and_then (slice_get (s ∷ ss)) o)) (place_here (λ m. bytes_eq m name) n ns is))
    by false is h =
        ap (λ b. cond b (Some (variable_with n s)) (find (λ (v : NamedVariable). bytes_eq v.name name) (variables_with ns ss))) is
        ∙ h ∙ sym (ap (λ o. option_map (variable_with name) (option_and_then (slice_get (s ∷ ss)) o)) (place_further (λ m. bytes_eq m name) n ns is)
        ∙ ap (option_map (variable_with name)) (one_further s ss (place_of ns name)))

-- the slot that is read at a place
pub slot_got : (o : Option (Bor Slot)) (xs : List Slot) (i : ℕ) → is_some o ≡ nat_lt i (length xs)
    → IfSome o (λ x. x.now ≡ get_or xs i x.now) → option_copied o ≡ slice_get xs i
slot_got None xs i there value =
    let past : length xs ≤ i = grind (arith, nat_tests) in
    sym (slice_get_past xs i past)
slot_got (Some x) xs i there value =
    let within : i < length xs = grind (arith, nat_tests) in
    ap Some value ∙ sym (slice_get-get_or xs i x.now within)
