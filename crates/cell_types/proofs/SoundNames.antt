-- What names without faults mean: something that the cell has.
use Rattle.std.proofs.Common.{◌≡◌, ℕ, zero, suc, ◌+◌, ◌<◌, ◌≤◌, Bool, true, false, not, List, [], ◌∷◌, Option, Some, None, length, map, bytes_eq, cond, find, position, nat_lt, slice_get, nat_eq, unwrap_or, option_map, refl, sym, ap, ◌∙◌, subst, arith, IfSome, IsSomeAnd, eqb-true}
use Rattle.std.proofs.lemmas.Bool.{not-false}
use Rattle.std.proofs.lemmas.List.Folds.{find_at}
use Rattle.std.proofs.lemmas.List.Quantifiers.{position-Some}
use Rattle.std.proofs.lemmas.Option.{slice_get-map}
use Rattle.std.specs.List.{AllByRecursion, position_or_len}
use Rattle.std.specs.Option.{option_map_or, option_or}
use Rattle.cell_types.specs.Names.{NamedMessage, NamedVariable, Scope, Meaning, MessageAt, VariableAt, ArrayAt, CounterAt, variable_meaning, message_named, message_index, variable_named, counter_depth, meaning}
use Rattle.cell_types.specs.Resolved.{message_meant, word_meant, array_meant, value_meant}
use Rattle.cell_types.specs.Sound.{Means, HasWord, HasArray, Sends, Receives, SoundExpression}
use Rattle.cell_types.specs.Statics.{when, is_message, is_variable, is_array, is_value, misnamed, name_faults, write_faults, read_faults}
use Rattle.cell_types.specs.declared.error.StaticError.{StaticError}
use Rattle.cell_types.specs.declared.error.StaticError.TheVariants as E
use Rattle.cell_types.specs.declared.program.Message.{Message}
use Rattle.cell_types.proofs.NoFaults.{none_front, none_back, when_none, find_kept}

-- The variable has at least one word, and all of them are among so many.
pub record IsPlaced (words : ℕ) (v : NamedVariable) : Type 0 where
  pub some : 1 ≤ unwrap_or v.length 1
  pub within : v.offset + unwrap_or v.length 1 ≤ words

-- a program's message as statements see it
abbrev pub as_named : Message → NamedMessage
as_named m = record { name = m.name; sender = m.from; receiver = m.to }

-- What can be named here, inside so many loops, is what the cell has.
pub record Fits (means : Means) (depth : ℕ) (scope : Scope) : Type 0 where
  pub cell : scope.cell ≡ means.cell
  pub messages : scope.messages ≡ map as_named means.messages
  pub variables : AllByRecursion (IsPlaced means.words) scope.variables
  pub counters : length scope.counters ≡ depth

-- The cell has what is meant.
abbrev pub IsMeant : Means → ℕ → Scope → List ℕ → Meaning → Type 0
IsMeant means depth scope name (MessageAt index) = message_index scope name ≡ Some index
IsMeant means depth scope name (VariableAt offset) = HasWord means offset
IsMeant means depth scope name (ArrayAt base len) = HasArray means base len
IsMeant means depth scope name (CounterAt counter) = counter < depth

-- what holds of the meaning of each kind holds of the meaning
by_kind : (P : Meaning → Type 0) (m : Option ℕ) (v : Option NamedVariable) (c : Option ℕ)
    → IfSome m (λ i. P (MessageAt i)) → IfSome v (λ x. P (variable_meaning x)) → IfSome c (λ d. P (CounterAt d))
    → IfSome (option_or (option_map MessageAt m) (option_or (option_map variable_meaning v) (option_map CounterAt c))) P
by_kind P (Some i) v c p q r = p
by_kind P None (Some x) c p q r = q
by_kind P None None (Some d) p q r = r
by_kind P None None None p q r = tt

-- what is there is itself
itself : {A : Type 0} (o : Option A) → IfSome o (λ x. o ≡ Some x)
itself None = tt
itself (Some x) = refl

-- what follows from what holds of the value that is there
weaker : {A : Type 0} (P Q : A → Type 0) (o : Option A) → IfSome o P → ((x : A) → P x → Q x) → IfSome o Q
weaker P Q None h tells = tt
weaker P Q (Some x) h tells = tells x h

-- what the name of a placed variable means
placed : (means : Means) (depth : ℕ) (scope : Scope) (name : List ℕ) (own : List ℕ) (offset : ℕ) (size : Option ℕ)
    → IsPlaced means.words (record { name = own; offset = offset; length = size })
    → IsMeant means depth scope name (variable_meaning (record { name = own; offset = offset; length = size }))
placed means depth scope name own offset None p = let within = p.within in omega arith
placed means depth scope name own offset (Some n) p = (p.some, p.within)

-- what a name means
pub meant : (means : Means) (depth : ℕ) (scope : Scope) → Fits means depth scope → (name : List ℕ)
    → IfSome (meaning scope name) (IsMeant means depth scope name)
meant means depth scope fits name =
    let here : Meaning → Type 0 = IsMeant means depth scope name in
    let is_named : List ℕ → Bool = λ counter. bytes_eq counter name in
    by_kind here (message_index scope name) (variable_named scope name) (counter_depth scope name)
    (itself (message_index scope name))
    (weaker (IsPlaced means.words) (λ x. here (variable_meaning x)) (variable_named scope name)
    (find_kept (IsPlaced means.words) (λ (v : NamedVariable). bytes_eq v.name name) scope.variables fits.variables)
    (λ x p. placed means depth scope name x.name x.offset x.length p))
    (weaker (λ d. counter_depth scope name ≡ Some d) (λ d. here (CounterAt d)) (counter_depth scope name)
    (itself (counter_depth scope name))
    (λ d is. subst (λ n. d < n) fits.counters (position-Some is_named scope.counters d [] is).0))

-- where a variable is wanted and none is missed, the cell has the word that is meant
word_meant_kept : (means : Means) (depth : ℕ) (scope : Scope) (name : List ℕ) (line : ℕ) (o : Option Meaning)
    → IfSome o (IsMeant means depth scope name) → misnamed is_variable name line o ≡ [] → HasWord means (word_meant o)
word_meant_kept means depth scope name line None p h = cc
word_meant_kept means depth scope name line (Some (MessageAt i)) p h = cc
word_meant_kept means depth scope name line (Some (VariableAt i)) p h = p
word_meant_kept means depth scope name line (Some (ArrayAt base len)) p h = cc
word_meant_kept means depth scope name line (Some (CounterAt i)) p h = cc

-- the same of an array
array_meant_kept : (means : Means) (depth : ℕ) (scope : Scope) (name : List ℕ) (line : ℕ) (o : Option Meaning)
    → IfSome o (IsMeant means depth scope name) → misnamed is_array name line o ≡ []
    → HasArray means (array_meant o).0 (array_meant o).1
array_meant_kept means depth scope name line None p h = cc
array_meant_kept means depth scope name line (Some (MessageAt i)) p h = cc
array_meant_kept means depth scope name line (Some (VariableAt i)) p h = cc
array_meant_kept means depth scope name line (Some (ArrayAt base len)) p h = p
array_meant_kept means depth scope name line (Some (CounterAt i)) p h = cc

-- the same of a value
value_meant_kept : (means : Means) (depth : ℕ) (scope : Scope) (name : List ℕ) (line : ℕ) (o : Option Meaning)
    → IfSome o (IsMeant means depth scope name) → misnamed is_value name line o ≡ [] → SoundExpression means depth (value_meant o)
value_meant_kept means depth scope name line None p h = cc
value_meant_kept means depth scope name line (Some (MessageAt i)) p h = cc
value_meant_kept means depth scope name line (Some (VariableAt i)) p h = p
value_meant_kept means depth scope name line (Some (ArrayAt base len)) p h = cc
value_meant_kept means depth scope name line (Some (CounterAt i)) p h = p

-- the same of a message
message_meant_kept : (means : Means) (depth : ℕ) (scope : Scope) (name : List ℕ) (line : ℕ) (o : Option Meaning)
    → IfSome o (IsMeant means depth scope name) → misnamed is_message name line o ≡ []
    → message_index scope name ≡ Some (message_meant o)
message_meant_kept means depth scope name line None p h = cc
message_meant_kept means depth scope name line (Some (MessageAt i)) p h = p
message_meant_kept means depth scope name line (Some (VariableAt i)) p h = cc
message_meant_kept means depth scope name line (Some (ArrayAt base len)) p h = cc
message_meant_kept means depth scope name line (Some (CounterAt i)) p h = cc

-- the word that a variable's name means
pub word_kept : (means : Means) (depth : ℕ) (scope : Scope) → Fits means depth scope → (line : ℕ) (name : List ℕ)
    → name_faults is_variable scope line name ≡ [] → HasWord means (word_meant (meaning scope name))
word_kept means depth scope fits line name =
    word_meant_kept means depth scope name line (meaning scope name) (meant means depth scope fits name)

-- the array that an array's name means
pub array_kept : (means : Means) (depth : ℕ) (scope : Scope) → Fits means depth scope → (line : ℕ) (name : List ℕ)
    → name_faults is_array scope line name ≡ []
    → HasArray means (array_meant (meaning scope name)).0 (array_meant (meaning scope name)).1
array_kept means depth scope fits line name =
    array_meant_kept means depth scope name line (meaning scope name) (meant means depth scope fits name)

-- the value that a name in an expression means
pub value_kept : (means : Means) (depth : ℕ) (scope : Scope) → Fits means depth scope → (line : ℕ) (name : List ℕ)
    → name_faults is_value scope line name ≡ [] → SoundExpression means depth (value_meant (meaning scope name))
value_kept means depth scope fits line name =
    value_meant_kept means depth scope name line (meaning scope name) (meant means depth scope fits name)

-- The program has a message at this index, and it is what the name finds.
record Found (means : Means) (scope : Scope) (name : List ℕ) (index : ℕ) : Type 0 where
  message : Message
  there : slice_get means.messages index ≡ Some message
  named : message_named scope name ≡ Some (as_named message)

-- what is found stands at its place
at_place : {A : Type 0} (test : A → Bool) (xs : List A) (i : ℕ) → position test xs ≡ Some i → find test xs ≡ slice_get xs i
at_place {A} test xs i is = find_at test xs ∙ ap (slice_get xs) (same (nat_lt (position_or_len test xs) (length xs)) is)
  where
    same : (b : Bool) → cond b (Some (position_or_len test xs)) None ≡ Some i → position_or_len test xs ≡ i
    same true h = cc
    same false h = cc

-- there is a message at an index among them
some_at : (ms : List Message) (i : ℕ) → i < length (map as_named ms) → (m : Message) × (slice_get ms i ≡ Some m)
some_at [] i lt = absurd (omega arith)
some_at (m ∷ ms) zero lt = (m, refl)
some_at (m ∷ ms) (suc i) lt = some_at ms i (omega arith)

-- the name of a message finds one
found : (means : Means) (depth : ℕ) (scope : Scope) → Fits means depth scope → (line : ℕ) (name : List ℕ)
    → name_faults is_message scope line name ≡ [] → Found means scope name (message_meant (meaning scope name))
found means depth scope fits line name h =
    let index : ℕ = message_meant (meaning scope name) in
    let test : NamedMessage → Bool = λ (m : NamedMessage). bytes_eq m.name name in
    let is : message_index scope name ≡ Some index =
    message_meant_kept means depth scope name line (meaning scope name) (meant means depth scope fits name) h in
    let lt = (position-Some test scope.messages index (record { name = []; sender = 0; receiver = 0 }) is).0 in
    let some = some_at means.messages index (subst (λ ms. index < length ms) fits.messages lt) in
    record {
      message = some.0;
      there = some.1;
      named = at_place test scope.messages index is ∙ ap (λ ms. slice_get ms index) fits.messages
          ∙ slice_get-map as_named means.messages index ∙ ap (option_map as_named) some.1;
    }

-- an end of a message that is checked against the cell
end_kept : (end : NamedMessage → ℕ) (cell : ℕ) (e : StaticError) (o : Option NamedMessage) (m : NamedMessage)
    → option_map_or (λ (m : NamedMessage). when (not (nat_eq (end m) cell)) e) o [] ≡ [] → o ≡ Some m → end m ≡ cell
end_kept end cell e o m h is =
    let at : when (not (nat_eq (end m) cell)) e ≡ [] =
    subst (λ o. option_map_or (λ (m : NamedMessage). when (not (nat_eq (end m) cell)) e) o [] ≡ []) is h in
    eqb-true (end m) cell (not-false _ (when_none (not (nat_eq (end m) cell)) e at))

-- what holds of the value that is there
some_and : {A : Type 0} (P : A → Type 0) (o : Option A) (x : A) → o ≡ Some x → P x → IsSomeAnd o P
some_and P o x is p = subst (λ o. IsSomeAnd o P) (sym is) p

-- a message that the cell sends
pub sends_kept : (means : Means) (depth : ℕ) (scope : Scope) → Fits means depth scope → (line : ℕ) (name : List ℕ)
    → write_faults scope line name ≡ [] → Sends means (message_meant (meaning scope name))
sends_kept means depth scope fits line name h =
    let index : ℕ = message_meant (meaning scope name) in
    let one : Found means scope name index = found means depth scope fits line name (none_front _ _ h) in
    some_and (λ (m : Message). m.from ≡ means.cell) (slice_get means.messages index) one.message one.there
    (end_kept (λ (m : NamedMessage). m.sender) scope.cell (E.WrongEnd name scope.cell true line) (message_named scope name)
    (as_named one.message) (none_back (name_faults is_message scope line name) _ h) one.named ∙ fits.cell)

-- a message that the cell receives
pub receives_kept : (means : Means) (depth : ℕ) (scope : Scope) → Fits means depth scope → (line : ℕ) (name : List ℕ)
    → read_faults scope line name ≡ [] → Receives means (message_meant (meaning scope name))
receives_kept means depth scope fits line name h =
    let index : ℕ = message_meant (meaning scope name) in
    let one : Found means scope name index = found means depth scope fits line name (none_front _ _ h) in
    some_and (λ (m : Message). m.to ≡ means.cell) (slice_get means.messages index) one.message one.there
    (end_kept (λ (m : NamedMessage). m.receiver) scope.cell (E.WrongEnd name scope.cell false line) (message_named scope name)
    (as_named one.message) (none_back (name_faults is_message scope line name) _ h) one.named ∙ fits.cell)
