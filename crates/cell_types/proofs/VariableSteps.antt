-- The declarations of a cell's variables one after another.
use Rattle.std.proofs.Common.{ℕ, ◌≡◌, ◌+◌, ◌<◌, ◌≤◌, Bool, true, false, not, ◌||◌, List, [], ◌∷◌, ◌++◌, Option, Some, None, length, map, take, get_or, is_some, nat_le, nat_lt, nat_eq, bytes_eq, refl, sym, ap, subst, ◌∙◌, arith, true≢false}
use Rattle.std.specs.List.{list_any}
use Rattle.std.specs.Option.{option_map}
use Rattle.std.specs.Prelude.{IsTrue}
use Rattle.std.proofs.lemmas.Bool.{or_parts, or_right}
use Rattle.std.proofs.lemmas.Bool.Decides.{nat_tests}
use Rattle.std.proofs.lemmas.List.{take_more, map_push, length_push, length-map, length-take-le}
use Rattle.std.proofs.lemmas.List.Sums.{sum_by-cons, sum_by_push}
use Rattle.sys_base.specs.declared.kinds.Limit.TheVariants as L
use Rattle.cell_tree.specs.declared.source.VarDecl.{VarDecl}
use Rattle.cell_types.specs.Faults.{IsFirst, faults_behind, var_faults}
use Rattle.cell_types.specs.Names.{NamedMessage, is_among, placed_from, total_words, words_of}
use Rattle.cell_types.specs.bodies.Scopes.{place_of, variable_with, variables_with, variables_faults}
use Rattle.cell_types.specs.Statics.{when}
use Rattle.cell_types.specs.bodies.Tables.{index_named}
use Rattle.cell_types.specs.declared.error.StaticError.{StaticError}
use Rattle.cell_types.specs.declared.error.StaticError.TheVariants as E
use Rattle.cell_types.specs.declared.error.What.TheVariants as W
use Rattle.cell_types.specs.declared.table.Entry.{Entry}
use Rattle.cell_types.specs.declared.variables.Slot.{Slot}
use Rattle.cell_types.proofs.Behind.{behind_more, behind_stop}
use Rattle.cell_types.proofs.FirstFaults.{first_left, first_right, first_here, none_joined, when_fails, when_passes}
use Rattle.cell_types.proofs.FirstPlaces.{is_some-position}

-- the faults of one more variable, where these are the messages
abbrev pub judged : List NamedMessage → List VarDecl → VarDecl → List StaticError
judged messages = var_faults (map (λ (m : NamedMessage). m.name) messages)

-- The first declarations have no fault, and the names, their places and their words are theirs.
pub record VariablesSoFar (messages : List NamedMessage) (declared : List VarDecl) (i : ℕ) (names : List (List ℕ)) (slots : List Slot) (words : ℕ) : Type 0 where
  pub named : names ≡ map (λ (v : VarDecl). v.name) (take i declared)
  pub count : length slots ≡ i
  pub placed : variables_with names slots ≡ placed_from 0 (take i declared)
  pub total : words ≡ total_words (take i declared)
  pub few : words ≤ 1024
  pub clear : faults_behind (judged messages) [] (take i declared) ≡ []

any_mapped : {X Y : Type 0} (p : Y → Bool) (f : X → Y) (xs : List X) → list_any p (map f xs) ≡ list_any (λ x. p (f x)) xs
any_mapped p f [] = refl
any_mapped p f (x ∷ xs) = ap (λ b. p (f x) || b) (any_mapped p f xs)

there_mapped : {X Y : Type 0} (f : X → Y) (o : Option X) → is_some (option_map f o) ≡ is_some o
there_mapped f None = refl
there_mapped f (Some x) = refl

-- whether a message has a name
pub message_among : (messages : List NamedMessage) (name : List ℕ) (o : Option Entry)
    → option_map (λ (e : Entry). e.index) o ≡ index_named messages name
    → is_some o ≡ is_among (map (λ (m : NamedMessage). m.name) messages) name
message_among messages name o found =
    sym (there_mapped (λ (e : Entry). e.index) o) ∙ ap is_some found ∙ is_some-position (λ (m : NamedMessage). bytes_eq m.name name) messages
    ∙ sym (any_mapped (λ other. bytes_eq other name) (λ (m : NamedMessage). m.name) messages)

-- what the answers of a set say
is_new : (there new : Bool) → new ≡ not there → new ≡ true → there ≡ false
is_new true new n h = absurd (true≢false (sym h ∙ n))
is_new false new n h = refl

is_old : (there new : Bool) → new ≡ not there → new ≡ false → there ≡ true
is_old true new n h = refl
is_old false new n h = absurd (true≢false (sym n ∙ h))

-- one more variable behind others
with_more : (names : List (List ℕ)) (slots : List Slot) (n : List ℕ) (s : Slot) → length names ≡ length slots
    → variables_with (names ++ n ∷ []) (slots ++ s ∷ []) ≡ variables_with names slots ++ variable_with n s ∷ []
with_more [] [] n s even = refl
with_more [] (t ∷ ts) n s even = absurd (omega arith)
with_more (m ∷ ms) [] n s even = absurd (omega arith)
with_more (m ∷ ms) (t ∷ ts) n s even = ap (λ vs. variable_with m t ∷ vs) (with_more ms ts n s (omega arith))

placed_more : (offset : ℕ) (vs : List VarDecl) (v : VarDecl)
    → placed_from offset (vs ++ v ∷ []) ≡ placed_from offset vs ++ record { name = v.name; offset = offset + total_words vs; length = v.length } ∷ []
placed_more offset [] v =
    let e : offset ≡ offset + 0 = omega arith in
    ap (λ o. record { name = v.name; offset = o; length = v.length } ∷ []) e
placed_more offset (w ∷ ws) v =
    let e : offset + words_of w + total_words ws ≡ offset + total_words (w ∷ ws) = omega (arith, sum_by-cons words_of w ws) in
    ap (λ vs. record { name = w.name; offset = offset; length = w.length } ∷ vs)
    (placed_more (offset + words_of w) ws v
    ∙ ap (λ o. placed_from (offset + words_of w) ws ++ record { name = v.name; offset = o; length = v.length } ∷ []) e)

module _ (messages : List NamedMessage) (declared : List VarDecl) where
  pub variables_none : (names : List (List ℕ)) (slots : List Slot) → names ≡ [] → slots ≡ [] → VariablesSoFar messages declared 0 names slots 0
  variables_none names slots no_names no_slots = record {
    named = no_names;
    count = ap length no_slots;
    placed = ap (λ ns. variables_with ns slots) no_names;
    total = refl;
    few = omega arith;
    clear = refl;
  }

  module _ (i : ℕ) (names : List (List ℕ)) (slots : List Slot) (words : ℕ) (so : VariablesSoFar messages declared i names slots words)
      (v : VarDecl) (l : i < length declared) (e : v ≡ get_or declared i v) where
    abbrev earlier : List VarDecl
    earlier = take i declared

    -- whether the name is there already, whether there are enough names, and whether there are too many words
    abbrev pub named_twice : Bool
    named_twice = is_among (map (λ (m : NamedMessage). m.name) messages) v.name || is_among (map (λ (w : VarDecl). w.name) earlier) v.name

    abbrev is_full : Bool
    is_full = nat_le 64 (length earlier)

    abbrev is_large : Bool
    is_large = nat_eq (words_of v) 0 || nat_lt 1024 (total_words (earlier ++ v ∷ []))

    abbrev first_two : List StaticError
    first_two = when named_twice (E.Twice (W.Named v.name) v.line) ++ when is_full (E.Limit L.Names v.line)

    -- a message or a variable has the name
    pub twice_by_message : (o : Option Entry) → option_map (λ (x : Entry). x.index) o ≡ index_named messages v.name → is_some o ≡ true
        → named_twice ≡ true
    twice_by_message o found there =
        ap (λ b. b || is_among (map (λ (w : VarDecl). w.name) earlier) v.name) (sym (message_among messages v.name o found) ∙ there)

    -- whether a variable before it has its name
    pub name_among : is_some (place_of names v.name) ≡ is_among (map (λ (w : VarDecl). w.name) earlier) v.name
    name_among = is_some-position (λ other. bytes_eq other v.name) names ∙ ap (λ ns. is_among ns v.name) so.named

    pub twice_by_variable : (new : Bool) → new ≡ not (is_some (place_of names v.name)) → new ≡ false → named_twice ≡ true
    twice_by_variable new added old =
        or_right (is_among (map (λ (m : NamedMessage). m.name) messages) v.name) (is_among (map (λ (w : VarDecl). w.name) earlier) v.name)
        (sym name_among ∙ is_old (is_some (place_of names v.name)) new added old)

    -- neither has it
    pub named_once : (o : Option Entry) → option_map (λ (x : Entry). x.index) o ≡ index_named messages v.name → is_some o ≡ false
        → (new : Bool) → new ≡ not (is_some (place_of names v.name)) → new ≡ true → named_twice ≡ false
    named_once o found none new added is =
        ap (λ b. b || is_among (map (λ (w : VarDecl). w.name) earlier) v.name) (sym (message_among messages v.name o found) ∙ none)
        ∙ sym name_among ∙ is_new (is_some (place_of names v.name)) new added is

    length_so_far : length earlier ≡ length slots
    length_so_far = length-take-le i declared (omega arith) ∙ sym so.count

    words_with : total_words (earlier ++ v ∷ []) ≡ words + words_of v
    words_with = sum_by_push words_of earlier v ∙ ap (λ n. n + words_of v) (sym so.total)

    large_is : is_large ≡ (nat_eq (words_of v) 0 || nat_lt 1024 (words + words_of v))
    large_is = ap (λ n. nat_eq (words_of v) 0 || nat_lt 1024 n) words_with

    stop : (error : StaticError) → IsFirst (judged messages earlier v) error → IsFirst (variables_faults messages declared) error
    stop error first = behind_stop (judged messages) declared i v l e so.clear error first

    first_of_one : (b : Bool) (error : StaticError) → b ≡ true → IsFirst (when b error) error
    first_of_one b error is = subst (λ fs. IsFirst fs error) (sym (when_fails b error is)) (first_here error [])

    pub stop_twice : named_twice ≡ true → IsFirst (variables_faults messages declared) (E.Twice (W.Named v.name) v.line)
    stop_twice is =
        stop (E.Twice (W.Named v.name) v.line)
        (first_left first_two (when is_large (E.Limit L.Words v.line)) (E.Twice (W.Named v.name) v.line)
        (first_left (when named_twice (E.Twice (W.Named v.name) v.line)) (when is_full (E.Limit L.Names v.line)) (E.Twice (W.Named v.name) v.line)
        (first_of_one named_twice (E.Twice (W.Named v.name) v.line) is)))

    module _ (once : named_twice ≡ false) where
      pub stop_full : 64 ≤ length slots → IsFirst (variables_faults messages declared) (E.Limit L.Names v.line)
      stop_full many =
          let is : is_full ≡ true = let n = length_so_far in grind (arith, nat_tests) in
          stop (E.Limit L.Names v.line)
          (first_left first_two (when is_large (E.Limit L.Words v.line)) (E.Limit L.Names v.line)
          (first_right (when named_twice (E.Twice (W.Named v.name) v.line)) (when is_full (E.Limit L.Names v.line)) (E.Limit L.Names v.line)
          (when_passes named_twice (E.Twice (W.Named v.name) v.line) once)
          (first_of_one is_full (E.Limit L.Names v.line) is)))

      module _ (room : length slots < 64) where
        two_passed : first_two ≡ []
        two_passed =
            let is : is_full ≡ false = let n = length_so_far in grind (arith, nat_tests) in
            none_joined (when named_twice (E.Twice (W.Named v.name) v.line)) (when is_full (E.Limit L.Names v.line))
            (when_passes named_twice (E.Twice (W.Named v.name) v.line) once)
            (when_passes is_full (E.Limit L.Names v.line) is)

        pub stop_large : (IsTrue (not (nat_eq (words_of v) 0 || nat_lt 1024 (words + words_of v))) → ⊥)
            → IsFirst (variables_faults messages declared) (E.Limit L.Words v.line)
        stop_large none =
            let is : is_large ≡ true = large_is ∙ by (nat_eq (words_of v) 0 || nat_lt 1024 (words + words_of v)) none in
            stop (E.Limit L.Words v.line)
            (first_right first_two (when is_large (E.Limit L.Words v.line)) (E.Limit L.Words v.line) two_passed
            (first_of_one is_large (E.Limit L.Words v.line) is))
          where
            by : (b : Bool) → (IsTrue (not b) → ⊥) → b ≡ true
            by true h = refl
            by false h = absurd (h refl)

        few_words : (end : ℕ) → end ≡ words + words_of v → nat_lt 1024 (words + words_of v) ≡ false → end ≤ 1024
        few_words end is small = grind (arith, nat_tests)

        one_more : take (i + 1) declared ≡ earlier ++ v ∷ []
        one_more = take_more declared i v l ∙ ap (λ y. earlier ++ y ∷ []) (sym e)

        pub variables_more : (slot : Slot) (end : ℕ) → slot ≡ record { offset = words; len = v.length } → end ≡ words + words_of v
            → IsTrue (not (nat_eq (words_of v) 0 || nat_lt 1024 (words + words_of v)))
            → VariablesSoFar messages declared (i + 1) (names ++ v.name ∷ []) (slots ++ slot ∷ []) end
        variables_more slot end is end_is fits =
            let even : length names ≡ length slots = ap length so.named ∙ length-map earlier (λ (w : VarDecl). w.name) ∙ length_so_far in
            let offset : words ≡ 0 + total_words earlier = omega (arith, so.total) in
            let small : nat_lt 1024 (words + words_of v) ≡ false =
            (or_parts (nat_eq (words_of v) 0) (nat_lt 1024 (words + words_of v)) (by (nat_eq (words_of v) 0 || nat_lt 1024 (words + words_of v)) fits)).1 in
            record {
              named = ap (λ ns. ns ++ v.name ∷ []) so.named ∙ sym (map_push (λ (w : VarDecl). w.name) earlier v)
                  ∙ ap (map (λ (w : VarDecl). w.name)) (sym one_more);
              count = length_push slots slot ∙ ap (λ n. n + 1) so.count;
              placed = with_more names slots v.name slot even
                  ∙ ap (λ vs. vs ++ variable_with v.name slot ∷ []) so.placed ∙ ap (λ s. placed_from 0 earlier ++ variable_with v.name s ∷ []) is
                  ∙ ap (λ o. placed_from 0 earlier ++ record { name = v.name; offset = o; length = v.length } ∷ []) offset
                  ∙ sym (placed_more 0 earlier v) ∙ ap (placed_from 0) (sym one_more);
              total = end_is ∙ sym words_with ∙ ap total_words (sym one_more);
              few = few_words end end_is small;
              clear = behind_more (judged messages) declared i v l e so.clear
                  (none_joined first_two (when is_large (E.Limit L.Words v.line)) two_passed
                  (when_passes is_large (E.Limit L.Words v.line) (large_is ∙ by (nat_eq (words_of v) 0 || nat_lt 1024 (words + words_of v)) fits)));
            }
          where
            by : (b : Bool) → IsTrue (not b) → b ≡ false
            by true h = absurd (true≢false (sym h))
            by false h = refl
