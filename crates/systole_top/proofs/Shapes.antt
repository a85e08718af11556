-- What the words of a command line give.
use Rattle.std.proofs.Common.{◌≡◌, ℕ, ◌<◌, ◌≤◌, Bool, true, false, ◌&&◌, if◌then◌else◌, List, [], ◌∷◌, length, nat_le, nat_lt, codes, decimal, bytes_eq, Option, None, Some, IfSome, refl, arith}
use Rattle.std.specs.Bool.{⊤}
use Rattle.std.proofs.lemmas.Bool.{leb-true}
use Rattle.std.specs.Option.{option_and_then, option_map, option_or}
use Rattle.std.specs.Str.Parse.{digits_value}
use Rattle.systole_top.specs.Shape.{Shape, Check, Explain, Compile, Need, Mean, Run, shape}
use Rattle.systole_top.specs.Shape.{Chosen, chosen_of, file_shape, files_shape, long_shape, number_in, run_shape, recorded_in, schedule_shape, short_shape}
use Rattle.systole_top.specs.declared.request.TheConstants.{CAPACITY}

-- A run that is asked for has a capacity of at least one word.
abbrev pub HasCapacity : Option Shape → Type 0
HasCapacity None = ⊤
HasCapacity (Some (Check file)) = ⊤
HasCapacity (Some (Explain file)) = ⊤
HasCapacity (Some (Compile file)) = ⊤
HasCapacity (Some (Need file)) = ⊤
HasCapacity (Some (Mean file input)) = ⊤
HasCapacity (Some (Run words)) = 1 ≤ words.capacity

-- ---- the words have such a shape

unless : (b : Bool) (x y : Option Shape) → HasCapacity x → HasCapacity y → HasCapacity (if b then x else y)
unless true x y on off = on
unless false x y on off = off

guarded : (spelled above below : Bool) (n : ℕ) (P : ℕ → Type 0) → (above ≡ true → P n) → IfSome (if spelled && above && below then Some n else None) P
guarded true true true n P holds = holds refl
guarded true true false n P holds = tt
guarded true false below n P holds = tt
guarded false above below n P holds = tt

with_capacity : (file input : List ℕ) (recorded : Bool) (chosen : Option Chosen) (o : Option ℕ) → IfSome o (λ n. 1 ≤ n)
    → HasCapacity (option_and_then (λ cap. option_map (λ c.
    Run (record { file = file; input = input; capacity = cap; chosen = c; recorded = recorded })) chosen) o)
with_capacity file input recorded chosen None some = tt
with_capacity file input recorded None (Some n) some = tt
with_capacity file input recorded (Some c) (Some n) some = some

run_capacity : (file input capacity schedule : List ℕ) (recorded : Bool) → HasCapacity (run_shape file input capacity schedule recorded)
run_capacity file input capacity schedule recorded =
    let n = digits_value 10 capacity in
    unless (nat_lt 0 (length file) && nat_lt 0 (length input)) _ None
    (with_capacity file input recorded (chosen_of schedule) (number_in 1 CAPACITY capacity)
    (guarded (bytes_eq (decimal n) capacity) (nat_le 1 n) (nat_le n CAPACITY) n (λ k. 1 ≤ k) (λ above. leb-true 1 n above))) tt

file_capacity : (command file : List ℕ) → HasCapacity (file_shape command file)
file_capacity command file =
    unless (bytes_eq command (codes "check")) (Some (Check file)) _ tt
    (unless (bytes_eq command (codes "explain")) (Some (Explain file)) _ tt
    (unless (bytes_eq command (codes "compile")) (Some (Compile file)) _ tt
    (unless (bytes_eq command (codes "need")) (Some (Need file)) None tt tt)))

schedule_capacity : (command file input capacity schedule : List ℕ) (recorded : Bool)
    → HasCapacity (schedule_shape command file input capacity schedule recorded)
schedule_capacity command file input capacity schedule recorded =
    unless (bytes_eq command (codes "run")) (run_shape file input capacity schedule recorded) None
    (run_capacity file input capacity schedule recorded) tt

short_capacity : (words : List (List ℕ)) → HasCapacity (short_shape words)
short_capacity [] = tt
short_capacity (command ∷ []) = tt
short_capacity (command ∷ file ∷ []) = unless (nat_lt 0 (length file)) (file_shape command file) None (file_capacity command file) tt
short_capacity (command ∷ file ∷ input ∷ []) =
    unless (nat_lt 0 (length file)) _ None
    (unless (nat_lt 0 (length input)) (files_shape command file input) None
    (unless (bytes_eq command (codes "mean")) (Some (Mean file input)) None tt tt) tt) tt
short_capacity (command ∷ file ∷ input ∷ other ∷ rest) = tt

with_record : (command file input capacity schedule : List ℕ) (o : Option Bool)
    → HasCapacity (option_and_then (schedule_shape command file input capacity schedule) o)
with_record command file input capacity schedule None = tt
with_record command file input capacity schedule (Some recorded) = schedule_capacity command file input capacity schedule recorded

long_capacity : (words : List (List ℕ)) → HasCapacity (long_shape words)
long_capacity [] = tt
long_capacity (command ∷ []) = tt
long_capacity (command ∷ file ∷ []) = tt
long_capacity (command ∷ file ∷ input ∷ []) = tt
long_capacity (command ∷ file ∷ input ∷ capacity ∷ []) = tt
long_capacity (command ∷ file ∷ input ∷ capacity ∷ schedule ∷ rest) = with_record command file input capacity schedule (recorded_in rest)

either : (x y : Option Shape) → HasCapacity x → HasCapacity y → HasCapacity (option_or x y)
either None y hx hy = hy
either (Some s) y hx hy = hx

pub has_capacity : (words : List (List ℕ)) → HasCapacity (shape words)
has_capacity words = either (short_shape words) (long_shape words) (short_capacity words) (long_capacity words)

-- ---- words of other lengths

-- fewer than five
pub few_words : (words : List (List ℕ)) → length words < 5 → None ≡ long_shape words
few_words [] few = refl
few_words (command ∷ []) few = refl
few_words (command ∷ file ∷ []) few = refl
few_words (command ∷ file ∷ input ∷ []) few = refl
few_words (command ∷ file ∷ input ∷ capacity ∷ []) few = refl
few_words (command ∷ file ∷ input ∷ capacity ∷ schedule ∷ rest) few = absurd (omega (arith, few))

-- two or more after the schedule
pub more_words : (words : List (List ℕ)) → 2 ≤ length words → None ≡ recorded_in words
more_words [] more = absurd (omega (arith, more))
more_words (last ∷ []) more = absurd (omega (arith, more))
more_words (last ∷ other ∷ rest) more = refl
