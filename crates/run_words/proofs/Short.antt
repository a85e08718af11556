-- The numbers of the actors of a run are at most 65535.
use Rattle.std.proofs.Common.{◌≡◌, ◌↔◌, ℕ, pred, ◌*◌, ◌<◌, ◌≤◌, true, List, [], ◌∷◌, Some}
use Rattle.std.proofs.Common.{length, map, Contains, ap, arith, All}
use Rattle.std.proofs.Math.Nat.{mul-le-mul}
use Rattle.std.proofs.lemmas.List.Elements.{All-append, All-cons, All-contains, All-filter}
use Rattle.std.proofs.lemmas.List.Elements.{All-head, All-map, All-tail}
use Rattle.std.proofs.lemmas.List.FromFn.{get_or-range_with_len, length-range_with_len}
use Rattle.std.proofs.lemmas.Option.{option_and_then_some}
use Rattle.std.specs.List.{flat_map}
use Rattle.std.specs.Option.{is_some}
use Rattle.sys_base.specs.Grid.{Extent, IsExtent, cell_count}
use Rattle.sys_base.specs.Groups.{below}
use Rattle.sys_base.specs.declared.actor.Actor.{Actor}
use Rattle.sys_base.specs.declared.actor.Actor.TheVariants.{Cell, Forward, Bind}
use Rattle.routes.specs.Walks.{IsPath}
use Rattle.cell_code.specs.Images.{IsShaped, IsShapedMessage}
use Rattle.cell_code.specs.Marks.{hops, message_of, no_message}
use Rattle.cell_code.specs.declared.image.Image.{Image}
use Rattle.array_model.specs.Runs.{after}
use Rattle.array_model.specs.States.{ArrayState, Inputs, cells}
use Rattle.array_model.specs.Steps.{actors, enabled, is_enabled, step}
use Rattle.schedules.specs.Entries.{IsShort}

few_cells : (g : Extent) → IsExtent g → cell_count g ≤ 256
few_cells g is = mul-le-mul is.most_rows is.most_cols

all_below : (n : ℕ) → All (λ k. k < n) (below n)
all_below n k d inside =
    let small : k < n = omega (arith, inside, length-range_with_len 0 n) in
    omega (arith, small, get_or-range_with_len 0 n k d small)

-- what is made of the numbers below a bound
all_made : (P : Actor → Type 0) (f : ℕ → Actor) (n : ℕ) → ((k : ℕ) → k < n → P (f k)) → All P (map f (below n))
all_made P f n each = All-map P f (below n) (λ k d inside. each _ (all_below n k d inside))

all_joined : (P : Actor → Type 0) (f : ℕ → List Actor) (list : List ℕ) → All (λ k. All P (f k)) list
    → All P (flat_map f list)
all_joined P f [] each = λ k d inside. absurd (omega (arith, inside))
all_joined P f (n ∷ list) each =
    All-append P (f n) (flat_map f list) (All-head (λ k. All P (f k)) n list each)
    (all_joined P f list (All-tail (λ k. All P (f k)) n list each))

-- from what is known of the enabled actors, and of paths
module _ (image : Image) (inputs : Inputs) (cap : ℕ) (shaped : IsShaped image) (extent : IsExtent image.grid)
    (listed : (s : ArrayState) (a : Actor)
    → ((is_enabled image inputs cap s a ≡ true) ↔ Contains (enabled image inputs cap s) a))
    (most : (from to : ℕ) (links : List ℕ) → from < cells image → IsPath image.grid from links to
    → length links ≤ 4 * cells image) where
  few_hops : (m : ℕ) → m < length image.messages → hops image m ≤ 4 * cells image
  few_hops m inside =
      let one : IsShapedMessage image.grid (message_of image m) = shaped.messages m no_message inside in
      most (message_of image m).from (message_of image m).to (message_of image m).route one.from one.path

  short_forwards : (m : ℕ) → m < length image.messages
      → All IsShort (map (Forward m) (below (pred (hops image m))))
  short_forwards m inside =
      all_made IsShort (Forward m) (pred (hops image m)) (λ hop small. (
        omega (arith, inside, shaped.most_messages),
        omega (arith, small, few_hops m inside, few_cells image.grid extent),
      ))

  forwards : List Actor
  forwards = flat_map (λ m. map (Forward m) (below (pred (hops image m)))) (below (length image.messages))

  short_actors : All IsShort (actors image)
  unfolding forwards
  short_actors =
      All-append IsShort (map Cell (below (cells image))) _
      (all_made IsShort Cell (cells image) (λ k small. omega (arith, small, few_cells image.grid extent)))
      (All-append IsShort forwards _
      (all_joined IsShort (λ m. map (Forward m) (below (pred (hops image m)))) (below (length image.messages))
      (λ k d inside. short_forwards _ (all_below (length image.messages) k d inside)))
      (all_made IsShort Bind (4 * cells image) (λ k small. omega (arith, small, few_cells image.grid extent))))

  short_step : (s : ArrayState) (a : Actor) (next : ArrayState) → step image inputs cap s a ≡ Some next → IsShort a
  short_step s a next moves =
      All-contains IsShort (enabled image inputs cap s) a
      (All-filter (is_enabled image inputs cap s) IsShort (actors image) short_actors)
      ((listed s a).0 (ap is_some moves))

  pub short_run : (s : ArrayState) (run : List Actor) (last : ArrayState) → after image inputs cap s run ≡ Some last
      → All IsShort run
  short_run s [] last e = λ k d inside. absurd (omega (arith, inside))
  short_run s (a ∷ rest) last e =
      option_and_then_some (λ t. after image inputs cap t rest) (step image inputs cap s a) last e
      (λ next moves goes. All-cons IsShort a rest (short_step s a next moves) (short_run next rest last goes))
