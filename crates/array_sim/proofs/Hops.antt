-- How many hops a message has, and lists of numbers one longer.
use Rattle.std.proofs.Common.{◌≡◌, ℕ, pred, ◌+◌, ◌*◌, ◌<◌, ◌≤◌, List, [], ◌∷◌, ◌++◌, length, get_or, map, All, refl, ap, subst, sym, ◌∙◌, append_assoc, arith}
use Rattle.std.specs.List.{flat_map}
use Rattle.std.proofs.lemmas.Bool.Decides.{Decides-eqb}
use Rattle.std.proofs.lemmas.List.{flat_map_more, get_or_read, map-id}
use Rattle.std.proofs.lemmas.List.Elements.{All-contains, All-from_get_or}
use Rattle.std.proofs.lemmas.List.FromFn.{map-range_with_len_more}
use Rattle.std.proofs.lemmas.Map.Made.{IsDistinct-from_AllPairs}
use Rattle.std.proofs.lemmas.Map.Steps.{length-le_from_distinct_below}
use Rattle.std.proofs.lemmas.Map.Views.{Contains-from_any}
use Rattle.sys_base.specs.Groups.{below}
use Rattle.sys_base.specs.Paths.{Differ}
use Rattle.sys_base.specs.declared.actor.Actor.{Actor}
use Rattle.sys_base.specs.declared.actor.Actor.TheVariants.{Forward}
use Rattle.cell_code.specs.Images.{IsShaped}
use Rattle.cell_code.specs.Marks.{hops, message_of, no_message}
use Rattle.cell_code.specs.declared.image.Image.{Image}
use Rattle.cell_code.specs.declared.image.MessageImage.{MessageImage}
use Rattle.array_model.specs.States.{cells}
use Rattle.array_model.proofs.Links.{linked, shaped_message}

-- different numbers below a bound are at most so many
most_links : (links : List ℕ) (n : ℕ) → Differ links → All (λ l. l < n) links → length links ≤ n
most_links links n a below =
    length-le_from_distinct_below links n (IsDistinct-from_AllPairs Decides-eqb links a)
    (λ q h. All-contains (λ l. l < n) links q below (Contains-from_any (λ x y. (Decides-eqb x y).0) q links h))

pub few_hops : (image : Image) (m : ℕ) → IsShaped image → m < length image.messages → hops image m ≤ 4 * cells image
few_hops image m shaped k =
    most_links (message_of image m).route (4 * cells image) (shaped_message image shaped m k).path.differ
    (All-from_get_or (λ l. l < 4 * cells image) (message_of image m).route 0 (λ i j. linked image shaped m i k j))

pub below_more : (n j : ℕ) → j ≡ n → below (n + 1) ≡ below n ++ j ∷ []
below_more n j e =
    sym (map-id (below (n + 1))) ∙ map-range_with_len_more (λ x. x) 0 n j (omega (arith, e))
    ∙ subst (λ xs. xs ++ j ∷ [] ≡ below n ++ j ∷ []) (sym (map-id (below n))) refl

-- ---- lists of actors

-- one actor more, made of the next number
pub one_more : (f : ℕ → Actor) (start items new : List Actor) (n : ℕ) (x : Actor) → items ≡ start ++ map f (below n)
    → new ≡ items ++ x ∷ [] → x ≡ f n → new ≡ start ++ map f (below (n + 1))
one_more f start items new n x before after is =
    after ∙ ap (λ xs. xs ++ x ∷ []) before ∙ append_assoc start (map f (below n)) (x ∷ [])
    ∙ ap (λ y. start ++ (map f (below n) ++ y ∷ [])) is
    ∙ sym (ap (λ xs. start ++ xs) (map-range_with_len_more f 0 n n (omega arith)))

-- the forwards of a message
abbrev pub forwards : Image → ℕ → List Actor
forwards image m = map (Forward m) (below (pred (hops image m)))

-- those of one message more
pub forwards_more : (image : Image) (start items new : List Actor) (n count : ℕ)
    → items ≡ start ++ flat_map (forwards image) (below n)
    → new ≡ items ++ map (Forward n) (below count) → count ≡ pred (hops image n)
    → new ≡ start ++ flat_map (forwards image) (below (n + 1))
forwards_more image start items new n count before after is =
    after ∙ ap (λ xs. xs ++ map (Forward n) (below count)) before
    ∙ ap (λ k. (start ++ flat_map (forwards image) (below n)) ++ map (Forward n) (below k)) is
    ∙ flat_map_more (forwards image) start (below n) n
    ∙ ap (λ xs. start ++ flat_map (forwards image) xs) (sym (below_more n n refl))

-- a message of the image has as many hops as its route has links
pub item_hops : (image : Image) (messages : List MessageImage) (m count : ℕ) (item : MessageImage)
    → messages ≡ image.messages
    → m < length messages → item ≡ get_or messages m item → count ≡ length item.route
    → (m < length image.messages) × (count ≡ hops image m)
item_hops image messages m count item same k is long = (
  subst (λ xs. m < length xs) same k,
  long ∙ ap (λ (x : MessageImage). length x.route) (get_or_read messages m item k is no_message)
      ∙ ap (λ xs. length (get_or xs m no_message).route) same,
)
