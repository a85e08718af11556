-- What is known of the messages and groups of a shaped image.
use Rattle.std.proofs.Common.{◌≡◌, ℕ, suc, ◌*◌, ◌<◌, ◌≤◌, true, cond, nat_eq, List, [], ◌∷◌, length, count_by, refl, ap, ◌∙◌, arith}
use Rattle.std.specs.List.{concat}
use Rattle.sys_base.specs.Grid.{cell_count}
use Rattle.sys_base.specs.Groups.{is_one_of}
use Rattle.array_runs.proofs.Routes.{once}
use Rattle.array_runs.specs.Frame as F
use Rattle.link_queues.proofs.Groups as G
use Rattle.cell_code.specs.Images.{IsShaped, IsShapedMessage}
use Rattle.cell_code.specs.Marks.{groups_of, hop_on, hops, link_at, message_of, no_message, place_of}
use Rattle.cell_code.specs.declared.image.Image.{Image}
use Rattle.link_queues.specs.Keeping.{IsHop}

place_same : (x : ℕ) (xs : List ℕ) → place_of x xs ≡ F.place_of x xs
place_same x [] = refl
place_same x (y ∷ ys) = ap (λ n. cond (nat_eq x y) 0 (suc n)) (place_same x ys)

module _ (image : Image) (shaped : IsShaped image) where
  shaped_message : (m : ℕ) → m < length image.messages → IsShapedMessage image.grid (message_of image m)
  shaped_message m l = shaped.messages m no_message l

  -- a message has a hop
  pub reaches : (m : ℕ) → m < length image.messages → 0 < hops image m
  reaches m l = G.reaches image shaped m l

  -- a hop goes by a link of the grid
  pub linked : (m hop : ℕ) → IsHop image m hop → link_at image m hop < 4 * cell_count image.grid
  linked m hop h = G.linked image shaped m hop h.0 h.1

  -- a message goes by a link at one hop
  pub same_hop : (m hop : ℕ) → IsHop image m hop → hop_on image (link_at image m hop) m ≡ hop
  same_hop m hop h =
      place_same (link_at image m hop) (message_of image m).route
      ∙ once (message_of image m).route hop (shaped_message m h.0).path.differ h.1

  -- a member of a group of a link has words, and goes by the link
  pub member : (l m : ℕ) → is_one_of (concat (groups_of image l)) m ≡ true
      → IsHop image m (hop_on image l m)
      × ((link_at image m (hop_on image l m) ≡ l) × (0 < (message_of image m).length))
  member l m t =
      let known = (G.grouped image shaped).member l m t in
      let place : hop_on image l m ≡ F.place_of l (message_of image m).route = place_same l (message_of image m).route in
      let inside : hop_on image l m < hops image m = omega (arith, place, known.1.1.0) in
      ((known.0, inside), (ap (link_at image m) place ∙ known.1.1.1, known.1.0))

  -- no message is twice in the groups of a link
  pub one_group : (l m : ℕ) → count_by (nat_eq m) (concat (groups_of image l)) ≤ 1
  one_group l m = G.one_group image shaped l m

  -- past the last link there is no group
  pub no_groups : (l : ℕ) → 4 * cell_count image.grid ≤ l → groups_of image l ≡ []
  no_groups l h = G.none_past image shaped l h
