-- The image of a sound program whose arms communicate alike is listed.
use Rattle.std.proofs.Common.{◌≡◌, ◌≢◌, ℕ, ◌+◌, ◌*◌, Bool, true, cond, nat_lt, List, [], ◌∷◌, Some, map, filter, length, get_or, slice_get, slice_index, IsSomeAnd, IsTrue, All, refl, sym, ap, subst, ◌∙◌, arith, true≢false, inl, inr}
use Rattle.std.proofs.lemmas.Bool.{cases_Bool}
use Rattle.std.proofs.lemmas.List.Elements.{All-cons, All-filter, All-head, All-map, All-nil, All-tail, All-weaker, filter_passes}
use Rattle.std.proofs.lemmas.List.FromFn.{get_or-range_with_len, length-range_with_len}
use Rattle.std.proofs.lemmas.List.Kept.{IsStrictlyIncreasing-filter}
use Rattle.std.proofs.lemmas.Option.{slice_get-get_or}
use Rattle.std.specs.List.Sorted.{IsStrictlyIncreasing}
use Rattle.sys_base.specs.Grid.{cell_count}
use Rattle.sys_base.specs.Groups.{greatest, groups, is_one_of, labelled, rising, users}
use Rattle.cell_code.specs.Images.{IsListed, grouped_links}
use Rattle.cell_code.specs.ShapedCells.{EndsInHalt, IsShapedCell}
use Rattle.cell_code.specs.declared.image.CellImage.{CellImage}
use Rattle.cell_code.specs.declared.image.Group.{Group}
use Rattle.cell_code.specs.declared.image.LinkImage.{LinkImage}
use Rattle.cell_code.specs.declared.image.MessageImage.{MessageImage}
use Rattle.cell_types.specs.Alike.{Alike}
use Rattle.cell_types.specs.Code.{ProgramCode}
use Rattle.cell_types.specs.Groups.{below}
use Rattle.cell_types.specs.Sound.{IsSound, IsSoundMessage}
use Rattle.cell_types.specs.declared.program.Message.{Message}
use Rattle.program_image.specs.ImageOf.{cell_of, group_image, image_of, link_image, message_image, messages_from, messages_of}
use Rattle.program_image.proofs.Layers.{CellsAreShaped, GroupsAreFilled}
use Rattle.program_image.proofs.Messages.{many}
use Rattle.program_image.proofs.Shaped.{cells_long, shapes, small_buffer}

-- ---- lists

-- the numbers below one rise
below_rises : (n : ℕ) → IsStrictlyIncreasing (below n)
below_rises n = λ k l.
    let long = length-range_with_len 0 n in
    let here = get_or-range_with_len 0 n k 0 (omega (arith, long)) in
    let next = get_or-range_with_len 0 n (k + 1) 0 (omega (arith, long)) in
    omega (arith, here, next)

-- the labels of groups
labels_of : (gs : List (ℕ × List ℕ)) → map (λ (g : Group). g.label) (map group_image gs) ≡ map (λ (g : ℕ × List ℕ). g.0) gs
labels_of [] = refl
labels_of (g ∷ gs) = ap (λ r. g.0 ∷ r) (labels_of gs)

firsts : (of : ℕ → List ℕ) (ls : List ℕ) → map (λ (g : ℕ × List ℕ). g.0) (map (λ label. (label, of label)) ls) ≡ ls
firsts of [] = refl
firsts of (l ∷ ls) = ap (λ r. l ∷ r) (firsts of ls)

-- a test of each number and its groups
abbrev pub is_grouped : ℕ × List (ℕ × List ℕ) → Bool
is_grouped link = nat_lt 0 (length link.1)

some_groups : (gs : List (ℕ × List ℕ)) → nat_lt 0 (length gs) ≡ true → map group_image gs ≢ []
some_groups [] t e = absurd (true≢false (sym t))
some_groups (g ∷ gs) t e = absurd (cc)

-- the ids of the links that are kept
ids : (program : ProgramCode) (f : ℕ → List (ℕ × List ℕ)) (xs : List ℕ)
    → map (λ (l : LinkImage). l.link) (map (link_image program) (filter is_grouped (map (λ k. (k, f k)) xs)))
    ≡ filter (λ k. nat_lt 0 (length (f k))) xs
ids program f [] = refl
ids program f (x ∷ xs) =
    let rest = filter is_grouped (map (λ k. (k, f k)) xs) in
    let ids_of : Bool → List ℕ =
    λ b. map (λ (l : LinkImage). l.link) (map (link_image program) (cond b ((x, f x) ∷ rest) rest)) in
    let kept : Bool → List ℕ =
    λ b. cond b (x ∷ filter (λ k. nat_lt 0 (length (f k))) xs) (filter (λ k. nat_lt 0 (length (f k))) xs) in
    elim (cases_Bool (nat_lt 0 (length (f x)))) [
      | inl t ↦ ap ids_of t ∙ ap (λ r. x ∷ r) (ids program f xs) ∙ sym (ap kept t)
      | inr t ↦ ap ids_of t ∙ ids program f xs ∙ sym (ap kept t)
    ]

-- ---- the image

-- the groups of a link by its id
abbrev pub of_link : ProgramCode → List ℕ → ℕ → List (ℕ × List ℕ)
of_link program labels link =
    groups (map (λ (m : MessageImage). m.route) (messages_of program labels))
    (map (λ (m : MessageImage). m.label) (messages_of program labels))
    (map (λ (m : MessageImage). m.length) (messages_of program labels)) link

module _ (program : ProgramCode) (labels : List ℕ) (sound : IsSound program) where
  routes_from : (i : ℕ) (ms : List Message) → All (IsSoundMessage program.grid) ms
      → All (λ (m : MessageImage). m.route ≢ []) (messages_from program labels i ms)
  routes_from i [] all = All-nil (λ (m : MessageImage). m.route ≢ [])
  routes_from i (m ∷ ms) all =
      let s = All-head (IsSoundMessage program.grid) m ms all in
      let some : m.route ≢ [] = λ e. let l = s.some in let z : length m.route ≡ 0 = ap length e in omega (arith, l, z) in
      All-cons (λ (m : MessageImage). m.route ≢ []) (message_image program labels i m)
      (messages_from program labels (i + 1) ms) some
      (routes_from (i + 1) ms (All-tail (IsSoundMessage program.grid) m ms all))

  abbrev all_links : List ℕ
  all_links = below (4 * cell_count program.grid)

  -- what holds of all groups of each link holds of the links of the image
  on_links : (P : LinkImage → Type 0) → ((l : ℕ) → P (link_image program (l, of_link program labels l)))
      → All P (map (link_image program) (grouped_links program.grid (messages_of program labels)))
  on_links P h =
      All-map P (link_image program) (grouped_links program.grid (messages_of program labels))
      (All-filter is_grouped (λ l. P (link_image program l)) (map (λ l. (l, of_link program labels l)) all_links)
      (All-map (λ l. P (link_image program l)) (λ l. (l, of_link program labels l)) all_links (λ k d l. h (get_or all_links k d))))

  labels_rise : (l : ℕ) → IsStrictlyIncreasing (map (λ (g : Group). g.label) (map group_image (of_link program labels l)))
  labels_rise l =
      let routes = map (λ (m : MessageImage). m.route) (messages_of program labels) in
      let its = map (λ (m : MessageImage). m.label) (messages_of program labels) in
      let lengths = map (λ (m : MessageImage). m.length) (messages_of program labels) in
      let members = users routes lengths l in
      let numbers = map (slice_index its) members in
      subst IsStrictlyIncreasing (sym (labels_of (of_link program labels l) ∙ firsts (labelled its members) (rising numbers)))
      (IsStrictlyIncreasing-filter (is_one_of numbers) (below (1 + greatest numbers)) (below_rises (1 + greatest numbers)))

  module _ (filled : GroupsAreFilled) where
    some_member : (xs : List ℕ) (m : ℕ) → IsTrue (is_one_of xs m) → xs ≢ []
    some_member [] m h e = absurd (true≢false (sym h))
    some_member (x ∷ xs) m h e = absurd (cc)

    members : (l : ℕ) → All (λ (g : Group). g.members ≢ []) (map group_image (of_link program labels l))
    members l =
        All-map (λ (g : Group). g.members ≢ []) group_image (of_link program labels l) (λ k d inside.
        let one = filled (map (λ (m : MessageImage). m.route) (messages_of program labels))
        (map (λ (m : MessageImage). m.label) (messages_of program labels))
        (map (λ (m : MessageImage). m.length) (messages_of program labels)) l k inside in
        let at : slice_get (of_link program labels l) k ≡ Some (get_or (of_link program labels l) k d) = slice_get-get_or (of_link program labels l) k d inside in
        some_member (get_or (of_link program labels l) k d).1 one.0
        (subst (λ o. IsSomeAnd o (λ (g : ℕ × List ℕ). IsTrue (is_one_of g.1 one.0))) at one.1))

    pub image_listed : Alike program → CellsAreShaped → IsListed (image_of program labels)
    image_listed alike cells =
        record {
          buffer = small_buffer program labels sound;
          messages = omega (arith, many program labels, sound.few);
          routes = routes_from 0 program.messages sound.messages;
          links_rise = subst IsStrictlyIncreasing (sym (ids program (of_link program labels) all_links))
              (IsStrictlyIncreasing-filter (λ k. nat_lt 0 (length (of_link program labels k))) all_links
              (below_rises (4 * cell_count program.grid)));
          groups = All-map (λ (l : LinkImage). l.groups ≢ []) (link_image program)
              (grouped_links program.grid (messages_of program labels))
              (All-weaker (λ l. is_grouped l ≡ true) (λ l. map group_image l.1 ≢ []) (λ l t. some_groups l.1 t)
              (grouped_links program.grid (messages_of program labels))
              (filter_passes is_grouped (map (λ l. (l, of_link program labels l)) all_links)));
          labels_rise = on_links (λ l. IsStrictlyIncreasing (map (λ (g : Group). g.label) l.groups)) labels_rise;
          members = on_links (λ l. All (λ (g : Group). g.members ≢ []) l.groups) members;
          cells = cells_long program labels sound;
          codes = All-weaker IsShapedCell (λ (c : CellImage). EndsInHalt c.code) (λ c s. s.ends)
              (map (cell_of program) (below (length program.cells))) (shapes program labels sound alike cells);
        }
