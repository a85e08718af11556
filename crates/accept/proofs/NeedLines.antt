-- The lines of the links of a program, and what is answered for a text.
use Rattle.std.proofs.Common.{◌≡◌, ℕ, zero, suc, ◌+◌, ◌*◌, ◌<◌, Bool, true, false, cond, is_some, List, [], ◌∷◌, ◌++◌, Option, None, Some, filter, length, map, slice_get, slice_index, take, refl, ap, ap₂, subst, ◌∙◌, arith}
use Rattle.std.proofs.lemmas.List.{map-append, take_all}
use Rattle.std.proofs.lemmas.List.Elements.{filter_more}
use Rattle.std.proofs.lemmas.List.FromFn.{get_or-range_with_len, length-range_with_len}
use Rattle.std.specs.List.{range_with_len}
use Rattle.std.specs.Option.{option_map}
use Rattle.sys_base.specs.Grid.{cell_count}
use Rattle.sys_base.specs.Names.{link_name}
use Rattle.cell_types.specs.Code.{ProgramCode}
use Rattle.cell_types.specs.Groups.{greatest, groups_on, lengths_of, link_ids}
use Rattle.queue_plan.specs.Grouping.{all_groups, groups_at}
use Rattle.accept.specs.FirstRefusal.{IsFirstOf, PassesAll, cell_trials, naming_trials, of_source, text_trials, then_}
use Rattle.accept.specs.Labelled.{AreLabels}
use Rattle.accept.specs.Needs.{AreNeeds, HasNoNeeds, has_group, line_of, lines_of}
use Rattle.accept.specs.bodies.Answers.{IsFound, IsProgramOf, IsUnread}
use Rattle.accept.specs.bodies.Laws.{Laws}
use Rattle.accept.specs.bodies.Needing.{has_at, lines_below, need_at}
use Rattle.accept.specs.declared.building.AcceptError.{AcceptError}
use Rattle.accept.specs.declared.building.AcceptError.TheVariants as A
use Rattle.accept.specs.declared.needing.NeedLine.{NeedLine}
use Rattle.accept.proofs.FirstLack.{at_link}
use Rattle.accept.proofs.Refused.{first_of_text, passes_of_text}
use Rattle.accept.proofs.Trials.{first_then, then_passes}

-- ---- one link after another

module _ (p : ProgramCode) (links : List (List (ℕ × List ℕ))) (k : ℕ) (within : k < 4 * cell_count p.grid) where
  -- one more link
  one_more : (b : Bool) → has_at links k ≡ b
      → lines_below p links (k + 1) ≡ lines_below p links k ++ map (need_at p links) (cond b (k ∷ []) [])
  one_more b is =
      let at : slice_index (link_ids p) k ≡ k = omega (arith, get_or-range_with_len 0 (4 * cell_count p.grid) k 0 within) in
      let more = filter_more (has_at links) (link_ids p) k 0 (omega (arith, within, length-range_with_len 0 (4 * cell_count p.grid))) in
      let same = ap (λ n. cond (has_at links n) (n ∷ []) []) at ∙ ap (λ t. cond t (k ∷ []) []) is in
      ap (map (need_at p links)) (more ∙ ap (λ xs. filter (has_at links) (take k (link_ids p)) ++ xs) same)
      ∙ map-append (need_at p links) (filter (has_at links) (take k (link_ids p))) (cond b (k ∷ []) [])

  -- a link with a group has a line
  pub with_group : has_at links k ≡ true → lines_below p links (k + 1) ≡ lines_below p links k ++ need_at p links k ∷ []
  with_group is = one_more true is

  -- another one has none
  pub without_group : has_at links k ≡ false → lines_below p links (k + 1) ≡ lines_below p links k
  without_group is = one_more false is ∙ append_none (lines_below p links k)
    where
      append_none : (xs : List NeedLine) → xs ++ [] ≡ xs
      append_none [] = refl
      append_none (x ∷ xs) = ap (λ ys. x ∷ ys) (append_none xs)

-- ---- all links

-- what passes two tests that are the same, by two rules that are the same
picked : {X : Type 0} (f e : ℕ → X) (b c : Bool) (n : ℕ) (xs ys : List ℕ) → b ≡ c → f n ≡ e n → map f xs ≡ map e ys
    → map f (cond b (n ∷ xs) xs) ≡ map e (cond c (n ∷ ys) ys)
picked f e true true n xs ys same here rest = ap₂ (λ y ys. y ∷ ys) here rest
picked f e false false n xs ys same here rest = rest
picked f e true false n xs ys same here rest = absurd (cc same)
picked f e false true n xs ys same here rest = absurd (cc same)

same_over : {X : Type 0} (h g : ℕ → Bool) (f e : ℕ → X) (a n : ℕ)
    → ((k : ℕ) → k < a + n → (h k ≡ g k) × (f k ≡ e k))
    → map f (filter h (range_with_len a n)) ≡ map e (filter g (range_with_len a n))
same_over h g f e a zero same = refl
same_over h g f e a (suc n) same =
    picked f e (h a) (g a) a (filter h (range_with_len (a + 1) n)) (filter g (range_with_len (a + 1) n))
    (same a (omega arith)).0 (same a (omega arith)).1
    (same_over h g f e (a + 1) n (λ k l. same k (omega arith)))

-- a value is there where its image is
some_image : (o : Option (ℕ × List ℕ)) → is_some (option_map (λ (g : ℕ × List ℕ). g.0) o) ≡ is_some o
some_image None = refl
some_image (Some g) = refl

-- the line of a link with a need
abbrev with_need : ProgramCode → ℕ → ℕ → NeedLine
with_need p link need =
    record {
      row = (link_name p.grid.cols link).cell.row;
      col = (link_name p.grid.cols link).cell.col;
      dir = (link_name p.grid.cols link).dir;
      need = need;
      has = slice_index p.queues link;
    }

-- the lines of all links are those of the program
pub all_lines : (p : ProgramCode) (labels : List ℕ) (links : List (List (ℕ × List ℕ))) (n : ℕ)
    → links ≡ all_groups p labels (lengths_of p) → n ≡ 4 * cell_count p.grid → lines_below p links n ≡ lines_of p labels
all_lines p labels links n is all =
    let there : (k : ℕ) → k < 0 + 4 * cell_count p.grid → groups_at links k ≡ groups_on p labels k =
    λ k l. ap (λ gs. groups_at gs k) is ∙ at_link p labels k (omega arith) in
    ap (λ ids. map (need_at p links) (filter (has_at links) ids))
    (take_all n (link_ids p) (omega (arith, all, length-range_with_len 0 (4 * cell_count p.grid))))
    ∙ same_over (has_at links) (has_group p labels) (need_at p links) (line_of p labels) 0 (4 * cell_count p.grid)
    (λ k l. (
      ap (λ gs. is_some (option_map (λ (g : ℕ × List ℕ). g.0) (slice_get gs 0))) (there k l)
          ∙ some_image (slice_get (groups_on p labels k) 0),
      ap
          (λ gs. with_need p k (greatest (map (λ (g : ℕ × List ℕ). length g.1) gs)))
          (there k l),
    ))

-- ---- the answer for a text

-- what is refused of the text and of its source
pub unread_need : (text : List ℕ) (e : AcceptError) → IsUnread text e → HasNoNeeds text e
unread_need text (A.Refused r) h = first_then text_trials (of_source (then_ cell_trials naming_trials)) text r h
unread_need text A.Memory h = tt

module _ (laws : Laws) (text : List ℕ) (p : ProgramCode) (is : IsProgramOf text p) where
  -- what is refused of its program
  pub need_refused : (e : AcceptError) → IsFound (IsFirstOf (then_ cell_trials naming_trials)) p e → HasNoNeeds text e
  need_refused (A.Refused r) h = first_of_text laws text p is (then_ cell_trials naming_trials) r h
  need_refused A.Memory h = tt

  -- the lines
  pub are_needs : (labels : List ℕ) (lines : List NeedLine) → PassesAll cell_trials p → PassesAll naming_trials p → AreLabels p labels
      → lines ≡ lines_of p labels → AreNeeds text lines
  are_needs labels lines cells names are same =
      record {
        passes = passes_of_text laws text p is (then_ cell_trials naming_trials) (then_passes cell_trials naming_trials p cells names);
        source = is.source;
        is = is.is;
        labels = labels;
        labels_are = subst (λ q. AreLabels q labels) is.program_is are;
        lines_are = same ∙ ap (λ q. lines_of q labels) is.program_is;
      }
