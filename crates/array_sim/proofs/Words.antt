-- How many words the queues of a link have.
use Rattle.std.proofs.Common.{◌≡◌, ◌≢◌, ℕ, zero, suc, ◌+◌, ◌<◌, ◌≤◌, ◌&&◌, Bool, true, false, cond, nat_eq, List, [], ◌∷◌, ◌++◌, length, drop, refl, ap, sym, subst, ◌∙◌, arith, inl, inr, eqb-true}
use Rattle.std.specs.List.{sum_by, range_with_len}
use Rattle.std.proofs.lemmas.Bool.{and_parts, cases_Bool}
use Rattle.std.proofs.lemmas.List.{length-drop}
use Rattle.std.proofs.lemmas.List.Sums.{sum_by-cons}
use Rattle.sys_base.specs.Groups.{below}
use Rattle.sys_base.specs.declared.word.Word.{Word}
use Rattle.cell_code.specs.Marks.{hops, link_at, queue}
use Rattle.cell_code.specs.declared.image.Image.{Image}
use Rattle.array_model.specs.Runs.{words_on}
use Rattle.array_model.specs.States.{ArrayState, opening}
use Rattle.link_queues.specs.Fabrics.{Queues, put_at, slice, without_oldest, words_in}
use Rattle.link_queues.specs.Keeping.{IsHop}
use Rattle.link_queues.specs.Standing.{StandsFor}

-- ---- sums

sum_le_from : (f g : ℕ → ℕ) (a n : ℕ) → ((i : ℕ) → i < a + n → f i ≤ g i)
    → sum_by f (range_with_len a n) ≤ sum_by g (range_with_len a n)
sum_le_from f g a zero h = omega arith
sum_le_from f g a (suc n) h =
    omega (
      arith,
      sum_by-cons f a (range_with_len (a + 1) n),
      sum_by-cons g a (range_with_len (a + 1) n),
      h a (omega arith),
      sum_le_from f g (a + 1) n (λ i l. h i (omega arith)),
    )

one_le : (b : Bool) (x y : ℕ) → (b ≡ true → x ≤ y) → cond b x 0 ≤ cond b y 0
one_le true x y h = h refl
one_le false x y h = omega arith

-- a number for each hop, added up over the hops at a link
abbrev pub total : Image → (ℕ → ℕ → ℕ) → ℕ → ℕ
total image f l =
    sum_by (λ m. sum_by (λ hop. cond (nat_eq (link_at image m hop) l) (f m hop) 0) (below (hops image m)))
    (below (length image.messages))

pub total_le : (image : Image) (f g : ℕ → ℕ → ℕ) (l : ℕ)
    → ((m hop : ℕ) → IsHop image m hop → link_at image m hop ≡ l → f m hop ≤ g m hop)
    → total image f l ≤ total image g l
total_le image f g l h =
    sum_le_from _ _ 0 (length image.messages) (λ m k.
    sum_le_from _ _ 0 (hops image m) (λ hop j.
    one_le (nat_eq (link_at image m hop) l) (f m hop) (g m hop) (λ e.
    h m hop (omega (arith, k), omega (arith, j)) (eqb-true _ _ e))))

-- ---- links

pub words_less : (old new : Queues) (l : ℕ) → new.image ≡ old.image
    → ((m hop : ℕ) → IsHop old.image m hop → link_at old.image m hop ≡ l
    → length (slice new m hop) ≤ length (slice old m hop))
    → words_in new l ≤ words_in old l
words_less old new l e h =
    subst (λ image. total image (λ m hop. length (slice new m hop)) l ≤ words_in old l) (sym e)
    (total_le old.image (λ m hop. length (slice new m hop)) (λ m hop. length (slice old m hop)) l h)

none_from : (f : ℕ → ℕ) (a n : ℕ) → ((i : ℕ) → f i ≡ 0) → sum_by f (range_with_len a n) ≡ 0
none_from f a zero h = refl
none_from f a (suc n) h = omega (arith, sum_by-cons f a (range_with_len (a + 1) n), h a, none_from f (a + 1) n h)

nothing : (b : Bool) → cond {A = ℕ} b 0 0 ≡ 0
nothing true = refl
nothing false = refl

none : (image : Image) (l : ℕ) → total image (λ m hop. 0) l ≡ 0
none image l =
    none_from _ 0 (length image.messages)
    (λ m. none_from _ 0 (hops image m) (λ hop. nothing (nat_eq (link_at image m hop) l)))

pub words_none : (q : Queues) (l : ℕ) → ((m hop : ℕ) → slice q m hop ≡ []) → words_in q l ≡ 0
words_none q l h =
    let less : words_in q l ≤ total q.image (λ m hop. 0) l =
    total_le q.image (λ m hop. length (slice q m hop)) (λ m hop. 0) l (λ m hop i e. omega (arith, ap length (h m hop)))
    in
    omega (arith, less, none q.image l)

-- in the opening state there is no word
pub words_open : (image : Image) (l : ℕ) → words_on image l (opening image) ≡ 0
words_open image l = none image l

-- queues that stand for a state have its words
pub words_stand : (q : Queues) (s : ArrayState) (l : ℕ) → StandsFor q s → words_in q l ≡ words_on q.image l s
words_stand q s l h =
    let one : words_in q l ≤ words_on q.image l s =
    total_le q.image (λ m hop. length (slice q m hop)) (λ m hop. length (queue s.history s.marks m hop)) l
    (λ m hop i e. omega (arith, ap length (h.slices m hop i)))
    in
    let other : words_on q.image l s ≤ words_in q l =
    total_le q.image (λ m hop. length (queue s.history s.marks m hop)) (λ m hop. length (slice q m hop)) l
    (λ m hop i e. omega (arith, ap length (h.slices m hop i)))
    in
    omega (arith, one, other)

-- ---- what the calls do

put_le : (f : ℕ → ℕ → List Word) (m hop : ℕ) (x : List Word) (k j n : ℕ) → (m ≡ k → hop ≡ j → length x ≤ n)
    → length (f k j) ≤ n → length (put_at f m hop x k j) ≤ n
put_le f m hop x k j n here there =
    elim (cases_Bool (nat_eq m k && nat_eq hop j)) [
      | inl t ↦
          let both = and_parts (nat_eq m k) (nat_eq hop j) t in
          subst (λ b. length (cond b x (f k j)) ≤ n) (sym t) (here (eqb-true _ _ both.0) (eqb-true _ _ both.1))
      | inr t ↦ subst (λ b. length (cond b x (f k j)) ≤ n) (sym t) there
    ]

drawn_le : (q : Queues) (m hop k j : ℕ) → length (without_oldest q m hop k j) ≤ length (slice q k j)
drawn_le q m hop k j =
    put_le (slice q) m hop (drop 1 (slice q m hop)) k j (length (slice q k j))
    (λ a b. omega (
      arith,
      length-drop 1 (slice q m hop),
      ap (λ n. length (slice q n hop)) a,
      ap
          (λ n. length (slice q k n)) b,
    ))
    (omega arith)

-- a word was written to a message
pub pushed_less : (old new : Queues) (m : ℕ) (word : Word) (l : ℕ) → new.image ≡ old.image
    → ((k j : ℕ) → IsHop old.image k j → slice new k j ≡ put_at (slice old) m 0 (slice old m 0 ++ word ∷ []) k j)
    → link_at old.image m 0 ≢ l → words_in new l ≤ words_in old l
pushed_less old new m word l e slices other =
    words_less old new l e (λ k j i at.
    subst (λ xs. length xs ≤ length (slice old k j)) (sym (slices k j i))
    (put_le (slice old) m 0 (slice old m 0 ++ word ∷ []) k j (length (slice old k j))
    (λ a b. absurd (other (ap (λ n. link_at old.image n 0) a ∙ ap (λ n. link_at old.image k n) b ∙ at)))
    (omega arith)))

-- the oldest word of a message at a hop was read
pub popped_less : (old new : Queues) (m hop l : ℕ) → new.image ≡ old.image
    → ((k j : ℕ) → IsHop old.image k j → slice new k j ≡ without_oldest old m hop k j)
    → words_in new l ≤ words_in old l
popped_less old new m hop l e slices =
    words_less old new l e (λ k j i at.
    subst (λ xs. length xs ≤ length (slice old k j)) (sym (slices k j i)) (drawn_le old m hop k j))

-- the oldest word of a message at a hop moved on
pub moved_less : (old new : Queues) (m hop l : ℕ) (word : Word) → new.image ≡ old.image
    → ((k j : ℕ) → IsHop old.image k j → slice new k j
    ≡ put_at (without_oldest old m hop) m (suc hop) (slice old m (suc hop) ++ word ∷ []) k j)
    → link_at old.image m (suc hop) ≢ l → words_in new l ≤ words_in old l
moved_less old new m hop l word e slices other =
    words_less old new l e (λ k j i at.
    subst (λ xs. length xs ≤ length (slice old k j)) (sym (slices k j i))
    (put_le (without_oldest old m hop) m (suc hop) (slice old m (suc hop) ++ word ∷ []) k j (length (slice old k j))
    (λ a b. absurd (other (ap (λ n. link_at old.image n (suc hop)) a ∙ ap (λ n. link_at old.image k n) b ∙ at)))
    (drawn_le old m hop k j)))

-- a link bound its next group
pub bound_less : (old new : Queues) (l : ℕ) → new.image ≡ old.image
    → ((k j : ℕ) → IsHop old.image k j → slice new k j ≡ slice old k j) → words_in new l ≤ words_in old l
bound_less old new l e slices = words_less old new l e (λ k j i at. omega (arith, ap length (slices k j i)))
