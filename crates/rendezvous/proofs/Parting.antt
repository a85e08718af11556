-- A cell alone over two families of streams: it does the same up to a number of communications, if it reads the same
-- words among them.
use Rattle.std.proofs.Common.{◌≡◌, ℕ, zero, suc, ◌+◌, ◌-◌, ◌<◌, ◌⊎◌, Bool, true, false, cond, if◌then◌else◌, ℤ, List, [], ◌∷◌, ◌++◌, length, take, append_assoc, refl, ap, subst, ◌∙◌, inl, inr, arith}
use Rattle.std.proofs.lemmas.Bool.{cases_lt, eq-eqb}
use Rattle.std.proofs.Math.Seq.{take-append-add}
use Rattle.std.proofs.lemmas.List.{length-append}
use Rattle.std.proofs.lemmas.List.Sums.{sum_by-append, sum_by-cons}
use Rattle.sys_base.specs.Communications.{Communication, Writes, Reads, Takes, Emits, copies, times}
use Rattle.sys_base.specs.Held.{Streams, takes_first, tested, word_at, with_word}
use Rattle.sys_base.specs.declared.word.Word.{Word}
use Rattle.cell_types.specs.Alike.{AlikeAction, AlikeBlock}
use Rattle.cell_types.specs.Code.{Action, Set, SetAt, Write, Read, Take, Emit, For, If, Block, End, Then}
use Rattle.cell_types.specs.Communications.{action_communications, block_communications}
use Rattle.cell_types.specs.Solo.{Solo, counting, do_action, do_block, reading, turns_from, value_of}
use Rattle.rendezvous.proofs.Adding.{Adds, adds_action, adds_block, adds_more, adds_nothing, test_output}
use Rattle.rendezvous.proofs.Counted.{counts}

module _ (total : List Communication) (n : ℕ) (o : Solo) where
  -- A cell that began as another one has made fewer communications than so many, and these are left.
  pub record IsAt (s : Solo) (left : List Communication) : Type 0 where
    pub few : length s.made < n
    pub begun : Adds o s
    pub whole : s.made ++ left ≡ total

  -- Two cells have parted after so many communications.
  pub record Parted (s t : Solo) : Type 0 where
    pub at : Solo
    pub rest : List Communication
    pub begun : Adds o at
    pub whole : at.made ++ rest ≡ total
    pub long : length at.made ≡ n
    pub one : Adds at s
    pub other : Adds at t

  -- Two cells are one still, or they have parted.
  abbrev pub Near : (left : List Communication) → Solo → Solo → Type 0
  Near left s t = ((s ≡ t) × IsAt s left) ⊎ Parted s t

module _ (total : List Communication) (n : ℕ) (o : Solo) where
  -- parted cells stay so
  part_on : (s t p q : Solo) → Adds s p → Adds t q → Parted total n o s t → Parted total n o p q
  part_on s t p q one other is =
      record {
        at = is.at;
        rest = is.rest;
        begun = is.begun;
        whole = is.whole;
        long = is.long;
        one = adds_more is.at s p is.one one;
        other = adds_more is.at t q is.other other;
      }

  -- two cells go on
  near_on : (f g : Solo → Solo) (xs left : List Communication) → ((s : Solo) → Adds s (f s)) → ((s : Solo) → Adds s (g s))
      → ((s : Solo) → IsAt total n o s (xs ++ left) → Near total n o left (f s) (g s))
      → (s t : Solo) → Near total n o (xs ++ left) s t → Near total n o left (f s) (g t)
  near_on f g xs left one other both s t near =
      elim near as (λ _. Near total n o left (f s) (g t)) [
        | inl e ↦ subst (λ u. Near total n o left (f s) (g u)) e.0 (both s e.1)
        | inr p ↦ inr (part_on s t (f s) (g t) (one s) (other t) p)
      ]

  -- a cell does something that is no communication
  quiet_at : (s u : Solo) (left : List Communication) → u.made ≡ s.made → Adds s u → IsAt total n o s left
      → IsAt total n o u left
  quiet_at s u left made adds at =
      record {
        few = omega (arith, ap length made, at.few);
        begun = adds_more o s u at.begun adds;
        whole = ap (λ xs. xs ++ left) made ∙ at.whole;
      }

  quiet : (s u : Solo) (left : List Communication) → u.made ≡ s.made → Adds s u → IsAt total n o s left
      → Near total n o left u u
  quiet s u left made adds at = inl (refl, quiet_at s u left made adds at)

  -- a cell makes one communication
  one_more : (s u : Solo) (c : Communication) (left : List Communication) → u.made ≡ s.made ++ c ∷ [] → Adds s u
      → IsAt total n o s (c ∷ left) → Near total n o left u u
  one_more s u c left made adds at =
      let long : length u.made ≡ length s.made + 1 = ap length made ∙ length-append s.made (c ∷ []) in
      let whole : u.made ++ left ≡ total =
      ap (λ xs. xs ++ left) made ∙ append_assoc s.made (c ∷ []) left ∙ at.whole in
      elim (cases_lt (length u.made) n) as (λ _. Near total n o left u u) [
        | inl h ↦ inl (refl, record { few = h; begun = adds_more o s u at.begun adds; whole = whole })
        | inr h ↦
            inr (record {
              at = u;
              rest = left;
              begun = adds_more o s u at.begun adds;
              whole = whole;
              long = omega (arith, h, long, at.few);
              one = adds_nothing u u refl refl refl;
              other = adds_nothing u u refl refl refl;
            })
      ]

  -- the same arm is taken
  same_arm : (b : Bool) (left : List Communication) (x y p q : Solo) → Near total n o left x p → Near total n o left y q
      → Near total n o left (if b then x else y) (if b then p else q)
  same_arm true left x y p q h k = h
  same_arm false left x y p q h k = k

  -- turns of a loop
  near_turns : (f g : ℕ → Solo → Solo) (xs : List Communication) → ((turn : ℕ) (s : Solo) → Adds s (f turn s))
      → ((turn : ℕ) (s : Solo) → Adds s (g turn s))
      → ((turn : ℕ) (left : List Communication) (s : Solo) → IsAt total n o s (xs ++ left)
      → Near total n o left (f turn s) (g turn s))
      → (first count : ℕ) (left : List Communication) (s t : Solo) → Near total n o (copies count xs ++ left) s t
      → Near total n o left (turns_from f first count s) (turns_from g first count t)
  near_turns f g xs one other both first zero left s t near = near
  near_turns f g xs one other both first (suc count) left s t near =
      near_turns f g xs one other both (first + 1) count left (f first s) (g first t)
      (near_on (f first) (g first) xs (copies count xs ++ left) (one first) (other first) (both first (copies count xs ++ left)) s t
      (subst (λ ys. Near total n o ys s t) (append_assoc xs (copies count xs) left) near))

-- what is read within the first communications is below how often they read
within : (m n : ℕ) (made left : List Communication) → length made < n
    → times (Reads m) made < times (Reads m) (take n (made ++ Reads m ∷ left))
within m n made left few =
    let j = n - suc (length made) in
    let long : n ≡ length made + suc j = omega arith in
    let cut : take n (made ++ Reads m ∷ left) ≡ made ++ Reads m ∷ take j left =
    ap (λ i. take i (made ++ Reads m ∷ left)) long ∙ take-append-add made (Reads m ∷ left) (suc j) in
    let all = sum_by-append (counts (Reads m)) made (Reads m ∷ take j left) in
    let first = sum_by-cons (counts (Reads m)) (Reads m) (take j left) in
    let one : counts (Reads m) (Reads m) ≡ 1 = ap (λ b. cond b 1 0) (eq-eqb m m refl) in
    omega (arith, ap (times (Reads m)) cut, all, first, one)

module _ (total : List Communication) (n : ℕ) (o : Solo) (cell : ℕ) (input : List ℤ) (v w : Streams)
    (alike : (m k : ℕ) → k < times (Reads m) (take n total) → word_at v m k ≡ word_at w m k) where
  mutual
    same_action : (line : ℕ) (a : Action) → AlikeAction a → (left : List Communication) (s : Solo)
        → IsAt total n o s (action_communications a ++ left)
        → Near total n o left (do_action cell input v line a s) (do_action cell input w line a s)
    same_action line (Set word value) arms left s at =
        quiet total n o s _ left refl (adds_action cell input v line (Set word value) s) at
    same_action line (SetAt base len index value) arms left s at =
        quiet total n o s _ left refl (adds_action cell input v line (SetAt base len index value) s) at
    same_action line (Write message value) arms left s at =
        one_more total n o s _ (Writes message) left refl (adds_action cell input v line (Write message value) s) at
    same_action line (Read message word) arms left s at =
        let below = subst (λ xs. times (Reads message) s.made < times (Reads message) (take n xs)) at.whole
        (within message n s.made left at.few) in
        let same : reading v message word s ≡ reading w message word s =
        ap (λ (x : Word). record {
          held = with_word s.held word x;
          made = s.made ++ Reads message ∷ [];
          sent = s.sent;
        }) (alike message (times (Reads message) s.made) below) in
        subst (λ u. Near total n o left (reading v message word s) u) same
        (one_more total n o s _ (Reads message) left refl (adds_action cell input v line (Read message word) s) at)
    same_action line (Take word) arms left s at =
        one_more total n o s _ Takes left refl (adds_action cell input v line (Take word) s) at
    same_action line (Emit value) arms left s at =
        one_more total n o s _ Emits left refl (adds_action cell input v line (Emit value) s) at
    same_action line (For depth zero body) arms left s at =
        quiet total n o s _ left refl (adds_nothing s (counting depth 0 s) refl refl refl) at
    same_action line (For depth (suc count) body) arms left s at =
        let f = λ (turn : ℕ) (now : Solo). do_block cell input v body (counting depth turn now) in
        let g = λ (turn : ℕ) (now : Solo). do_block cell input w body (counting depth turn now) in
        let counted = λ (turn : ℕ) (now : Solo). adds_nothing now (counting depth turn now) refl refl refl in
        near_on total n o (counting depth (suc count)) (counting depth (suc count)) [] left (counted (suc count)) (counted (suc count))
        (λ u here. quiet total n o u (counting depth (suc count) u) left refl (counted (suc count) u) here)
        (turns_from f 0 (suc count) s) (turns_from g 0 (suc count) s)
        (near_turns total n o f g (block_communications body)
        (λ turn now. adds_more now (counting depth turn now) _ (counted turn now) (adds_block cell input v body (counting depth turn now)))
        (λ turn now. adds_more now (counting depth turn now) _ (counted turn now) (adds_block cell input w body (counting depth turn now)))
        (λ turn more now here.
        same_block body arms more (counting depth turn now) (quiet_at total n o now _ _ refl (counted turn now) here))
        0 (suc count) left s s (inl (refl, at)))
    same_action line (If test first second) arms left s at =
        let word = value_of cell line s.held test in
        let now : Solo = record s { held = tested s.held word } in
        let here = quiet_at total n o s now (block_communications first ++ left) refl
        (adds_nothing s now refl refl (test_output s.held word)) at in
        same_arm total n o (takes_first s.held.kept word) left (do_block cell input v first now) (do_block cell input v second now)
        (do_block cell input w first now) (do_block cell input w second now)
        (same_block first arms.1 left now here)
        (same_block second arms.2 left now (subst (λ xs. IsAt total n o now (xs ++ left)) arms.0 here))

    pub same_block : (b : Block) → AlikeBlock b → (left : List Communication) (s : Solo)
        → IsAt total n o s (block_communications b ++ left)
        → Near total n o left (do_block cell input v b s) (do_block cell input w b s)
    same_block End arms left s at = inl (refl, at)
    same_block (Then line action rest) arms left s at =
        near_on total n o (do_block cell input v rest) (do_block cell input w rest) (block_communications rest) left
        (adds_block cell input v rest) (adds_block cell input w rest) (λ u. same_block rest arms.1 left u)
        (do_action cell input v line action s) (do_action cell input w line action s)
        (same_action line action arms.0 (block_communications rest ++ left) s
        (subst (IsAt total n o s) (append_assoc (action_communications action) (block_communications rest) left) at))
