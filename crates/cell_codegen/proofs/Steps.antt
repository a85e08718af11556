-- Code that stands in other code, and stretches of steps of a cell alone.
use Rattle.std.proofs.Common.{◌≡◌, ℕ, zero, suc, ◌+◌, ◌≤◌, ℤ, List, [], ◌∷◌, ◌++◌, length, Option, Some, None, refl, ◌∙◌, ap, subst, arith, length-append, append_assoc}
use Rattle.std.specs.Prelude.{⊤}
use Rattle.std.specs.List.{slice_get}
use Rattle.std.specs.Option.{option_and_then}
use Rattle.sys_base.specs.Held.{Streams}
use Rattle.cell_code.specs.declared.instruction.Instr.{Instr}
use Rattle.cell_code.specs.Alone.{Alone, after_row, alone_step, after_steps}
use Rattle.cell_code.specs.Rows.{row_of, communication_of}

-- ---- code in code

-- these things, as instructions or depths, stand at this address of the whole
abbrev pub HasAt : {T : Type 0} → List T → ℕ → List T → Type 0
HasAt code at [] = ⊤
HasAt code at (instr ∷ rest) = (slice_get code at ≡ Some instr) × HasAt code (at + 1) rest

pub has_front : {T : Type 0} → (code : List T) (at : ℕ) (xs ys : List T) → HasAt code at (xs ++ ys) → HasAt code at xs
has_front code at [] ys h = tt
has_front code at (x ∷ xs) ys h = (h.0, has_front code (at + 1) xs ys h.1)

pub has_back : {T : Type 0} → (code : List T) (at : ℕ) (xs ys : List T) → HasAt code at (xs ++ ys) → HasAt code (at + length xs) ys
has_back code at [] ys h = let e : at ≡ at + 0 = omega arith in subst (λ n. HasAt code n ys) e h
has_back code at (x ∷ xs) ys h =
    let e : (at + 1) + length xs ≡ at + length (x ∷ xs) = omega arith in
    subst (λ n. HasAt code n ys) e (has_back code (at + 1) xs ys h.1)

stands : {T : Type 0} → (front : List T) (x : T) (back : List T) → slice_get (front ++ x ∷ back) (length front) ≡ Some x
stands [] x back = refl
stands (y ∷ ys) x back = stands ys x back

-- a whole has all of its own things
pub has_all : {T : Type 0} → (front code : List T) → HasAt (front ++ code) (length front) code
has_all front [] = tt
has_all front (x ∷ xs) = (
  stands front x xs,
  let more = has_all (front ++ x ∷ []) xs in
      let e : length (front ++ x ∷ []) ≡ length front + 1 = length-append front (x ∷ []) in
      let f : (front ++ x ∷ []) ++ xs ≡ front ++ x ∷ xs = append_assoc front (x ∷ []) xs in
      subst (λ n. HasAt (front ++ x ∷ xs) n xs) e (subst (λ c. HasAt c (length (front ++ x ∷ [])) xs) f more),
)

-- ---- stretches of steps

module _ (code : List Instr) (cell : ℕ) (input : List ℤ) (streams : Streams) where
  -- From one state the cell comes to another in at most so many steps, and in exactly so many where the code is straight.
  pub record Within (straight : Type 0) (cost : ℕ) (a b : Alone) : Type 0 where
    pub took : ℕ
    pub few : took ≤ cost
    pub exact : straight → took ≡ cost
    pub leads : after_steps code cell input streams took a ≡ Some b

  then_steps : (k : ℕ) (o : Option Alone) (c : Alone) → option_and_then (after_steps code cell input streams k) o ≡ Some c →
      (a : Alone) × (o ≡ Some a) × (after_steps code cell input streams k a ≡ Some c)
  then_steps k None c h = absurd (cc)
  then_steps k (Some a) c h = (a, refl, h)

  both : (j k : ℕ) (a b c : Alone) → after_steps code cell input streams j a ≡ Some b → after_steps code cell input streams k b ≡ Some c →
      after_steps code cell input streams (j + k) a ≡ Some c
  both zero k a b c h g =
      let e : b ≡ a = cc in
      let z : k ≡ 0 + k = omega arith in
      subst (λ n. after_steps code cell input streams n a ≡ Some c) z (subst (λ s. after_steps code cell input streams k s ≡ Some c) e g)
  both (suc j) k a b c h g =
      let t = then_steps j (alone_step code cell input streams a) b h in
      let z : suc (j + k) ≡ suc j + k = omega arith in
      subst (λ n. after_steps code cell input streams n a ≡ Some c) z
      (ap (λ o. option_and_then (after_steps code cell input streams (j + k)) o) t.1 ∙ both j k t.0 b c t.2 g)

  pub stay : (straight : Type 0) (a : Alone) → Within straight 0 a a
  stay straight a = record { took = 0; few = omega arith; exact = λ _. refl; leads = refl }

  pub join : (straight : Type 0) (c d : ℕ) (x y z : Alone) → Within straight c x y → Within straight d y z → Within straight (c + d) x z
  join straight c d x y z p q =
      record {
        took = p.took + q.took;
        few = omega (arith, p.few, q.few);
        exact = λ s. omega (arith, p.exact s, q.exact s);
        leads = both p.took q.took x y z p.leads q.leads;
      }

  pub equal : (straight : Type 0) (c d : ℕ) (x y : Alone) → c ≡ d → Within straight c x y → Within straight d x y
  equal straight c d x y e w = subst (λ n. Within straight n x y) e w

  pub under : (straight less : Type 0) (c : ℕ) (x y : Alone) → (less → straight) → Within straight c x y → Within less c x y
  under straight less c x y f w = record { took = w.took; few = w.few; exact = λ s. w.exact (f s); leads = w.leads }

  -- a longer time, where nothing is said of straight code
  pub wider : (straight : Type 0) (c d : ℕ) (x y : Alone) → c ≤ d → Within straight c x y → Within ⊥ d x y
  wider straight c d x y h w = record { took = w.took; few = omega (arith, w.few); exact = λ s. absurd s; leads = w.leads }

  -- one step
  pub one : (straight : Type 0) (instr : Instr) (a b : Alone) → slice_get code a.state.at ≡ Some instr →
      after_row streams (communication_of instr) a (row_of cell input a.state instr) ≡ Some b → Within straight 1 a b
  one straight instr a b is row =
      record {
        took = 1;
        few = omega arith;
        exact = λ _. refl;
        leads =
            ap (λ o. option_and_then (after_steps code cell input streams 0)
            (option_and_then (λ i. after_row streams (communication_of i) a (row_of cell input a.state i)) o)) is
            ∙ ap (λ o. option_and_then (after_steps code cell input streams 0) o) row;
      }
