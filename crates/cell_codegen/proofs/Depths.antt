-- Emitted code keeps the stack rule: a table has the depth of the stack before each instruction.
use Rattle.std.proofs.Common.{◌≡◌, ℕ, zero, suc, ◌+◌, ◌-◌, ◌≤◌, ◌⊎◌, max, true, false, pos, List, [], ◌∷◌, ◌++◌, length, Some, inl, inr, refl, sym, ◌∙◌, ap, subst, arith, length-append}
use Rattle.std.specs.Prelude.{⊤}
use Rattle.std.specs.List.{slice_get}
use Rattle.cell_code.specs.declared.instruction.Instr.{Instr}
use Rattle.cell_code.specs.declared.instruction.Instr.TheVariants as I
use Rattle.cell_code.specs.Checked.{is_halt}
use Rattle.cell_code.specs.ShapedCells.{pops, pushes, PathGoes, OnPath, StackRule, starts, goes}
use Rattle.cell_types.specs.Code.{Expression, Number, Variable, Counter, Element, Negated, Applied, Action, Set, SetAt, Write, Read, Take, Emit, For, If, Block, End, Then}
use Rattle.cell_types.specs.Depth.{expression_stack, action_stack, block_stack}
use Rattle.cell_codegen.specs.Emission.{expression_code, loop_code, if_code, action_code, block_code, body_code}
use Rattle.cell_codegen.proofs.Steps.{HasAt, has_front, has_back, has_all}

-- ---- the table

-- the depths before each instruction of an expression, from this depth on
abbrev expression_depths : ℕ → Expression → List ℕ
expression_depths d (Number n) = d ∷ []
expression_depths d (Variable w) = d ∷ []
expression_depths d (Counter k) = d ∷ []
expression_depths d (Element base len e) = expression_depths d e ++ (d + 1) ∷ []
expression_depths d (Negated e) = expression_depths d e ++ (d + 1) ∷ []
expression_depths d (Applied op l r) = expression_depths d l ++ (expression_depths (d + 1) r ++ (d + 2) ∷ [])

abbrev mutual
  -- the same of an action, before which the stack is empty
  action_depths : Action → List ℕ
  action_depths (Set w e) = expression_depths 0 e ++ 1 ∷ []
  action_depths (SetAt base len e f) = expression_depths 0 e ++ (expression_depths 1 f ++ 2 ∷ [])
  action_depths (Write m e) = expression_depths 0 e ++ 1 ∷ []
  action_depths (Read m w) = 0 ∷ []
  action_depths (Take w) = 0 ∷ []
  action_depths (Emit e) = expression_depths 0 e ++ 1 ∷ []
  action_depths (For k n body) = 0 ∷ (block_depths body ++ 0 ∷ [])
  action_depths (If e first second) = expression_depths 0 e ++ 1 ∷ (block_depths first ++ 0 ∷ block_depths second)

  -- the same of statements
  block_depths : Block → List ℕ
  block_depths End = []
  block_depths (Then line a rest) = action_depths a ++ block_depths rest

-- the table is as long as the code

expression_long : (d line : ℕ) (e : Expression) → length (expression_depths d e) ≡ length (expression_code line e)
expression_long d line (Number n) = refl
expression_long d line (Variable w) = refl
expression_long d line (Counter k) = refl
expression_long d line (Element base len e) =
    omega (arith, expression_long d line e, length-append (expression_depths d e) ((d + 1) ∷ []), length-append (expression_code line e) (I.LoadAt base len line ∷ []))
expression_long d line (Negated e) =
    omega (arith, expression_long d line e, length-append (expression_depths d e) ((d + 1) ∷ []), length-append (expression_code line e) (I.Neg line ∷ []))
expression_long d line (Applied op l r) =
    omega (
      arith,
      expression_long d line l,
      expression_long (d + 1) line r,
      length-append (expression_depths d l) (expression_depths (d + 1) r ++ (d + 2) ∷ []),
      length-append (expression_depths (d + 1) r) ((d + 2) ∷ []),
      length-append (expression_code line l) (expression_code line r ++ I.Bin op line ∷ []),
      length-append (expression_code line r) (I.Bin op line ∷ []),
    )

long_one : (line : ℕ) (e : Expression) (instr : Instr) (d : ℕ) →
    length (expression_depths 0 e ++ d ∷ []) ≡ length (expression_code line e ++ instr ∷ [])
long_one line e instr d =
    omega (arith, expression_long 0 line e, length-append (expression_depths 0 e) (d ∷ []), length-append (expression_code line e) (instr ∷ []))

mutual
  action_long : (at line : ℕ) (a : Action) → length (action_depths a) ≡ length (action_code at line a)
  action_long at line (Set w e) = long_one line e (I.Store w) 1
  action_long at line (SetAt base len e f) =
      omega (
        arith,
        expression_long 0 line e,
        expression_long 1 line f,
        length-append (expression_depths 0 e) (expression_depths 1 f ++ 2 ∷ []),
        length-append (expression_depths 1 f) (2 ∷ []),
        length-append (expression_code line e) (expression_code line f ++ I.StoreAt base len line ∷ []),
        length-append (expression_code line f) (I.StoreAt base len line ∷ []),
      )
  action_long at line (Write m e) = long_one line e (I.Write m) 1
  action_long at line (Read m w) = refl
  action_long at line (Take w) = refl
  action_long at line (Emit e) = long_one line e I.Emit 1
  action_long at line (For k n body) =
      omega (
        arith,
        block_long (at + 1) body,
        length-append (block_depths body) (0 ∷ []),
        length-append (block_code (at + 1) body) (I.Next k n (at + 1) ∷ []),
      )
  action_long at line (If e first second) =
      let test = expression_code line e in
      let pc = at + length test in
      let a = block_code (pc + 1) first in
      let b = block_code (pc + 1 + length a + 1) second in
      let end = pc + 1 + length a + 1 + length b in
      omega (
        arith,
        expression_long 0 line e,
        block_long (pc + 1) first,
        block_long (pc + 1 + length a + 1) second,
        length-append (expression_depths 0 e) (1 ∷ (block_depths first ++ 0 ∷ block_depths second)),
        length-append (block_depths first) (0 ∷ block_depths second),
        length-append test (I.IfZero (pc + 1 + length a + 1) ∷ (a ++ (I.Jump end ∷ b))),
        length-append a (I.Jump end ∷ b),
      )

  block_long : (at : ℕ) (b : Block) → length (block_depths b) ≡ length (block_code at b)
  block_long at End = refl
  block_long at (Then line a rest) =
      let is = action_code at line a in
      omega (
        arith,
        action_long at line a,
        block_long (at + length is) rest,
        length-append (action_depths a) (block_depths rest),
        length-append is (block_code (at + length is) rest),
      )

one_deep : (e : Expression) → 1 ≤ expression_stack e
one_deep (Number n) = omega arith
one_deep (Variable w) = omega arith
one_deep (Counter k) = omega arith
one_deep (Element base len e) = one_deep e
one_deep (Negated e) = one_deep e
one_deep (Applied op l r) = omega (arith, one_deep l)

-- ---- what the table says of an instruction

-- The table has this depth at an address, the instruction there pops what is there and needs no more places, and the
-- table has the depth behind it wherever a path goes on; at `halt` nothing is there.
record Flow (table : List ℕ) (places at : ℕ) (instr : Instr) (depth : ℕ) : Type 0 where
  here : slice_get table at ≡ Some depth
  there : pops instr ≤ depth
  shallow : depth ≤ places
  leads : (next : ℕ) → PathGoes instr at next → slice_get table next ≡ Some (depth - pops instr + pushes instr)
  ends : is_halt instr ≡ true → depth ≡ 0

-- the table says this of each instruction of a stretch
abbrev Flows : List ℕ → ℕ → ℕ → List Instr → Type 0
Flows table places at [] = ⊤
Flows table places at (instr ∷ rest) = ((depth : ℕ) × Flow table places at instr depth) × Flows table places (at + 1) rest

module _ (table : List ℕ) (places : ℕ) where
  moved : (a b d : ℕ) → a ≡ b → slice_get table a ≡ Some d → slice_get table b ≡ Some d
  moved a b d e h = subst (λ n. slice_get table n ≡ Some d) e h

  both_flow : (at : ℕ) (xs ys : List Instr) → Flows table places at xs → Flows table places (at + length xs) ys → Flows table places at (xs ++ ys)
  both_flow at [] ys one two = let e : at + 0 ≡ at = omega arith in subst (λ n. Flows table places n ys) e two
  both_flow at (x ∷ xs) ys one two =
      let e : at + length (x ∷ xs) ≡ (at + 1) + length xs = omega arith in
      (one.0, both_flow (at + 1) xs ys one.1 (subst (λ n. Flows table places n ys) e two))

  -- an instruction from which a path goes to the next one
  passes : (instr : Instr) (at d e : ℕ) → ((next : ℕ) → PathGoes instr at next → next ≡ at + 1) → is_halt instr ≡ false →
      slice_get table at ≡ Some d → pops instr ≤ d → d ≤ places → e ≡ d - pops instr + pushes instr → slice_get table (at + 1) ≡ Some e →
      (depth : ℕ) × Flow table places at instr depth
  passes instr at d e only going here there shallow is next = (
    d,
    record {
      here = here;
      there = there;
      shallow = shallow;
      leads = λ n go. moved (at + 1) n (d - pops instr + pushes instr) (sym (only n go)) (next ∙ ap Some is);
      ends = λ h. let no : true ≡ false = sym h ∙ going in absurd (cc);
    },
  )

  -- an instruction behind a stretch
  behind : (at : ℕ) (is : List Instr) (instr : Instr) (d e : ℕ) (ds : List ℕ) → ((next : ℕ) → PathGoes instr (at + length is) next → next ≡ at + length is + 1) →
      is_halt instr ≡ false → length ds ≡ length is → HasAt table at (ds ++ d ∷ []) → pops instr ≤ d → d ≤ places → e ≡ d - pops instr + pushes instr →
      slice_get table (at + length (is ++ instr ∷ [])) ≡ Some e → Flows table places at is → Flows table places at (is ++ instr ∷ [])
  behind at is instr d e ds only going long has there shallow same next flows =
      let m : at + length (is ++ instr ∷ []) ≡ at + length is + 1 = omega (arith, length-append is (instr ∷ [])) in
      let l : at + length ds ≡ at + length is = omega (arith, long) in
      both_flow at is (instr ∷ []) flows (
        passes instr (at + length is) d e only going (moved _ _ d l (has_back table at ds (d ∷ []) has).0) there shallow same (moved _ _ e m next),
        tt,
      )

  -- ---- expressions

  expression_first : (d at : ℕ) (e : Expression) → HasAt table at (expression_depths d e) → slice_get table at ≡ Some d
  expression_first d at (Number n) has = has.0
  expression_first d at (Variable w) has = has.0
  expression_first d at (Counter k) has = has.0
  expression_first d at (Element base len e) has = expression_first d at e (has_front table at (expression_depths d e) _ has)
  expression_first d at (Negated e) has = expression_first d at e (has_front table at (expression_depths d e) _ has)
  expression_first d at (Applied op l r) has = expression_first d at l (has_front table at (expression_depths d l) _ has)

  -- an instruction behind two operands, whose code the table suits
  two_flow : (line d at : ℕ) (l r : Expression) (instr : Instr) (after : ℕ) →
      ((next : ℕ) → PathGoes instr (at + length (expression_code line l) + length (expression_code line r)) next →
      next ≡ at + length (expression_code line l) + length (expression_code line r) + 1) →
      is_halt instr ≡ false → pops instr ≤ d + 2 → after ≡ d + 2 - pops instr + pushes instr →
      HasAt table at (expression_depths d l ++ (expression_depths (d + 1) r ++ (d + 2) ∷ [])) →
      slice_get table (at + length (expression_code line l ++ (expression_code line r ++ instr ∷ []))) ≡ Some after →
      d + max (expression_stack l) (1 + expression_stack r) ≤ places →
      (HasAt table at (expression_depths d l) → slice_get table (at + length (expression_code line l)) ≡ Some (d + 1) →
      d + expression_stack l ≤ places → Flows table places at (expression_code line l)) →
      (HasAt table (at + length (expression_code line l)) (expression_depths (d + 1) r) →
      slice_get table (at + length (expression_code line l) + length (expression_code line r)) ≡ Some (d + 1 + 1) →
      d + 1 + expression_stack r ≤ places → Flows table places (at + length (expression_code line l)) (expression_code line r)) →
      Flows table places at (expression_code line l ++ (expression_code line r ++ instr ∷ []))
  two_flow line d at l r instr after only going there same has next deep one two =
      let left = expression_code line l in
      let right = expression_code line r in
      let ls = expression_depths d l in
      let rs = expression_depths (d + 1) r in
      let a : at + length ls ≡ at + length left = omega (arith, expression_long d line l) in
      let b : at + length left + length rs ≡ at + length left + length right = omega (arith, expression_long (d + 1) line r) in
      let m : at + length (left ++ (right ++ instr ∷ [])) ≡ at + length left + length (right ++ instr ∷ []) =
      omega (arith, length-append left (right ++ instr ∷ [])) in
      let up : d + 2 ≡ d + 1 + 1 = omega arith in
      let more = subst (λ n. HasAt table n (rs ++ (d + 2) ∷ [])) a (has_back table at ls (rs ++ (d + 2) ∷ []) has) in
      let front = has_front table (at + length left) rs ((d + 2) ∷ []) more in
      let last = moved _ _ (d + 2) b (has_back table (at + length left) rs ((d + 2) ∷ []) more).0 in
      both_flow at left (right ++ instr ∷ [])
      (one (has_front table at ls (rs ++ (d + 2) ∷ []) has) (expression_first (d + 1) (at + length left) r front) (omega (arith, deep)))
      (behind (at + length left) right instr (d + 2) after rs only going (expression_long (d + 1) line r) more there
      (omega (arith, deep, one_deep r)) same (moved _ _ after m next) (two front (last ∙ ap Some up) (omega (arith, deep))))

  -- a path that goes on to one of two addresses
  either_leads : (at next to : ℕ) → (next ≡ at + 1) ⊎ (next ≡ to) → slice_get table (at + 1) ≡ Some 0 → slice_get table to ≡ Some 0 →
      slice_get table next ≡ Some 0
  either_leads at next to (inl e) one other = moved (at + 1) next 0 (sym e) one
  either_leads at next to (inr e) one other = moved to next 0 (sym e) other

  -- an instruction without a word on the stack, from which a path goes on to one of two addresses
  empty_either : (instr : Instr) (at to : ℕ) → ((next : ℕ) → PathGoes instr at next → (next ≡ at + 1) ⊎ (next ≡ to)) → is_halt instr ≡ false →
      pops instr ≡ 0 → pushes instr ≡ 0 → slice_get table at ≡ Some 0 → slice_get table (at + 1) ≡ Some 0 → slice_get table to ≡ Some 0 →
      (depth : ℕ) × Flow table places at instr depth
  empty_either instr at to ways going none more here one other =
      let z : 0 ≡ 0 - pops instr + pushes instr = omega (arith, none, more) in (
        0,
        record {
          here = here;
          there = omega (arith, none);
          shallow = omega arith;
          leads = λ n go. either_leads at n to (ways n go) one other ∙ ap Some z;
          ends = λ h. refl;
        },
      )

  expression_flows : (line d at : ℕ) (e : Expression) → HasAt table at (expression_depths d e) →
      slice_get table (at + length (expression_code line e)) ≡ Some (d + 1) → d + expression_stack e ≤ places →
      Flows table places at (expression_code line e)
  expression_flows line d at (Number n) has next deep =
      (passes (I.Push (pos n)) at d (d + 1) (λ n go. go) refl has.0 (omega arith) (omega (arith, deep)) (omega arith) next, tt)
  expression_flows line d at (Variable w) has next deep =
      (passes (I.Load w) at d (d + 1) (λ n go. go) refl has.0 (omega arith) (omega (arith, deep)) (omega arith) next, tt)
  expression_flows line d at (Counter k) has next deep =
      (passes (I.Counter k) at d (d + 1) (λ n go. go) refl has.0 (omega arith) (omega (arith, deep)) (omega arith) next, tt)
  expression_flows line d at (Element base len e) has next deep =
      let ds = expression_depths d e in
      let l : at + length ds ≡ at + length (expression_code line e) = omega (arith, expression_long d line e) in
      behind at (expression_code line e) (I.LoadAt base len line) (d + 1) (d + 1) ds (λ n go. go) refl (expression_long d line e) has
      (omega arith) (omega (arith, deep, one_deep e)) (omega arith) next
      (expression_flows line d at e (has_front table at ds _ has) (moved _ _ (d + 1) l (has_back table at ds ((d + 1) ∷ []) has).0) deep)
  expression_flows line d at (Negated e) has next deep =
      let ds = expression_depths d e in
      let l : at + length ds ≡ at + length (expression_code line e) = omega (arith, expression_long d line e) in
      behind at (expression_code line e) (I.Neg line) (d + 1) (d + 1) ds (λ n go. go) refl (expression_long d line e) has
      (omega arith) (omega (arith, deep, one_deep e)) (omega arith) next
      (expression_flows line d at e (has_front table at ds _ has) (moved _ _ (d + 1) l (has_back table at ds ((d + 1) ∷ []) has).0) deep)
  expression_flows line d at (Applied op l r) has next deep =
      two_flow line d at l r (I.Bin op line) (d + 1) (λ n go. go) refl (omega arith) (omega arith) has next deep
      (expression_flows line d at l) (expression_flows line (d + 1) (at + length (expression_code line l)) r)

  -- ---- statements

  -- an instruction of a statement behind its operand
  one_flows : (line at : ℕ) (e : Expression) (instr : Instr) →
      ((next : ℕ) → PathGoes instr (at + length (expression_code line e)) next → next ≡ at + length (expression_code line e) + 1) →
      is_halt instr ≡ false → pops instr ≡ 1 → pushes instr ≡ 0 → HasAt table at (expression_depths 0 e ++ 1 ∷ []) →
      slice_get table (at + length (expression_code line e ++ instr ∷ [])) ≡ Some 0 → expression_stack e ≤ places →
      Flows table places at (expression_code line e ++ instr ∷ [])
  one_flows line at e instr only going one none has next deep =
      let ds = expression_depths 0 e in
      let l : at + length ds ≡ at + length (expression_code line e) = omega (arith, expression_long 0 line e) in
      behind at (expression_code line e) instr 1 0 ds only going (expression_long 0 line e) has (omega (arith, one))
      (omega (arith, deep, one_deep e)) (omega (arith, one, none)) next
      (expression_flows line 0 at e (has_front table at ds _ has) (moved _ _ 1 l (has_back table at ds (1 ∷ []) has).0) (omega (arith, deep)))

  action_first : (at : ℕ) (a : Action) → HasAt table at (action_depths a) → slice_get table at ≡ Some 0
  action_first at (Set w e) has = expression_first 0 at e (has_front table at (expression_depths 0 e) _ has)
  action_first at (SetAt base len e f) has = expression_first 0 at e (has_front table at (expression_depths 0 e) _ has)
  action_first at (Write m e) has = expression_first 0 at e (has_front table at (expression_depths 0 e) _ has)
  action_first at (Read m w) has = has.0
  action_first at (Take w) has = has.0
  action_first at (Emit e) has = expression_first 0 at e (has_front table at (expression_depths 0 e) _ has)
  action_first at (For k n body) has = has.0
  action_first at (If e first second) has = expression_first 0 at e (has_front table at (expression_depths 0 e) _ has)

  -- the stack is empty before statements, where it is empty behind them
  block_first : (at : ℕ) (b : Block) → HasAt table at (block_depths b) → slice_get table (at + length (block_code at b)) ≡ Some 0 →
      slice_get table at ≡ Some 0
  block_first at End has next = let e : at + 0 ≡ at = omega arith in moved _ _ 0 e next
  block_first at (Then line a rest) has next = action_first at a (has_front table at (action_depths a) _ has)

  mutual
    action_flows : (line at : ℕ) (a : Action) → HasAt table at (action_depths a) →
        slice_get table (at + length (action_code at line a)) ≡ Some 0 → action_stack a ≤ places → Flows table places at (action_code at line a)
    action_flows line at (Set w e) has next deep = one_flows line at e (I.Store w) (λ n go. go) refl refl refl has next deep
    action_flows line at (SetAt base len e f) has next deep =
        two_flow line 0 at e f (I.StoreAt base len line) 0 (λ n go. go) refl (omega arith) (omega arith) has next (omega (arith, deep))
        (expression_flows line 0 at e) (expression_flows line 1 (at + length (expression_code line e)) f)
    action_flows line at (Write m e) has next deep = one_flows line at e (I.Write m) (λ n go. go) refl refl refl has next deep
    action_flows line at (Read m w) has next deep =
        (passes (I.Read m w) at 0 0 (λ n go. go) refl has.0 (omega arith) (omega arith) (omega arith) next, tt)
    action_flows line at (Take w) has next deep =
        (passes (I.Take w) at 0 0 (λ n go. go) refl has.0 (omega arith) (omega arith) (omega arith) next, tt)
    action_flows line at (Emit e) has next deep = one_flows line at e I.Emit (λ n go. go) refl refl refl has next deep
    action_flows line at (For k n body) has next deep =
        let is = block_code (at + 1) body in
        let ds = block_depths body in
        let exit = at + 1 + length is + 1 in
        let l : at + 1 + length ds ≡ at + 1 + length is = omega (arith, block_long (at + 1) body) in
        let m : at + length (loop_code at k n is) ≡ exit = omega (arith, length-append is (I.Next k n (at + 1) ∷ [])) in
        let out : slice_get table exit ≡ Some 0 = moved _ _ 0 m next in
        let last : slice_get table (at + 1 + length is) ≡ Some 0 = moved _ _ 0 l (has_back table (at + 1) ds (0 ∷ []) has.1).0 in
        let inner = has_front table (at + 1) ds (0 ∷ []) has.1 in
        let entry : slice_get table (at + 1) ≡ Some 0 = block_first (at + 1) body inner last in (
          empty_either (I.Loop k n exit) at exit (λ n go. go) refl refl refl has.0 entry out,
          both_flow (at + 1) is (I.Next k n (at + 1) ∷ []) (block_flows (at + 1) body inner last deep)
              (empty_either (I.Next k n (at + 1)) (at + 1 + length is) (at + 1) (λ n go. go) refl refl refl last out entry, tt),
        )
    action_flows line at (If e first second) has next deep =
        let test = expression_code line e in
        let pc = at + length test in
        let a = block_code (pc + 1) first in
        let other = pc + 1 + length a + 1 in
        let b = block_code other second in
        let end = other + length b in
        let ts = expression_depths 0 e in
        let as_ = block_depths first in
        let bs = block_depths second in
        let long : at + length (if_code at test a b) ≡ end =
        omega (arith, length-append test (I.IfZero other ∷ (a ++ (I.Jump end ∷ b))), length-append a (I.Jump end ∷ b)) in
        let out : slice_get table end ≡ Some 0 = moved _ _ 0 long next in
        let l : at + length ts ≡ pc = omega (arith, expression_long 0 line e) in
        let behind_test = subst (λ n. HasAt table n (1 ∷ (as_ ++ 0 ∷ bs))) l (has_back table at ts (1 ∷ (as_ ++ 0 ∷ bs)) has) in
        let k : pc + 1 + length as_ ≡ pc + 1 + length a = omega (arith, block_long (pc + 1) first) in
        let behind_first = subst (λ n. HasAt table n (0 ∷ bs)) k (has_back table (pc + 1) as_ (0 ∷ bs) behind_test.1) in
        let one = has_front table (pc + 1) as_ (0 ∷ bs) behind_test.1 in
        let one_entry : slice_get table (pc + 1) ≡ Some 0 = block_first (pc + 1) first one behind_first.0 in
        let other_entry : slice_get table other ≡ Some 0 = block_first other second behind_first.1 out in
        both_flow at test (I.IfZero other ∷ (a ++ (I.Jump end ∷ b)))
        (expression_flows line 0 at e (has_front table at ts _ has) behind_test.0 (omega (arith, deep))) (
          (
            1,
            record {
              here = behind_test.0;
              there = omega arith;
              shallow = omega (arith, deep, one_deep e);
              leads = λ n go. either_leads pc n other go one_entry other_entry;
              ends = λ h. absurd (cc);
            },
          ),
          both_flow (pc + 1) a (I.Jump end ∷ b) (block_flows (pc + 1) first one behind_first.0 (omega (arith, deep))) (
            (
              0,
              record {
                here = behind_first.0;
                there = omega arith;
                shallow = omega arith;
                leads = λ n go. moved end n 0 (sym go) out;
                ends = λ h. refl;
              },
            ),
            block_flows other second behind_first.1 out (omega (arith, deep)),
          ),
        )

    block_flows : (at : ℕ) (b : Block) → HasAt table at (block_depths b) → slice_get table (at + length (block_code at b)) ≡ Some 0 →
        block_stack b ≤ places → Flows table places at (block_code at b)
    block_flows at End has next deep = tt
    block_flows at (Then line a rest) has next deep =
        let is = action_code at line a in
        let more = block_code (at + length is) rest in
        let l : at + length (action_depths a) ≡ at + length is = omega (arith, action_long at line a) in
        let m : at + length (is ++ more) ≡ at + length is + length more = omega (arith, length-append is more) in
        let after = subst (λ n. HasAt table n (block_depths rest)) l (has_back table at (action_depths a) (block_depths rest) has) in
        let end : slice_get table (at + length is + length more) ≡ Some 0 = moved _ _ 0 m next in
        both_flow at is more
        (action_flows line at a (has_front table at (action_depths a) (block_depths rest) has) (block_first (at + length is) rest after end)
        (omega (arith, deep)))
        (block_flows (at + length is) rest after end (omega (arith, deep)))

-- ---- a cell

flow_at : (table : List ℕ) (places at : ℕ) (code : List Instr) → Flows table places at code → (k : ℕ) (instr : Instr) →
    slice_get code k ≡ Some instr → (depth : ℕ) × Flow table places (at + k) instr depth
flow_at table places at [] flows k instr is = absurd (cc)
flow_at table places at (x ∷ xs) flows zero instr is =
    let e : x ≡ instr = cc in
    let z : at ≡ at + 0 = omega arith in
    (flows.0.0, subst (λ i. Flow table places (at + 0) i flows.0.0) e (subst (λ n. Flow table places n x flows.0.0) z flows.0.1))
flow_at table places at (x ∷ xs) flows (suc k) instr is =
    let next = flow_at table places (at + 1) xs flows.1 k instr is in
    let e : (at + 1) + k ≡ at + suc k = omega arith in
    (next.0, subst (λ n. Flow table places n instr next.0) e next.1)

-- a code has an instruction wherever a table that is as long has a depth
beside : (table : List ℕ) (code : List Instr) → length table ≡ length code → (k depth : ℕ) → slice_get table k ≡ Some depth →
    (instr : Instr) × (slice_get code k ≡ Some instr)
beside [] code e k depth h = absurd (cc)
beside (d ∷ ds) [] e k depth h = let no : suc (length ds) ≡ 0 = e in absurd (omega (arith, no))
beside (d ∷ ds) (x ∷ xs) e zero depth h = (x, refl)
beside (d ∷ ds) (x ∷ xs) e (suc k) depth h = beside ds xs (omega (arith, e)) k depth h

module _ (table : List ℕ) (places : ℕ) (code : List Instr) (begins : slice_get table 0 ≡ Some 0) (long : length table ≡ length code) (flows : Flows table places 0 code) where
  flow : (at : ℕ) (instr : Instr) → slice_get code at ≡ Some instr → (depth : ℕ) × Flow table places at instr depth
  flow at instr is =
      let f = flow_at table places 0 code flows at instr is in
      let z : 0 + at ≡ at = omega arith in
      (f.0, subst (λ n. Flow table places n instr f.0) z f.1)

  depth_is : (at depth : ℕ) → OnPath code at depth → slice_get table at ≡ Some depth
  depth_is _ _ starts = begins
  depth_is _ _ (goes at depth next instr path go_at go) =
      let f = flow at instr go_at in
      let h = depth_is at depth path in
      let g = f.1.here in
      let e : f.0 ≡ depth = cc in
      subst (λ d. slice_get table next ≡ Some (d - pops instr + pushes instr)) e (f.1.leads next go)

  kept : StackRule code places
  kept =
      record {
        one_depth = λ at d e p q. let h = depth_is at d p in let k = depth_is at e q in cc;
        empty_at_halt =
            λ at d p is.
            let f = flow at I.Halt is in
            let h = depth_is at d p in
            let g = f.1.here in
            let e : f.0 ≡ d = cc in
            sym e ∙ f.1.ends refl;
        not_deep =
            λ at d p.
            let h = depth_is at d p in
            let i = beside table code long at d h in
            let f = flow at i.0 i.1 in
            let g = f.1.here in
            let e : f.0 ≡ d = cc in
            subst (λ n. n ≤ places) e f.1.shallow;
        no_empty_pop =
            λ at d instr p is.
            let f = flow at instr is in
            let h = depth_is at d p in
            let g = f.1.here in
            let e : f.0 ≡ d = cc in
            subst (λ n. pops instr ≤ n) e f.1.there;
      }

-- the code of a cell's statements keeps the stack rule, with as many places as they need
pub stack_rule : (body : Block) → StackRule (body_code body) (block_stack body)
stack_rule body =
    let is = block_code 0 body in
    let ds = block_depths body in
    let table = ds ++ 0 ∷ [] in
    let places = block_stack body in
    let all = has_all [] table in
    let l : 0 + length ds ≡ 0 + length is = omega (arith, block_long 0 body) in
    let last : slice_get table (0 + length is) ≡ Some 0 = subst (λ n. slice_get table n ≡ Some 0) l (has_back table 0 ds (0 ∷ []) all).0 in
    let inner = has_front table 0 ds (0 ∷ []) all in
    let end : (depth : ℕ) × Flow table places (0 + length is) I.Halt depth =
    (0, record { here = last; there = omega arith; shallow = omega arith; leads = λ n go. absurd go; ends = λ h. refl }) in
    kept table places (body_code body) (block_first table places 0 body inner last)
    (omega (arith, block_long 0 body, length-append ds (0 ∷ []), length-append is (I.Halt ∷ [])))
    (both_flow table places 0 is (I.Halt ∷ []) (block_flows table places 0 body inner last (omega arith)) (end, tt))
