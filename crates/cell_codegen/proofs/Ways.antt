-- Every way through emitted code makes communications of the cell in order, where arms are alike, and all of them at `halt`.
use Rattle.std.proofs.Common.{◌≡◌, ℕ, zero, suc, ◌+◌, ◌<◌, ◌≤◌, ◌⊎◌, Bool, true, false, if◌then◌else◌, cond, nat_eq, nat_lt, pos, List, [], ◌∷◌, ◌++◌, length, replicate, get_or, set, Some, inl, inr, refl, sym, ◌∙◌, ap, subst, arith, length-append, append_assoc}
use Rattle.std.specs.List.{slice_get}
use Rattle.std.proofs.lemmas.Bool.{lt-ltb, le-ltb, ne_eqb}
use Rattle.std.proofs.lemmas.List.{length-set, length-replicate, get_or-set_same, get_or-set_other, append-nil}
use Rattle.std.proofs.lemmas.List.Sums.{sum_by-append}
use Rattle.sys_base.specs.Communications.{Communication, Takes, Emits, copies, times, same_communication}
use Rattle.cell_code.specs.declared.instruction.Instr.{Instr}
use Rattle.cell_code.specs.declared.instruction.Instr.TheVariants as I
use Rattle.cell_code.specs.Alone.{noted}
use Rattle.cell_code.specs.Checked.{is_halt}
use Rattle.cell_code.specs.Rows.{grown, communication_of}
use Rattle.cell_code.specs.ShapedCells.{Point, WayGoes, OnWay, KeepsCounts, starts, goes}
use Rattle.cell_types.specs.Alike.{AlikeAction, AlikeBlock}
use Rattle.cell_types.specs.Code.{Expression, Number, Variable, Counter, Element, Negated, Applied, Action, Set, SetAt, Write, Read, Take, Emit, For, If, Block, End, Then}
use Rattle.cell_types.specs.Communications.{action_communications, block_communications}
use Rattle.cell_types.specs.Sound.{Means, SoundAction, SoundBlock}
use Rattle.cell_codegen.specs.Emission.{expression_code, loop_code, if_code, action_code, block_code, body_code}
use Rattle.cell_codegen.proofs.Steps.{HasAt, has_front, has_back, has_all}

abbrev point : ℕ → List ℕ → List Communication → Point
point at cs made = record { at = at; counters = cs; made = made }

-- Every way from a point on makes these communications in order, and all of them where it ends.
data Safe (code : List Instr) (all : List Communication) : Point → Type 0 where
  ends : (p : Point) → slice_get code p.at ≡ Some I.Halt → p.made ≡ all → Safe code all p
  onward : (p : Point) (instr : Instr) (rest : List Communication) → slice_get code p.at ≡ Some instr → is_halt instr ≡ false →
      p.made ++ rest ≡ all → ((q : Point) → WayGoes instr p q → Safe code all q) → Safe code all p

-- counters below a depth, and their number, are as before
record Intact (depth : ℕ) (old new : List ℕ) : Type 0 where
  below : (k : ℕ) → k < depth → get_or new k 0 ≡ get_or old k 0
  count : length new ≡ length old

intact : (depth : ℕ) (cs : List ℕ) → Intact depth cs cs
intact depth cs = record { below = λ k h. refl; count = refl }

on : (depth : ℕ) (a b c : List ℕ) → Intact depth a b → Intact depth b c → Intact depth a c
on depth a b c p q = record { below = λ k h. q.below k h ∙ p.below k h; count = q.count ∙ p.count }

less : (depth deeper : ℕ) (a b : List ℕ) → depth ≤ deeper → Intact deeper a b → Intact depth a b
less depth deeper a b h p = record { below = λ k less. p.below k (omega arith); count = p.count }

counted : (depth : ℕ) (cs : List ℕ) (value : ℕ) → Intact depth cs (set cs depth value)
counted depth cs value =
    record { below = λ k less. get_or-set_other cs depth k value 0 (λ e. omega arith); count = length-set cs depth value }

-- the communications before some more of them
front : (made one more rest : List Communication) → made ++ ((one ++ more) ++ rest) ≡ (made ++ one) ++ (more ++ rest)
front made one more rest =
    ap (λ cs. made ++ cs) (append_assoc one more rest) ∙ sym (append_assoc made one (more ++ rest))

module _ (code : List Instr) (all : List Communication) where
  to : (p q : Point) → p ≡ q → Safe code all q → Safe code all p
  to p q e safe = subst (λ r. Safe code all r) (sym e) safe

  -- ---- single steps

  -- an instruction that goes to the next one
  steps : (instr : Instr) (at : ℕ) (cs : List ℕ) (made rest : List Communication) →
      ((q : Point) → WayGoes instr (point at cs made) q → q ≡ point (at + 1) cs (noted made (communication_of instr))) → is_halt instr ≡ false →
      slice_get code at ≡ Some instr → made ++ rest ≡ all → Safe code all (point (at + 1) cs (noted made (communication_of instr))) →
      Safe code all (point at cs made)
  steps instr at cs made rest only going is fits onto =
      onward (point at cs made) instr rest is going fits (λ q go. to q _ (only q go) onto)

  -- an instruction behind a stretch
  behind : (instr : Instr) (at : ℕ) (is : List Instr) (cs : List ℕ) (made rest : List Communication) →
      ((q : Point) → WayGoes instr (point (at + length is) cs made) q → q ≡ point (at + length is + 1) cs (noted made (communication_of instr))) →
      is_halt instr ≡ false → HasAt code at (is ++ instr ∷ []) → made ++ rest ≡ all →
      Safe code all (point (at + length (is ++ instr ∷ [])) cs (noted made (communication_of instr))) →
      Safe code all (point (at + length is) cs made)
  behind instr at is cs made rest only going has fits onto =
      let e : at + length (is ++ instr ∷ []) ≡ at + length is + 1 = omega (arith, length-append is (instr ∷ [])) in
      steps instr (at + length is) cs made rest only going (has_back code at is (instr ∷ []) has).0 fits
      (subst (λ n. Safe code all (point n cs (noted made (communication_of instr)))) e onto)

  either_safe : (p q r : Point) → (p ≡ q) ⊎ (p ≡ r) → Safe code all q → Safe code all r → Safe code all p
  either_safe p q r (inl e) one other = to p q e one
  either_safe p q r (inr e) one other = to p r e other

  -- ---- expressions

  expression_ways : (line at : ℕ) (e : Expression) (cs : List ℕ) (made rest : List Communication) → HasAt code at (expression_code line e) →
      made ++ rest ≡ all → Safe code all (point (at + length (expression_code line e)) cs made) → Safe code all (point at cs made)
  expression_ways line at (Number n) cs made rest has fits onto = steps (I.Push (pos n)) at cs made rest (λ q go. go) refl has.0 fits onto
  expression_ways line at (Variable w) cs made rest has fits onto = steps (I.Load w) at cs made rest (λ q go. go) refl has.0 fits onto
  expression_ways line at (Counter k) cs made rest has fits onto = steps (I.Counter k) at cs made rest (λ q go. go) refl has.0 fits onto
  expression_ways line at (Element base len e) cs made rest has fits onto =
      let is = expression_code line e in
      expression_ways line at e cs made rest (has_front code at is (I.LoadAt base len line ∷ []) has) fits
      (behind (I.LoadAt base len line) at is cs made rest (λ q go. go) refl has fits onto)
  expression_ways line at (Negated e) cs made rest has fits onto =
      let is = expression_code line e in
      expression_ways line at e cs made rest (has_front code at is (I.Neg line ∷ []) has) fits
      (behind (I.Neg line) at is cs made rest (λ q go. go) refl has fits onto)
  expression_ways line at (Applied op l r) cs made rest has fits onto =
      let left = expression_code line l in
      let right = expression_code line r in
      let more = has_back code at left (right ++ I.Bin op line ∷ []) has in
      let e : at + length (left ++ (right ++ I.Bin op line ∷ [])) ≡ at + length left + length (right ++ I.Bin op line ∷ []) =
      omega (arith, length-append left (right ++ I.Bin op line ∷ [])) in
      expression_ways line at l cs made rest (has_front code at left (right ++ I.Bin op line ∷ []) has) fits
      (expression_ways line (at + length left) r cs made rest (has_front code (at + length left) right (I.Bin op line ∷ []) more) fits
      (behind (I.Bin op line) (at + length left) right cs made rest (λ q go. go) refl more fits
      (subst (λ n. Safe code all (point n cs made)) e onto)))

  -- ---- loops

  module _ (k n limit body pc : ℕ) (inside : k < limit) (each : List Communication) (is : slice_get code pc ≡ Some (I.Next k n body)) (turn : (cs : List ℕ) (made rest : List Communication) → length cs ≡ limit → made ++ (each ++ rest) ≡ all → ((ds : List ℕ) → Intact (k + 1) cs ds → Safe code all (point pc ds (made ++ each))) → Safe code all (point body cs made)) where
    -- the step at the end of a turn
    turn_ends : (i : ℕ) (b : Bool) (ds : List ℕ) (made rest : List Communication) → get_or ds k 0 ≡ i → i < n → nat_lt (i + 1) n ≡ b →
        made ++ rest ≡ all → Safe code all (point (if b then body else pc + 1) (set ds k (i + 1)) made) → Safe code all (point pc ds made)
    turn_ends i b ds made rest value lower is_b fits onto =
        let e : grown (get_or ds k 0) n ≡ i + 1 =
        ap (λ c. grown c n) value ∙ ap (λ t. if t then i + 1 else i) (lt-ltb i n lower) in
        let same = ap (λ c. point (if nat_lt c n then body else pc + 1) (set ds k c) made) e
        ∙ ap (λ t. point (if t then body else pc + 1) (set ds k (i + 1)) made) is_b in
        onward (point pc ds made) (I.Next k n body) rest is refl fits (λ q go. to q _ (go ∙ same) onto)

    -- the turns that are left, one at least
    turns_ways : (r i : ℕ) (cs : List ℕ) (made rest : List Communication) → i + suc r ≡ n → length cs ≡ limit → get_or cs k 0 ≡ i →
        made ++ (copies (suc r) each ++ rest) ≡ all →
        ((ds : List ℕ) → Intact k cs ds → Safe code all (point (pc + 1) ds (made ++ copies (suc r) each))) → Safe code all (point body cs made)
    turns_ways zero i cs made rest e long value fits onto =
        let fits_here = sym (front made each (copies 0 each) rest) ∙ fits in
        let fits_turn = sym (ap (λ xs. made ++ xs) (append_assoc each (copies 0 each) rest)) ∙ fits in
        turn cs made (copies 0 each ++ rest) long fits_turn
        (λ ds kept.
        turn_ends i false ds (made ++ each) (copies 0 each ++ rest) (kept.below k (omega arith) ∙ value) (omega (arith, e))
        (le-ltb (i + 1) n (omega (arith, e))) fits_here
        (subst (λ xs. Safe code all (point (pc + 1) (set ds k (i + 1)) (made ++ xs))) (append-nil each)
        (onto (set ds k (i + 1)) (on k cs ds (set ds k (i + 1)) (less k (k + 1) cs ds (omega arith) kept) (counted k ds (i + 1))))))
    turns_ways (suc r) i cs made rest e long value fits onto =
        let fits_here = sym (front made each (copies (suc r) each) rest) ∙ fits in
        let fits_turn = sym (ap (λ xs. made ++ xs) (append_assoc each (copies (suc r) each) rest)) ∙ fits in
        turn cs made (copies (suc r) each ++ rest) long fits_turn
        (λ ds kept.
        let there : length ds ≡ limit = kept.count ∙ long in
        let next = set ds k (i + 1) in
        turn_ends i true ds (made ++ each) (copies (suc r) each ++ rest) (kept.below k (omega arith) ∙ value) (omega (arith, e))
        (lt-ltb (i + 1) n (omega (arith, e))) fits_here
        (turns_ways r (i + 1) next (made ++ each) rest (omega (arith, e)) (length-set ds k (i + 1) ∙ there)
        (get_or-set_same ds k (i + 1) 0 (omega (arith, inside, there))) fits_here
        (λ es after.
        subst (λ xs. Safe code all (point (pc + 1) es xs)) (sym (append_assoc made each (copies (suc r) each)))
        (onto es (on k cs next es (on k cs ds next (less k (k + 1) cs ds (omega arith) kept) (counted k ds (i + 1))) after)))))

    -- the whole loop
    loop_ways : (m at : ℕ) (cs : List ℕ) (made rest : List Communication) → m ≡ n → slice_get code at ≡ Some (I.Loop k n (pc + 1)) →
        body ≡ at + 1 → length cs ≡ limit → made ++ (copies m each ++ rest) ≡ all →
        ((ds : List ℕ) → Intact k cs ds → Safe code all (point (pc + 1) ds (made ++ copies m each))) → Safe code all (point at cs made)
    loop_ways zero at cs made rest e begins next long fits onto =
        let none : nat_eq n 0 ≡ true = subst (λ j. nat_eq j 0 ≡ true) e refl in
        let same = ap (λ t. point (if t then pc + 1 else at + 1) (set cs k 0) made) none in
        onward (point at cs made) (I.Loop k n (pc + 1)) rest begins refl fits
        (λ q go. to q _ (go ∙ same)
        (subst (λ xs. Safe code all (point (pc + 1) (set cs k 0) xs)) (append-nil made) (onto (set cs k 0) (counted k cs 0))))
    loop_ways (suc m) at cs made rest e begins next long fits onto =
        let some : nat_eq n 0 ≡ false = ne_eqb n 0 (λ h. omega (arith, e, h)) in
        let same = ap (λ t. point (if t then pc + 1 else at + 1) (set cs k 0) made) some
        ∙ ap (λ a. point a (set cs k 0) made) (sym next) in
        let z : 0 + suc m ≡ n = omega (arith, e) in
        onward (point at cs made) (I.Loop k n (pc + 1)) (copies (suc m) each ++ rest) begins refl fits
        (λ q go. to q _ (go ∙ same)
        (turns_ways m 0 (set cs k 0) made rest z (length-set cs k 0 ∙ long)
        (get_or-set_same cs k 0 0 (omega (arith, inside, long))) fits
        (λ ds kept. onto ds (on k cs (set cs k 0) ds (counted k cs 0) kept))))

  -- ---- statements

  -- a statement without communications, of an instruction behind a stretch
  silent : (p : ℕ) (cs : List ℕ) (made : List Communication) →
      Safe code all (point p cs (made ++ [])) → Safe code all (point p cs made)
  silent p cs made safe = subst (λ xs. Safe code all (point p cs xs)) (append-nil made) safe

  module _ (means : Means) where
    mutual
      action_ways : (depth line : ℕ) (a : Action) → SoundAction means depth a → AlikeAction a → (at : ℕ) (cs : List ℕ)
          (made rest : List Communication) → length cs ≡ means.counters → HasAt code at (action_code at line a) →
          made ++ (action_communications a ++ rest) ≡ all →
          ((ds : List ℕ) → Intact depth cs ds → Safe code all (point (at + length (action_code at line a)) ds (made ++ action_communications a))) →
          Safe code all (point at cs made)
      action_ways depth line (Set w e) sound alike at cs made rest long has fits onto =
          let is = expression_code line e in
          expression_ways line at e cs made rest (has_front code at is (I.Store w ∷ []) has) fits
          (behind (I.Store w) at is cs made rest (λ q go. go) refl has fits (silent _ cs made (onto cs (intact depth cs))))
      action_ways depth line (SetAt base len e f) sound alike at cs made rest long has fits onto =
          let left = expression_code line e in
          let right = expression_code line f in
          let more = has_back code at left (right ++ I.StoreAt base len line ∷ []) has in
          let l : at + length (left ++ (right ++ I.StoreAt base len line ∷ [])) ≡ at + length left + length (right ++ I.StoreAt base len line ∷ []) =
          omega (arith, length-append left (right ++ I.StoreAt base len line ∷ [])) in
          expression_ways line at e cs made rest (has_front code at left (right ++ I.StoreAt base len line ∷ []) has) fits
          (expression_ways line (at + length left) f cs made rest (has_front code (at + length left) right (I.StoreAt base len line ∷ []) more) fits
          (behind (I.StoreAt base len line) (at + length left) right cs made rest (λ q go. go) refl more fits
          (subst (λ n. Safe code all (point n cs made)) l (silent _ cs made (onto cs (intact depth cs))))))
      action_ways depth line (Write m e) sound alike at cs made rest long has fits onto =
          let is = expression_code line e in
          expression_ways line at e cs made (action_communications (Write m e) ++ rest) (has_front code at is (I.Write m ∷ []) has) fits
          (behind (I.Write m) at is cs made (action_communications (Write m e) ++ rest) (λ q go. go) refl has fits (onto cs (intact depth cs)))
      action_ways depth line (Read m w) sound alike at cs made rest long has fits onto =
          steps (I.Read m w) at cs made (action_communications (Read m w) ++ rest) (λ q go. go) refl has.0 fits (onto cs (intact depth cs))
      action_ways depth line (Take w) sound alike at cs made rest long has fits onto =
          steps (I.Take w) at cs made (action_communications (Take w) ++ rest) (λ q go. go) refl has.0 fits (onto cs (intact depth cs))
      action_ways depth line (Emit e) sound alike at cs made rest long has fits onto =
          let is = expression_code line e in
          expression_ways line at e cs made (action_communications (Emit e) ++ rest) (has_front code at is (I.Emit ∷ []) has) fits
          (behind I.Emit at is cs made (action_communications (Emit e) ++ rest) (λ q go. go) refl has fits (onto cs (intact depth cs)))
      action_ways depth line (For k zero body) sound alike at cs made rest long has fits onto =
          let is = block_code (at + 1) body in
          let pc = at + 1 + length is in
          let l : at + length (loop_code at k 0 is) ≡ pc + 1 = omega (arith, length-append is (I.Next k 0 (at + 1) ∷ [])) in
          onward (point at cs made) (I.Loop k 0 (pc + 1)) rest has.0 refl fits
          (λ q go. to q _ go
          (subst (λ n. Safe code all (point n (set cs k 0) made)) l
          (silent _ (set cs k 0) made
          (onto (set cs k 0) (subst (λ d. Intact d cs (set cs k 0)) sound.0 (counted k cs 0))))))
      action_ways depth line (For k (suc m) body) sound alike at cs made rest long has fits onto =
          let is = block_code (at + 1) body in
          let pc = at + 1 + length is in
          let l : at + length (loop_code at k (suc m) is) ≡ pc + 1 = omega (arith, length-append is (I.Next k (suc m) (at + 1) ∷ [])) in
          let next = has_back code (at + 1) is (I.Next k (suc m) (at + 1) ∷ []) has.1 in
          let d : depth + 1 ≡ k + 1 = omega (arith, sound.0) in
          loop_ways k (suc m) means.counters (at + 1) pc sound.1 (block_communications body) next.0
          (λ ds mades more lengthy fit after.
          block_ways (depth + 1) body sound.3 alike (at + 1) ds mades more lengthy
          (has_front code (at + 1) is (I.Next k (suc m) (at + 1) ∷ []) has.1) fit
          (λ es kept. after es (subst (λ n. Intact n ds es) d kept)))
          (suc m) at cs made rest refl has.0 refl long fits
          (λ ds kept.
          subst (λ n. Safe code all (point n ds (made ++ copies (suc m) (block_communications body)))) l
          (onto ds (subst (λ n. Intact n cs ds) sound.0 kept)))
      action_ways depth line (If e first second) sound alike at cs made rest long has fits onto =
          let test = expression_code line e in
          let pc = at + length test in
          let a = block_code (pc + 1) first in
          let other = pc + 1 + length a + 1 in
          let b = block_code other second in
          let end = other + length b in
          let done = made ++ block_communications first in
          let l : at + length (if_code at test a b) ≡ end =
          omega (arith, length-append test (I.IfZero other ∷ (a ++ (I.Jump end ∷ b))), length-append a (I.Jump end ∷ b)) in
          let more = has_back code at test (I.IfZero other ∷ (a ++ (I.Jump end ∷ b))) has in
          let jump = has_back code (pc + 1) a (I.Jump end ∷ b) more.1 in
          let finish : (ds : List ℕ) → Intact depth cs ds → Safe code all (point end ds done) =
          λ ds kept. subst (λ n. Safe code all (point n ds done)) l (onto ds kept) in
          let fits_all = sym (append_assoc made (block_communications first) rest) in
          expression_ways line at e cs made (block_communications first ++ rest) (has_front code at test (I.IfZero other ∷ (a ++ (I.Jump end ∷ b))) has) fits
          (onward (point pc cs made) (I.IfZero other) (block_communications first ++ rest) more.0 refl fits
          (λ q go.
          either_safe q (point (pc + 1) cs made) (point other cs made) go
          (block_ways depth first sound.1 alike.1 (pc + 1) cs made rest long (has_front code (pc + 1) a (I.Jump end ∷ b) more.1) fits
          (λ ds kept.
          onward (point (pc + 1 + length a) ds done) (I.Jump end) rest jump.0 refl (sym fits_all ∙ fits)
          (λ r leads. to r _ leads (finish ds kept))))
          (block_ways depth second sound.2 alike.2 other cs made rest long jump.1
          (subst (λ xs. made ++ (xs ++ rest) ≡ all) alike.0 fits)
          (λ ds kept. subst (λ xs. Safe code all (point end ds (made ++ xs))) alike.0 (finish ds kept)))))

      block_ways : (depth : ℕ) (b : Block) → SoundBlock means depth b → AlikeBlock b → (at : ℕ) (cs : List ℕ)
          (made rest : List Communication) → length cs ≡ means.counters → HasAt code at (block_code at b) →
          made ++ (block_communications b ++ rest) ≡ all →
          ((ds : List ℕ) → Intact depth cs ds → Safe code all (point (at + length (block_code at b)) ds (made ++ block_communications b))) →
          Safe code all (point at cs made)
      block_ways depth End sound alike at cs made rest long has fits onto =
          let e : at + 0 ≡ at = omega arith in
          subst (λ n. Safe code all (point n cs made)) e (silent _ cs made (onto cs (intact depth cs)))
      block_ways depth (Then line a rest) sound alike at cs made after long has fits onto =
          let is = action_code at line a in
          let more = block_code (at + length is) rest in
          let one = action_communications a in
          let two = block_communications rest in
          let l : at + length (is ++ more) ≡ at + length is + length more = omega (arith, length-append is more) in
          action_ways depth line a sound.0 alike.0 at cs made (two ++ after) long (has_front code at is more has)
          (sym (ap (λ xs. made ++ xs) (append_assoc one two after)) ∙ fits)
          (λ ds kept.
          block_ways depth rest sound.1 alike.1 (at + length is) ds (made ++ one) after (kept.count ∙ long) (has_back code at is more has)
          (sym (front made one two after) ∙ fits)
          (λ es again.
          subst (λ xs. Safe code all (point (at + length is + length more) es xs)) (sym (append_assoc made one two))
          (subst (λ n. Safe code all (point n es (made ++ (one ++ two)))) l (onto es (on depth cs ds es kept again)))))

  -- ---- what follows for ways

  goes_on : (p q : Point) (instr : Instr) → Safe code all p → slice_get code p.at ≡ Some instr → WayGoes instr p q → Safe code all q
  goes_on _ q instr (ends p halt made) is go =
      let e : instr ≡ I.Halt = cc in
      absurd (subst (λ i. WayGoes i p q) e go)
  goes_on _ q instr (onward p other rest there going fits next) is go =
      let e : instr ≡ other = cc in
      next q (subst (λ i. WayGoes i p q) e go)

  made_of : (p : Point) → Safe code all p → (rest : List Communication) × (p.made ++ rest ≡ all)
  made_of _ (ends p halt made) = ([], append-nil p.made ∙ made)
  made_of _ (onward p other rest there going fits next) = (rest, fits)

  all_made : (p : Point) → Safe code all p → slice_get code p.at ≡ Some I.Halt → p.made ≡ all
  all_made _ (ends p halt made) is = made
  all_made _ (onward p other rest there going fits next) is =
      let e : other ≡ I.Halt = cc in
      let no : true ≡ false = subst (λ i. is_halt i ≡ false) e going in
      absurd (cc)

  fewer : (c : Communication) (made : List Communication) → (rest : List Communication) × (made ++ rest ≡ all) → times c made ≤ times c all
  fewer c made more =
      omega (arith, sum_by-append (λ d. cond (same_communication c d) 1 0) made more.0, ap (λ cs. times c cs) more.1)

  module _ (counters : ℕ) (begins : Safe code all (point 0 (replicate counters 0) [])) where
    safe : (p : Point) → OnWay code counters p → Safe code all p
    safe _ starts = begins
    safe _ (goes p q instr way is go) = goes_on p q instr (safe p way) is go

    kept : KeepsCounts code counters (times Takes all) (times Emits all)
    kept =
        record {
          takes_most = λ p way. fewer Takes p.made (made_of p (safe p way));
          emits_most = λ p way. fewer Emits p.made (made_of p (safe p way));
          takes_all = λ p way is. ap (λ cs. times Takes cs) (all_made p (safe p way) is);
          emits_all = λ p way is. ap (λ cs. times Emits cs) (all_made p (safe p way) is);
        }

-- the code of a cell's statements keeps the counts of their communications on every way, where arms are alike
pub keeps_counts : (means : Means) (body : Block) → SoundBlock means 0 body → AlikeBlock body →
    KeepsCounts (body_code body) means.counters (times Takes (block_communications body)) (times Emits (block_communications body))
keeps_counts means body sound alike =
    let is = block_code 0 body in
    let code = body_code body in
    let all = block_communications body in
    let has = has_all [] code in
    let cs = replicate means.counters 0 in
    kept code all means.counters
    (block_ways code all means 0 body sound alike 0 cs [] [] (length-replicate means.counters 0) (has_front code 0 is (I.Halt ∷ []) has)
    (append-nil all)
    (λ ds after. ends (point (0 + length is) ds all) (has_back code 0 is (I.Halt ∷ []) has).0 refl))
