-- A cell image that passes the tests is shaped.
use Rattle.std.proofs.Common.{◌≡◌, ℕ, zero, suc, replicate, ◌+◌, ◌-◌, ◌≤◌, Bool, true, false, not, ◌&&◌, nat_eq, nat_le, List, [], ◌∷◌, length, Option, Some, None, refl, sym, ap, subst, inl, inr, arith}
use Rattle.std.specs.List.{list_all, slice_get}
use Rattle.std.specs.Option.{option_map_or}
use Rattle.std.proofs.lemmas.Bool.{ltb-true, leb-true, eqb-true}
use Rattle.sys_base.specs.Communications.{Takes, Emits, times}
use Rattle.cell_code.specs.declared.image.CellImage.{CellImage}
use Rattle.cell_code.specs.declared.instruction.Instr.{Instr}
use Rattle.cell_code.specs.declared.instruction.Instr.TheVariants.{Load, LoadAt, Counter, Store, StoreAt, Read, Take, Loop, Next, IfZero, Jump, Halt}
use Rattle.cell_code.specs.Checked.{is_halt, halts_last, is_in_range, leads_inside, has_depth, goes_well, flows, way_points, counts_fit, keeps, is_checked}
use Rattle.cell_code.specs.ShapedCells.{InRange, LeadsInside, pops, pushes, PathGoes, OnPath, StackRule, Point, WayGoes, OnWay, KeepsCounts, IsShapedCell, starts, goes}

-- ---- tests

never : {A : Type 0} → false ≡ true → A
never h = absurd (cc)

both : (a b : Bool) → (a && b) ≡ true → (a ≡ true) × (b ≡ true)
both true b h = (refl, h)
both false b h = never h

-- an option that passes a test
there : {X : Type 0} (test : X → Bool) (o : Option X) → option_map_or test o false ≡ true → (x : X) × (o ≡ Some x) × (test x ≡ true)
there test None h = never h
there test (Some x) h = (x, refl, h)

passes : {X : Type 0} (test : X → Bool) (xs : List X) (k : ℕ) (x : X) → list_all test xs ≡ true → slice_get xs k ≡ Some x →
    test x ≡ true
passes test [] k x h at = absurd (cc)
passes test (y ∷ ys) zero x h at = let e : y ≡ x = cc in subst (λ v. test v ≡ true) e (both _ _ h).0
passes test (y ∷ ys) (suc k) x h at = passes test ys k x (both _ _ h).1 at

-- ---- the end

is_halt-true : (instr : Instr) → is_halt instr ≡ true → instr ≡ Halt
is_halt-true Halt h = refl
is_halt-true _ h = never h

last_is : (code : List Instr) → halts_last code ≡ true → slice_get code (length code - 1) ≡ Some Halt
last_is [] h = never h
last_is (instr ∷ []) h = ap (λ i. Some i) (is_halt-true instr h)
last_is (instr ∷ next ∷ rest) h =
    let e : length (instr ∷ next ∷ rest) - 1 ≡ suc (length (next ∷ rest) - 1) = omega arith in
    rw e (last_is (next ∷ rest) (both _ _ h).1)

only_is : (code : List Instr) → halts_last code ≡ true → (at : ℕ) → slice_get code at ≡ Some Halt → at + 1 ≡ length code
only_is [] h at e = absurd (cc)
only_is (instr ∷ []) h zero e = refl
only_is (instr ∷ []) h (suc at) e = absurd (cc)
only_is (instr ∷ next ∷ rest) h zero e =
    let is : Halt ≡ instr = cc in
    never (subst (λ i. not (is_halt i) ≡ true) (sym is) (both _ _ h).0)
only_is (instr ∷ next ∷ rest) h (suc at) e = omega (arith, only_is (next ∷ rest) (both _ _ h).1 at e)

-- ---- ranges

in_range : (words counters : ℕ) (instr : Instr) → is_in_range words counters instr ≡ true → InRange words counters instr
in_range words counters (Load word) h = ltb-true _ _ h
in_range words counters (LoadAt base len line) h = leb-true _ _ h
in_range words counters (Counter k) h = ltb-true _ _ h
in_range words counters (Store word) h = ltb-true _ _ h
in_range words counters (StoreAt base len line) h = leb-true _ _ h
in_range words counters (Read message word) h = ltb-true _ _ h
in_range words counters (Take word) h = ltb-true _ _ h
in_range words counters (Loop k turns exit) h = ltb-true _ _ h
in_range words counters (Next k turns body) h = ltb-true _ _ h
in_range words counters _ h = tt

inside : (size : ℕ) (instr : Instr) → leads_inside size instr ≡ true → LeadsInside size instr
inside size (Loop k turns exit) h = ltb-true _ _ h
inside size (Next k turns body) h = ltb-true _ _ h
inside size (IfZero target) h = ltb-true _ _ h
inside size (Jump target) h = ltb-true _ _ h
inside size _ h = tt

-- ---- the stack

table_has : (table : List ℕ) (at depth : ℕ) → has_depth table at depth ≡ true → slice_get table at ≡ Some depth
table_has table at depth h =
    let t = there (nat_eq depth) (slice_get table at) h in
    let e : depth ≡ t.0 = eqb-true _ _ t.2 in
    cc

-- what the test of a stretch of code says of one of its instructions
record Flow (table : List ℕ) (places at : ℕ) (instr : Instr) (depth : ℕ) : Type 0 where
  pops_there : pops instr ≤ depth
  shallow : depth ≤ places
  well : goes_well table at (depth - pops instr + pushes instr) instr ≡ true

-- the parts of the test of a stretch of code
record Parts (table : List ℕ) (places at : ℕ) (first : Instr) (rest : List Instr) (depth : ℕ) (depths : List ℕ) : Type 0 where
  here : Flow table places at first depth
  after : flows table places (at + 1) rest depths ≡ true

parts : (table : List ℕ) (places at : ℕ) (first : Instr) (rest : List Instr) (depth : ℕ) (depths : List ℕ) →
    flows table places at (first ∷ rest) (depth ∷ depths) ≡ true → Parts table places at first rest depth depths
parts table places at first rest depth depths h =
    let well = goes_well table at (depth - pops first + pushes first) first in
    let after = flows table places (at + 1) rest depths in
    let one = both (nat_le (pops first) depth) (nat_le depth places && (well && after)) h in
    let two = both (nat_le depth places) (well && after) one.1 in
    let three = both well after two.1 in
    record {
      here = record { pops_there = leb-true _ _ one.0; shallow = leb-true _ _ two.0; well = three.0 };
      after = three.1;
    }

flow_at : (table : List ℕ) (places at : ℕ) (code : List Instr) (depths : List ℕ) → flows table places at code depths ≡ true →
    (k : ℕ) (instr : Instr) → slice_get code k ≡ Some instr → (depth : ℕ) × (slice_get depths k ≡ Some depth) ×
    Flow table places (at + k) instr depth
flow_at table places at [] depths h k instr is = absurd (cc)
flow_at table places at (first ∷ rest) [] h k instr is = never h
flow_at table places at (first ∷ rest) (depth ∷ depths) h zero instr is =
    let e : first ≡ instr = cc in
    let z : at ≡ at + 0 = omega arith in (
      depth,
      refl,
      subst (λ i. Flow table places (at + 0) i depth) e
          (subst (λ n. Flow table places n first depth) z (parts table places at first rest depth depths h).here),
    )
flow_at table places at (first ∷ rest) (depth ∷ depths) h (suc k) instr is =
    let p = parts table places at first rest depth depths h in
    let next = flow_at table places (at + 1) rest depths p.after k instr is in
    let e : (at + 1) + k ≡ at + suc k = omega arith in
    (next.0, next.1, subst (λ n. Flow table places n instr next.0) e next.2)

shallow_at : (table : List ℕ) (places at : ℕ) (code : List Instr) (depths : List ℕ) → flows table places at code depths ≡ true →
    (k depth : ℕ) → slice_get depths k ≡ Some depth → depth ≤ places
shallow_at table places at code [] h k depth is = absurd (cc)
shallow_at table places at [] (d ∷ ds) h k depth is = never h
shallow_at table places at (first ∷ rest) (d ∷ ds) h zero depth is =
    let e : d ≡ depth = cc in
    subst (λ n. n ≤ places) e (parts table places at first rest d ds h).here.shallow
shallow_at table places at (first ∷ rest) (d ∷ ds) h (suc k) depth is =
    shallow_at table places (at + 1) rest ds (parts table places at first rest d ds h).after k depth is

along : (table : List ℕ) (to depth next : ℕ) → has_depth table to depth ≡ true → next ≡ to → slice_get table next ≡ Some depth
along table to depth next h e = subst (λ n. slice_get table n ≡ Some depth) (sym e) (table_has table to depth h)

-- where a path goes on, the table has the depth
leads : (table : List ℕ) (at depth next : ℕ) (instr : Instr) → goes_well table at depth instr ≡ true → PathGoes instr at next →
    slice_get table next ≡ Some depth
leads table at depth next (Loop k turns exit) h (inl e) = along table _ depth next (both _ _ h).0 e
leads table at depth next (Loop k turns exit) h (inr e) = along table _ depth next (both _ _ h).1 e
leads table at depth next (Next k turns body) h (inl e) = along table _ depth next (both _ _ h).0 e
leads table at depth next (Next k turns body) h (inr e) = along table _ depth next (both _ _ h).1 e
leads table at depth next (IfZero target) h (inl e) = along table _ depth next (both _ _ h).0 e
leads table at depth next (IfZero target) h (inr e) = along table _ depth next (both _ _ h).1 e
leads table at depth next (Jump target) h e = along table target depth next h e
leads table at depth next Halt h e = absurd e
leads table at depth next _ h e = along table (at + 1) depth next h e

module _ (code : List Instr) (table : List ℕ) (places : ℕ) (begins : has_depth table 0 0 ≡ true) (flow : flows table places 0 code table ≡ true) where
  depth_is : (at depth : ℕ) → OnPath code at depth → slice_get table at ≡ Some depth
  depth_is _ _ starts = table_has table 0 0 begins
  depth_is _ _ (goes at depth next instr path is go) =
      let f = flow_at table places 0 code table flow at instr is in
      let e : f.0 ≡ depth = let h = depth_is at depth path in cc in
      let z : 0 + at ≡ at = omega arith in
      let well = subst (λ d. goes_well table at (d - pops instr + pushes instr) instr ≡ true) e
      (subst (λ n. goes_well table n (f.0 - pops instr + pushes instr) instr ≡ true) z f.2.well) in
      leads table at (depth - pops instr + pushes instr) next instr well go

  stack_rule : StackRule code places
  stack_rule =
      record {
        one_depth = λ at d e p q. let h = depth_is at d p in let k = depth_is at e q in cc;
        empty_at_halt =
            λ at d p is.
            let f = flow_at table places 0 code table flow at Halt is in
            let h = depth_is at d p in
            let e : f.0 ≡ d = cc in
            let z = eqb-true _ _ f.2.well in
            omega arith;
        not_deep = λ at d p. shallow_at table places 0 code table flow at d (depth_is at d p);
        no_empty_pop =
            λ at d instr p is.
            let f = flow_at table places 0 code table flow at instr is in
            let h = depth_is at d p in
            let e : f.0 ≡ d = cc in
            subst (λ n. pops instr ≤ n) e f.2.pops_there;
      }

-- ---- ways

among : (test : Point → Bool) (instr : Instr) (p q : Point) → list_all test (way_points instr p) ≡ true → WayGoes instr p q →
    test q ≡ true
among test (Loop k turns exit) p q h e = subst (λ r. test r ≡ true) (sym e) (both _ _ h).0
among test (Next k turns body) p q h e = subst (λ r. test r ≡ true) (sym e) (both _ _ h).0
among test (IfZero target) p q h (inl e) = subst (λ r. test r ≡ true) (sym e) (both _ _ h).0
among test (IfZero target) p q h (inr e) = subst (λ r. test r ≡ true) (sym e) (both _ _ (both _ _ h).1).0
among test (Jump target) p q h e = subst (λ r. test r ≡ true) (sym e) (both _ _ h).0
among test Halt p q h e = absurd e
among test _ p q h e = subst (λ r. test r ≡ true) (sym e) (both _ _ h).0

-- what the counts are at a point
fit_most : (takes emits : ℕ) (p : Point) (instr : Instr) → counts_fit takes emits p instr ≡ true →
    (times Takes p.made ≤ takes) × (times Emits p.made ≤ emits)
fit_most takes emits p Halt h =
    let a : times Takes p.made ≡ takes = eqb-true _ _ (both _ _ h).0 in
    let b : times Emits p.made ≡ emits = eqb-true _ _ (both _ _ h).1 in
    (omega arith, omega arith)
fit_most takes emits p _ h = (leb-true _ _ (both _ _ h).0, leb-true _ _ (both _ _ h).1)

module _ (code : List Instr) (counters takes emits points : ℕ) (all : keeps code takes emits points (record { at = 0; counters = replicate counters 0; made = [] }) ≡ true) where
  explored : (p : Point) → OnWay code counters p → (n : ℕ) × (keeps code takes emits n p ≡ true)
  explored _ starts = (points, all)
  explored _ (goes p q instr way is go) = onwards (explored p way).0 (explored p way).1
    where
      onwards : (n : ℕ) → keeps code takes emits n p ≡ true → (n : ℕ) × (keeps code takes emits n q ≡ true)
      onwards zero h = never h
      onwards (suc n) h =
          let t = there _ (slice_get code p.at) h in
          let e : t.0 ≡ instr = cc in (
            n,
            among (keeps code takes emits n) instr p q
                (subst (λ i. list_all (keeps code takes emits n) (way_points i p) ≡ true) e (both _ _ t.2).1) go,
          )

  fits : (p : Point) → OnWay code counters p →
      (instr : Instr) × (slice_get code p.at ≡ Some instr) × (counts_fit takes emits p instr ≡ true)
  fits p way = here (explored p way).0 (explored p way).1
    where
      here : (n : ℕ) → keeps code takes emits n p ≡ true →
          (instr : Instr) × (slice_get code p.at ≡ Some instr) × (counts_fit takes emits p instr ≡ true)
      here zero h = never h
      here (suc n) h = let t = there _ (slice_get code p.at) h in (t.0, t.1, (both _ _ t.2).0)

  at_halt : (p : Point) → OnWay code counters p → slice_get code p.at ≡ Some Halt → counts_fit takes emits p Halt ≡ true
  at_halt p way is =
      let f = fits p way in
      let e : f.0 ≡ Halt = cc in
      subst (λ i. counts_fit takes emits p i ≡ true) e f.2

  keeps_counts : KeepsCounts code counters takes emits
  keeps_counts =
      record {
        takes_most = λ p way. let f = fits p way in (fit_most takes emits p f.0 f.2).0;
        emits_most = λ p way. let f = fits p way in (fit_most takes emits p f.0 f.2).1;
        takes_all = λ p way is. eqb-true _ _ (both _ _ (at_halt p way is)).0;
        emits_all = λ p way is. eqb-true _ _ (both _ _ (at_halt p way is)).1;
      }

pub checked_cell : (image : CellImage) (table : List ℕ) (points : ℕ) → is_checked image table points ≡ true → IsShapedCell image
checked_cell image table points h =
    let one = both _ _ h in
    let two = both _ _ one.1 in
    let three = both _ _ two.1 in
    let four = both _ _ three.1 in
    let five = both _ _ four.1 in
    record {
      ends = record { last = last_is image.code one.0; only = only_is image.code one.0 };
      ranges =
          λ at instr is.
          in_range image.words image.counters instr
          (passes (is_in_range image.words image.counters) image.code at instr two.0 is);
      targets = λ at instr is. inside (length image.code) instr (passes (leads_inside (length image.code)) image.code at instr three.0 is);
      stack = stack_rule image.code table image.stack four.0 five.0;
      counts = keeps_counts image.code image.counters image.takes image.emits points five.1;
    }
