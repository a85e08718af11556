-- Cells whose code is sound in itself: where it ends, what it names, its stack on every path, and its counts on every
-- way.
use Rattle.std.specs.Prelude.{ℕ, ◌+◌, ◌-◌, ◌≡◌, ◌<◌, ◌≤◌, ◌⊎◌, ⊤, nat_eq, nat_lt, if◌then◌else◌, List, [], Some, length, replicate, slice_get, slice_index_or, slice_set}
use Rattle.sys_base.specs.Communications.{Communication, Takes, Emits, times}
use Rattle.cell_code.specs.declared.image.CellImage.{CellImage}
use Rattle.cell_code.specs.declared.instruction.Instr.{Instr}
use Rattle.cell_code.specs.declared.instruction.Instr.TheVariants.{Push, Load, LoadAt, Counter, Neg, Bin, Store, StoreAt, Write, Read, Take, Emit, Loop, Next, IfZero, Jump, Halt}
use Rattle.cell_code.specs.Alone.{noted}
use Rattle.cell_code.specs.Rows.{grown, communication_of}

-- ---- its end and its ranges

-- The last instruction is `halt`, and it is the only one.
pub record EndsInHalt (code : List Instr) : Type 0 where
  pub last : slice_get code (length code - 1) ≡ Some Halt
  pub only : (at : ℕ) → slice_get code at ≡ Some Halt → at + 1 ≡ length code

-- In a cell with so many words and counters, the words, arrays and counters of an instruction are in range, an array
-- with its whole length.
abbrev pub InRange : ℕ → ℕ → Instr → Type 0
InRange words counters (Load word) = word < words
InRange words counters (LoadAt base len line) = base + len ≤ words
InRange words counters (Counter k) = k < counters
InRange words counters (Store word) = word < words
InRange words counters (StoreAt base len line) = base + len ≤ words
InRange words counters (Read message word) = word < words
InRange words counters (Take word) = word < words
InRange words counters (Loop k turns exit) = k < counters
InRange words counters (Next k turns body) = k < counters
InRange words counters _ = ⊤

-- The target of an instruction is an address of a code that is so long.
abbrev pub LeadsInside : ℕ → Instr → Type 0
LeadsInside size (Loop k turns exit) = exit < size
LeadsInside size (Next k turns body) = body < size
LeadsInside size (IfZero target) = target < size
LeadsInside size (Jump target) = target < size
LeadsInside size _ = ⊤

-- ---- paths and the stack

-- how many words an instruction pops
abbrev pub pops : Instr → ℕ
pops (LoadAt base len line) = 1
pops (Neg line) = 1
pops (Bin op line) = 2
pops (Store word) = 1
pops (StoreAt base len line) = 2
pops (Write message) = 1
pops Emit = 1
pops (IfZero target) = 1
pops _ = 0

-- how many words an instruction pushes
abbrev pub pushes : Instr → ℕ
pushes (Push number) = 1
pushes (Load word) = 1
pushes (LoadAt base len line) = 1
pushes (Counter k) = 1
pushes (Neg line) = 1
pushes (Bin op line) = 1
pushes _ = 0

-- A path goes from an instruction at an address to another address: from `loop`, `next` and `ifzero` to the next one
-- or to the target, from `jump` to its target, from `halt` nowhere, and from every other one to the next.
abbrev pub PathGoes : Instr → ℕ → ℕ → Type 0
PathGoes (Loop k turns exit) at next = (next ≡ at + 1) ⊎ (next ≡ exit)
PathGoes (Next k turns body) at next = (next ≡ at + 1) ⊎ (next ≡ body)
PathGoes (IfZero target) at next = (next ≡ at + 1) ⊎ (next ≡ target)
PathGoes (Jump target) at next = next ≡ target
PathGoes Halt at next = ⊥
PathGoes _ at next = next ≡ at + 1

-- A path leads from address 0 to an address, with this depth of the stack there.
pub data OnPath (code : List Instr) : ℕ → ℕ → Type 0 where
  starts : OnPath code 0 0
  goes : (at depth next : ℕ) (instr : Instr) → OnPath code at depth → slice_get code at ≡ Some instr →
      PathGoes instr at next → OnPath code next (depth - pops instr + pushes instr)

-- The stack rule: each address has one depth on all paths to it, 0 at `halt`, and none above so many places; nothing
-- is popped from an empty stack.
pub record StackRule (code : List Instr) (places : ℕ) : Type 0 where
  pub one_depth : (at d e : ℕ) → OnPath code at d → OnPath code at e → d ≡ e
  pub empty_at_halt : (at d : ℕ) → OnPath code at d → slice_get code at ≡ Some Halt → d ≡ 0
  pub not_deep : (at d : ℕ) → OnPath code at d → d ≤ places
  pub no_empty_pop : (at d : ℕ) (instr : Instr) → OnPath code at d → slice_get code at ≡ Some instr → pops instr ≤ d

-- ---- ways and the counts

-- a point of a way: its address, the counters there, and the communications made so far
pub record Point : Type 0 where
  pub at : ℕ
  pub counters : List ℕ
  pub made : List Communication

-- A way goes from an instruction at a point to another point: as a path, but `loop` and `next` go as they do in a
-- run, while `ifzero` may go either way.
abbrev pub WayGoes : Instr → Point → Point → Type 0
WayGoes (Loop k turns exit) p q =
    q ≡ record p { at = if nat_eq turns 0 then exit else p.at + 1; counters = slice_set p.counters k 0 }
WayGoes (Next k turns body) p q =
    let value = grown (slice_index_or p.counters k 0) turns in
    q ≡ record p { at = if nat_lt value turns then body else p.at + 1; counters = slice_set p.counters k value }
WayGoes (IfZero target) p q = (q ≡ record p { at = p.at + 1 }) ⊎ (q ≡ record p { at = target })
WayGoes (Jump target) p q = q ≡ record p { at = target }
WayGoes Halt p q = ⊥
WayGoes instr p q = q ≡ record p { at = p.at + 1; made = noted p.made (communication_of instr) }

-- A way leads from address 0, with all counters 0, to a point.
pub data OnWay (code : List Instr) (counters : ℕ) : Point → Type 0 where
  starts : OnWay code counters (record { at = 0; counters = replicate counters 0; made = [] })
  goes : (p q : Point) (instr : Instr) → OnWay code counters p → slice_get code p.at ≡ Some instr → WayGoes instr p q →
      OnWay code counters q

-- Every way makes at most so many takes and emits, and exactly so many where it ends at `halt`.
pub record KeepsCounts (code : List Instr) (counters takes emits : ℕ) : Type 0 where
  pub takes_most : (p : Point) → OnWay code counters p → times Takes p.made ≤ takes
  pub emits_most : (p : Point) → OnWay code counters p → times Emits p.made ≤ emits
  pub takes_all : (p : Point) → OnWay code counters p → slice_get code p.at ≡ Some Halt → times Takes p.made ≡ takes
  pub emits_all : (p : Point) → OnWay code counters p → slice_get code p.at ≡ Some Halt → times Emits p.made ≡ emits

-- A cell image is shaped.
pub record IsShapedCell (image : CellImage) : Type 0 where
  pub ends : EndsInHalt image.code
  pub ranges : (at : ℕ) (instr : Instr) → slice_get image.code at ≡ Some instr →
      InRange image.words image.counters instr
  pub targets : (at : ℕ) (instr : Instr) → slice_get image.code at ≡ Some instr → LeadsInside (length image.code) instr
  pub stack : StackRule image.code image.stack
  pub counts : KeepsCounts image.code image.counters image.takes image.emits
