-- Tests that show a given cell image shaped, by a table of the stack's depth at each address and by following every
-- way.
use Rattle.std.specs.Prelude.{ℕ, zero, suc, ◌+◌, ◌-◌, Bool, true, false, not, ◌&&◌, nat_eq, nat_lt, nat_le, if◌then◌else◌, List, [], ◌∷◌, length, replicate, slice_get, slice_index_or, slice_set}
use Rattle.std.specs.List.{list_all}
use Rattle.std.specs.Option.{option_map_or}
use Rattle.sys_base.specs.Communications.{Takes, Emits, times}
use Rattle.cell_code.specs.declared.image.CellImage.{CellImage}
use Rattle.cell_code.specs.declared.instruction.Instr.{Instr}
use Rattle.cell_code.specs.declared.instruction.Instr.TheVariants.{Load, LoadAt, Counter, Store, StoreAt, Read, Take, Loop, Next, IfZero, Jump, Halt}
use Rattle.cell_code.specs.Alone.{noted}
use Rattle.cell_code.specs.Rows.{grown, communication_of}
use Rattle.cell_code.specs.ShapedCells.{pops, pushes, Point}

-- whether an instruction is `halt`
abbrev pub is_halt : Instr → Bool
is_halt Halt = true
is_halt _ = false

-- whether the last instruction is `halt`, and the only one
abbrev pub halts_last : List Instr → Bool
halts_last [] = false
halts_last (instr ∷ []) = is_halt instr
halts_last (instr ∷ next ∷ rest) = not (is_halt instr) && halts_last (next ∷ rest)

-- whether what an instruction names is in range
abbrev pub is_in_range : ℕ → ℕ → Instr → Bool
is_in_range words counters (Load word) = nat_lt word words
is_in_range words counters (LoadAt base len line) = nat_le (base + len) words
is_in_range words counters (Counter k) = nat_lt k counters
is_in_range words counters (Store word) = nat_lt word words
is_in_range words counters (StoreAt base len line) = nat_le (base + len) words
is_in_range words counters (Read message word) = nat_lt word words
is_in_range words counters (Take word) = nat_lt word words
is_in_range words counters (Loop k turns exit) = nat_lt k counters
is_in_range words counters (Next k turns body) = nat_lt k counters
is_in_range words counters _ = true

-- whether the target of an instruction is an address of the code
abbrev pub leads_inside : ℕ → Instr → Bool
leads_inside size (Loop k turns exit) = nat_lt exit size
leads_inside size (Next k turns body) = nat_lt body size
leads_inside size (IfZero target) = nat_lt target size
leads_inside size (Jump target) = nat_lt target size
leads_inside size _ = true

-- whether a table has this depth at an address
abbrev pub has_depth : List ℕ → ℕ → ℕ → Bool
has_depth table at depth = option_map_or (nat_eq depth) (slice_get table at) false

-- whether a table has this depth wherever a path goes on from an instruction at an address
abbrev pub goes_well : List ℕ → ℕ → ℕ → Instr → Bool
goes_well table at depth (Loop k turns exit) = has_depth table (at + 1) depth && has_depth table exit depth
goes_well table at depth (Next k turns body) = has_depth table (at + 1) depth && has_depth table body depth
goes_well table at depth (IfZero target) = has_depth table (at + 1) depth && has_depth table target depth
goes_well table at depth (Jump target) = has_depth table target depth
goes_well table at depth Halt = nat_eq depth 0
goes_well table at depth _ = has_depth table (at + 1) depth

-- whether instructions from an address on, at these depths, pop only what is there, need at most so many places, and
-- go on to the depths of the table
abbrev pub flows : List ℕ → ℕ → ℕ → List Instr → List ℕ → Bool
flows table places at [] [] = true
flows table places at [] (depth ∷ depths) = false
flows table places at (instr ∷ rest) [] = false
flows table places at (instr ∷ rest) (depth ∷ depths) =
    nat_le (pops instr) depth && (nat_le depth places && (goes_well table at (depth - pops instr + pushes instr) instr
    && flows table places (at + 1) rest depths))

-- the points to which a way goes on from an instruction
abbrev pub way_points : Instr → Point → List Point
way_points (Loop k turns exit) p =
    (record p { at = if nat_eq turns 0 then exit else p.at + 1; counters = slice_set p.counters k 0 }) ∷ []
way_points (Next k turns body) p =
    let value = grown (slice_index_or p.counters k 0) turns in
    (record p { at = if nat_lt value turns then body else p.at + 1; counters = slice_set p.counters k value }) ∷ []
way_points (IfZero target) p = (record p { at = p.at + 1 }) ∷ (record p { at = target }) ∷ []
way_points (Jump target) p = (record p { at = target }) ∷ []
way_points Halt p = []
way_points instr p = (record p { at = p.at + 1; made = noted p.made (communication_of instr) }) ∷ []

-- whether there are at most so many takes and emits at a point, and exactly so many where the instruction there is
-- `halt`
abbrev pub counts_fit : ℕ → ℕ → Point → Instr → Bool
counts_fit takes emits p Halt = nat_eq (times Takes p.made) takes && nat_eq (times Emits p.made) emits
counts_fit takes emits p _ = nat_le (times Takes p.made) takes && nat_le (times Emits p.made) emits

-- whether every way from a point on keeps the counts, and ends within so many points
abbrev pub keeps : List Instr → ℕ → ℕ → ℕ → Point → Bool
keeps code takes emits zero p = false
keeps code takes emits (suc n) p =
    option_map_or (λ instr. counts_fit takes emits p instr && list_all (λ q. keeps code takes emits n q)
    (way_points instr p))
    (slice_get code p.at) false

-- whether an image passes all these tests, with a table of depths and ways of at most so many points
abbrev pub is_checked : CellImage → List ℕ → ℕ → Bool
is_checked image table points =
    halts_last image.code
    && (list_all (is_in_range image.words image.counters) image.code
    && (list_all (leads_inside (length image.code)) image.code
    && (has_depth table 0 0
    && (flows table image.stack 0 image.code table
    && keeps image.code image.takes image.emits points
    (record { at = 0; counters = replicate image.counters 0; made = [] })))))
