-- Statements without faults are sound once their names are resolved.
use Rattle.std.proofs.Common.{◌≡◌, ℕ, ◌+◌, ◌≤◌, List, [], ◌∷◌, ◌++◌, nat_lt, is_some, ap, ◌∙◌, arith, length-append, ltb-false}
use Rattle.sys_base.specs.declared.kinds.Limit.TheVariants as L
use Rattle.cell_types.specs.Depth.{block_loops}
use Rattle.cell_types.specs.Names.{Scope, meaning, inside_loop}
use Rattle.cell_types.specs.Resolved.{resolved_expression, resolved_action, resolved_block}
use Rattle.cell_types.specs.Depth.{action_loops}
use Rattle.cell_types.specs.Sound.{Means, SoundExpression, SoundAction, SoundBlock}
use Rattle.cell_types.specs.Statics.{when, is_variable, is_array, name_faults, write_faults, read_faults, expression_faults, action_faults, block_faults}
use Rattle.cell_types.specs.Written.{WrittenExpression, Number, Named, Element, Negated, Applied, WrittenAction, Set, SetAt, Write, Read, Take, Emit, For, If, WrittenBlock, End, Then}
use Rattle.cell_types.specs.declared.error.StaticError.TheVariants as E
use Rattle.cell_types.specs.declared.error.What.TheVariants as W
use Rattle.cell_types.proofs.NoFaults.{none_front, none_back, when_none}
use Rattle.cell_types.proofs.SoundNames.{Fits, word_kept, array_kept, value_kept, sends_kept, receives_kept}
use Rattle.cell_types.proofs.WrittenNumbers.{expression_numbers, action_numbers, block_numbers, Small, small_front, small_back}

-- an expression
pub expression_sound : (means : Means) (depth : ℕ) (scope : Scope) → Fits means depth scope → (line : ℕ) (e : WrittenExpression)
    → Small (expression_numbers e) → expression_faults scope line e ≡ [] → SoundExpression means depth (resolved_expression scope e)
expression_sound means depth scope fits line (Number number) small h = small.0
expression_sound means depth scope fits line (Named name) small h = value_kept means depth scope fits line name h
expression_sound means depth scope fits line (Element name index) small h = (
  array_kept means depth scope fits line name (none_front (name_faults is_array scope line name) (expression_faults scope line index) h),
  expression_sound means depth scope fits line index small
      (none_back (name_faults is_array scope line name) (expression_faults scope line index) h),
)
expression_sound means depth scope fits line (Negated operand) small h = expression_sound means depth scope fits line operand small h
expression_sound means depth scope fits line (Applied op left right) small h = (
  expression_sound means depth scope fits line left (small_front (expression_numbers left) (expression_numbers right) small)
      (none_front (expression_faults scope line left) (expression_faults scope line right) h),
  expression_sound means depth scope fits line right (small_back (expression_numbers left) (expression_numbers right) small)
      (none_back (expression_faults scope line left) (expression_faults scope line right) h),
)

-- inside one more loop there is one more counter
deeper : (means : Means) (depth : ℕ) (scope : Scope) (counter : List ℕ) → Fits means depth scope
    → Fits means (depth + 1) (inside_loop counter scope)
deeper means depth scope counter fits = record {
  cell = fits.cell;
  messages = fits.messages;
  variables = fits.variables;
  counters = length-append scope.counters (counter ∷ []) ∙ ap (λ n. n + 1) fits.counters;
}

mutual
  -- what a statement does, where the loops around it and in it are at most as many as the counters
  pub action_sound : (means : Means) (depth : ℕ) (scope : Scope) → Fits means depth scope → (line : ℕ) (a : WrittenAction)
      → Small (action_numbers a) → depth + action_loops (resolved_action scope a) ≤ means.counters
      → action_faults scope line a ≡ [] → SoundAction means depth (resolved_action scope a)
  action_sound means depth scope fits line (Set name value) small few h = (
    word_kept means depth scope fits line name (none_front (name_faults is_variable scope line name) (expression_faults scope line value) h),
    expression_sound means depth scope fits line value small
        (none_back (name_faults is_variable scope line name) (expression_faults scope line value) h),
  )
  action_sound means depth scope fits line (SetAt name index value) small few h =
      let front = none_front (name_faults is_array scope line name ++ expression_faults scope line index) (expression_faults scope line value) h in (
        array_kept means depth scope fits line name
            (none_front (name_faults is_array scope line name) (expression_faults scope line index) front),
        expression_sound means depth scope fits line index (small_front (expression_numbers index) (expression_numbers value) small)
            (none_back (name_faults is_array scope line name) (expression_faults scope line index) front),
        expression_sound means depth scope fits line value (small_back (expression_numbers index) (expression_numbers value) small)
            (none_back (name_faults is_array scope line name ++ expression_faults scope line index) (expression_faults scope line value) h),
      )
  action_sound means depth scope fits line (Write message value) small few h = (
    sends_kept means depth scope fits line message (none_front (write_faults scope line message) (expression_faults scope line value) h),
    expression_sound means depth scope fits line value small
        (none_back (write_faults scope line message) (expression_faults scope line value) h),
  )
  action_sound means depth scope fits line (Read message name) small few h = (
    receives_kept means depth scope fits line message
        (none_front (read_faults scope line message) (name_faults is_variable scope line name) h),
    word_kept means depth scope fits line name
        (none_back (read_faults scope line message) (name_faults is_variable scope line name) h),
  )
  action_sound means depth scope fits line (Take name) small few h = word_kept means depth scope fits line name h
  action_sound means depth scope fits line (Emit value) small few h = expression_sound means depth scope fits line value small h
  action_sound means depth scope fits line (For counter turns body) small few h =
      let inner : Scope = inside_loop counter scope in
      let front = none_front (when (is_some (meaning scope counter)) (E.Twice (W.Named counter) line) ++ when (nat_lt 65535 turns) (E.Limit L.Turns line))
      (block_faults inner body) h in
      let turns_fit = none_back (when (is_some (meaning scope counter)) (E.Twice (W.Named counter) line)) (when (nat_lt 65535 turns) (E.Limit L.Turns line)) front in (
        fits.counters,
        omega (arith, fits.counters),
        ltb-false 65535 turns (when_none (nat_lt 65535 turns) (E.Limit L.Turns line) turns_fit),
        block_sound means (depth + 1) inner (deeper means depth scope counter fits) body small.1 (omega arith)
            (none_back (when (is_some (meaning scope counter)) (E.Twice (W.Named counter) line) ++ when (nat_lt 65535 turns) (E.Limit L.Turns line))
            (block_faults inner body) h),
      )
  action_sound means depth scope fits line (If test first second) small few h =
      let front = none_front (expression_faults scope line test ++ block_faults scope first) (block_faults scope second) h in
      let front_small = small_front (expression_numbers test ++ block_numbers first) (block_numbers second) small in (
        expression_sound means depth scope fits line test (small_front (expression_numbers test) (block_numbers first) front_small)
            (none_front (expression_faults scope line test) (block_faults scope first) front),
        block_sound means depth scope fits first (small_back (expression_numbers test) (block_numbers first) front_small) (omega arith)
            (none_back (expression_faults scope line test) (block_faults scope first) front),
        block_sound means depth scope fits second
            (small_back (expression_numbers test ++ block_numbers first) (block_numbers second) small) (omega arith)
            (none_back (expression_faults scope line test ++ block_faults scope first) (block_faults scope second) h),
      )

  -- some statements
  pub block_sound : (means : Means) (depth : ℕ) (scope : Scope) → Fits means depth scope → (b : WrittenBlock)
      → Small (block_numbers b) → depth + block_loops (resolved_block scope b) ≤ means.counters
      → block_faults scope b ≡ [] → SoundBlock means depth (resolved_block scope b)
  block_sound means depth scope fits End small few h = tt
  block_sound means depth scope fits (Then line action rest) small few h = (
    action_sound means depth scope fits line action (small_front (action_numbers action) (block_numbers rest) small) (omega arith)
        (none_front (action_faults scope line action) (block_faults scope rest) h),
    block_sound means depth scope fits rest (small_back (action_numbers action) (block_numbers rest) small) (omega arith)
        (none_back (action_faults scope line action) (block_faults scope rest) h),
  )
