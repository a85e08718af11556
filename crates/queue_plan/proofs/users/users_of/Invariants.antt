use Rattle.std.proofs.Common.{◌≡◌, ℕ, ◌*◌, ◌<◌, [], length, filter, take, slice_index_or}
use Rattle.sys_base.specs.Grid.{cell_count}
use Rattle.cell_types.specs.Typed.{plain}
use Rattle.queue_plan.specs.bodies.ByLabel.{uses}
use Rattle.queue_plan.proofs.users.users_of.Given as goal

abbrev pub invariant-loop-message : goal.invariant-loop-message
invariant-loop-message l = record {
  long : length l.users.items ≡ 4 * cell_count l.program.grid;
  each : (k : ℕ) → k < 4 * cell_count l.program.grid
      → slice_index_or l.users.items k [] ≡ filter (uses (plain l.program) l.lengths k) (take l.message-index l.order);
}
