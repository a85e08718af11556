-- What a recorded schedule is.
use Rattle.std.specs.Prelude.{ℕ, List}
use Rattle.sys_base.specs.declared.actor.Actor.{Actor}
use Rattle.schedules.specs.declared.recorded.Standing.{Standing}

-- the entries that are left, how many were taken, how the last pick ended, and how often it has stopped
pub record Recording : Type 0 where
  pub left : List Actor
  pub taken : ℕ
  pub standing : Standing
  pub stops : ℕ
