-- What contracts see of a trail, and the images whose runs can be driven.
use Rattle.std.specs.Prelude.{ℕ, ◌≤◌, List}
use Rattle.sys_base.specs.declared.actor.Actor.{Actor}
use Rattle.cell_code.specs.declared.image.Image.{Image}
use Rattle.array_model.specs.Runs.{IsSure}

-- the actors that were recorded, in order, and how many more there is room for
pub record Recorded : Type 0 where
  pub entries : List Actor
  pub room : ℕ

-- The image is sure at a capacity: it is sure from some least capacity on, which is at most this one.
pub record IsSureAt (image : Image) (cap : ℕ) : Type 0 where
  pub least : ℕ
  pub enough : least ≤ cap
  pub sure : IsSure image least
