-- The image of a text.
use Rattle.std.specs.Prelude.{ℕ, ◌≡◌, List}
use Rattle.cell_code.specs.declared.image.Image.{Image}
use Rattle.cell_tree.specs.declared.source.Source.{Source}
use Rattle.cell_types.specs.Resolved.{program_of}
use Rattle.program_image.specs.ImageOf.{image_of}
use Rattle.accept.specs.FirstRefusal.{Accepts}
use Rattle.accept.specs.Labelled.{AreLabels}
use Rattle.accept.specs.Source.{IsSource}

-- The text has no refusal, and this is the image of the program of its source, by the labels of its messages.
pub record IsImageOf (text : List ℕ) (image : Image) : Type 0 where
  pub accepts : Accepts text
  pub source : Source
  pub is : IsSource text source
  pub labels : List ℕ
  pub labels_are : AreLabels (program_of source) labels
  pub image_is : image ≡ image_of (program_of source) labels
