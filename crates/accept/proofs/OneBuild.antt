-- An accepted text has one image, which can be written.
use Rattle.std.proofs.Common.{ℕ, ◌≡◌, List, refl, sym, ap, subst, ◌∙◌}
use Rattle.cell_code.specs.declared.image.Image.{Image}
use Rattle.cell_tree.specs.declared.source.Source.{Source}
use Rattle.cell_types.specs.Alike.{Alike}
use Rattle.cell_types.specs.Code.{ProgramCode}
use Rattle.cell_types.specs.Resolved.{program_of}
use Rattle.cell_types.specs.Sound.{IsSound}
use Rattle.cell_types.specs.Typed.{plain}
use Rattle.program_image.specs.ImageOf.{image_of}
use Rattle.accept.specs.Built.{IsBuilt}
use Rattle.accept.specs.FirstRefusal.{Accepts, need_trials, of_source, room_trials}
use Rattle.accept.specs.Image.{IsImageOf}
use Rattle.accept.specs.Labelled.{AreLabels}
use Rattle.accept.specs.bodies.Laws.{Existence, Laws}
use Rattle.accept.specs.Source.{IsSource}
use Rattle.accept.specs.declared.building.Built.{Built}
use Rattle.accept.proofs.Needed.{alike, some_labels, sound}
use Rattle.accept.proofs.OneRefusal.{one_labelling, one_source}
use Rattle.accept.proofs.Trials.{passes_first}

-- what is built of a text is its image, of its program
pub built_is_image : (text : List ℕ) (b : Built) → IsBuilt text b
    → (is : IsImageOf text b.image) × (plain b.program ≡ program_of is.source)
built_is_image text b h = (
  record {
    accepts = h.accepts;
    source = h.source;
    is = h.is;
    labels = h.labels;
    labels_are = subst (λ p. AreLabels p h.labels) h.program_is h.judged.labels_are;
    image_is = h.image_is ∙ ap (λ p. image_of p h.labels) h.program_is;
  },
  h.program_is,
)

-- a text has one image at most
pub one_image : Laws → (text : List ℕ) (a b : Image) → IsImageOf text a → IsImageOf text b → a ≡ b
one_image laws text a b h k =
    let source : h.source ≡ k.source = one_source laws text h.source k.source h.is k.is in
    let moved : AreLabels (program_of k.source) h.labels = subst (λ s. AreLabels (program_of s) h.labels) source h.labels_are in
    let labels : h.labels ≡ k.labels = one_labelling laws (program_of k.source) h.labels k.labels moved k.labels_are in
    h.image_is ∙ ap (λ s. image_of (program_of s) h.labels) source ∙ ap (image_of (program_of k.source)) labels ∙ sym k.image_is

-- and its images are of one program
pub one_program : Laws → (text : List ℕ) (a b : Image) (x : IsImageOf text a) (y : IsImageOf text b)
    → program_of x.source ≡ program_of y.source
one_program laws text a b x y = ap program_of (one_source laws text x.source y.source x.is y.is)

-- The images of sound programs whose arms communicate alike have this property.
abbrev pub ImagesHave : (Image → Type 0) → Type 0
ImagesHave Has = (program : ProgramCode) (labels : List ℕ) → IsSound program → Alike program → Has (image_of program labels)

module _ (laws : Laws) (exist : Existence) (text : List ℕ) (accepts : Accepts text) (s : Source) (is : IsSource text s) where
  -- the text has an image
  pub some_image : (image : Image) × IsImageOf text image
  some_image =
      let labels = some_labels laws exist text (passes_first need_trials (of_source room_trials) text accepts) s is in (
        image_of (program_of s) labels.0,
        record {
          accepts = accepts;
          source = s;
          is = is;
          labels = labels.0;
          labels_are = labels.1;
          image_is = refl;
        },
      )

  -- it has what all such images have
  pub image_has : (Has : Image → Type 0) (labels : List ℕ) → ImagesHave Has → Has (image_of (program_of s) labels)
  image_has Has labels have =
      let passes = passes_first need_trials (of_source room_trials) text accepts in
      have (program_of s) labels (sound laws exist text passes s is) (alike laws exist text passes s is)
