-- What an input file gives is the only thing that it gives, and what is meant by it.
use Rattle.std.proofs.Common.{◌≡◌, ◌≢◌, ◌<◌, ◌+◌, ◌++◌, ℕ, ℤ, zero, suc, List, None, Some, length, refl, sym, ap, ◌∙◌, append_assoc, subst, arith}
use Rattle.std.proofs.lemmas.List.{length-map, length_push}
use Rattle.std.proofs.lemmas.List.FromFn.{length-range_with_len}
use Rattle.accept.specs.declared.building.Built.{Built}
use Rattle.cell_code.specs.Images.{IsShaped}
use Rattle.cell_code.specs.declared.image.Image.{Image}
use Rattle.cell_types.specs.Code.{ProgramCode}
use Rattle.cell_types.specs.Groups.{below}
use Rattle.cell_types.specs.Typed.{plain}
use Rattle.comm_sequence.specs.Meaning.{IsMeaning}
use Rattle.program_image.specs.Faithful.{HasOneMeaning}
use Rattle.stream_io.specs.Reading.{HasInputs, Refuses, lists_below}
use Rattle.stream_io.specs.declared.error.InputError.{InputError}
use Rattle.stream_io.specs.declared.error.InputError.TheVariants as E
use Rattle.stream_io.specs.declared.error.InputError.TheVariants.{Memory}
use Rattle.sys_base.specs.Grid.{Extent, cell_count}
use Rattle.sys_base.specs.declared.word.Word.{Word}
use Rattle.systole_top.specs.Given.{Given, Taken, Bad, AreGiven, IsGiven, takes_of, emits_of}
use Rattle.systole_top.specs.Only.{IsOnly}
use Rattle.systole_top.specs.Texts.{input_line, long_input_line}
use Rattle.systole_top.specs.bodies.Inputs.{IsPlaced}
use Rattle.systole_top.specs.bodies.Ready.{IsReady}

-- a file that is longer than an input may be gives one line
pub long_only : (image : Image) → IsOnly (IsGiven image None) (Bad long_input_line)
long_only image = record { holds = refl; only = λ other is. sym is }

module _ (one : (bytes : List ℕ) (g : Extent) (takes : List ℕ) (is js : List (List ℤ)) → HasInputs bytes g takes is → HasInputs bytes g takes js → is ≡ js)
    (rule : (bytes : List ℕ) (g : Extent) (takes : List ℕ) (e f : InputError) → e ≢ Memory → f ≢ Memory → Refuses bytes g takes e → Refuses bytes g takes f → e ≡ f)
    (apart : (bytes : List ℕ) (g : Extent) (takes : List ℕ) (is : List (List ℤ)) (e : InputError) → e ≢ Memory → HasInputs bytes g takes is → Refuses bytes g takes e → ⊥)
    (image : Image) (bytes : List ℕ) where
  same_taken : (inputs : List (List ℤ)) → AreGiven image bytes inputs → (other : Given) → IsGiven image (Some bytes) other → Taken inputs ≡ other
  same_taken inputs are (Taken others) these = ap Taken (one bytes image.grid (takes_of image) inputs others are these)
  same_taken inputs are (Bad line) broken = absurd (apart bytes image.grid (takes_of image) inputs broken.0 broken.1 are broken.2)

  same_line : (e : InputError) → e ≢ Memory → Refuses bytes image.grid (takes_of image) e → (other : Given) → IsGiven image (Some bytes) other
      → Bad (input_line image.grid e) ≡ other
  same_line e told refuses (Taken others) these = absurd (apart bytes image.grid (takes_of image) others e told these refuses)
  same_line e told refuses (Bad line) broken =
      ap (λ x. Bad (input_line image.grid x)) (rule bytes image.grid (takes_of image) e broken.0 told broken.1 refuses broken.2)
      ∙ ap Bad (sym broken.3)

  -- the inputs are the one thing that a file gives
  pub taken_only : (inputs : List (List ℤ)) → AreGiven image bytes inputs → IsOnly (IsGiven image (Some bytes)) (Taken inputs)
  taken_only inputs are = record { holds = are; only = same_taken inputs are }

  -- the line is
  pub line_only : (e : InputError) → e ≢ Memory → Refuses bytes image.grid (takes_of image) e → IsOnly (IsGiven image (Some bytes)) (Bad (input_line image.grid e))
  line_only e told refuses = record { holds = (e, told, refuses, refl); only = same_line e told refuses }

-- the words are the one meaning
pub words_only : (program : ProgramCode) (inputs : List (List ℤ)) (words : List (List Word)) → HasOneMeaning program inputs → IsMeaning program inputs words
    → IsOnly (IsMeaning program inputs) words
words_only program inputs words has is = record { holds = is; only = λ other other_is. has.only words is ∙ sym (has.only other other_is) }

-- a meaning has words for each cell
pub cells_of : (built : Built) (inputs : List (List ℤ)) (words : List (List Word)) → IsReady built → IsMeaning (plain built.program) inputs words
    → length words ≡ cell_count built.image.grid
cells_of built inputs words ready means =
    ap length means.words ∙ length-map (below (length (plain built.program).cells)) _ ∙ length-range_with_len 0 (length (plain built.program).cells) ∙ ready.cells

-- each cell takes and emits so many words
pub takes_count : (image : Image) → IsShaped image → length (takes_of image) ≡ cell_count image.grid
takes_count image shaped = length-map image.cells _ ∙ shaped.cells

pub emits_count : (image : Image) → IsShaped image → length (emits_of image) ≡ cell_count image.grid
emits_count image shaped = length-map image.cells _ ∙ shaped.cells

-- ---- the cell that an error names

lists_length : (bytes : List ℕ) (g : Extent) (takes : List ℕ) (cell need has n : ℕ) (is : Refuses bytes g takes (E.Count cell need has))
    → length (lists_below g is.0 n) ≡ n
lists_length bytes g takes cell need has zero is = refl
lists_length bytes g takes cell need has (suc n) is =
    length_push (lists_below g is.0 n) _ ∙ ap (λ k. k + 1) (lists_length bytes g takes cell need has n is) ∙ omega arith

-- an input has a list for each cell
lists_for : (bytes : List ℕ) (g : Extent) (takes : List ℕ) (inputs : List (List ℤ)) (has : HasInputs bytes g takes inputs) (n : ℕ)
    → length (lists_below g has.reading.0 n) ≡ n
lists_for bytes g takes inputs has zero = refl
lists_for bytes g takes inputs has (suc n) =
    length_push (lists_below g has.reading.0 n) _ ∙ ap (λ k. k + 1) (lists_for bytes g takes inputs has n) ∙ omega arith

pub list_for_each : (bytes : List ℕ) (g : Extent) (takes : List ℕ) (inputs : List (List ℤ)) → HasInputs bytes g takes inputs → length inputs ≡ cell_count g
list_for_each bytes g takes inputs has = ap length has.reading.5 ∙ lists_for bytes g takes inputs has (cell_count g)

-- it is one of the grid
pub placed : (bytes : List ℕ) (g : Extent) (takes : List ℕ) (e : InputError) → Refuses bytes g takes e → IsPlaced g e
placed bytes g takes (E.Count cell need has) is =
    subst (λ n. cell < n) (lists_length bytes g takes cell need has (cell_count g) is) is.5.inside
placed bytes g takes E.NotJson is = tt
placed bytes g takes E.NotObject is = tt
placed bytes g takes (E.UnknownCell key) is = tt
placed bytes g takes (E.NotList key) is = tt
placed bytes g takes (E.NotInteger key at) is = tt
placed bytes g takes E.Memory is = tt

-- ---- lines

-- a rule of three pieces behind a key
pub pieces : (line a b c : List ℕ) → line ++ (a ++ b ++ c) ≡ line ++ a ++ b ++ c
pieces line a b c = sym (append_assoc line (a ++ b) c) ∙ ap (λ l. l ++ c) (sym (append_assoc line a b))

-- six pieces one by one
pub spread : (a b c d e f : List ℕ) → a ++ (b ++ (c ++ (d ++ (e ++ f)))) ≡ a ++ b ++ c ++ d ++ e ++ f
spread a b c d e f =
    sym (append_assoc a b (c ++ (d ++ (e ++ f)))) ∙ sym (append_assoc (a ++ b) c (d ++ (e ++ f)))
    ∙ sym (append_assoc (a ++ b ++ c) d (e ++ f)) ∙ sym (append_assoc (a ++ b ++ c ++ d) e f)
