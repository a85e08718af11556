-- A right judgement is the only one.
use Rattle.std.proofs.Common.{◌≡◌, ◌≤◌, ℕ, List, Some, length, sym, ap, ap₂, ◌∙◌, subst}
use Rattle.std.proofs.lemmas.List.{length-map}
use Rattle.std.proofs.lemmas.List.FromFn.{length-range_with_len}
use Rattle.sys_base.specs.declared.limits.TheConstants.{STEPS}
use Rattle.accept.specs.Built.{IsBuilt}
use Rattle.accept.specs.FirstRefusal.{Accepts, FirstRefusal}
use Rattle.accept.specs.Image.{IsImageOf}
use Rattle.accept.specs.Needs.{AreNeeds, IsNeedRefused}
use Rattle.accept.specs.declared.building.Built.{Built}
use Rattle.accept.specs.declared.needing.NeedLine.{NeedLine}
use Rattle.array_model.specs.Runs.{IsSure}
use Rattle.cell_code.specs.Images.{IsListed, IsShaped}
use Rattle.cell_code.specs.declared.image.Image.{Image}
use Rattle.cell_types.specs.Alike.{Alike}
use Rattle.cell_types.specs.Cost.{cells_cost}
use Rattle.cell_types.specs.Groups.{below}
use Rattle.cell_types.specs.Resolved.{program_of}
use Rattle.cell_types.specs.Typed.{plain}
use Rattle.program_image.specs.Faithful.{HasOneMeaning, IsFaithful}
use Rattle.refusals.specs.declared.refusal.Refusal.{Refusal}
use Rattle.systole_top.specs.declared.judgement.Judgement.{Judgement}
use Rattle.systole_top.specs.declared.judgement.Judgement.TheVariants.{Accepted, Refused}
use Rattle.systole_top.specs.Judgement.{IsJudged, Plan, IsPlanOf, acceptance, needs}
use Rattle.systole_top.specs.Only.{IsOnly}
use Rattle.systole_top.specs.bodies.Ready.{IsReady}
use Rattle.systole_top.specs.bodies.Stops.{made_of}

-- a text has at most one first refusal
abbrev pub OneRefusal : Type 0
OneRefusal = (text : List ℕ) (r q : Refusal) → FirstRefusal text r → FirstRefusal text q → r ≡ q

-- a text that is accepted has none
abbrev pub NoRefusal : Type 0
NoRefusal = (text : List ℕ) (r : Refusal) → Accepts text → FirstRefusal text r → ⊥

-- a text has at most one image
abbrev pub OneImage : Type 0
OneImage = (text : List ℕ) (a b : Image) → IsImageOf text a → IsImageOf text b → a ≡ b

-- its images are of one program
abbrev pub OneProgram : Type 0
OneProgram = (text : List ℕ) (a b : Image) (x : IsImageOf text a) (y : IsImageOf text b) → program_of x.source ≡ program_of y.source

-- a plan by its parts
same_plan : (a b : Plan) → a.program ≡ b.program → a.image ≡ b.image → a ≡ b
same_plan a b programs images = ap₂ (λ p i. record { program = p; image = i }) programs images

module _ (one : OneRefusal) (none : NoRefusal) (text : List ℕ) where
  -- no other judgement is right of an accepted text
  only_accepted : OneImage → OneProgram → (plan : Plan) → IsPlanOf text plan → (other : Judgement Plan) → IsJudged acceptance (Some text) other
      → Accepted plan ≡ other
  only_accepted same program plan is (Accepted other) other_is =
      ap Accepted (same_plan plan other
      (is.program_is ∙ program text plan.image other.image is.is other_is.is ∙ sym other_is.program_is)
      (same text plan.image other.image is.is other_is.is))
  only_accepted same program plan is (Refused q) other_is = absurd (none text q is.is.accepts other_is)

  -- nor of a refused one
  only_refused : (r : Refusal) → FirstRefusal text r → (other : Judgement Plan) → IsJudged acceptance (Some text) other → Refused r ≡ other
  only_refused r is (Accepted plan) other_is = absurd (none text r other_is.is.accepts is)
  only_refused r is (Refused q) other_is = ap Refused (one text r q is other_is)

  -- acceptance is the one judgement
  pub accepted : OneImage → OneProgram → (plan : Plan) → IsPlanOf text plan → IsOnly (IsJudged acceptance (Some text)) (Accepted plan)
  accepted same program plan is = record { holds = is; only = only_accepted same program plan is }

  -- the first refusal is
  pub refused : (r : Refusal) → FirstRefusal text r → IsOnly (IsJudged acceptance (Some text)) (Refused r)
  refused r is = record { holds = is; only = only_refused r is }

-- what is built of a text is its plan
pub built_plan : (text : List ℕ) (b : Built) → ((is : IsImageOf text b.image) × (plain b.program ≡ program_of is.source)) → IsPlanOf text (made_of b)
built_plan text b (is, same) = record { is = is; program_is = same }

-- what is built of a text is ready
pub ready : (text : List ℕ) (b : Built) → IsBuilt text b → ((is : IsImageOf text b.image) × (plain b.program ≡ program_of is.source))
    → ((t : List ℕ) (i : Image) → IsImageOf t i → IsShaped i) → ((t : List ℕ) (i : Image) → IsImageOf t i → IsListed i)
    → ((t : List ℕ) (i : Image) (is : IsImageOf t i) → IsFaithful (program_of is.source) is.labels i)
    → ((t : List ℕ) (i : Image) (is : IsImageOf t i) → cells_cost (program_of is.source) ≤ STEPS)
    → ((t : List ℕ) (i : Image) (is : IsImageOf t i) → Alike (program_of is.source)) → IsReady b
ready text b built (is, same) shaped listed faithful cheap alike =
    let shape = shaped text b.image is in
    let cells = ap (λ i. length i.cells) built.image_is
    ∙ length-map (below (length (plain b.program).cells)) _ ∙ length-range_with_len 0 (length (plain b.program).cells) in
    record {
      listed = listed text b.image is;
      shaped = shape;
      sure = subst (IsSure b.image) (sym (ap (λ i. i.buffer) is.image_is)) (faithful text b.image is).sure;
      cost = subst (λ p. cells_cost p ≤ STEPS) (sym same) (cheap text b.image is);
      alike = subst Alike (sym same) (alike text b.image is);
      order = built.judged.ordered;
      cells = sym cells ∙ shape.cells;
      meaning = λ inputs counts. subst (λ p. HasOneMeaning p inputs) (sym same) ((faithful text b.image is).meaning inputs counts);
    }

-- ---- what links need

module _ (one : (text : List ℕ) (a b : List NeedLine) → AreNeeds text a → AreNeeds text b → a ≡ b)
    (same : (text : List ℕ) (r q : Refusal) → IsNeedRefused text r → IsNeedRefused text q → r ≡ q)
    (apart : (text : List ℕ) (lines : List NeedLine) (r : Refusal) → AreNeeds text lines → IsNeedRefused text r → ⊥) (text : List ℕ) where
  only_lines : (lines : List NeedLine) → AreNeeds text lines → (other : Judgement (List NeedLine)) → IsJudged needs (Some text) other → Accepted lines ≡ other
  only_lines lines are (Accepted other) other_are = ap Accepted (one text lines other are other_are)
  only_lines lines are (Refused q) other_is = absurd (apart text lines q are other_is)

  only_first : (r : Refusal) → IsNeedRefused text r → (other : Judgement (List NeedLine)) → IsJudged needs (Some text) other → Refused r ≡ other
  only_first r is (Accepted other) other_are = absurd (apart text other r other_are is)
  only_first r is (Refused q) other_is = ap Refused (same text r q is other_is)

  -- the lines are the one answer
  pub lines_only : (lines : List NeedLine) → AreNeeds text lines → IsOnly (IsJudged needs (Some text)) (Accepted lines)
  lines_only lines are = record { holds = are; only = only_lines lines are }

  -- the refusal is
  pub first_only : (r : Refusal) → IsNeedRefused text r → IsOnly (IsJudged needs (Some text)) (Refused r)
  first_only r is = record { holds = is; only = only_first r is }
