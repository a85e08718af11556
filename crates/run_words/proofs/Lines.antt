-- A run has just one result line.
use Rattle.std.proofs.Common.{◌≡◌, ◌↔◌, ℕ, Bool, true, false, List, [], ◌∷◌, Option}
use Rattle.std.proofs.Common.{length, map, slice_get, refl, sym, ap, ◌∙◌}
use Rattle.std.specs.Bool.{IsTrue}
use Rattle.sys_base.specs.Grid.{Extent}
use Rattle.sys_base.specs.Groups.{below}
use Rattle.sys_base.specs.declared.actor.Actor.{Actor}
use Rattle.sys_base.specs.declared.word.Word.{Word}
use Rattle.cell_code.specs.declared.image.CellImage.{CellImage}
use Rattle.cell_code.specs.declared.image.Image.{Image}
use Rattle.cell_code.specs.declared.image.LinkImage.{LinkImage}
use Rattle.array_model.specs.Runs.{IsFinished, peak}
use Rattle.array_model.specs.States.{ArrayState, Inputs, cells}
use Rattle.array_model.specs.Steps.{enabled}
use Rattle.stream_io.specs.Results.{line_of, result_data}
use Rattle.stream_io.specs.declared.report.Report.{Report}
use Rattle.run_words.specs.Results.{IsResultLine, Tells}

abbrev is_empty : List Actor → Bool
is_empty [] = true
is_empty (a ∷ rest) = false

empty_list : (list : List Actor) → is_empty list ≡ true → list ≡ []
empty_list [] all = refl
empty_list (a ∷ rest) all = absurd (cc all)

same_test : (P : Type 0) (a b : Bool) → (IsTrue a ↔ P) → (IsTrue b ↔ P) → a ≡ b
same_test P true true h k = refl
same_test P true false h k = sym (k.1 (h.0 refl))
same_test P false true h k = h.1 (k.0 refl)
same_test P false false h k = refl

module _ (g : Extent) where
  abbrev line_with : Bool → Option Actor → List (List Word) → List ℕ → List (ℕ × ℕ) → ℕ → List ℕ
  line_with finished next outputs emits peaks steps =
      line_of (result_data g (record {
        finished = finished;
        next = next;
        outputs = record { cells = outputs };
        emits = emits;
        peaks = peaks;
        steps = steps;
      }))

  same_line : (a b : Bool) (n o : Option Actor) (x y : List (List Word)) (e f : List ℕ) (p q : List (ℕ × ℕ)) (s t : ℕ)
      → a ≡ b → n ≡ o → x ≡ y → e ≡ f → p ≡ q → s ≡ t
      → line_with a n x e p s ≡ line_with b o y f q t
  same_line a b n o x y e f p q s t h1 h2 h3 h4 h5 h6 =
      ap (λ (v : Bool). line_with v n x e p s) h1 ∙ (ap (λ (v : Option Actor). line_with b v x e p s) h2
      ∙ (ap (λ (v : List (List Word)). line_with b o v e p s) h3 ∙ (ap (λ (v : List ℕ). line_with b o y v p s) h4
      ∙ (ap (λ (v : List (ℕ × ℕ)). line_with b o y f v s) h5 ∙ ap (λ (v : ℕ). line_with b o y f q v) h6))))

module _ (image : Image) (inputs : Inputs) (cap : ℕ) (run : List Actor) (last : ArrayState) where
  report : Report
  report =
      record {
        finished = is_empty (enabled image inputs cap last);
        next = slice_get (enabled image inputs cap last) 0;
        outputs = record { cells = map (λ c. (last.cell c).held.output) (below (cells image)) };
        emits = map (λ (cell : CellImage). cell.emits) image.cells;
        peaks = map (λ (link : LinkImage). (link.link, peak image inputs cap run link.link)) image.links;
        steps = length run;
      }

  told : ((enabled image inputs cap last ≡ []) ↔ IsFinished image last) → Tells image inputs cap run last report
  unfolding report
  told ends =
      record {
        finished = (
          λ all. ends.0 (empty_list (enabled image inputs cap last) all),
          λ finished. ap is_empty (ends.1 finished),
        );
        next = refl;
        outputs = refl;
        emits = refl;
        peaks = refl;
        steps = refl;
      }

  pub result_line : List ℕ
  result_line = line_of (result_data image.grid report)

  pub has_line : ((enabled image inputs cap last ≡ []) ↔ IsFinished image last)
      → IsResultLine image inputs cap run last result_line
  unfolding result_line
  has_line ends = (report, told ends, refl)

  pub only_line : (x y : List ℕ) → IsResultLine image inputs cap run last x → IsResultLine image inputs cap run last y
      → x ≡ y
  only_line x y h k =
      let a = h.1 in let b = k.1 in
      h.2 ∙ (same_line image.grid h.0.finished k.0.finished h.0.next k.0.next h.0.outputs.cells k.0.outputs.cells
      h.0.emits k.0.emits h.0.peaks k.0.peaks h.0.steps k.0.steps
      (same_test (IsFinished image last) h.0.finished k.0.finished a.finished b.finished)
      (a.next ∙ sym b.next) (a.outputs ∙ sym b.outputs) (a.emits ∙ sym b.emits)
      (a.peaks ∙ sym b.peaks) (a.steps ∙ sym b.steps)
      ∙ sym k.2)
