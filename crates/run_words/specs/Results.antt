-- What is printed of a run.
use Rattle.std.specs.Prelude.{ℕ, ◌≡◌, ◌↔◌, IsTrue, Bool, true, false, List, [], length, map, slice_get}
use Rattle.sys_base.specs.Groups.{below}
use Rattle.sys_base.specs.declared.actor.Actor.{Actor}
use Rattle.cell_code.specs.declared.image.CellImage.{CellImage}
use Rattle.cell_code.specs.declared.image.Image.{Image}
use Rattle.cell_code.specs.declared.image.LinkImage.{LinkImage}
use Rattle.array_model.specs.Runs.{IsFinished, peak}
use Rattle.array_model.specs.States.{ArrayState, Inputs, cells}
use Rattle.array_model.specs.Steps.{enabled}
use Rattle.schedules.specs.Entries.{schedule_text}
use Rattle.stream_io.specs.Results.{line_of, result_data}
use Rattle.stream_io.specs.declared.report.Report.{Report}

module _ (image : Image) (inputs : Inputs) (cap : ℕ) (run : List Actor) (last : ArrayState) where
  -- The report tells of a run to a last state: whether that is finished, the first actor that is enabled there, the
  -- words that each cell has emitted and how many it is to emit, the peak of each link with a group over all states of
  -- the run, and the number of steps.
  pub record Tells (report : Report) : Type 0 where
    pub finished : IsTrue report.finished ↔ IsFinished image last
    pub next : report.next ≡ slice_get (enabled image inputs cap last) 0
    pub outputs : report.outputs.cells ≡ map (λ c. (last.cell c).held.output) (below (cells image))
    pub emits : report.emits ≡ map (λ (cell : CellImage). cell.emits) image.cells
    pub peaks : report.peaks ≡ map (λ (link : LinkImage). (link.link, peak image inputs cap run link.link)) image.links
    pub steps : report.steps ≡ length run

  -- The text is the result line of the run.
  abbrev pub IsResultLine : List ℕ → Type 0
  IsResultLine text = (report : Report) × Tells report × (text ≡ line_of (result_data image.grid report))

-- the record of a run, where it is asked for
abbrev pub record_text : Bool → List Actor → List ℕ
record_text true run = schedule_text run
record_text false run = []
