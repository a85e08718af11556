-- What each command reads and says.
use Rattle.std.specs.Prelude.{ℕ, ℤ, List, [], ◌∷◌, Option}
use Rattle.accept.specs.Needs.{need_lines}
use Rattle.accept.specs.declared.needing.NeedLine.{NeedLine}
use Rattle.cell_code.specs.declared.image.Image.{Image}
use Rattle.comm_sequence.specs.Meaning.{IsMeaning}
use Rattle.object_io.specs.Objects.{object_text}
use Rattle.refusals.specs.Explanations.{explanation}
use Rattle.refusals.specs.declared.refusal.Refusal.{Refusal}
use Rattle.run_words.specs.Answers.{AnswersChoice, Choice, BuiltIn, OfFile, RunAnswer}
use Rattle.run_words.specs.declared.verdict.RunVerdict.{RunVerdict}
use Rattle.run_words.specs.declared.verdict.RunVerdict.TheVariants as Ran
use Rattle.stream_io.specs.Results.{line_of, meaning_data}
use Rattle.sys_base.specs.declared.word.Word.{Word}
use Rattle.systole_top.specs.Given.{Given, Taken, Bad, IsGiven, emits_of}
use Rattle.systole_top.specs.Judgement.{Question, IsJudged, Plan, acceptance, needs}
use Rattle.systole_top.specs.Reply.{Reply}
use Rattle.systole_top.specs.Shape.{Shape, Check, Explain, Compile, Need, Mean, Run}
use Rattle.systole_top.specs.Shape.{Chosen, By, InFile, RunWords}
use Rattle.systole_top.specs.Texts.{accepted_line, refusal_line}
use Rattle.systole_top.specs.Tree.{Tree, Gives, Reads, Picks, then_}
use Rattle.systole_top.specs.declared.answer.Verdict.{Verdict as TheVerdict}
use Rattle.systole_top.specs.declared.answer.Verdict.TheVariants as Verdict
use Rattle.systole_top.specs.declared.judgement.Judgement.{Judgement}
use Rattle.systole_top.specs.declared.judgement.Judgement.TheVariants.{Accepted, Refused}
use Rattle.sys_base.specs.declared.limits.TheConstants.{INPUT_BYTES, SCHEDULE_BYTES, SOURCE_BYTES}

-- ---- sources and inputs

-- what a source file is judged to be
abbrev pub judgement_of : {V : Type 0} → Question V → Option (List ℕ) → Tree (Judgement V)
judgement_of question file = Picks (IsJudged question file) Gives

abbrev pub judged : {V : Type 0} → Question V → List ℕ → Tree (Judgement V)
judged question file = then_ (Reads file SOURCE_BYTES Gives) (judgement_of question)

-- what an input file gives to the cells of an image
abbrev pub given_of : Image → Option (List ℕ) → Tree Given
given_of image file = Picks (IsGiven image file) Gives

abbrev pub given_in : Image → List ℕ → Tree Given
given_in image input = then_ (Reads input INPUT_BYTES Gives) (given_of image)

-- ---- what is said

-- with these bytes on standard output all was done
abbrev pub done_reply : List ℕ → Reply
done_reply out = record { verdict = Verdict.Done; out = out; err = [] }

-- a refused source, with these bytes on standard output and on standard error
abbrev pub refused_reply : List ℕ → List ℕ → Reply
refused_reply out err = record { verdict = Verdict.Refused; out = out; err = err }

-- an input that breaks a rule, with this line on standard error
abbrev pub bad_input_reply : List ℕ → Reply
bad_input_reply line = record { verdict = Verdict.BadInput; out = []; err = line }

-- the answer to a judgement: these bytes for what is found, and these on each side for a refusal
abbrev pub reply_to : {V : Type 0} → (found : V → List ℕ) → (on_out on_err : Refusal → List ℕ) → Judgement V → Reply
reply_to found on_out on_err (Accepted value) = done_reply (found value)
reply_to found on_out on_err (Refused r) = refused_reply (on_out r) (on_err r)

-- no bytes
abbrev pub silent : Refusal → List ℕ
silent refusal = []

-- the answer of `check`: the line of a refusal goes to standard error
abbrev pub check_reply : Judgement Plan → Reply
check_reply = reply_to (λ plan. accepted_line) silent refusal_line

-- the answer of `explain`: the explanation of a refusal was asked for, and goes to standard output
abbrev pub explain_reply : Judgement Plan → Reply
explain_reply = reply_to (λ plan. accepted_line) explanation silent

-- the answer of `compile`: the object of the image
abbrev pub compile_reply : Judgement Plan → Reply
compile_reply = reply_to (λ plan. object_text plan.image) silent refusal_line

-- the answer of `need`: a line for each link that has a group
abbrev pub need_reply : Judgement (List NeedLine) → Reply
need_reply = reply_to need_lines silent refusal_line

-- the line of a meaning: the words that each cell emits
abbrev pub meaning_line : Image → List (List Word) → List ℕ
meaning_line image words = line_of (meaning_data image.grid words (emits_of image))

-- the answer of `mean`: the meaning of an accepted source
abbrev pub mean_done : Plan → List (List Word) → Reply
mean_done plan words = done_reply (meaning_line plan.image words)

-- what `mean` says of an accepted source and its input
abbrev pub means : Plan → List (List ℤ) → Tree Reply
means plan inputs = Picks (IsMeaning plan.program inputs) (λ words. Gives (mean_done plan words))

-- ---- runs

-- the schedule of a run: a built-in one, or what a file holds of one
abbrev pub choice_in : Chosen → Tree Choice
choice_in (By schedule) = Gives (BuiltIn schedule)
choice_in (InFile name) = Reads name SCHEDULE_BYTES (λ file. Gives (OfFile file))

-- the verdict on a run
abbrev pub verdict_of : RunVerdict → TheVerdict
verdict_of Ran.Done = Verdict.Done
verdict_of Ran.Unfinished = Verdict.Unfinished
verdict_of Ran.BadSchedule = Verdict.BadSchedule

-- the answer of a run
abbrev pub run_reply : RunAnswer → Reply
run_reply a = record { verdict = verdict_of a.verdict; out = a.out; err = a.err }

-- the answer of `run` for a plan, its inputs and a schedule
abbrev pub ran : RunWords → Plan → List (List ℤ) → Choice → Tree Reply
ran words plan inputs choice =
    Picks (AnswersChoice plan.image words.capacity words.recorded inputs choice) (λ answer. Gives (run_reply answer))

-- what `run` reads and says of an accepted source and its input
abbrev pub runs : RunWords → Plan → List (List ℤ) → Tree Reply
runs words plan inputs = then_ (choice_in words.chosen) (ran words plan inputs)

-- ---- commands

-- what comes after an input that gives words; one that breaks a rule ends the command
abbrev pub on_inputs : (List (List ℤ) → Tree Reply) → Given → Tree Reply
on_inputs next (Taken inputs) = next inputs
on_inputs next (Bad line) = Gives (bad_input_reply line)

-- what comes after a source that is judged, of a command with an input: a refusal ends the command
abbrev pub with_input : List ℕ → (Plan → List (List ℤ) → Tree Reply) → Judgement Plan → Tree Reply
with_input input next (Accepted plan) = then_ (given_in plan.image input) (on_inputs (next plan))
with_input input next (Refused r) = Gives (refused_reply [] (refusal_line r))

-- what a command reads, and what it says
abbrev pub tree_of : Shape → Tree Reply
tree_of (Check file) = then_ (judged acceptance file) (λ judgement. Gives (check_reply judgement))
tree_of (Explain file) = then_ (judged acceptance file) (λ judgement. Gives (explain_reply judgement))
tree_of (Compile file) = then_ (judged acceptance file) (λ judgement. Gives (compile_reply judgement))
tree_of (Need file) = then_ (judged needs file) (λ judgement. Gives (need_reply judgement))
tree_of (Mean file input) = then_ (judged acceptance file) (with_input input means)
tree_of (Run words) = then_ (judged acceptance words.file) (with_input words.input (runs words))

-- the files that a choice of schedule names
abbrev pub files_in : Chosen → List (List ℕ)
files_in (By schedule) = []
files_in (InFile name) = name ∷ []

-- the files that a command names
abbrev pub files_of : Shape → List (List ℕ)
files_of (Check file) = file ∷ []
files_of (Explain file) = file ∷ []
files_of (Compile file) = file ∷ []
files_of (Need file) = file ∷ []
files_of (Mean file input) = file ∷ input ∷ []
files_of (Run words) = words.file ∷ words.input ∷ files_in words.chosen
