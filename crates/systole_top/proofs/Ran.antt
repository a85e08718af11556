-- What `mean` and `run` find, and what follows on it.
use Rattle.std.proofs.Common.{◌≡◌, ◌≢◌, ◌≤◌, ℕ, ℤ, max, List, Option, Some, IsSomeAnd, refl, sym, ap, subst, arith}
use Rattle.array_model.specs.Runs.{IsSure}
use Rattle.run_words.specs.Answers.{Choice, BuiltIn, OfFile, RunAnswer}
use Rattle.run_words.specs.declared.verdict.RunVerdict.{RunVerdict}
use Rattle.run_words.specs.declared.verdict.RunVerdict.TheVariants as OfRun
use Rattle.sys_base.specs.declared.limits.TheConstants.{SCHEDULE_BYTES}
use Rattle.sys_base.specs.declared.word.Word.{Word}
use Rattle.systole_top.specs.Causes.{MeanFinds, RunFinds}
use Rattle.systole_top.specs.Commands.{choice_in, mean_done, means, ran, run_reply, runs, verdict_of}
use Rattle.systole_top.specs.Judgement.{Plan}
use Rattle.systole_top.specs.Reply.{Reply}
use Rattle.systole_top.specs.Shape.{Chosen, By, InFile, RunWords}
use Rattle.systole_top.specs.Tree.{Replies, then_, within}
use Rattle.systole_top.specs.declared.answer.Verdict.TheVariants as V
use Rattle.systole_top.proofs.Answered.{FindsSome, SaysFound}
use Rattle.systole_top.proofs.Inputs.{counted, one_meaning}
use Rattle.systole_top.proofs.Laws.{Laws}

-- ---- `mean`

pub mean_says : (held : List ℕ → Option (List ℕ)) → SaysFound MeanFinds mean_done held means
mean_says held = record {
  found = λ plan inputs r replies. (replies.0, replies.1, sym replies.2);
  replies = λ plan inputs words is. (words, is, refl);
}

pub mean_some : Laws → FindsSome MeanFinds mean_done
mean_some laws text bytes plan inputs of given =
    let meaning = one_meaning laws text plan bytes inputs of given in
    (meaning.words, meaning.is)

pub mean_turns : (plan : Plan) (words : List (List Word)) → ((mean_done plan words).verdict ≢ V.Refused) × ((mean_done plan words).verdict ≢ V.BadInput)
mean_turns plan words = (λ e. cc, λ e. cc)

-- ---- `run`

-- a run has verdicts of its own
own_verdict : (v : RunVerdict) → (verdict_of v ≢ V.Refused) × (verdict_of v ≢ V.BadInput)
own_verdict OfRun.Done = (λ e. cc, λ e. cc)
own_verdict OfRun.Unfinished = (λ e. cc, λ e. cc)
own_verdict OfRun.BadSchedule = (λ e. cc, λ e. cc)

pub run_turns : (plan : Plan) (answer : RunAnswer) → ((run_reply answer).verdict ≢ V.Refused) × ((run_reply answer).verdict ≢ V.BadInput)
run_turns plan answer = own_verdict answer.verdict

-- The choice is what is chosen, over told files.
abbrev pub IsChoice : (List ℕ → Option (List ℕ)) → Chosen → Choice → Type 0
IsChoice held (By schedule) choice = choice ≡ BuiltIn schedule
IsChoice held (InFile name) choice =
    (entries : List ℕ) × (held name ≡ Some entries) × (choice ≡ OfFile (within SCHEDULE_BYTES entries))

module _ (held : List ℕ → Option (List ℕ)) (words : RunWords) where
  -- The reply is what is said of an answer for the choice.
  abbrev Ran : Plan → List (List ℤ) → Choice → Reply → Type 0
  Ran plan inputs choice r = (answer : RunAnswer) × RunFinds words choice plan inputs answer × (run_reply answer ≡ r)

  chosen_found : (chosen : Chosen) (choice : Choice) → IsChoice held chosen choice → (plan : Plan) (inputs : List (List ℤ)) (r : Reply)
      → Replies held (then_ (choice_in chosen) (ran words plan inputs)) r → Ran plan inputs choice r
  unfolding then_
  chosen_found (By schedule) choice is plan inputs r replies = subst (λ c. Ran plan inputs c r) (sym is) replies
  chosen_found (InFile name) choice (entries, told, is) plan inputs r replies =
      subst (λ c. Ran plan inputs c r) (sym is)
      (subst (λ o. IsSomeAnd o (λ file. Ran plan inputs (OfFile (within SCHEDULE_BYTES file)) r)) told replies)

  chosen_replies : (chosen : Chosen) (choice : Choice) → IsChoice held chosen choice → (plan : Plan) (inputs : List (List ℤ)) (r : Reply)
      → Ran plan inputs choice r → Replies held (then_ (choice_in chosen) (ran words plan inputs)) r
  unfolding then_
  chosen_replies (By schedule) choice is plan inputs r found = subst (λ c. Ran plan inputs c r) is found
  chosen_replies (InFile name) choice (entries, told, is) plan inputs r found =
      subst (λ o. IsSomeAnd o (λ file. Ran plan inputs (OfFile (within SCHEDULE_BYTES file)) r)) (sym told)
      (subst (λ c. Ran plan inputs c r) is found)

  pub run_says : (choice : Choice) → IsChoice held words.chosen choice → SaysFound (RunFinds words choice) (λ plan. run_reply) held (runs words)
  run_says choice is = record {
    found = λ plan inputs r replies.
        let found = chosen_found words.chosen choice is plan inputs r replies in
        (found.0, found.1, sym found.2);
    replies = λ plan inputs answer found. chosen_replies words.chosen choice is plan inputs (run_reply answer) (answer, found, refl);
  }

-- a capacity of one word and more, and of the buffer
pub enough : (asked buffer : ℕ) → 1 ≤ asked → max 1 buffer ≤ max asked buffer
enough asked buffer some = omega (arith, some)

pub run_some : Laws → (words : RunWords) (choice : Choice) → 1 ≤ words.capacity → FindsSome (RunFinds words choice) (λ plan. run_reply)
run_some laws words choice some text bytes plan inputs of given =
    let shaped = laws.shaped text plan.image of.is in
    let one = laws.answers plan.image plan.image.buffer words.capacity words.recorded inputs choice shaped
    (subst (IsSure plan.image) (sym (ap (λ i. i.buffer) of.is.image_is)) (laws.faithful text plan.image of.is).sure)
    (counted plan.image bytes inputs shaped.cells given) (enough words.capacity plan.image.buffer some) in
    (one.one, one.is)
