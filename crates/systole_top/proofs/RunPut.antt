-- What `run` puts with Done.
use Rattle.std.proofs.Common.{◌≡◌, ◌≤◌, ◌<◌, ◌++◌, ℕ, ℤ, max, Bool, List, [], Option, None, Some, IfSome, map, length, get_or, slice_index_or, refl, sym, ap, ◌∙◌, subst, arith}
use Rattle.std.specs.Io.KnownBytes.{Appends}
use Rattle.std.proofs.lemmas.List.{length-map, same_lists}
use Rattle.std.proofs.lemmas.List.FromFn.{get_or-map-range_with_len, length-map-range_with_len, length-range_with_len}
use Rattle.array_model.specs.Runs.{IsSure}
use Rattle.array_model.specs.States.{ArrayState, cells}
use Rattle.cell_code.specs.Images.{IsShaped}
use Rattle.cell_code.specs.declared.image.Image.{Image}
use Rattle.cell_types.specs.Resolved.{program_of}
use Rattle.cell_types.specs.Solo.{emitted}
use Rattle.comm_sequence.specs.Meaning.{IsMeaning, alone}
use Rattle.program_image.specs.Faithful.{inputs_of}
use Rattle.run_words.specs.Answers.{AnswersEntries, AnswersRun, ReadsSchedule, Reading, Fits, Breaks, RunAnswer, Says, capacity}
use Rattle.run_words.specs.Results.{IsResultLine, record_text}
use Rattle.run_words.specs.Schedules.{Ending, Makes, Schedule, Finished, Unfinished, NotEnabled, Recorded}
use Rattle.run_words.specs.declared.verdict.RunVerdict.{RunVerdict}
use Rattle.run_words.specs.declared.verdict.RunVerdict.TheVariants as Ran
use Rattle.schedules.specs.Entries.{HasEntries}
use Rattle.sys_base.specs.Groups.{below}
use Rattle.sys_base.specs.declared.actor.Actor.{Actor}
use Rattle.sys_base.specs.declared.limits.TheConstants.{SCHEDULE_BYTES}
use Rattle.sys_base.specs.declared.word.Word.{Word}
use Rattle.systole_top.specs.Commands.{choice_in, ran, verdict_of}
use Rattle.systole_top.specs.Correctness.{IsAskedFor, IsRunPut}
use Rattle.systole_top.specs.Given.{AreGiven}
use Rattle.systole_top.specs.Judgement.{Plan, IsPlanOf}
use Rattle.systole_top.specs.Reply.{Reply, outcome_of, status_of}
use Rattle.systole_top.specs.Shape.{Chosen, By, InFile, RunWords}
use Rattle.systole_top.specs.Sides.{Stream}
use Rattle.systole_top.specs.Tree.{Comes, then_, within}
use Rattle.systole_top.specs.declared.status.Status.{Status}
use Rattle.systole_top.proofs.Inputs.{counted}
use Rattle.systole_top.proofs.Laws.{Laws}
use Rattle.systole_top.proofs.Long.{held_whole}
use Rattle.systole_top.proofs.Ran.{enough}

-- ---- outputs

-- lists that are equal place by place, one of which is made of its places
outputs_are : (outputs words : List (List Word)) (of said : ℕ → List Word) (n : ℕ) → outputs ≡ map of (below n) → words ≡ map said (below n)
    → ((c : ℕ) → c < n → of c ≡ slice_index_or words c []) → outputs ≡ words
outputs_are outputs words of said n made are whole =
    same_lists outputs words
    (ap length made ∙ length-map-range_with_len of 0 n ∙ sym (length-map-range_with_len said 0 n) ∙ sym (ap length are))
    (λ k d inside.
    let small : k < n = omega (arith, inside, ap length made ∙ length-map-range_with_len of 0 n) in
    let at : (e : List Word) → get_or words k e ≡ said k =
    λ e. ap (λ l. get_or l k e) are ∙ get_or-map-range_with_len said 0 n k k e small (omega arith) in
    ap (λ l. get_or l k d) made ∙ get_or-map-range_with_len of 0 n k k d small (omega arith)
    ∙ whole k small ∙ at [] ∙ sym (at d))

-- a meaning of an accepted text has words for each cell of its image
cells_words : (text : List ℕ) (plan : Plan) (of : IsPlanOf text plan) (inputs : List (List ℤ)) (words : List (List Word))
    (means : IsMeaning (program_of of.is.source) inputs words) → IsShaped plan.image
    → words ≡ map (λ c. emitted (alone (program_of of.is.source) inputs means.streams c)) (below (cells plan.image))
cells_words text plan of inputs words means shaped =
    let program = program_of of.is.source in
    let long = ap (λ i. length i.cells) of.is.image_is ∙ length-map (below (length program.cells)) _ ∙ length-range_with_len 0 (length program.cells) in
    subst (λ n. words ≡ map (λ c. emitted (alone program inputs means.streams c)) (below n)) (sym long ∙ shaped.cells) means.words

-- ---- the run

-- What an answer with Done says: the run that the schedule made to its end, and the text.
record SaysDone (image : Image) (asked : ℕ) (recorded : Bool) (lists : List (List ℤ)) (schedule : Schedule) (answer : RunAnswer) : Type 0 where
  run : List Actor
  last : ArrayState
  makes : Makes image (inputs_of lists) (capacity image asked) schedule run last Finished
  line : List ℕ
  is_line : IsResultLine image (inputs_of lists) (capacity image asked) run last line
  out : answer.out ≡ line ++ record_text recorded run
  err : answer.err ≡ []

module _ (image : Image) (asked : ℕ) (recorded : Bool) (lists : List (List ℤ)) where
  by_ending : (schedule : Schedule) (answer : RunAnswer) (run : List Actor) (last : ArrayState) (ending : Ending)
      → Makes image (inputs_of lists) (capacity image asked) schedule run last ending
      → Says image (inputs_of lists) (capacity image asked) recorded run last ending answer → answer.verdict ≡ Ran.Done
      → SaysDone image asked recorded lists schedule answer
  by_ending schedule answer run last Finished makes (line, is_line, same) done =
      record {
        run = run;
        last = last;
        makes = makes;
        line = line;
        is_line = is_line;
        out = ap (λ a. a.out) same;
        err = ap (λ a. a.err) same;
      }
  by_ending schedule answer run last Unfinished makes (line, is_line, same) done =
      absurd (let e : Ran.Unfinished ≡ Ran.Done = sym (ap (λ a. a.verdict) same) ∙ done in cc)
  by_ending schedule answer run last (NotEnabled n) makes same done =
      absurd (let e : Ran.BadSchedule ≡ Ran.Done = sym (ap (λ a. a.verdict) same) ∙ done in cc)

  run_done : (schedule : Schedule) (answer : RunAnswer) → AnswersRun image asked recorded lists schedule answer → answer.verdict ≡ Ran.Done
      → SaysDone image asked recorded lists schedule answer
  run_done schedule answer (run, last, ending, makes, says) done = by_ending schedule answer run last ending makes says done

  -- the entries of a file that was read whole
  entries_done : (file : Option (List ℕ)) (reading : Reading) (answer : RunAnswer) → ReadsSchedule file reading
      → AnswersEntries image asked recorded lists reading answer → answer.verdict ≡ Ran.Done
      → (bytes : List ℕ) × (file ≡ Some bytes) × (entries : List Actor) × HasEntries bytes entries
      × SaysDone image asked recorded lists (Recorded entries) answer
  entries_done None (Fits entries) answer reads answers done = absurd (cc)
  entries_done (Some bytes) (Fits entries) answer reads answers done =
      (bytes, refl, entries, reads, run_done (Recorded entries) answer answers done)
  entries_done file (Breaks line) answer reads same done =
      absurd (let e : Ran.BadSchedule ≡ Ran.Done = sym (ap (λ a. a.verdict) same) ∙ done in cc)

-- ---- what is put

-- a reply with Done is that of an answer with Done
reply_done : (v : RunVerdict) → status_of (verdict_of v) ≡ Status.Done → v ≡ Ran.Done
reply_done Ran.Done done = refl
reply_done Ran.Unfinished done = absurd (cc)
reply_done Ran.BadSchedule done = absurd (cc)

module _ (held : List ℕ → Option (List ℕ)) (out err : Stream) (laws : Laws) (words : RunWords) (some : 1 ≤ words.capacity)
    (text bytes : List ℕ) (plan : Plan) (inputs : List (List ℤ)) (of : IsPlanOf text plan) (given : AreGiven plan.image bytes inputs) where
  -- of an answer with Done
  put_run : (schedule : Schedule) (answer : RunAnswer) → SaysDone plan.image words.capacity words.recorded inputs schedule answer
      → Appends out.told_before out.told_now answer.out → Appends err.told_before err.told_now answer.err
      → IsRunPut text bytes words.capacity schedule words.recorded out err
  put_run schedule answer said put_out put_err =
      let image = plan.image in
      let cap = capacity image words.capacity in
      let faithful = laws.faithful text image of.is in
      let shaped = laws.shaped text image of.is in
      let counts = counted image bytes inputs shaped.cells given in
      let buffer = ap (λ i. i.buffer) of.is.image_is in
      let sure = subst (IsSure image) (sym buffer) faithful.sure in
      let least = enough words.capacity image.buffer some in
      let is_run = laws.made image (inputs_of inputs) cap schedule said.run said.last Finished said.makes in
      let finished = laws.finished image image.buffer cap (inputs_of inputs) schedule said.run said.last shaped sure counts least said.makes in
      let meaning = faithful.meaning inputs counts in
      let has = faithful.outputs inputs meaning.words cap said.run said.last counts meaning.is
      (subst (λ b. max 1 b ≤ cap) buffer least) is_run in
      let report = said.is_line.0 in
      let tells = said.is_line.1 in
      let outputs = outputs_are report.outputs.cells meaning.words (λ c. (said.last.cell c).held.output)
      (λ c. emitted (alone (program_of of.is.source) inputs meaning.is.streams c)) (cells image) tells.outputs
      (cells_words text plan of inputs meaning.words meaning.is shaped) (has.whole finished) in
      record {
        image = image;
        is = of.is;
        inputs = inputs;
        given = given;
        run = said.run;
        last = said.last;
        makes = said.makes;
        is_run = is_run;
        well = sure (inputs_of inputs) cap said.run said.last counts least is_run;
        finished = finished;
        report = report;
        tells = tells;
        meaning = subst (IsMeaning (program_of of.is.source) inputs) (sym outputs) meaning.is;
        put = subst (Appends out.told_before out.told_now)
            (said.out ∙ ap (λ l. l ++ record_text words.recorded said.run) said.is_line.2) put_out;
        alone = subst (Appends err.told_before err.told_now) said.err put_err;
      }

  -- of what comes of a choice
  pub chosen_put : (chosen : Chosen) (r : Reply) → Comes held (then_ (choice_in chosen) (ran words plan inputs)) r
      → (outcome_of r).status ≡ Status.Done → Appends out.told_before out.told_now r.out → Appends err.told_before err.told_now r.err
      → (schedule : Schedule) × IsAskedFor held chosen schedule × IsRunPut text bytes words.capacity schedule words.recorded out err
  unfolding then_
  chosen_put (By schedule) r (answer, only, gives) done put_out put_err =
      let is_done = reply_done answer.verdict (ap (λ q. (outcome_of q).status) gives ∙ done) in (
        schedule,
        refl,
        put_run schedule answer (run_done plan.image words.capacity words.recorded inputs schedule answer only.holds is_done)
            (subst (λ q. Appends out.told_before out.told_now q.out) (sym gives) put_out)
            (subst (λ q. Appends err.told_before err.told_now q.err) (sym gives) put_err),
      )
  chosen_put (InFile name) r (file, read, (answer, only, gives)) done put_out put_err =
      let is_done = reply_done answer.verdict (ap (λ q. (outcome_of q).status) gives ∙ done) in
      let (reading, reads, answers) = only.holds in
      let (entries_text, whole, entries, has, said) =
      entries_done plan.image words.capacity words.recorded inputs file reading answer reads answers is_done in (
        Recorded entries,
        (entries_text, held_whole (held name) SCHEDULE_BYTES entries_text (subst (λ f. IfSome (held name) (λ b. f ≡ within SCHEDULE_BYTES b)) whole read), entries, has, refl),
        put_run (Recorded entries) answer said
            (subst (λ q. Appends out.told_before out.told_now q.out) (sym gives) put_out)
            (subst (λ q. Appends err.told_before err.told_now q.err) (sym gives) put_err),
      )
