-- What every command says of told files.
use Rattle.std.proofs.Common.{◌≡◌, ◌≢◌, ℕ, suc, ℤ, List, [], ◌∷◌, All, Contains, Option, None, Some, is_some, IsSome, IfSome, refl, sym, ap, subst, arith}
use Rattle.std.proofs.lemmas.List.Elements.{All-nil, All-cons, All-contains}
use Rattle.object_io.specs.Objects.{object_text}
use Rattle.accept.specs.Needs.{need_lines}
use Rattle.refusals.specs.Explanations.{explanation}
use Rattle.refusals.specs.declared.refusal.Refusal.{Refusal}
use Rattle.systole_top.specs.Causes.{IsAnswer, Names, Answers, Judges, IsAnswered, IsChecked, IsRun, Checks, MeanFinds, RunFinds}
use Rattle.systole_top.specs.Commands.{silent, reply_to, check_reply, explain_reply, compile_reply, need_reply, mean_done, means, run_reply, runs, files_in, judged, tree_of, with_input}
use Rattle.systole_top.specs.Judgement.{Question, IsJudged, Plan, acceptance, needs}
use Rattle.systole_top.specs.Reply.{Outcome, Reply, usage}
use Rattle.systole_top.specs.Shape.{Shape, Check, Explain, Compile, Need, Mean, Run}
use Rattle.systole_top.specs.Shape.{Chosen, By, InFile, RunWords}
use Rattle.systole_top.specs.Sides.{Stream}
use Rattle.run_words.specs.Answers.{Choice, BuiltIn, OfFile}
use Rattle.sys_base.specs.declared.limits.TheConstants.{SCHEDULE_BYTES}
use Rattle.systole_top.specs.Tree.{Tree, then_, within}
use Rattle.systole_top.specs.declared.answer.Verdict.TheVariants as V
use Rattle.systole_top.specs.Texts.{accepted_line, refusal_line}
use Rattle.systole_top.specs.declared.judgement.Judgement.{Judgement}
use Rattle.systole_top.specs.declared.status.Status.{Status}
use Rattle.systole_top.proofs.Checked.{HasJudgements, acceptance_judges, needs_judge, replies_judged, checked}
use Rattle.systole_top.proofs.Laws.{Laws}
use Rattle.systole_top.proofs.Long.{acceptance_long, needs_long}
use Rattle.systole_top.proofs.Answered.{FindsSome, IsFound, SaysFound, answered_so, found_replies, reply_of, some_finding}
use Rattle.systole_top.proofs.Ran.{IsChoice, mean_says, mean_some, mean_turns, run_says, run_some, run_turns}
use Rattle.systole_top.proofs.Shapes.{HasCapacity}
use Rattle.systole_top.proofs.Told.{RepliesTo, answered}

-- what a command that judges one file replies, where it is told
module _ (held : List ℕ → Option (List ℕ)) (file text : List ℕ) (told : held file ≡ Some text) where
  check_to : RepliesTo held (Check file) (IsJudged acceptance (Some text)) check_reply
  check_to = replies_judged held file text told acceptance acceptance_long (Check file) check_reply (λ name named. named) refl

  explain_to : RepliesTo held (Explain file) (IsJudged acceptance (Some text)) explain_reply
  explain_to = replies_judged held file text told acceptance acceptance_long (Explain file) explain_reply (λ name named. named) refl

  compile_to : RepliesTo held (Compile file) (IsJudged acceptance (Some text)) compile_reply
  compile_to = replies_judged held file text told acceptance acceptance_long (Compile file) compile_reply (λ name named. named) refl

  need_to : RepliesTo held (Need file) (IsJudged needs (Some text)) need_reply
  need_to = replies_judged held file text told needs needs_long (Need file) need_reply (λ name named. named) refl

-- ---- told files

-- where a file is told
where_told : (o : Option (List ℕ)) (P : List ℕ → Type 0) → ((text : List ℕ) → o ≡ Some text → P text) → IfSome o P
where_told None P holds = tt
where_told (Some text) P holds = holds text refl

-- where two files are told
where_both_told : (o p : Option (List ℕ)) (P : List ℕ → List ℕ → Type 0) → ((text bytes : List ℕ) → o ≡ Some text → p ≡ Some bytes → P text bytes)
    → IfSome o (λ text. IfSome p (λ bytes. P text bytes))
where_both_told None p P holds = tt
where_both_told (Some text) None P holds = tt
where_both_told (Some text) (Some bytes) P holds = holds text bytes refl refl

-- two files and others are told
all_told : (held : List ℕ → Option (List ℕ)) (file input : List ℕ) (rest : List (List ℕ)) → IsSome (held file) → IsSome (held input)
    → All (λ name. IsSome (held name)) rest → (name : List ℕ) → Contains (file ∷ input ∷ rest) name → IsSome (held name)
all_told held file input rest told_file told_input others name named =
    let These : List ℕ → Type 0 = λ n. IsSome (held n) in
    All-contains These (file ∷ input ∷ rest) name (All-cons These file (input ∷ rest) told_file (All-cons These input rest told_input others)) named

-- ---- what is said

module _ (held : List ℕ → Option (List ℕ)) (before now : List ℕ → ℕ) (out err : Stream) (status : Status) (laws : Laws) where
  -- a file that is told, or isn't
  checked_told : {V : Type 0} (question : Question V) → HasJudgements question → (s : Shape) (wanted : V → List ℕ) (on_out on_err : Refusal → List ℕ)
      → (o : Option (List ℕ)) → ((text : List ℕ) → o ≡ Some text → RepliesTo held s (IsJudged question (Some text)) (reply_to wanted on_out on_err))
      → Answers (Some s) held before now out err status → Judges (Some s) held out err status
      → IfSome o (λ text. IsChecked question wanted on_out on_err text out err status)
  checked_told {V} question has s wanted on_out on_err None to answers judges = tt
  checked_told {V} question has s wanted on_out on_err (Some text) to answers judges =
      checked held before now out err status question wanted on_out on_err text has s (to text refl) answers judges

  -- what a command with an input says, where its source, its input and what else it names are told
  module _ {X : Type 0} (Finds : Plan → List (List ℤ) → X → Type 0) (says : Plan → X → Reply)
      (turns : (plan : Plan) (x : X) → ((says plan x).verdict ≢ V.Refused) × ((says plan x).verdict ≢ V.BadInput))
      (s : Shape) (file input : List ℕ) (next : Plan → List (List ℤ) → Tree Reply) (on : SaysFound Finds says held next)
      (tree : tree_of s ≡ then_ (judged acceptance file) (with_input input next))
      (answers : Answers (Some s) held before now out err status) (judges : Judges (Some s) held out err status) where
    input_checked : (text bytes : List ℕ) → held file ≡ Some text → held input ≡ Some bytes
        → ((name : List ℕ) → Names (Some s) name → IsSome (held name)) → IsAnswered Finds says text bytes out err status
    input_checked text bytes told_file told_input named =
        answered_so held before now out err status text bytes Finds says turns s
        (found_replies held file input text bytes told_file told_input Finds says next on s named tree) answers judges

  run_checked : (words : RunWords) (text bytes : List ℕ) → held words.file ≡ Some text → held words.input ≡ Some bytes
      → (choice : Choice) → IsChoice held words.chosen choice → All (λ name. IsSome (held name)) (files_in words.chosen)
      → Answers (Some (Run words)) held before now out err status → Judges (Some (Run words)) held out err status
      → IsAnswered (RunFinds words choice) (λ plan. run_reply) text bytes out err status
  run_checked words text bytes told_file told_input choice is rest answers judges =
      input_checked (RunFinds words choice) (λ plan. run_reply) run_turns (Run words) words.file words.input (runs words)
      (run_says held words choice is) refl answers judges text bytes told_file told_input
      (all_told held words.file words.input (files_in words.chosen) (ap is_some told_file) (ap is_some told_input) rest)

  chosen_checked : (words : RunWords) (chosen : Chosen) → words.chosen ≡ chosen → (text bytes : List ℕ)
      → held words.file ≡ Some text → held words.input ≡ Some bytes
      → Answers (Some (Run words)) held before now out err status → Judges (Some (Run words)) held out err status
      → IsRun held words chosen text bytes out err status
  chosen_checked words (By schedule) same text bytes told_file told_input answers judges =
      run_checked words text bytes told_file told_input (BuiltIn schedule)
      (subst (λ c. IsChoice held c (BuiltIn schedule)) (sym same) refl)
      (subst (λ c. All (λ name. IsSome (held name)) (files_in c)) (sym same) (All-nil (λ name. IsSome (held name)))) answers judges
  chosen_checked words (InFile name) same text bytes told_file told_input answers judges =
      where_told (held name) (λ entries. IsAnswered (RunFinds words (OfFile (within SCHEDULE_BYTES entries))) (λ plan. run_reply) text bytes out err status)
      (λ entries told.
      let choice = OfFile (within SCHEDULE_BYTES entries) in
      run_checked words text bytes told_file told_input choice
      (subst (λ c. IsChoice held c choice) (sym same) (entries, told, refl))
      (subst (λ c. All (λ n. IsSome (held n)) (files_in c)) (sym same)
      (All-cons (λ n. IsSome (held n)) name [] (ap is_some told) (All-nil (λ n. IsSome (held n))))) answers judges)

  pub checks_of : (asked : Option Shape) → Answers asked held before now out err status → Judges asked held out err status → Checks asked held out err status
  checks_of None answers judges = tt
  checks_of (Some (Check file)) answers judges =
      checked_told acceptance (acceptance_judges laws) (Check file) (λ plan. accepted_line) silent refusal_line (held file) (check_to held file) answers judges
  checks_of (Some (Explain file)) answers judges =
      checked_told acceptance (acceptance_judges laws) (Explain file) (λ plan. accepted_line) explanation silent (held file) (explain_to held file) answers judges
  checks_of (Some (Compile file)) answers judges =
      checked_told acceptance (acceptance_judges laws) (Compile file) (λ plan. object_text plan.image) silent refusal_line (held file) (compile_to held file) answers judges
  checks_of (Some (Need file)) answers judges =
      checked_told needs (needs_judge laws) (Need file) need_lines silent refusal_line (held file) (need_to held file) answers judges
  checks_of (Some (Mean file input)) answers judges =
      where_both_told (held file) (held input) (λ text bytes. IsAnswered MeanFinds mean_done text bytes out err status)
      (λ text bytes told_file told_input.
      input_checked MeanFinds mean_done mean_turns (Mean file input) file input means (mean_says held) refl answers judges
      text bytes told_file told_input
      (all_told held file input [] (ap is_some told_file) (ap is_some told_input) (All-nil (λ name. IsSome (held name)))))
  checks_of (Some (Run words)) answers judges =
      where_both_told (held words.file) (held words.input) (λ text bytes. IsRun held words words.chosen text bytes out err status)
      (λ text bytes told_file told_input. chosen_checked words words.chosen refl text bytes told_file told_input answers judges)

-- ---- there is an answer

module _ (laws : Laws) (held : List ℕ → Option (List ℕ)) where
  -- a told file is answered
  answer_of : {V : Type 0} (question : Question V) → HasJudgements question → (s : Shape) (reply : Judgement V → Reply) (o : Option (List ℕ)) → IsSome o
      → ((text : List ℕ) → o ≡ Some text → RepliesTo held s (IsJudged question (Some text)) reply) → (a : Outcome) × IsAnswer (Some s) held a
  answer_of {V} question has s reply None told to = absurd (cc)
  answer_of {V} question has s reply (Some text) told to =
      let judged = has.some text in
      answered held s (IsJudged question (Some text)) reply (to text refl) judged.0 judged.1

  -- a command with an input, where its source and its input are told
  module _ {X : Type 0} (Finds : Plan → List (List ℤ) → X → Type 0) (says : Plan → X → Reply) (some : FindsSome Finds says)
      (s : Shape) (file input : List ℕ) (next : Plan → List (List ℤ) → Tree Reply) (on : SaysFound Finds says held next)
      (tree : tree_of s ≡ then_ (judged acceptance file) (with_input input next)) where
    input_answered : (o p : Option (List ℕ)) → held file ≡ o → held input ≡ p → IsSome o → IsSome p
        → ((name : List ℕ) → Names (Some s) name → IsSome (held name)) → (a : Outcome) × IsAnswer (Some s) held a
    input_answered None p is_o is_p told_o told_p named = absurd (cc)
    input_answered (Some text) None is_o is_p told_o told_p named = absurd (cc)
    input_answered (Some text) (Some bytes) told_file told_input told_o told_p named =
        let found = some_finding laws Finds says some text bytes in
        answered held s (IsFound Finds says text bytes) (reply_of Finds says)
        (found_replies held file input text bytes told_file told_input Finds says next on s named tree) found.0 found.1

  -- what is chosen is some choice, where the files are told
  choice_of_file : (name : List ℕ) (o : Option (List ℕ)) → held name ≡ o → IsSome o → (choice : Choice) × IsChoice held (InFile name) choice
  choice_of_file name None is told = absurd (cc)
  choice_of_file name (Some entries) is told = (OfFile (within SCHEDULE_BYTES entries), (entries, is, refl))

  some_choice : (chosen : Chosen) → ((name : List ℕ) → Contains (files_in chosen) name → IsSome (held name)) → (choice : Choice) × IsChoice held chosen choice
  some_choice (By schedule) told = (BuiltIn schedule, refl)
  some_choice (InFile name) told = choice_of_file name (held name) refl (told name (0, omega arith, refl))

  -- where the files that the words name are told, there is an answer
  pub some_answer : (asked : Option Shape) → HasCapacity asked → ((name : List ℕ) → Names asked name → IsSome (held name)) → (a : Outcome) × IsAnswer asked held a
  some_answer None some told = (usage, refl)
  some_answer (Some (Check file)) some told =
      answer_of acceptance (acceptance_judges laws) (Check file) check_reply (held file) (told file (0, omega arith, refl)) (check_to held file)
  some_answer (Some (Explain file)) some told =
      answer_of acceptance (acceptance_judges laws) (Explain file) explain_reply (held file) (told file (0, omega arith, refl)) (explain_to held file)
  some_answer (Some (Compile file)) some told =
      answer_of acceptance (acceptance_judges laws) (Compile file) compile_reply (held file) (told file (0, omega arith, refl)) (compile_to held file)
  some_answer (Some (Need file)) some told =
      answer_of needs (needs_judge laws) (Need file) need_reply (held file) (told file (0, omega arith, refl)) (need_to held file)
  some_answer (Some (Mean file input)) some told =
      input_answered MeanFinds mean_done (mean_some laws) (Mean file input) file input means (mean_says held) refl
      (held file) (held input) refl refl (told file (0, omega arith, refl)) (told input (1, omega arith, refl)) told
  some_answer (Some (Run words)) some told =
      let choice = some_choice words.chosen (λ name named. told name (suc (suc named.0), omega (arith, named.1), named.2)) in
      input_answered (RunFinds words choice.0) (λ plan. run_reply) (run_some laws words choice.0 some) (Run words)
      words.file words.input (runs words) (run_says held words choice.0 choice.1) refl
      (held words.file) (held words.input) refl refl (told words.file (0, omega arith, refl)) (told words.input (1, omega arith, refl)) told
