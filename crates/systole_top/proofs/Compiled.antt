-- What `compile F`, `mean F IN` and `run F IN CAP SCHED` put with Done.
use Rattle.std.proofs.Common.{◌≡◌, ◌≤◌, ℕ, ℤ, max, List, Option, None, Some, IfSome, sym, ap, ◌∙◌, subst, inl, inr}
use Rattle.std.specs.Io.KnownBytes.{Appends}
use Rattle.sys_base.specs.declared.limits.TheConstants.{INPUT_BYTES, SOURCE_BYTES}
use Rattle.systole_top.specs.Causes.{May}
use Rattle.systole_top.specs.Commands.{tree_of, compile_reply, judged, means, on_inputs, runs, with_input}
use Rattle.systole_top.specs.Correctness.{IsCompiled, IsMeaningPut, IsAskedFor, IsRunPut, Compiles}
use Rattle.systole_top.specs.Given.{Given, Taken, Bad, AreGiven, IsGiven}
use Rattle.systole_top.specs.Judgement.{IsJudged, Plan, IsPlanOf, acceptance}
use Rattle.systole_top.specs.Reply.{Reply, Outcome, outcome_of}
use Rattle.systole_top.specs.Shape.{Shape, Check, Explain, Compile, Need, Mean, Run, RunWords}
use Rattle.systole_top.specs.Sides.{Stream, Reaches}
use Rattle.systole_top.specs.Tree.{Comes, Tree, then_, within}
use Rattle.systole_top.specs.declared.judgement.Judgement.{Judgement}
use Rattle.systole_top.specs.declared.judgement.Judgement.TheVariants.{Accepted, Refused}
use Rattle.systole_top.specs.declared.status.Status.{Status}
use Rattle.run_words.specs.Schedules.{Schedule}
use Rattle.comm_sequence.specs.Meaning.{IsMeaning}
use Rattle.systole_top.proofs.Inputs.{counted}
use Rattle.systole_top.proofs.Laws.{Laws}
use Rattle.systole_top.proofs.Long.{IsHeld, held_whole}
use Rattle.systole_top.proofs.RunPut.{chosen_put}
use Rattle.systole_top.proofs.Shapes.{HasCapacity}

-- The reply is one with Done, and it is on the sinks.
record PutDone (out err : Stream) (r : Reply) : Type 0 where
  done : (outcome_of r).status ≡ Status.Done
  on_out : Appends out.told_before out.told_now r.out
  on_err : Appends err.told_before err.told_now r.err

module _ (held : List ℕ → Option (List ℕ)) (out err : Stream) (laws : Laws) where
  -- ---- `compile`

  -- The text of the file F is compiled.
  abbrev Compiled : List ℕ → Type 0
  Compiled file = (text : List ℕ) × IsHeld (held file) text × IsCompiled text out err

  -- what is put for a judgement with Done
  judged_done : (name : List ℕ) (file : Option (List ℕ)) (j : Judgement Plan) → IfSome (held name) (λ bytes. file ≡ within SOURCE_BYTES bytes)
      → IsJudged acceptance file j → PutDone out err (compile_reply j) → Compiled name
  judged_done name file (Refused r) read is put = absurd (let e : Status.Refused ≡ Status.Done = put.done in cc)
  judged_done name None (Accepted plan) read is put = absurd (cc)
  judged_done name (Some text) (Accepted plan) read is put = (
    text,
    held_whole (held name) SOURCE_BYTES text read,
    record {
      image = plan.image;
      is = is.is;
      faithful = laws.faithful text plan.image is.is;
      put = put.on_out;
      alone = put.on_err;
    },
  )

  -- what comes of the file F with Done
  compile_done : (name : List ℕ) (r : Reply) → Comes held (tree_of (Compile name)) r → PutDone out err r → Compiled name
  unfolding then_
  compile_done name r (file, read, (j, only, gives)) put =
      judged_done name file j read only.holds (subst (PutDone out err) (sym gives) put)

  -- ---- commands with an input

  -- The text of the file F is accepted, the bytes of the file IN give inputs, and the reply comes of what follows.
  record ComesTo (file input : List ℕ) (next : Plan → List (List ℤ) → Tree Reply) (r : Reply) : Type 0 where
    text : List ℕ
    on_file : IsHeld (held file) text
    bytes : List ℕ
    on_input : IsHeld (held input) bytes
    plan : Plan
    of : IsPlanOf text plan
    inputs : List (List ℤ)
    given : AreGiven plan.image bytes inputs
    comes : Comes held (next plan inputs) r

  module _ (file input : List ℕ) (next : Plan → List (List ℤ) → Tree Reply) (r : Reply) (put : PutDone out err r) where
    -- what follows on what is given, with Done
    given_done : (text : List ℕ) → IsHeld (held file) text → (plan : Plan) → IsPlanOf text plan → (read : Option (List ℕ)) (g : Given)
        → IfSome (held input) (λ bytes. read ≡ within INPUT_BYTES bytes) → IsGiven plan.image read g → Comes held (on_inputs (next plan) g) r
        → ComesTo file input next r
    given_done text on_file plan of read (Bad line) had is gives =
        absurd (let e : Status.BadInput ≡ Status.Done = ap (λ q. (outcome_of q).status) gives ∙ put.done in cc)
    given_done text on_file plan of None (Taken inputs) had is comes = absurd (cc)
    given_done text on_file plan of (Some bytes) (Taken inputs) had is comes =
        record {
          text = text;
          on_file = on_file;
          bytes = bytes;
          on_input = held_whole (held input) INPUT_BYTES bytes had;
          plan = plan;
          of = of;
          inputs = inputs;
          given = is;
          comes = comes;
        }

    -- what follows on a judgement, with Done
    input_done : (read : Option (List ℕ)) (j : Judgement Plan) → IfSome (held file) (λ bytes. read ≡ within SOURCE_BYTES bytes)
        → IsJudged acceptance read j → Comes held (with_input input next j) r → ComesTo file input next r
    unfolding then_
    input_done read (Refused q) was is gives =
        absurd (let e : Status.Refused ≡ Status.Done = ap (λ q. (outcome_of q).status) gives ∙ put.done in cc)
    input_done None (Accepted plan) was is comes = absurd (cc)
    input_done (Some text) (Accepted plan) was is (taken, had, (g, only, comes)) =
        given_done text (held_whole (held file) SOURCE_BYTES text was) plan is taken g had only.holds comes

    comes_to : Comes held (then_ (judged acceptance file) (with_input input next)) r → ComesTo file input next r
    unfolding then_
    comes_to (read, was, (j, only, comes)) = input_done read j was only.holds comes

  -- ---- `mean`

  -- The meaning of the text of the file F was put, for the bytes of the file IN.
  abbrev Meant : (file input : List ℕ) → Type 0
  Meant file input = (text bytes : List ℕ) × IsHeld (held file) text × IsHeld (held input) bytes × IsMeaningPut text bytes out err

  -- what is put for a meaning
  mean_done : (file input : List ℕ) (r : Reply) → ComesTo file input means r → PutDone out err r → Meant file input
  mean_done file input r to put =
      let (words, only, gives) = to.comes in
      let image = to.plan.image in
      let faithful = laws.faithful to.text image to.of.is in
      let counts = counted image to.bytes to.inputs (laws.shaped to.text image to.of.is).cells to.given in
      let meaning = subst (λ p. IsMeaning p to.inputs words) to.of.program_is only.holds in
      let buffer = ap (λ i. i.buffer) to.of.is.image_is in (
        to.text,
        to.bytes,
        to.on_file,
        to.on_input,
        record {
          image = image;
          is = to.of.is;
          inputs = to.inputs;
          given = to.given;
          words = words;
          meaning = meaning;
          runs = λ cap run last least runs.
              faithful.outputs to.inputs words cap run last counts meaning (subst (λ b. max 1 b ≤ cap) buffer least) runs;
          put = subst (λ q. Appends out.told_before out.told_now q.out) (sym gives) put.on_out;
          alone = subst (λ q. Appends err.told_before err.told_now q.err) (sym gives) put.on_err;
        },
      )

  -- ---- `run`

  -- The result of the run that the schedule makes over the image of the text was put.
  abbrev Ran : RunWords → Type 0
  Ran words = (text bytes : List ℕ) × IsHeld (held words.file) text × IsHeld (held words.input) bytes
      × (schedule : Schedule) × IsAskedFor held words.chosen schedule
      × IsRunPut text bytes words.capacity schedule words.recorded out err

  run_done : (words : RunWords) → 1 ≤ words.capacity → (r : Reply) → ComesTo words.file words.input (runs words) r → PutDone out err r → Ran words
  run_done words some r to put =
      let ran = chosen_put held out err laws words some to.text to.bytes to.plan to.inputs to.of to.given words.chosen r to.comes
      put.done put.on_out put.on_err in
      (to.text, to.bytes, to.on_file, to.on_input, ran.0, ran.1, ran.2)

module _ (held : List ℕ → Option (List ℕ)) (before now : List ℕ → ℕ) (out err : Stream) (status : Status) (laws : Laws) where
  -- what the call told of a command with Done came of its tree
  done_of : (s : Shape) (told : Outcome) → May (Some s) held before now told → Reaches out err told status → status ≡ Status.Done
      → (r : Reply) × Comes held (tree_of s) r × PutDone out err r
  done_of s told may reaches done =
      elim reaches [
        | inl put ↦ elim may [
          | inl says ↦ (
            says.0,
            says.1,
            record {
              done = sym (ap (λ o. o.status) says.2) ∙ sym put.0 ∙ done;
              on_out = subst (λ o. Appends out.told_before out.told_now o.out) says.2 put.1;
              on_err = subst (λ o. Appends err.told_before err.told_now o.err) says.2 put.2;
            },
          )
          | inr rest ↦ elim rest [
            | inl failed ↦ absurd (let e : Status.ReadFault ≡ Status.Done = sym (ap (λ o. o.status) failed.3) ∙ sym put.0 ∙ done in cc)
            | inr none ↦ absurd (let e : Status.Memory ≡ Status.Done = sym (ap (λ o. o.status) none) ∙ sym put.0 ∙ done in cc)
          ]
        ]
        | inr other ↦ elim other [
          | inl failed ↦ absurd (let e : Status.WriteFault ≡ Status.Done = sym failed.0 ∙ done in cc)
          | inr none ↦ absurd (let e : Status.Memory ≡ Status.Done = sym none.0 ∙ done in cc)
        ]
      ]

  pub compiles_of : (asked : Option Shape) → HasCapacity asked → (told : Outcome) → May asked held before now told → Reaches out err told status
      → Compiles asked held out err status
  compiles_of None some told may reaches = tt
  compiles_of (Some (Check file)) some told may reaches = tt
  compiles_of (Some (Explain file)) some told may reaches = tt
  compiles_of (Some (Need file)) some told may reaches = tt
  compiles_of (Some (Compile file)) some told may reaches = λ done.
      let d = done_of (Compile file) told may reaches done in
      compile_done held out err laws file d.0 d.1 d.2
  compiles_of (Some (Mean file input)) some told may reaches = λ done.
      let d = done_of (Mean file input) told may reaches done in
      mean_done held out err laws file input d.0 (comes_to held out err laws file input means d.0 d.2 d.1) d.2
  compiles_of (Some (Run words)) some told may reaches = λ done.
      let d = done_of (Run words) told may reaches done in
      run_done held out err laws words some d.0 (comes_to held out err laws words.file words.input (runs words) d.0 d.2 d.1) d.2
