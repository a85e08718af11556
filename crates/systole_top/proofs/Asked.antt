-- A command reads no file but those that it names.
use Rattle.std.proofs.Common.{ℕ, ℤ, suc, List, [], ◌∷◌, Option, Contains, refl, sym, subst, inl, inr, arith}
use Rattle.cell_code.specs.declared.image.Image.{Image}
use Rattle.systole_top.specs.Commands.{judgement_of, judged, given_of, given_in, check_reply, explain_reply, compile_reply, need_reply, means, ran, runs, choice_in, on_inputs, with_input, tree_of, files_of, files_in}
use Rattle.systole_top.specs.Given.{Given, Taken, Bad}
use Rattle.systole_top.specs.Judgement.{Question, Plan, acceptance, needs}
use Rattle.systole_top.specs.Reply.{Reply}
use Rattle.systole_top.specs.Shape.{Shape, Check, Explain, Compile, Need, Mean, Run}
use Rattle.systole_top.specs.Shape.{Chosen, By, InFile}
use Rattle.systole_top.specs.Tree.{Tree, Gives, Reads, Picks, then_, Tries, Asks}
use Rattle.systole_top.specs.declared.judgement.Judgement.{Judgement}
use Rattle.systole_top.specs.declared.judgement.Judgement.TheVariants.{Accepted, Refused}
use Rattle.sys_base.specs.declared.limits.TheConstants.{INPUT_BYTES, SOURCE_BYTES}

-- what is read is asked for
pub asks_tries : {A : Type 0} (held : List ℕ → Option (List ℕ)) (These : List ℕ → Type 0) (t : Tree A) (wanted : List ℕ) → Asks These t → Tries held t wanted → These wanted
asks_tries held These (Gives x) wanted asks tries = absurd tries
asks_tries held These (Reads name limit next) wanted asks tries =
    elim tries [
      | inl here ↦ subst These (sym here) asks.0
      | inr later ↦ asks_tries held These (next later.0) wanted (asks.1 later.0) later.2
    ]
asks_tries held These (Picks P next) wanted asks tries = asks_tries held These (next tries.0) wanted (asks tries.0) tries.2

-- a tree, and another after its value
pub asks_then : {A B : Type 0} (These : List ℕ → Type 0) (t : Tree A) (f : A → Tree B) → Asks These t → ((x : A) → Asks These (f x)) → Asks These (then_ t f)
unfolding then_
asks_then These (Gives x) f asks after = after x
asks_then These (Reads name limit next) f asks after = (asks.0, λ file. asks_then These (next file) f (asks.1 file) after)
asks_then These (Picks P next) f asks after = λ x. asks_then These (next x) f (asks x) after

-- ---- sources and inputs

pub asks_judged : {V : Type 0} (These : List ℕ → Type 0) (question : Question V) (file : List ℕ) → These file → Asks These (judged question file)
asks_judged {V} These question file named =
    asks_then These (Reads file SOURCE_BYTES Gives) (judgement_of question) (named, λ x. tt) (λ x y. tt)

asks_given : (These : List ℕ → Type 0) (image : Image) (input : List ℕ) → These input → Asks These (given_in image input)
asks_given These image input named = asks_then These (Reads input INPUT_BYTES Gives) (given_of image) (named, λ x. tt) (λ x y. tt)

-- ---- commands

-- of a command that judges one file
asks_one : {V : Type 0} (question : Question V) (file : List ℕ) (reply : Judgement V → Reply)
    → Asks (Contains (file ∷ [])) (then_ (judged question file) (λ judgement. Gives (reply judgement)))
asks_one {V} question file reply =
    let These = Contains (file ∷ []) in
    asks_then These (judged question file) (λ judgement. Gives (reply judgement)) (asks_judged These question file (0, omega arith, refl)) (λ x. tt)

-- of a command with an input
asks_given_inputs : (These : List ℕ → Type 0) (next : List (List ℤ) → Tree Reply) → ((inputs : List (List ℤ)) → Asks These (next inputs)) → (g : Given)
    → Asks These (on_inputs next g)
asks_given_inputs These next asked (Taken inputs) = asked inputs
asks_given_inputs These next asked (Bad line) = tt

asks_with_input : (These : List ℕ → Type 0) (input : List ℕ) (next : Plan → List (List ℤ) → Tree Reply) → These input
    → ((plan : Plan) (inputs : List (List ℤ)) → Asks These (next plan inputs)) → (j : Judgement Plan) → Asks These (with_input input next j)
asks_with_input These input next named asked (Accepted plan) =
    asks_then These (given_in plan.image input) (on_inputs (next plan)) (asks_given These plan.image input named)
    (asks_given_inputs These (next plan) (asked plan))
asks_with_input These input next named asked (Refused r) = tt

-- of a choice of schedule
asks_choice : (These : List ℕ → Type 0) (chosen : Chosen) → ((name : List ℕ) → Contains (files_in chosen) name → These name) → Asks These (choice_in chosen)
asks_choice These (By schedule) named = tt
asks_choice These (InFile name) named = (named name (0, omega arith, refl), λ file. tt)

pub asks : (s : Shape) → Asks (Contains (files_of s)) (tree_of s)
asks (Check file) = asks_one acceptance file check_reply
asks (Explain file) = asks_one acceptance file explain_reply
asks (Compile file) = asks_one acceptance file compile_reply
asks (Need file) = asks_one needs file need_reply
asks (Mean file input) =
    let These = Contains (files_of (Mean file input)) in
    asks_then These (judged acceptance file) (with_input input means) (asks_judged These acceptance file (0, omega arith, refl))
    (asks_with_input These input means (1, omega arith, refl) (λ plan inputs x. tt))
asks (Run words) =
    let These = Contains (files_of (Run words)) in
    asks_then These (judged acceptance words.file) (with_input words.input (runs words)) (asks_judged These acceptance words.file (0, omega arith, refl))
    (asks_with_input These words.input (runs words) (1, omega arith, refl)
    (λ plan inputs. asks_then These (choice_in words.chosen) (ran words plan inputs)
    (asks_choice These words.chosen (λ name named. (suc (suc named.0), omega (arith, named.1), named.2))) (λ choice answer. tt)))
