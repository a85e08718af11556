-- What the answers to a command with an input say of told files.
use Rattle.std.proofs.Common.{◌≡◌, ◌≢◌, ℕ, ℤ, List, [], Option, Some, IsSome, IsSomeAnd, refl, sym, ◌∙◌, subst}
use Rattle.std.specs.Io.KnownBytes.{Appends}
use Rattle.accept.specs.FirstRefusal.{FirstRefusal}
use Rattle.refusals.specs.declared.refusal.Refusal.{Refusal}
use Rattle.sys_base.specs.declared.limits.TheConstants.{INPUT_BYTES}
use Rattle.systole_top.specs.Causes.{Answers, Judges, IsAnswered, Names}
use Rattle.systole_top.specs.Commands.{bad_input_reply, given_in, judged, on_inputs, refused_reply, tree_of, with_input}
use Rattle.systole_top.specs.Given.{Given, Taken, Bad, AreGiven, IsGiven}
use Rattle.systole_top.specs.Judgement.{IsJudged, Plan, IsPlanOf, acceptance}
use Rattle.systole_top.specs.Reply.{Reply, status_of}
use Rattle.systole_top.specs.Shape.{Shape}
use Rattle.systole_top.specs.Sides.{Stream}
use Rattle.systole_top.specs.Texts.{refusal_line}
use Rattle.systole_top.specs.Tree.{Replies, Tree, then_, within}
use Rattle.systole_top.specs.declared.answer.Verdict.{Verdict}
use Rattle.systole_top.specs.declared.answer.Verdict.TheVariants as V
use Rattle.systole_top.specs.declared.judgement.Judgement.{Judgement}
use Rattle.systole_top.specs.declared.judgement.Judgement.TheVariants.{Accepted, Refused}
use Rattle.systole_top.specs.declared.status.Status.{Status}
use Rattle.systole_top.proofs.Laws.{Laws}
use Rattle.systole_top.proofs.Long.{acceptance_long}
use Rattle.systole_top.proofs.Told.{RepliesTo, said, settled}
use Rattle.systole_top.proofs.Checked.{acceptance_judges, tail_judged, tail_replies}
use Rattle.systole_top.proofs.Inputs.{given_whole, some_given}
use Rattle.systole_top.proofs.Verdicts.{one_verdict}

-- What a source and an input are found to be together: the source is refused, or it is accepted and the input breaks a
-- rule, or this is found for the input.
pub data Finding (X : Type 0) : Type 0 where
  Turned : Refusal → Finding X
  Broken : Plan → (line : List ℕ) → Finding X
  Found : Plan → (inputs : List (List ℤ)) → X → Finding X

module _ {X : Type 0} (Finds : Plan → List (List ℤ) → X → Type 0) (says : Plan → X → Reply) where
  -- the finding is right
  abbrev pub IsFound : (text bytes : List ℕ) → Finding X → Type 0
  IsFound text bytes (Turned r) = FirstRefusal text r
  IsFound text bytes (Broken plan line) = IsPlanOf text plan × IsGiven plan.image (within INPUT_BYTES bytes) (Bad line)
  IsFound text bytes (Found plan inputs x) =
      IsPlanOf text plan × IsGiven plan.image (within INPUT_BYTES bytes) (Taken inputs) × Finds plan inputs x

  -- what is said of it
  abbrev pub reply_of : Finding X → Reply
  reply_of (Turned r) = refused_reply [] (refusal_line r)
  reply_of (Broken plan line) = bad_input_reply line
  reply_of (Found plan inputs x) = says plan x

  -- What follows on the inputs of an accepted source says what is found for them, over told files.
  pub record SaysFound (held : List ℕ → Option (List ℕ)) (next : Plan → List (List ℤ) → Tree Reply) : Type 0 where
    pub found : (plan : Plan) (inputs : List (List ℤ)) (r : Reply) → Replies held (next plan inputs) r
        → (x : X) × Finds plan inputs x × (r ≡ says plan x)
    pub replies : (plan : Plan) (inputs : List (List ℤ)) (x : X) → Finds plan inputs x → Replies held (next plan inputs) (says plan x)

  -- For each plan of a text and what an input gives to it, something is found.
  abbrev pub FindsSome : Type 0
  FindsSome = (text bytes : List ℕ) (plan : Plan) (inputs : List (List ℤ)) → IsPlanOf text plan → AreGiven plan.image bytes inputs
      → (x : X) × Finds plan inputs x

-- ---- the replies

module _ (held : List ℕ → Option (List ℕ)) (file input text bytes : List ℕ) (told_file : held file ≡ Some text) (told_input : held input ≡ Some bytes)
    {X : Type 0} (Finds : Plan → List (List ℤ) → X → Type 0) (says : Plan → X → Reply) (next : Plan → List (List ℤ) → Tree Reply)
    (on : SaysFound Finds says held next) where
  module _ (plan : Plan) (of : IsPlanOf text plan) where
    -- of what is given
    given_says : (r : Reply) (g : Given) → IsGiven plan.image (within INPUT_BYTES bytes) g → Replies held (on_inputs (next plan) g) r
        → (x : Finding X) × IsFound Finds says text bytes x × (r ≡ reply_of Finds says x)
    given_says r (Taken inputs) is replies =
        let found = on.found plan inputs r replies in
        (Found plan inputs found.0, (of, is, found.1), found.2)
    given_says r (Bad line) is gives = (Broken plan line, (of, is), sym gives)

    -- The file gives something, and the reply comes of what follows on it.
    abbrev GivenSo : Reply → List ℕ → Type 0
    GivenSo r read = (g : Given) × IsGiven plan.image (within INPUT_BYTES read) g × Replies held (on_inputs (next plan) g) r

    input_says : (r : Reply) → Replies held (then_ (given_in plan.image input) (on_inputs (next plan))) r
        → (x : Finding X) × IsFound Finds says text bytes x × (r ≡ reply_of Finds says x)
    unfolding then_
    input_says r replies =
        let found : GivenSo r bytes = subst (λ o. IsSomeAnd o (GivenSo r)) told_input replies in
        given_says r found.0 found.1 found.2

    input_replies : (r : Reply) (g : Given) → IsGiven plan.image (within INPUT_BYTES bytes) g → Replies held (on_inputs (next plan) g) r
        → Replies held (then_ (given_in plan.image input) (on_inputs (next plan))) r
    unfolding then_
    input_replies r g is replies = subst (λ o. IsSomeAnd o (GivenSo r)) (sym told_input) (g, is, replies)

  judgement_says : (r : Reply) (j : Judgement Plan) → IsJudged acceptance (Some text) j → Replies held (with_input input next j) r
      → (x : Finding X) × IsFound Finds says text bytes x × (r ≡ reply_of Finds says x)
  judgement_says r (Accepted plan) is replies = input_says plan is r replies
  judgement_says r (Refused q) is replies = (Turned q, is, sym replies)

  abbrev whole : Tree Reply
  whole = then_ (judged acceptance file) (with_input input next)

  judged_replies : (r : Reply) (j : Judgement Plan) → IsJudged acceptance (Some text) j → Replies held (with_input input next j) r → Replies held whole r
  judged_replies r j is replies = tail_replies held file text told_file acceptance acceptance_long (with_input input next) r j is replies

  finding_replies : (x : Finding X) → IsFound Finds says text bytes x → Replies held whole (reply_of Finds says x)
  finding_replies (Turned r) is = judged_replies (refused_reply [] (refusal_line r)) (Refused r) is refl
  finding_replies (Broken plan line) is =
      judged_replies (bad_input_reply line) (Accepted plan) is.0
      (input_replies plan is.0 (bad_input_reply line) (Bad line) is.1 refl)
  finding_replies (Found plan inputs x) is =
      judged_replies (says plan x) (Accepted plan) is.0
      (input_replies plan is.0 (says plan x) (Taken inputs) is.1 (on.replies plan inputs x is.2))

  -- over told files the replies are those to the right findings
  pub found_replies : (s : Shape) → ((name : List ℕ) → Names (Some s) name → IsSome (held name)) → tree_of s ≡ whole
      → RepliesTo held s (IsFound Finds says text bytes) (reply_of Finds says)
  found_replies s told tree = record {
    named = told;
    says = λ r replies.
        let found = tail_judged held file text told_file acceptance acceptance_long (with_input input next) r
        (subst (λ t. Replies held t r) tree replies) in
        judgement_says r found.0 found.1 found.2;
    replies = λ x is. subst (λ t. Replies held t (reply_of Finds says x)) (sym tree) (finding_replies x is);
  }

-- ---- there is a finding

module _ (laws : Laws) {X : Type 0} (Finds : Plan → List (List ℤ) → X → Type 0) (says : Plan → X → Reply) (some : FindsSome Finds says) where
  -- what an accepted source is found to be with an input
  given_found : (text bytes : List ℕ) (plan : Plan) → IsPlanOf text plan → (g : Given) → IsGiven plan.image (within INPUT_BYTES bytes) g
      → (x : Finding X) × IsFound Finds says text bytes x
  given_found text bytes plan of (Taken inputs) is =
      let (read, whole, given) = given_whole laws plan.image (within INPUT_BYTES bytes) inputs is in
      let found = some text read plan inputs of given in
      (Found plan inputs found.0, (of, is, found.1))
  given_found text bytes plan of (Bad line) is = (Broken plan line, (of, is))

  judged_found : (text bytes : List ℕ) (j : Judgement Plan) → IsJudged acceptance (Some text) j → (x : Finding X) × IsFound Finds says text bytes x
  judged_found text bytes (Accepted plan) is =
      let given = some_given laws plan.image (within INPUT_BYTES bytes) in
      given_found text bytes plan is given.0 given.1
  judged_found text bytes (Refused r) is = (Turned r, is)

  pub some_finding : (text bytes : List ℕ) → (x : Finding X) × IsFound Finds says text bytes x
  some_finding text bytes =
      let judged = (acceptance_judges laws).some text in
      judged_found text bytes judged.0 judged.1

-- ---- what is said of both

module _ (held : List ℕ → Option (List ℕ)) (before now : List ℕ → ℕ) (out err : Stream) (status : Status) (text bytes : List ℕ)
    {X : Type 0} (Finds : Plan → List (List ℤ) → X → Type 0) (says : Plan → X → Reply)
    (turns : (plan : Plan) (x : X) → ((says plan x).verdict ≢ V.Refused) × ((says plan x).verdict ≢ V.BadInput)) where
  -- with Refused the line of the first refusal
  abbrev PutRefusal : Type 0
  PutRefusal = (r : Refusal) × FirstRefusal text r × Appends out.told_before out.told_now [] × Appends err.told_before err.told_now (refusal_line r)

  -- with BadInput the line of the first broken rule
  abbrev PutRule : Type 0
  PutRule = (plan : Plan) × IsPlanOf text plan × (line : List ℕ) × IsGiven plan.image (within INPUT_BYTES bytes) (Bad line)
      × Appends out.told_before out.told_now [] × Appends err.told_before err.told_now line

  -- with another verdict what is said of what is found
  abbrev PutFound : Verdict → Type 0
  PutFound v = (plan : Plan) × IsPlanOf text plan × (inputs : List (List ℤ)) × IsGiven plan.image (within INPUT_BYTES bytes) (Taken inputs)
      × (x : X) × Finds plan inputs x × ((says plan x).verdict ≡ v)
      × Appends out.told_before out.told_now (says plan x).out × Appends err.told_before err.told_now (says plan x).err

  abbrev reply : Finding X → Reply
  reply = reply_of Finds says

  refused_of : (x : Finding X) → IsFound Finds says text bytes x → status_of (reply x).verdict ≡ status_of V.Refused
      → Appends out.told_before out.told_now (reply x).out → Appends err.told_before err.told_now (reply x).err → PutRefusal
  refused_of (Turned r) is refused put_out put_err = (r, is, put_out, put_err)
  refused_of (Broken plan line) is refused put_out put_err = absurd (cc)
  refused_of (Found plan inputs x) is refused put_out put_err = absurd ((turns plan x).0 (one_verdict (says plan x).verdict V.Refused refused))

  bad_of : (x : Finding X) → IsFound Finds says text bytes x → status_of (reply x).verdict ≡ status_of V.BadInput
      → Appends out.told_before out.told_now (reply x).out → Appends err.told_before err.told_now (reply x).err → PutRule
  bad_of (Turned r) is bad put_out put_err = absurd (cc)
  bad_of (Broken plan line) is bad put_out put_err = (plan, is.0, line, is.1, put_out, put_err)
  bad_of (Found plan inputs x) is bad put_out put_err = absurd ((turns plan x).1 (one_verdict (says plan x).verdict V.BadInput bad))

  found_of : (v : Verdict) → v ≢ V.Refused → v ≢ V.BadInput → (x : Finding X) → IsFound Finds says text bytes x
      → status_of (reply x).verdict ≡ status_of v
      → Appends out.told_before out.told_now (reply x).out → Appends err.told_before err.told_now (reply x).err → PutFound v
  found_of v unrefused fits (Turned r) is same put_out put_err = absurd (unrefused (sym (one_verdict V.Refused v same)))
  found_of v unrefused fits (Broken plan line) is same put_out put_err = absurd (fits (sym (one_verdict V.BadInput v same)))
  found_of v unrefused fits (Found plan inputs x) is same put_out put_err =
      (plan, is.0, inputs, is.1, x, is.2, one_verdict (says plan x).verdict v same, put_out, put_err)

  pub answered_so : (s : Shape) → RepliesTo held s (IsFound Finds says text bytes) reply → Answers (Some s) held before now out err status
      → Judges (Some s) held out err status → IsAnswered Finds says text bytes out err status
  answered_so s to answers judges =
      let Is = IsFound Finds says text bytes in
      record {
        refused = λ refused.
            let a = said held out err status s Is reply to judges V.Refused refused in
            refused_of a.found a.is (a.status_is ∙ refused) a.on_out a.on_err;
        bad = λ bad.
            let a = said held out err status s Is reply to judges V.BadInput bad in
            bad_of a.found a.is (a.status_is ∙ bad) a.on_out a.on_err;
        found = λ v unrefused fits same.
            let a = said held out err status s Is reply to judges v same in
            found_of v unrefused fits a.found a.is (a.status_is ∙ same) a.on_out a.on_err;
        first = λ r is. settled held before now out err status s Is reply to answers (Turned r) is;
        broken = λ plan line of is. settled held before now out err status s Is reply to answers (Broken plan line) (of, is);
        finds = λ plan inputs x of is found. settled held before now out err status s Is reply to answers (Found plan inputs x) (of, is, found);
      }
