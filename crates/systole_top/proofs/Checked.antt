-- What the answers to `check F`, `explain F`, `compile F` and `need F` say of a told file.
use Rattle.std.proofs.Common.{◌≡◌, ℕ, List, [], ◌∷◌, Option, Some, is_some, IsSome, IsSomeAnd, Contains, refl, sym, ap, ◌∙◌, subst, inl, inr}
use Rattle.std.specs.Io.KnownBytes.{Appends}
use Rattle.std.proofs.lemmas.List.Elements.{All-nil, All-cons, All-contains}
use Rattle.accept.specs.FirstRefusal.{Trials, Passed, Try, IsFirstOf, PassesAll, need_trials}
use Rattle.refusals.specs.declared.refusal.Refusal.{Refusal}
use Rattle.sys_base.specs.declared.limits.TheConstants.{SOURCE_BYTES}
use Rattle.systole_top.specs.Causes.{Names, Answers, Judges, IsChecked}
use Rattle.systole_top.specs.Commands.{tree_of, judged, reply_to}
use Rattle.systole_top.specs.Judgement.{Question, IsJudged, Plan, acceptance, needs}
use Rattle.systole_top.specs.Reply.{Reply, status_of}
use Rattle.systole_top.specs.Shape.{Shape}
use Rattle.systole_top.specs.Sides.{Stream}
use Rattle.systole_top.specs.Tree.{Tree, Gives, within, Replies, then_}
use Rattle.systole_top.specs.declared.answer.Verdict.TheVariants as Verdict
use Rattle.systole_top.specs.declared.judgement.Judgement.{Judgement}
use Rattle.systole_top.specs.declared.judgement.Judgement.TheVariants.{Accepted, Refused}
use Rattle.systole_top.specs.declared.status.Status.{Status}
use Rattle.systole_top.proofs.Laws.{Laws}
use Rattle.systole_top.proofs.Long.{RefusesLong, judged_text, judged_within}
use Rattle.systole_top.proofs.Told.{RepliesTo, said, settled}

-- ---- there is an answer to every text

-- Every text has a judgement, and one that passes has what is found of it.
pub record HasJudgements {V : Type 0} (question : Question V) : Type 0 where
  pub some : (text : List ℕ) → (j : Judgement V) × IsJudged question (Some text) j
  pub passing : (text : List ℕ) → question.Passes text → (v : V) × question.Finds text v

module _ (laws : Laws) where
  -- the plan of a text that is accepted
  plan_there : (text : List ℕ) → acceptance.Passes text → (plan : Plan) × acceptance.Finds text plan
  plan_there text accepts =
      let made = laws.imaged text accepts in
      (record { program = _; image = made.0 }, record { is = made.1; program_is = refl })

  pub acceptance_judges : HasJudgements acceptance
  acceptance_judges = record {
    some = λ text. elim (laws.judged text) [
      | inl accepts ↦ (let plan = plan_there text accepts in (Accepted plan.0, plan.1))
      | inr first ↦ (Refused first.0, first.1)
    ];
    passing = plan_there;
  }

  -- no first trial applies where none does
  none_first : {A : Type 0} (trials : Trials A) (a : A) (r : Refusal) → PassesAll trials a → IsFirstOf trials a r → ⊥
  none_first Passed a r passes first = first
  none_first (Try Applies rest) a r passes first =
      elim first [ inl here ↦ passes.0 r here | inr later ↦ none_first rest a r passes.1 later.1 ]

  pub needs_judge : HasJudgements needs
  needs_judge = record {
    some = λ text. elim (laws.needs text) [
      | inl lines ↦ (Accepted lines.0, lines.1)
      | inr first ↦ (Refused first.0, first.1)
    ];
    passing = λ text passes. elim (laws.needs text) [
      | inl lines ↦ lines
      | inr first ↦ absurd (none_first need_trials text first.0 passes first.1)
    ];
  }

-- ---- the answer to a judgement

module _ (held : List ℕ → Option (List ℕ)) (file text : List ℕ) (told : held file ≡ Some text) where
  -- the one file that is named is told
  pub named_told : (name : List ℕ) → Contains (file ∷ []) name → IsSome (held name)
  named_told name named =
      let These : List ℕ → Type 0 = λ n. IsSome (held n) in
      All-contains These (file ∷ []) name (All-cons These file [] (ap is_some told) (All-nil These)) named

  module _ {V : Type 0} (question : Question V) (longs : RefusesLong question) (tail : Judgement V → Tree Reply) where
    -- The text has a judgement, and the reply comes of what follows on it.
    abbrev Replied : Reply → List ℕ → Type 0
    Replied r text = (j : Judgement V) × IsJudged question (within SOURCE_BYTES text) j × Replies held (tail j) r

    -- the replies of a command that judges a told file are those to the judgements on its text
    pub tail_judged : (r : Reply) → Replies held (then_ (judged question file) tail) r
        → (j : Judgement V) × IsJudged question (Some text) j × Replies held (tail j) r
    unfolding then_
    tail_judged r replies =
        let found : Replied r text = subst (λ o. IsSomeAnd o (Replied r)) told replies in
        (found.0, judged_text question longs text found.0 found.1, found.2)

    pub tail_replies : (r : Reply) (j : Judgement V) → IsJudged question (Some text) j → Replies held (tail j) r
        → Replies held (then_ (judged question file) tail) r
    unfolding then_
    tail_replies r j is replies =
        subst (λ o. IsSomeAnd o (Replied r)) (sym told) (j, judged_within question longs text j is, replies)

  -- a command that judges a told file and says what it is replies to the judgements on its text
  pub replies_judged : {V : Type 0} (question : Question V) → RefusesLong question → (s : Shape) (reply : Judgement V → Reply)
      → ((name : List ℕ) → Names (Some s) name → Contains (file ∷ []) name) → tree_of s ≡ then_ (judged question file) (λ j. Gives (reply j))
      → RepliesTo held s (IsJudged question (Some text)) reply
  replies_judged {V} question longs s reply names tree = record {
    named = λ name named. named_told name (names name named);
    says = λ r replies.
        let found = tail_judged question longs (λ j. Gives (reply j)) r (subst (λ t. Replies held t r) tree replies) in
        (found.0, found.1, sym found.2);
    replies = λ j is. subst (λ t. Replies held t (reply j)) (sym tree) (tail_replies question longs (λ j. Gives (reply j)) (reply j) j is refl);
  }

-- ---- what is said of a text

module _ (held : List ℕ → Option (List ℕ)) (before now : List ℕ → ℕ) (out err : Stream) (status : Status) {V : Type 0} (question : Question V) (wanted : V → List ℕ) (on_out on_err : Refusal → List ℕ) (text : List ℕ) where
  abbrev Judged : Judgement V → Type 0
  Judged = IsJudged question (Some text)

  abbrev reply : Judgement V → Reply
  reply = reply_to wanted on_out on_err

  done_of : (j : Judgement V) → Judged j → status_of (reply j).verdict ≡ Status.Done
      → Appends out.told_before out.told_now (reply j).out → Appends err.told_before err.told_now (reply j).err
      → (found : V) × question.Finds text found × Appends out.told_before out.told_now (wanted found) × Appends err.told_before err.told_now []
  done_of (Accepted found) is done put_out put_err = (found, is, put_out, put_err)
  done_of (Refused r) is done put_out put_err = absurd (cc)

  refused_of : (j : Judgement V) → Judged j → status_of (reply j).verdict ≡ Status.Refused
      → Appends out.told_before out.told_now (reply j).out → Appends err.told_before err.told_now (reply j).err
      → (r : Refusal) × question.Refuses text r × Appends out.told_before out.told_now (on_out r) × Appends err.told_before err.told_now (on_err r)
  refused_of (Accepted found) is refused put_out put_err = absurd (cc)
  refused_of (Refused r) is refused put_out put_err = (r, is, put_out, put_err)

  -- the answer to a command that replies to the judgements on a text checks the text
  pub checked : HasJudgements question → (s : Shape) → RepliesTo held s Judged reply → Answers (Some s) held before now out err status
      → Judges (Some s) held out err status → IsChecked question wanted on_out on_err text out err status
  checked has s to answers judges =
      record {
        done = λ done.
            let a = said held out err status s Judged reply to judges Verdict.Done done in
            done_of a.found a.is (a.status_is ∙ done) a.on_out a.on_err;
        refused = λ refused.
            let a = said held out err status s Judged reply to judges Verdict.Refused refused in
            refused_of a.found a.is (a.status_is ∙ refused) a.on_out a.on_err;
        accepted = λ passes.
            let found = has.passing text passes in
            settled held before now out err status s Judged reply to answers (Accepted found.0) found.1;
        first = λ r is. settled held before now out err status s Judged reply to answers (Refused r) is;
      }
