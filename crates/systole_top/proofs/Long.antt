-- Files that are longer than may be.
use Rattle.std.proofs.Common.{◌≡◌, ◌<◌, ℕ, List, Option, None, Some, IfSome, length, refl, sym, ap, ◌∙◌, subst, inl, inr, arith}
use Rattle.std.proofs.lemmas.Option.{IfSome_then}
use Rattle.std.proofs.lemmas.Bool.{cases_lt}
use Rattle.std.proofs.lemmas.Bool.Decides.{nat_tests}
use Rattle.refusals.specs.declared.refusal.Refusal.{Refusal}
use Rattle.refusals.specs.declared.refusal.Refusal.TheVariants.{LongSource}
use Rattle.sys_base.specs.declared.limits.TheConstants.{SOURCE_BYTES}
use Rattle.systole_top.specs.Judgement.{Question, IsJudged, acceptance, needs}
use Rattle.systole_top.specs.Tree.{within}
use Rattle.systole_top.specs.declared.judgement.Judgement.{Judgement}
use Rattle.systole_top.specs.declared.judgement.Judgement.TheVariants.{Accepted, Refused}
use Rattle.systole_top.proofs.Reading.{within-whole}

pub within-long : (limit : ℕ) (text : List ℕ) → limit < length text → within limit text ≡ None
within-long limit text long = grind (arith, nat_tests)

-- what is read whole is what is there
pub whole_is : (limit : ℕ) (bytes text : List ℕ) → Some text ≡ within limit bytes → bytes ≡ text
whole_is limit bytes text read =
    elim (cases_lt limit (length bytes)) [
      | inl long ↦ absurd (let e = read ∙ within-long limit bytes long in cc)
      | inr short ↦ (let e = read ∙ within-whole limit bytes short in cc)
    ]

-- what came of a file is told of it, where it is told
abbrev pub IsHeld : Option (List ℕ) → List ℕ → Type 0
IsHeld told text = IfSome told (λ bytes. bytes ≡ text)

-- what was read whole of a file is what it holds
pub held_whole : (told : Option (List ℕ)) (limit : ℕ) (text : List ℕ) → IfSome told (λ bytes. Some text ≡ within limit bytes) → IsHeld told text
held_whole told limit text read = IfSome_then told read (λ bytes whole. whole_is limit bytes text whole)

-- A text that is longer than a source is refused for that, and for nothing else.
pub record RefusesLong {V : Type 0} (question : Question V) : Type 0 where
  pub refuses : (text : List ℕ) → SOURCE_BYTES < length text → question.Refuses text LongSource
  pub finds : (text : List ℕ) → SOURCE_BYTES < length text → (v : V) → question.Finds text v → ⊥
  pub only : (text : List ℕ) → SOURCE_BYTES < length text → (r : Refusal) → question.Refuses text r → r ≡ LongSource

pub acceptance_long : RefusesLong acceptance
acceptance_long = record {
  refuses = λ text long. inl (long, refl);
  finds = λ text long plan is. is.is.accepts.0 LongSource (long, refl);
  only = λ text long r is. elim is [ inl first ↦ first.1 | inr later ↦ absurd (later.0 LongSource (long, refl)) ];
}

pub needs_long : RefusesLong needs
needs_long = record {
  refuses = λ text long. inl (long, refl);
  finds = λ text long lines are. are.passes.0 LongSource (long, refl);
  only = λ text long r is. elim is [ inl first ↦ first.1 | inr later ↦ absurd (later.0 LongSource (long, refl)) ];
}

module _ {V : Type 0} (question : Question V) (longs : RefusesLong question) where
  -- the judgement on a long text is the one on a file that isn't read whole
  long_judged : (text : List ℕ) → SOURCE_BYTES < length text → (j : Judgement V) → j ≡ Refused LongSource → IsJudged question (Some text) j
  long_judged text long j is = subst (IsJudged question (Some text)) (sym is) (longs.refuses text long)

  judged_long : (text : List ℕ) → SOURCE_BYTES < length text → (j : Judgement V) → IsJudged question (Some text) j → j ≡ Refused LongSource
  judged_long text long (Accepted v) is = absurd (longs.finds text long v is)
  judged_long text long (Refused r) is = ap Refused (longs.only text long r is)

  -- a text is judged as what is read of it
  pub judged_text : (text : List ℕ) (j : Judgement V) → IsJudged question (within SOURCE_BYTES text) j → IsJudged question (Some text) j
  judged_text text j is =
      elim (cases_lt SOURCE_BYTES (length text)) [
        | inl long ↦ long_judged text long j (subst (λ file. IsJudged question file j) (within-long SOURCE_BYTES text long) is)
        | inr short ↦ subst (λ file. IsJudged question file j) (within-whole SOURCE_BYTES text short) is
      ]

  pub judged_within : (text : List ℕ) (j : Judgement V) → IsJudged question (Some text) j → IsJudged question (within SOURCE_BYTES text) j
  judged_within text j is =
      elim (cases_lt SOURCE_BYTES (length text)) [
        | inl long ↦ subst (λ file. IsJudged question file j) (sym (within-long SOURCE_BYTES text long)) (judged_long text long j is)
        | inr short ↦ subst (λ file. IsJudged question file j) (sym (within-whole SOURCE_BYTES text short)) is
      ]
