-- What an answer over told files says, and when a status is that of the answer.
use Rattle.std.proofs.Common.{◌≡◌, ◌⊎◌, ℕ, List, Option, Some, IsSome, refl, sym, ap, ◌∙◌, subst, inl, inr}
use Rattle.std.specs.Io.KnownBytes.{Appends}
use Rattle.systole_top.specs.Causes.{IsAnswer, Names, Answers, Judges, IsOrFault}
use Rattle.systole_top.specs.Commands.{tree_of}
use Rattle.systole_top.specs.Reply.{Reply, Outcome, outcome_of, status_of}
use Rattle.systole_top.specs.Shape.{Shape}
use Rattle.systole_top.specs.Sides.{Stream, Reaches}
use Rattle.systole_top.specs.Tree.{Replies}
use Rattle.systole_top.specs.declared.answer.Verdict.{Verdict}
use Rattle.systole_top.specs.declared.status.Status.{Status}

-- The files that a command names are told, and its replies over them are those to the findings that are right.
pub record RepliesTo {X : Type 0} (held : List ℕ → Option (List ℕ)) (s : Shape) (Is : X → Type 0) (reply : X → Reply) : Type 0 where
  pub named : (name : List ℕ) → Names (Some s) name → IsSome (held name)
  pub says : (r : Reply) → Replies held (tree_of s) r → (x : X) × Is x × (r ≡ reply x)
  pub replies : (x : X) → Is x → Replies held (tree_of s) (reply x)

-- A verdict is that of the reply to a right finding, and this is on the sinks.
pub record Said {X : Type 0} (Is : X → Type 0) (reply : X → Reply) (out err : Stream) (status : Status) : Type 0 where
  pub found : X
  pub is : Is found
  pub status_is : status_of (reply found).verdict ≡ status
  pub on_out : Appends out.told_before out.told_now (reply found).out
  pub on_err : Appends err.told_before err.told_now (reply found).err

-- what a verdict says
pub said : {X : Type 0} (held : List ℕ → Option (List ℕ)) (out err : Stream) (status : Status) (s : Shape) (Is : X → Type 0) (reply : X → Reply)
    → RepliesTo held s Is reply → Judges (Some s) held out err status → (v : Verdict) → status ≡ status_of v → Said Is reply out err status
said {X} held out err status s Is reply to judges v is =
    let a = judges v is to.named in
    let found = to.says a.1.0 a.1.1 in
    let same : a.0 ≡ outcome_of (reply found.0) = a.1.2 ∙ ap outcome_of found.2 in
    record {
      found = found.0;
      is = found.1;
      status_is = sym (ap (λ o. o.status) same) ∙ a.2;
      on_out = subst (λ o. Appends out.told_before out.told_now o.out) same a.3;
      on_err = subst (λ o. Appends err.told_before err.told_now o.err) same a.4;
    }

-- what reached the sinks has its status, but for faults
reached : (out err : Stream) (status : Status) (t : Outcome) → Reaches out err t status
    → (status ≡ t.status) ⊎ (status ≡ Status.WriteFault) ⊎ (status ≡ Status.Memory)
reached out err status t reaches =
    elim reaches [
      | inl put ↦ inl put.0
      | inr other ↦ elim other [ inl failed ↦ inr (inl failed.0) | inr none ↦ inr (inr none.0) ]
    ]

-- the status is that of an answer, but for faults
or_fault : (held : List ℕ → Option (List ℕ)) (before now : List ℕ → ℕ) (out err : Stream) (status : Status) (s : Shape)
    → Answers (Some s) held before now out err status → (a : Outcome) → IsAnswer (Some s) held a → IsOrFault a.status status
or_fault held before now out err status s answers a is =
    elim (answers a is) [
      | inl reaches ↦ elim (reached out err status a reaches) [ inl same ↦ inl same | inr fault ↦ inr (inr fault) ]
      | inr rest ↦ elim rest [
        | inl unread ↦ inr (reached out err status _ unread.2)
        | inr reaches ↦ elim (reached out err status _ reaches) [ inl none ↦ inr (inr (inr none)) | inr fault ↦ inr (inr fault) ]
      ]
    ]

-- a right finding has its answer
pub answered : {X : Type 0} (held : List ℕ → Option (List ℕ)) (s : Shape) (Is : X → Type 0) (reply : X → Reply) → RepliesTo held s Is reply
    → (x : X) → Is x → (a : Outcome) × IsAnswer (Some s) held a
answered {X} held s Is reply to x is = (outcome_of (reply x), (reply x, to.replies x is, refl))

-- and its status, but for faults
pub settled : {X : Type 0} (held : List ℕ → Option (List ℕ)) (before now : List ℕ → ℕ) (out err : Stream) (status : Status) (s : Shape) (Is : X → Type 0) (reply : X → Reply)
    → RepliesTo held s Is reply → Answers (Some s) held before now out err status → (x : X) → Is x → IsOrFault (status_of (reply x).verdict) status
settled {X} held before now out err status s Is reply to answers x is =
    or_fault held before now out err status s answers (outcome_of (reply x)) (reply x, to.replies x is, refl)
