-- From what a command's step did to what the top call promises.
use Rattle.std.proofs.Common.{◌≡◌, ◌⊎◌, ℕ, List, Option, None, Some, IfSome, IsSome, IsSomeAnd, Contains, Result, Ok, Err, refl, sym, ap, ◌∙◌, subst, inl, inr, arith}
use Rattle.std.specs.Io.KnownBytes.{Appends}
use Rattle.sys_outside.specs.Fault.{Rose}
use Rattle.systole_top.specs.Causes.{IsAnswer, Names, IsUnread, May, Tells, Answers, Judges, Checks, UsageCause, ReadCause, MemoryCause, StoodStill, Completes}
use Rattle.systole_top.specs.Commands.{tree_of, files_of}
use Rattle.systole_top.specs.Correctness.{Compiles}
use Rattle.systole_top.specs.Reply.{Reply, Outcome, outcome_of, usage, unread, no_memory}
use Rattle.systole_top.specs.bodies.Runs.{Unread, NoMemory, End, Gave, Stopped, Runs, Steps}
use Rattle.systole_top.specs.Shape.{Shape}
use Rattle.systole_top.specs.Sides.{Stream, Reaches, PutsOn}
use Rattle.systole_top.specs.bodies.Stops.{ended, reply_of, told_by}
use Rattle.systole_top.specs.Texts.{cannot_read, usage_line}
use Rattle.systole_top.specs.Tree.{Tree, Gives, Reads, Picks, within, Replies, Comes, Tries, Asks}
use Rattle.systole_top.specs.declared.answer.Answer.{Answer}
use Rattle.systole_top.specs.declared.answer.Stop.{Stop}
use Rattle.systole_top.specs.declared.status.Status.{Status}
use Rattle.systole_top.proofs.Asked.{asks, asks_tries}
use Rattle.systole_top.proofs.Compiled.{compiles_of}
use Rattle.systole_top.proofs.Every.{checks_of, some_answer}
use Rattle.systole_top.proofs.Laws.{Laws}
use Rattle.systole_top.proofs.Reaching.{untouched, reaches_err}
use Rattle.systole_top.proofs.Shapes.{HasCapacity}
use Rattle.systole_top.proofs.Verdicts.{verdict}

-- ---- what a step tells

-- what the end of a step tells
abbrev outcome_end : End Reply → Outcome
outcome_end (Gave r) = outcome_of r
outcome_end (Stopped (Unread line)) = unread line
outcome_end (Stopped NoMemory) = no_memory

told_by-ended : (answer : Result Answer Stop) → outcome_end (ended reply_of answer) ≡ told_by answer
told_by-ended (Ok answer) = refl
told_by-ended (Err (Stop.Unread line)) = refl
told_by-ended (Err Stop.Memory) = refl

-- `May`, of a tree
abbrev MayTell : (List ℕ → Option (List ℕ)) → (List ℕ → ℕ) → (List ℕ → ℕ) → Tree Reply → Outcome → Type 0
MayTell held before now t o =
    ((r : Reply) × Comes held t r × (o ≡ outcome_of r))
    ⊎ ((name : List ℕ) × Tries held t name × Rose (before name) (now name) × (o ≡ unread (cannot_read name)))
    ⊎ (o ≡ no_memory)

runs_may : (held : List ℕ → Option (List ℕ)) (before now : List ℕ → ℕ) (t : Tree Reply) (end : End Reply)
    → Runs held before now t end → MayTell held before now t (outcome_end end)
runs_may held before now (Gives x) end r =
    elim r [ inl gave ↦ inl (x, refl, ap outcome_end gave) | inr none ↦ inr (inr (ap outcome_end none)) ]
runs_may held before now (Reads name limit next) end r =
    elim r [
      | inl none ↦ inr (inr (ap outcome_end none))
      | inr rest ↦ elim rest [
        | inl failed ↦ inr (inl (name, inl refl, failed.1, ap outcome_end failed.0))
        | inr gone ↦ elim (runs_may held before now (next gone.0) end gone.2) [
          | inl says ↦ inl (says.0, (gone.0, gone.1, says.1), says.2)
          | inr other ↦ elim other [
            | inl failed ↦ inr (inl (failed.0, inr (gone.0, gone.1, failed.1), failed.2, failed.3))
            | inr none ↦ inr (inr none)
          ]
        ]
      ]
    ]
runs_may held before now (Picks P next) end r =
    elim r [
      | inl none ↦ inr (inr (ap outcome_end none))
      | inr gone ↦ elim (runs_may held before now (next gone.0) end gone.2) [
        | inl says ↦ inl (says.0, (gone.0, gone.1, says.1), says.2)
        | inr other ↦ elim other [
          | inl failed ↦ inr (inl (failed.0, (gone.0, gone.1, failed.1), failed.2, failed.3))
          | inr none ↦ inr (inr none)
        ]
      ]
    ]

-- what a command's step tells
pub may_end : {held held_now : List ℕ → Option (List ℕ)} {before now : List ℕ → ℕ} (s : Shape) (answer : Result Answer Stop)
    → Steps held held_now before now (tree_of s) (ended reply_of answer) → May (Some s) held before now (told_by answer)
may_end {held} {held_now} {before} {now} s answer steps =
    subst (May (Some s) held before now) (told_by-ended answer) (runs_may held before now (tree_of s) (ended reply_of answer) steps.runs)

-- ---- the answer over told files

-- two ways to speak of a told file
told_and : (Q : Option (List ℕ) → Type 0) (limit : ℕ) (file : Option (List ℕ)) (o : Option (List ℕ)) → IsSome o → IfSome o (λ bytes. file ≡ within limit bytes) → Q file
    → IsSomeAnd o (λ bytes. Q (within limit bytes))
told_and Q limit file None told is q = absurd (cc)
told_and Q limit file (Some bytes) told is q = subst Q is q

told_is : (Q : Option (List ℕ) → Type 0) (limit : ℕ) (file : Option (List ℕ)) (o : Option (List ℕ)) → IfSome o (λ bytes. file ≡ within limit bytes)
    → IsSomeAnd o (λ bytes. Q (within limit bytes)) → Q file
told_is Q limit file None is q = absurd q
told_is Q limit file (Some bytes) is q = subst Q (sym is) q

-- what comes of told files is the answer
comes_replies : (held : List ℕ → Option (List ℕ)) (These : List ℕ → Type 0) → ((name : List ℕ) → These name → IsSome (held name))
    → (t : Tree Reply) (r : Reply) → Asks These t → Comes held t r → Replies held t r
comes_replies held These told (Gives x) r asked comes = comes
comes_replies held These told (Reads name limit next) r asked comes =
    told_and (λ file. Replies held (next file) r) limit comes.0 (held name) (told name asked.0) comes.1
    (comes_replies held These told (next comes.0) r (asked.1 comes.0) comes.2)
comes_replies held These told (Picks P next) r asked comes =
    (comes.0, comes.1.holds, comes_replies held These told (next comes.0) r (asked comes.0) comes.2)

-- there is one answer
comes_same : (held : List ℕ → Option (List ℕ)) (t : Tree Reply) (r answer : Reply) → Comes held t r → Replies held t answer → r ≡ answer
comes_same held (Gives x) r answer comes replies = sym comes ∙ replies
comes_same held (Reads name limit next) r answer comes replies =
    comes_same held (next comes.0) r answer comes.2 (told_is (λ file. Replies held (next file) answer) limit comes.0 (held name) comes.1 replies)
comes_same held (Picks P next) r answer comes replies =
    comes_same held (next comes.0) r answer comes.2
    (subst (λ x. Replies held (next x) answer) (sym (comes.1.only replies.0 replies.1)) replies.2)

-- ---- the clauses

module _ (held : List ℕ → Option (List ℕ)) (before now : List ℕ → ℕ) (out err : Stream) (status : Status) where
  unread_file : (s : Shape) (name : List ℕ) → Tries held (tree_of s) name → Rose (before name) (now name) → IsUnread (Some s) held before now name
  unread_file s name tries rose = record { named = asks_tries held (Contains (files_of s)) (tree_of s) name (asks s) tries; tried = tries; rose = rose }

  answers_of : (asked : Option Shape) (told : Outcome) → May asked held before now told → Reaches out err told status → Answers asked held before now out err status
  answers_of None told may reaches a is = inl (subst (λ o. Reaches out err o status) (may ∙ sym is) reaches)
  answers_of (Some s) told may reaches a is =
      elim may [
        | inl says ↦ inl (let same = comes_same held (tree_of s) says.0 is.0 says.1 is.1 in
            subst (λ o. Reaches out err o status) (says.2 ∙ ap outcome_of same ∙ sym is.2) reaches)
        | inr other ↦ elim other [
          | inl failed ↦ inr (inl (failed.0, unread_file s failed.0 failed.1 failed.2, subst (λ o. Reaches out err o status) failed.3 reaches))
          | inr none ↦ inr (inr (subst (λ o. Reaches out err o status) none reaches))
        ]
      ]

  judges_of : (asked : Option Shape) (told : Outcome) → May asked held before now told → Reaches out err told status → Judges asked held out err status
  judges_of None told may reaches v is files =
      elim reaches [
        | inl put ↦ absurd ((verdict v).usage (sym is ∙ put.0 ∙ ap (λ o. o.status) may))
        | inr other ↦ elim other [
          | inl failed ↦ absurd ((verdict v).write (sym is ∙ failed.0))
          | inr none ↦ absurd ((verdict v).memory (sym is ∙ none.0))
        ]
      ]
  judges_of (Some s) told may reaches v is files =
      elim reaches [
        | inl put ↦ elim may [
          | inl says ↦ (
            outcome_of says.0,
            (says.0, comes_replies held (Contains (files_of s)) files (tree_of s) says.0 (asks s) says.1, refl),
            sym (put.0 ∙ ap (λ o. o.status) says.2),
            subst (λ o. Appends out.told_before out.told_now o.out) says.2 put.1,
            subst (λ o. Appends err.told_before err.told_now o.err) says.2 put.2,
          )
          | inr rest ↦ elim rest [
            | inl failed ↦ absurd ((verdict v).read (sym is ∙ put.0 ∙ ap (λ o. o.status) failed.3))
            | inr none ↦ absurd ((verdict v).memory (sym is ∙ put.0 ∙ ap (λ o. o.status) none))
          ]
        ]
        | inr other ↦ elim other [
          | inl failed ↦ absurd ((verdict v).write (sym is ∙ failed.0))
          | inr none ↦ absurd ((verdict v).memory (sym is ∙ none.0))
        ]
      ]

  usage_of : (asked : Option Shape) (told : Outcome) → May asked held before now told → Reaches out err told status → UsageCause asked status
  usage_of None told may reaches =
      elim reaches [
        | inl put ↦ inl (put.0 ∙ ap (λ o. o.status) may)
        | inr other ↦ elim other [ inl failed ↦ inr (inl failed.0) | inr none ↦ inr (inr none.0) ]
      ]
  usage_of (Some s) told may reaches = λ is.
      elim reaches [
        | inl put ↦ elim may [
          | inl says ↦ (verdict says.0.verdict).usage (sym (ap (λ o. o.status) says.2) ∙ sym put.0 ∙ is)
          | inr rest ↦ elim rest [
            | inl failed ↦ (let e : Status.ReadFault ≡ Status.Usage = sym (ap (λ o. o.status) failed.3) ∙ sym put.0 ∙ is in cc)
            | inr none ↦ (let e : Status.Memory ≡ Status.Usage = sym (ap (λ o. o.status) none) ∙ sym put.0 ∙ is in cc)
          ]
        ]
        | inr other ↦ elim other [
          | inl failed ↦ (let e : Status.WriteFault ≡ Status.Usage = sym failed.0 ∙ is in cc)
          | inr none ↦ (let e : Status.Memory ≡ Status.Usage = sym none.0 ∙ is in cc)
        ]
      ]

  read_of : (asked : Option Shape) (told : Outcome) → May asked held before now told → Reaches out err told status → status ≡ Status.ReadFault → ReadCause asked held before now out err
  read_of None told may reaches is =
      elim reaches [
        | inl put ↦ absurd (let e : Status.Usage ≡ Status.ReadFault = sym (ap (λ o. o.status) may) ∙ sym put.0 ∙ is in cc)
        | inr other ↦ elim other [
          | inl failed ↦ absurd (let e : Status.WriteFault ≡ Status.ReadFault = sym failed.0 ∙ is in cc)
          | inr none ↦ absurd (let e : Status.Memory ≡ Status.ReadFault = sym none.0 ∙ is in cc)
        ]
      ]
  read_of (Some s) told may reaches is =
      elim reaches [
        | inl put ↦ elim may [
          | inl says ↦ absurd ((verdict says.0.verdict).read (sym (ap (λ o. o.status) says.2) ∙ sym put.0 ∙ is))
          | inr rest ↦ elim rest [
            | inl failed ↦ (
              failed.0,
              unread_file s failed.0 failed.1 failed.2,
              subst (λ o. Appends out.told_before out.told_now o.out) failed.3 put.1,
              subst (λ o. Appends err.told_before err.told_now o.err) failed.3 put.2,
            )
            | inr none ↦ absurd (let e : Status.Memory ≡ Status.ReadFault = sym (ap (λ o. o.status) none) ∙ sym put.0 ∙ is in cc)
          ]
        ]
        | inr other ↦ elim other [
          | inl failed ↦ absurd (let e : Status.WriteFault ≡ Status.ReadFault = sym failed.0 ∙ is in cc)
          | inr none ↦ absurd (let e : Status.Memory ≡ Status.ReadFault = sym none.0 ∙ is in cc)
        ]
      ]

  write_of : (asked : Option Shape) (told : Outcome) → May asked held before now told → Reaches out err told status → status ≡ Status.WriteFault
      → Rose out.faults_before out.faults_now ⊎ Rose err.faults_before err.faults_now
  write_of None told may reaches is =
      elim reaches [
        | inl put ↦ absurd (let e : Status.Usage ≡ Status.WriteFault = sym (ap (λ o. o.status) may) ∙ sym put.0 ∙ is in cc)
        | inr other ↦ elim other [
          | inl failed ↦ failed.1
          | inr none ↦ absurd (let e : Status.Memory ≡ Status.WriteFault = sym none.0 ∙ is in cc)
        ]
      ]
  write_of (Some s) told may reaches is =
      elim reaches [
        | inl put ↦ elim may [
          | inl says ↦ absurd ((verdict says.0.verdict).write (sym (ap (λ o. o.status) says.2) ∙ sym put.0 ∙ is))
          | inr rest ↦ elim rest [
            | inl failed ↦ absurd (let e : Status.ReadFault ≡ Status.WriteFault = sym (ap (λ o. o.status) failed.3) ∙ sym put.0 ∙ is in cc)
            | inr none ↦ absurd (let e : Status.Memory ≡ Status.WriteFault = sym (ap (λ o. o.status) none) ∙ sym put.0 ∙ is in cc)
          ]
        ]
        | inr other ↦ elim other [
          | inl failed ↦ failed.1
          | inr none ↦ absurd (let e : Status.Memory ≡ Status.WriteFault = sym none.0 ∙ is in cc)
        ]
      ]

  memory_of : (asked : Option Shape) (told : Outcome) → May asked held before now told → Reaches out err told status → status ≡ Status.Memory
      → MemoryCause out err
  memory_of None told may reaches is =
      elim reaches [
        | inl put ↦ absurd (let e : Status.Usage ≡ Status.Memory = sym (ap (λ o. o.status) may) ∙ sym put.0 ∙ is in cc)
        | inr other ↦ elim other [
          | inl failed ↦ absurd (let e : Status.WriteFault ≡ Status.Memory = sym failed.0 ∙ is in cc)
          | inr none ↦ inl (none.1, none.2)
        ]
      ]
  memory_of (Some s) told may reaches is =
      elim reaches [
        | inl put ↦ elim may [
          | inl says ↦ absurd ((verdict says.0.verdict).memory (sym (ap (λ o. o.status) says.2) ∙ sym put.0 ∙ is))
          | inr rest ↦ elim rest [
            | inl failed ↦ absurd (let e : Status.ReadFault ≡ Status.Memory = sym (ap (λ o. o.status) failed.3) ∙ sym put.0 ∙ is in cc)
            | inr none ↦ inr (
              subst (λ o. Appends out.told_before out.told_now o.out) none put.1,
              subst (λ o. Appends err.told_before err.told_now o.err) none put.2,
            )
          ]
        ]
        | inr other ↦ elim other [
          | inl failed ↦ absurd (let e : Status.WriteFault ≡ Status.Memory = sym failed.0 ∙ is in cc)
          | inr none ↦ inl (none.1, none.2)
        ]
      ]

  -- a count that stood still didn't rise
  still : {a b : ℕ} → StoodStill a b → Rose a b → ⊥
  still stood rose = omega (arith, stood, rose)

  no_write_fault : StoodStill out.faults_before out.faults_now → StoodStill err.faults_before err.faults_now → Rose out.faults_before out.faults_now ⊎ Rose err.faults_before err.faults_now → ⊥
  no_write_fault on_out on_err rose = elim rose [ inl r ↦ still on_out r | inr r ↦ still on_err r ]

  -- the status is that of an answer, where no count rose
  status_of_answer : (asked : Option Shape) → Answers asked held before now out err status → (a : Outcome) → IsAnswer asked held a
      → ((name : List ℕ) → Names asked name → StoodStill (before name) (now name))
      → StoodStill out.faults_before out.faults_now → StoodStill err.faults_before err.faults_now
      → (status ≡ a.status) ⊎ (status ≡ Status.Memory)
  status_of_answer asked answers a is files on_out on_err =
      elim (answers a is) [
        | inl reaches ↦ elim reaches [
          | inl put ↦ inl put.0
          | inr other ↦ elim other [ inl failed ↦ absurd (no_write_fault on_out on_err failed.1) | inr none ↦ inr none.0 ]
        ]
        | inr rest ↦ elim rest [
          | inl failed ↦ absurd (still (files failed.0 failed.1.named) failed.1.rose)
          | inr reaches ↦ elim reaches [
            | inl put ↦ inr put.0
            | inr other ↦ elim other [ inl failed ↦ absurd (no_write_fault on_out on_err failed.1) | inr none ↦ inr none.0 ]
          ]
        ]
      ]

  completes_of : Laws → (asked : Option Shape) → HasCapacity asked → Answers asked held before now out err status → Completes asked held before now out err status
  completes_of laws asked some answers files on_out on_err =
      let a = some_answer laws held asked some (λ name named. (files name named).0) in
      (a.0, a.1, status_of_answer asked answers a.0 a.1 (λ name named. (files name named).1) on_out on_err)

module _ {asked : Option Shape} {held : List ℕ → Option (List ℕ)} {before now : List ℕ → ℕ} {out err : Stream} {status : Status} (t : Tells asked held before now out err status) where
  pub answers : Answers asked held before now out err status
  answers = answers_of held before now out err status asked t.told t.may t.reaches

  pub judges : Judges asked held out err status
  judges = judges_of held before now out err status asked t.told t.may t.reaches

  pub checks : Laws → Checks asked held out err status
  checks laws = checks_of held before now out err status laws asked answers judges

  pub usage_cause : UsageCause asked status
  usage_cause = usage_of held before now out err status asked t.told t.may t.reaches

  pub read_cause : status ≡ Status.ReadFault → ReadCause asked held before now out err
  read_cause = read_of held before now out err status asked t.told t.may t.reaches

  pub write_cause : status ≡ Status.WriteFault → Rose out.faults_before out.faults_now ⊎ Rose err.faults_before err.faults_now
  write_cause = write_of held before now out err status asked t.told t.may t.reaches

  pub memory_cause : status ≡ Status.Memory → MemoryCause out err
  memory_cause = memory_of held before now out err status asked t.told t.may t.reaches

  pub completes : Laws → HasCapacity asked → Completes asked held before now out err status
  completes laws some = completes_of held before now out err status laws asked some answers

  pub compiles : Laws → HasCapacity asked → Compiles asked held out err status
  compiles laws some = compiles_of held before now out err status laws asked some t.told t.may t.reaches

-- ---- what was told

-- of words with no shape
pub tells_usage : {asked : Option Shape} {held : List ℕ → Option (List ℕ)} {before now : List ℕ → ℕ} (kept : Option (List ℕ)) (faults wants : ℕ) (err : Stream) {status : Status}
    → None ≡ asked → PutsOn err usage_line Status.Usage status → Tells asked held before now (untouched kept faults wants) err status
tells_usage {asked} {held} {before} {now} kept faults wants err {status} none put =
    record {
      told = usage;
      may = subst (λ s. May s held before now usage) none refl;
      reaches = reaches_err err kept faults wants usage_line Status.Usage status put;
    }

-- of a command
pub tells_command : {asked : Option Shape} {held held_now : List ℕ → Option (List ℕ)} {before now : List ℕ → ℕ} {out err : Stream} {status : Status} (s : Shape) (answer : Result Answer Stop)
    → Some s ≡ asked → Steps held held_now before now (tree_of s) (ended reply_of answer) → Reaches out err (told_by answer) status → Tells asked held before now out err status
tells_command {asked} {held} {held_now} {before} {now} s answer some steps reaches =
    record {
      told = told_by answer;
      may = subst (λ o. May o held before now (told_by answer)) some (may_end s answer steps);
      reaches = reaches;
    }
