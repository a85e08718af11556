-- Steps that follow one another.
use Rattle.std.proofs.Common.{◌≡◌, ◌≤◌, ℕ, List, Option, refl, ap, ◌∙◌, subst, inl, inr, arith}
use Rattle.sys_outside.specs.Fault.{Rose}
use Rattle.systole_top.specs.Texts.{cannot_read}
use Rattle.systole_top.specs.Tree.{Tree, Gives, Reads, Picks, then_}
use Rattle.systole_top.specs.bodies.Runs.{Halt, Unread, NoMemory, End, Gave, Stopped, Runs, Shows, Steps}
use Rattle.systole_top.specs.bodies.Stops.{halt_of}
use Rattle.systole_top.specs.declared.answer.Stop.{Stop}

-- a file whose count rose in a part of a step, which the rest of the step didn't lower
pub rose_within : {b0 b1 b2 b3 : ℕ} → b0 ≤ b1 → b2 ≤ b3 → Rose b1 b2 → Rose b0 b3
rose_within from to rose = omega arith

-- want of memory may end every step
pub runs_no_memory : {A : Type 0} (held : List ℕ → Option (List ℕ)) (before now : List ℕ → ℕ) (t : Tree A) → Runs held before now t (Stopped NoMemory)
runs_no_memory held before now (Gives x) = inr refl
runs_no_memory held before now (Reads name limit next) = inl refl
runs_no_memory held before now (Picks P next) = inl refl

-- a part of a step, seen over the whole step
pub runs_wider : {A : Type 0} (held : List ℕ → Option (List ℕ)) (b0 b1 b2 b3 : List ℕ → ℕ) → ((name : List ℕ) → b0 name ≤ b1 name) → ((name : List ℕ) → b2 name ≤ b3 name)
    → (t : Tree A) (end : End A) → Runs held b1 b2 t end → Runs held b0 b3 t end
runs_wider held b0 b1 b2 b3 from to (Gives x) end r = r
runs_wider held b0 b1 b2 b3 from to (Reads name limit next) end r =
    elim r [
      | inl none ↦ inl none
      | inr rest ↦ elim rest [
        | inl unread ↦ inr (inl (unread.0, rose_within (from name) (to name) unread.1))
        | inr gone ↦ inr (inr (gone.0, gone.1, runs_wider held b0 b1 b2 b3 from to (next gone.0) end gone.2))
      ]
    ]
runs_wider held b0 b1 b2 b3 from to (Picks P next) end r =
    elim r [
      | inl none ↦ inl none
      | inr gone ↦ inr (gone.0, gone.1, runs_wider held b0 b1 b2 b3 from to (next gone.0) end gone.2)
    ]

-- a step that gave a value, and another after it
pub runs_then : {A B : Type 0} (held : List ℕ → Option (List ℕ)) (before now : List ℕ → ℕ) (f : A → Tree B) (t : Tree A) (x : A) (end : End B)
    → Runs held before now t (Gave x) → Runs held before now (f x) end → Runs held before now (then_ t f) end
unfolding then_
runs_then held before now f (Gives y) x end r after =
    elim r [
      | inl gave ↦ (let same : x ≡ y = cc in subst (λ z. Runs held before now (f z) end) same after)
      | inr none ↦ absurd (cc)
    ]
runs_then held before now f (Reads name limit next) x end r after =
    elim r [
      | inl none ↦ absurd (cc)
      | inr rest ↦ elim rest [
        | inl unread ↦ absurd (cc (unread.0))
        | inr gone ↦ inr (inr (gone.0, gone.1, runs_then held before now f (next gone.0) x end gone.2 after))
      ]
    ]
runs_then held before now f (Picks P next) x end r after =
    elim r [
      | inl none ↦ absurd (cc)
      | inr gone ↦ inr (gone.0, gone.1, runs_then held before now f (next gone.0) x end gone.2 after)
    ]

-- a step that stopped
pub runs_stop : {A B : Type 0} (held : List ℕ → Option (List ℕ)) (before now : List ℕ → ℕ) (f : A → Tree B) (t : Tree A) (halt : Halt)
    → Runs held before now t (Stopped halt) → Runs held before now (then_ t f) (Stopped halt)
unfolding then_
runs_stop held before now f (Gives y) halt r =
    elim r [
      | inl gave ↦ absurd (cc)
      | inr none ↦ (let same : NoMemory ≡ halt = cc in subst (λ h. Runs held before now (f y) (Stopped h)) same (runs_no_memory held before now (f y)))
    ]
runs_stop held before now f (Reads name limit next) halt r =
    elim r [
      | inl none ↦ inl (let same : halt ≡ NoMemory = cc in ap (λ h. Stopped h) same)
      | inr rest ↦ elim rest [
        | inl unread ↦ inr (inl (let same : halt ≡ Unread (cannot_read name) = cc (unread.0) in ap (λ h. Stopped h) same, unread.1))
        | inr gone ↦ inr (inr (gone.0, gone.1, runs_stop held before now f (next gone.0) halt gone.2))
      ]
    ]
runs_stop held before now f (Picks P next) halt r =
    elim r [
      | inl none ↦ inl (let same : halt ≡ NoMemory = cc in ap (λ h. Stopped h) same)
      | inr gone ↦ inr (gone.0, gone.1, runs_stop held before now f (next gone.0) halt gone.2)
    ]

-- a step that reads no file goes so over every shelf
pub runs_shows : {A : Type 0} (held : List ℕ → Option (List ℕ)) (before now : List ℕ → ℕ) (t : Tree A) (end : End A) → Shows t end → Runs held before now t end
runs_shows held before now (Gives x) end s = s
runs_shows held before now (Reads name limit next) end s = inl s
runs_shows held before now (Picks P next) end s =
    elim s [
      | inl none ↦ inl none
      | inr gone ↦ inr (gone.0, gone.1, runs_shows held before now (next gone.0) end gone.2)
    ]

-- ---- steps

-- a step, and another after its value
pub step_then : {A B : Type 0} {h0 h1 h2 : List ℕ → Option (List ℕ)} {b0 b1 b2 : List ℕ → ℕ} {t : Tree A} (f : A → Tree B) {x : A} {end : End B}
    → Steps h0 h1 b0 b1 t (Gave x) → Steps h1 h2 b1 b2 (f x) end → Steps h0 h2 b0 b2 (then_ t f) end
step_then {A} {B} {h0} {h1} {h2} {b0} {b1} {b2} {t} f {x} {end} first after =
    record {
      held = after.held ∙ first.held;
      later = λ name. let one = first.later name in let two = after.later name in omega arith;
      runs = runs_then h0 b0 b2 f t x end
          (runs_wider h0 b0 b0 b1 b2 (λ name. omega arith) after.later t (Gave x) first.runs)
          (runs_wider h0 b0 b1 b2 b2 first.later (λ name. omega arith) (f x) end (subst (λ h. Runs h b1 b2 (f x) end) first.held after.runs));
    }

-- a step, and a tail after its value
pub step_shows : {A B : Type 0} {h0 h1 : List ℕ → Option (List ℕ)} {b0 b1 : List ℕ → ℕ} {t : Tree A} (f : A → Tree B) {x : A} {end : End B}
    → Steps h0 h1 b0 b1 t (Gave x) → Shows (f x) end → Steps h0 h1 b0 b1 (then_ t f) end
step_shows {A} {B} {h0} {h1} {b0} {b1} {t} f {x} {end} first tail =
    record {
      held = first.held;
      later = first.later;
      runs = runs_then h0 b0 b1 f t x end first.runs (runs_shows h0 b0 b1 (f x) end tail);
    }

-- a step that stopped ends what comes after it
pub step_stop : {A B : Type 0} {h0 h1 : List ℕ → Option (List ℕ)} {b0 b1 : List ℕ → ℕ} {t : Tree A} (f : A → Tree B) (stop : Stop)
    → Steps h0 h1 b0 b1 t (Stopped (halt_of stop)) → Steps h0 h1 b0 b1 (then_ t f) (Stopped (halt_of stop))
step_stop {A} {B} {h0} {h1} {b0} {b1} {t} f stop first =
    record { held = first.held; later = first.later; runs = runs_stop h0 b0 b1 f t (halt_of stop) first.runs }

-- a step that reads no file is a whole one
pub step_alone : {A : Type 0} {held : List ℕ → Option (List ℕ)} {before : List ℕ → ℕ} (t : Tree A) {end : End A} → Shows t end → Steps held held before before t end
step_alone {A} {held} {before} t {end} shows = record { held = refl; later = λ name. omega arith; runs = runs_shows held before before t end shows }
