-- A command as a tree: which files it reads in which order, and what it says of what they hold.
use Rattle.std.specs.Prelude.{ℕ, ◌≡◌, ◌⊎◌, List, length, nat_lt, Option, None, Some, IfSome, IsSomeAnd, ⊤, if◌then◌else◌}
use Rattle.systole_top.specs.Only.{IsOnly}
use Rattle.systole_top.specs.Reply.{Reply}

-- A value; a file that is read as far as a limit, `None` if it is longer; or the one value of which a fact holds.
pub data Tree (A : Type 0) : Type 1 where
  Gives : A → Tree A
  Reads : (name : List ℕ) → (limit : ℕ) → (next : Option (List ℕ) → Tree A) → Tree A
  Picks : {X : Type 0} → (P : X → Type 0) → (next : X → Tree A) → Tree A

-- a tree, and another after its value
unfoldable pub then_ : {A B : Type 0} → Tree A → (A → Tree B) → Tree B
then_ (Gives x) f = f x
then_ (Reads name limit next) f = Reads name limit (λ file. then_ (next file) f)
then_ (Picks P next) f = Picks P (λ x. then_ (next x) f)

-- a file as far as a limit
abbrev pub within : ℕ → List ℕ → Option (List ℕ)
within limit file = if nat_lt limit (length file) then None else Some file

-- The reply over files whose bytes are told. There is none where a file that is wanted isn't told.
abbrev pub Replies : (List ℕ → Option (List ℕ)) → Tree Reply → Reply → Type 0
Replies held (Gives r) reply = r ≡ reply
Replies held (Reads name limit next) reply =
    IsSomeAnd (held name) (λ file. Replies held (next (within limit file)) reply)
Replies held (Picks {X} P next) reply = (x : X) × P x × Replies held (next x) reply

-- The reply comes of some bytes of the files, the told ones where they are told.
abbrev pub Comes : (List ℕ → Option (List ℕ)) → Tree Reply → Reply → Type 0
Comes held (Gives r) reply = r ≡ reply
Comes held (Reads name limit next) reply =
    (file : Option (List ℕ)) × IfSome (held name) (λ bytes. file ≡ within limit bytes) × Comes held (next file) reply
Comes held (Picks {X} P next) reply = (x : X) × IsOnly P x × Comes held (next x) reply

-- A file is tried after all that comes before it passed.
abbrev pub Tries : {A : Type 0} → (List ℕ → Option (List ℕ)) → Tree A → List ℕ → Type 0
Tries held (Gives x) wanted = ⊥
Tries held (Reads name limit next) wanted =
    (wanted ≡ name)
    ⊎ ((file : Option (List ℕ)) × IfSome (held name) (λ bytes. file ≡ within limit bytes)
    × Tries held (next file) wanted)
Tries held (Picks {X} P next) wanted = (x : X) × IsOnly P x × Tries held (next x) wanted

-- No other files are read.
abbrev pub Asks : {A : Type 0} → (List ℕ → Type 0) → Tree A → Type 0
Asks These (Gives x) = ⊤
Asks These (Reads name limit next) = These name × ((file : Option (List ℕ)) → Asks These (next file))
Asks These (Picks {X} P next) = (x : X) → Asks These (next x)
