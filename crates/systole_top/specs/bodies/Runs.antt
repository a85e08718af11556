-- How a step goes that follows a tree.
use Rattle.std.specs.Prelude.{ℕ, ◌≡◌, ◌⊎◌, ◌≤◌, List, Option, IfSome}
use Rattle.sys_outside.specs.Fault.{Rose}
use Rattle.systole_top.specs.Only.{IsOnly}
use Rattle.systole_top.specs.Texts.{cannot_read}
use Rattle.systole_top.specs.Tree.{Tree, Gives, Reads, Picks, within}

-- Why a step stopped: a file can't be read, of which this is the line, or memory ran out.
pub data Halt : Type 0 where
  Unread : (line : List ℕ) → Halt
  NoMemory : Halt

-- How a step ended.
pub data End (A : Type 0) : Type 0 where
  Gave : A → End A
  Stopped : Halt → End A

-- A step ended as the tree says, over a shelf that held these files and whose counts of faults were `before` and are
-- `now`. Memory may run out at any place.
abbrev pub Runs : {A : Type 0} → (List ℕ → Option (List ℕ)) → (List ℕ → ℕ) → (List ℕ → ℕ) → Tree A → End A → Type 0
Runs held before now (Gives x) end = (end ≡ Gave x) ⊎ (end ≡ Stopped NoMemory)
Runs held before now (Reads name limit next) end =
    (end ≡ Stopped NoMemory)
    ⊎ ((end ≡ Stopped (Unread (cannot_read name))) × Rose (before name) (now name))
    ⊎ ((file : Option (List ℕ)) × IfSome (held name) (λ bytes. file ≡ within limit bytes)
    × Runs held before now (next file) end)
Runs held before now (Picks {X} P next) end =
    (end ≡ Stopped NoMemory) ⊎ ((x : X) × IsOnly P x × Runs held before now (next x) end)

-- The same for a step that reads no file.
abbrev pub Shows : {A : Type 0} → Tree A → End A → Type 0
Shows (Gives x) end = (end ≡ Gave x) ⊎ (end ≡ Stopped NoMemory)
Shows (Reads name limit next) end = end ≡ Stopped NoMemory
Shows (Picks {X} P next) end = (end ≡ Stopped NoMemory) ⊎ ((x : X) × IsOnly P x × Shows (next x) end)

-- A step follows a tree: the shelf holds what it held, no count of faults fell, and the step ended as the tree says.
pub record Steps {A : Type 0} (told told_now : List ℕ → Option (List ℕ)) (before now : List ℕ → ℕ) (t : Tree A)
    (end : End A) : Type 0 where
  pub held : told_now ≡ told
  pub later : (name : List ℕ) → before name ≤ now name
  pub runs : Runs told before now t end
