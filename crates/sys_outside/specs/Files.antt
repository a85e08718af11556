-- Files in memory.
use Rattle.std.specs.Prelude.{ℕ, ◌≡◌, ◌⊎◌, List, [], map, find, Option, None, String, Vec, string_bytes, bytes_eq, unwrap_or, Contains, Result}
use Rattle.std.specs.Option.{option_map}
use Rattle.std.specs.Global.{Global}
use Rattle.sys_outside.specs.Fault.{next_call}
use Rattle.sys_outside.specs.Shelf.{faults_after_fetch}
use Rattle.sys_outside.specs.declared.shelf.Fetched.{Fetched}
use Rattle.sys_outside.specs.declared.shelf.ShelfError.{ShelfError}

-- A shelf of files in memory: each file's name and bytes, the numbers of the calls that fail, the number of the next
-- call, and the count of faults.
pub record Shelved : Type 0 where
  pub files : List (List ℕ × List ℕ)
  pub failing : List ℕ
  pub calls : ℕ
  pub faults : ℕ

-- the names and bytes of files
abbrev pub files_of : List (String Global × Vec ℕ Global) → List (List ℕ × List ℕ)
files_of files = map (λ file. (string_bytes file.0, file.1.items)) files

-- the bytes of the first file of a name
abbrev pub named : List (List ℕ × List ℕ) → List ℕ → Option (List ℕ)
named files name = option_map (λ file. file.1) (find (λ file. bytes_eq file.0 name) files)

-- the bytes of the first file of a name, none where there is no such file
abbrev pub named_or_empty : List (List ℕ × List ℕ) → List ℕ → List ℕ
named_or_empty files name = unwrap_or (named files name) []

-- The next call fails: its number is one of those that fail, or there is no such file.
abbrev pub FailsAt : Shelved → List ℕ → Type 0
FailsAt s name = Contains s.failing s.calls ⊎ (named s.files name ≡ None)

-- the shelf after a call that ended so
abbrev pub after_fetch : Shelved → Result Fetched ShelfError → Shelved
after_fetch s result =
    record { files = s.files; failing = s.failing; calls = next_call s.calls; faults = faults_after_fetch s.faults result }
