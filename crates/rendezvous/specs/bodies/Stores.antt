-- What a cell holds while it runs.
use Rattle.std.specs.Prelude.{ℕ, ◌≡◌, nat_lt, if◌then◌else◌, ℤ, pos, negsuc, Option, Some, None}
use Rattle.std.specs.Vec.{vec_len}
use Rattle.sys_base.specs.Held.{Held}
use Rattle.rendezvous.specs.declared.store.Store.{Store}

-- what a store holds
abbrev pub held_of : Store → Held
held_of s =
    record {
      words = s.words.items;
      counters = s.counters.items;
      kept = s.kept;
      taken = s.taken;
      output = s.output.items;
    }

-- The cell stays, and so do the numbers of words and counters.
pub record KeepsSize (old new : Store) : Type 0 where
  pub cell : new.cell ≡ old.cell
  pub words : vec_len new.words ≡ vec_len old.words
  pub counters : vec_len new.counters ≡ vec_len old.counters

-- the number as an index, where it is below a length
abbrev pub index_below : ℤ → ℕ → Option ℕ
index_below (pos n) len = if nat_lt n len then Some n else None
index_below (negsuc n) len = None
