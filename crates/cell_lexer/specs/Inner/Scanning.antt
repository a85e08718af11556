-- The words of the functions that go over the bytes of a text.
use Rattle.std.specs.Prelude.{ℕ, ◌≡◌, ◌+◌, ◌≤◌, false, List, length}
use Rattle.sys_base.specs.Bytes.{is_space}
use Rattle.cell_lexer.specs.declared.error.LexError.{LexError}
use Rattle.cell_lexer.specs.declared.error.LexError.TheVariants as E
use Rattle.cell_lexer.specs.declared.flaw.Flaw.{Flaw}
use Rattle.cell_lexer.specs.declared.flaw.Flaw.TheVariants as W
use Rattle.cell_lexer.specs.declared.place.Place.{Place}
use Rattle.cell_lexer.specs.Faults.{IsBad, IsBig, IsLong, FirstFault}
use Rattle.cell_lexer.specs.Places.{line_at, column_at}

-- No gap goes on at this byte: it separates no tokens and begins no comment.
pub record IsSolid (b : ℕ) : Type 0 where
  pub no_space : is_space b ≡ false
  pub no_hash : b ≡ 35 → ⊥

-- The place is in the text or at its end, with the line and the column that it has there.
pub record IsPlace (text : List ℕ) (p : Place) : Type 0 where
  pub inside : p.at ≤ length text
  pub line : p.line ≡ line_at text p.at
  pub column : p.column ≡ column_at text p.at
  pub low_line : p.line ≤ p.at + 1
  pub low_column : p.column ≤ p.at + 1

-- This is why no token stands at the front of the bytes.
abbrev pub IsFlaw : List ℕ → Flaw → Type 0
IsFlaw bytes W.Bad = IsBad bytes
IsFlaw bytes W.Big = (len : ℕ) × IsBig bytes len
IsFlaw bytes W.Long = (len : ℕ) × IsLong bytes len

-- The error is the first thing that is wrong in the text, or memory ran out.
abbrev pub IsFirst : List ℕ → LexError → Type 0
IsFirst text (E.BadByte at) = FirstFault text (E.BadByte at)
IsFirst text (E.BigNumber line) = FirstFault text (E.BigNumber line)
IsFirst text (E.LongName line) = FirstFault text (E.LongName line)
IsFirst text E.Memory = Unit {0}
