-- Keys, and the numbers around their dots.
use Rattle.std.proofs.Common.{◌≡◌, ◌≢◌, ◌∙◌, ◌<◌, ◌^◌, ◌++◌, ◌∷◌, ℕ, List, length, get_or, Option, Bor, Result, Some, decimal, lit<, append_assoc, ap, arith}
use Rattle.std.proofs.Math.Nat.{div-lt_iff_lt-mul, mod-lt}
use Rattle.std.proofs.lemmas.Fmt.{digits_decimal, parse-decimal}
use Rattle.std.proofs.lemmas.Str.Parse.{IsNumeralModel, numerals_by_value, tells_digits, digit_at}
use Rattle.std.proofs.lemmas.Str.Pattern.{IsSplitOnceResult, split_after}
use Rattle.std.specs.Option.{MatchOption}
use Rattle.std.specs.Result.{result_ok}
use Rattle.std.specs.Str.Parse.{AllDigits, ParsesUnsigned, digits_value}
use Rattle.sys_base.specs.Grid.{Extent, IsExtent, cell_count, row_of, col_of}
use Rattle.sys_base.specs.Names.{cell_text}
use Rattle.stream_io.specs.Reading.{key_of}

own : IsNumeralModel (AllDigits 10) (digits_value 10)
own = numerals_by_value (AllDigits 10) tells_digits

-- a decimal has no dot
no_dot : (n : ℕ) → n < 2 ^ 64 → (i : ℕ) → i < length (decimal n) → get_or (decimal n) i 0 ≢ 46
no_dot n small i inside dot =
    let d = digit_at (decimal n) i (digits_decimal own n small) inside in
    omega (arith, d.0, dot)

-- rows and columns are few
pub row_below : (g : Extent) → IsExtent g → (cell : ℕ) → cell < cell_count g → row_of g cell < g.rows
row_below g extent cell inside = (div-lt_iff_lt-mul {k = g.cols} {x = cell} {y = g.rows} (omega (arith, extent.some_cols))).1 inside

pub col_below : (g : Extent) → IsExtent g → (cell : ℕ) → col_of g cell < g.cols
col_below g extent cell = mod-lt cell (omega (arith, extent.some_cols))

key_text : (g : Extent) (cell : ℕ) → key_of g cell ≡ decimal (row_of g cell) ++ (46 ∷ decimal (col_of g cell))
unfolding cell_text
key_text g cell = simp append_assoc

-- the key of a cell has a dot, with the cell's row before it and the cell's column behind it
pub key_parts : (g : Extent) → IsExtent g → (cell : ℕ) → cell < cell_count g → (key : List ℕ) → key ≡ key_of g cell
    → (parts : Option (Bor (List ℕ) × Bor (List ℕ))) → IsSplitOnceResult 46 key parts
    → MatchOption parts ⊥ (λ x. (x.0.now ≡ decimal (row_of g cell)) × (x.1.now ≡ decimal (col_of g cell)))
key_parts g extent cell inside key is parts split =
    split_after 46 key (decimal (row_of g cell)) (decimal (col_of g cell)) parts split (lit< tt) (is ∙ key_text g cell)
    (no_dot (row_of g cell) (omega (arith, row_below g extent cell inside, extent.most_rows)))

-- a part of a key that is the decimal of a row or a column parses to it
number : {E : Type 0} (n : ℕ) (text : List ℕ) (parsed : Result ℕ E) (value : Option ℕ) → n < 2 ^ 8 → text ≡ decimal n
    → ParsesUnsigned 8 10 text parsed → value ≡ result_ok parsed → value ≡ Some n
number n text parsed value small is parses same = same ∙ ap result_ok (parse-decimal 8 n text parsed small (omega arith) is parses)

pub row_number : {E : Type 0} (g : Extent) → IsExtent g → (cell : ℕ) → cell < cell_count g → (text : List ℕ) (parsed : Result ℕ E)
    (value : Option ℕ) → text ≡ decimal (row_of g cell) → ParsesUnsigned 8 10 text parsed → value ≡ result_ok parsed
    → value ≡ Some (row_of g cell)
row_number g extent cell inside text parsed value =
    number (row_of g cell) text parsed value (omega (arith, row_below g extent cell inside, extent.most_rows))

pub col_number : {E : Type 0} (g : Extent) → IsExtent g → (cell : ℕ) → (text : List ℕ) (parsed : Result ℕ E)
    (value : Option ℕ) → text ≡ decimal (col_of g cell) → ParsesUnsigned 8 10 text parsed → value ≡ result_ok parsed
    → value ≡ Some (col_of g cell)
col_number g extent cell text parsed value =
    number (col_of g cell) text parsed value (omega (arith, col_below g extent cell, extent.most_cols))
