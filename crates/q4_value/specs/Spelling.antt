-- The one spelling of a row in bytes: its values in column order.
use Rattle.std.specs.Prelude.{ℕ, Bool, true, false, List, [], ◌∷◌, ◌++◌, filter, length}
use Rattle.std.specs.Int.{w32, w64, to_be_bytes, cast_unsigned}
use Rattle.std.specs.List.{flat_map}
use Rattle.q4_value.specs.declared.column.Column.{Column}
use Rattle.q4_value.specs.declared.row.Value.{Value}
use Rattle.q4_value.specs.declared.row.Value.TheVariants.{Int, Word, Null}

-- 8 bytes in two's complement, the highest first; for a text 4 bytes of its length, the highest first, and its bytes;
-- for a null none
abbrev pub value_bytes : Value → List ℕ
value_bytes (Int number) = to_be_bytes w64 (cast_unsigned w64 number)
value_bytes (Word text) = to_be_bytes w32 (length text) ++ text
value_bytes Null = []

-- 0 says that the value is null, and 1 that a value follows
abbrev pub flag_of : Value → ℕ
flag_of (Int number) = 1
flag_of (Word text) = 1
flag_of Null = 0

-- the flag in front of the value of an optional column; another column has none
abbrev pub flag_bytes : Bool → Value → List ℕ
flag_bytes true value = flag_of value ∷ []
flag_bytes false value = []

-- what stands for the value of a column
abbrev pub cell_bytes : Column → Value → List ℕ
cell_bytes column value = flag_bytes column.optional value ++ value_bytes value

-- the cells in column order; what is no row of the columns, since one list is longer, gets its flags and values all the same
abbrev pub row_bytes : List Column → List Value → List ℕ
row_bytes (c ∷ cs) (v ∷ vs) = cell_bytes c v ++ row_bytes cs vs
row_bytes (c ∷ cs) [] = flag_bytes c.optional Null ++ row_bytes cs []
row_bytes [] row = flat_map value_bytes row

-- the number of optional columns, each of which adds its flag to the bytes of a row
abbrev pub optional_count : List Column → ℕ
optional_count columns = length (filter (λ c. c.optional) columns)
