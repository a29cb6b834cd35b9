-- How long changes make a side, told without its bytes.
use Rattle.std.specs.Prelude.{◌+◌, ℕ, List, [], ◌∷◌, Option, None, Some, sum_by}
use Rattle.q4_value.specs.Row.{row_size}
use Rattle.q4_value.specs.Spelling.{optional_count}
use Rattle.q4_table.specs.declared.origin.Origin.{Origin}
use Rattle.q4_record.specs.declared.head.Head.{Head}
use Rattle.q4_record.specs.declared.head.Head.TheVariants.{Insert, End, Mark, Next}
use Rattle.q4_record.specs.Record.{Record}

-- what tells where a forwarded row came from: its source, mode and number there
abbrev pub origin_size : Option Origin → ℕ
origin_size None = 0
origin_size (Some origin) = 10

-- what a record tells before its row: its kind and a number, and an origin, or a mark's source
abbrev pub head_size : Head → ℕ
head_size (Insert number origin) = 9 + origin_size origin
head_size (End number) = 9
head_size (Mark source number) = 10
head_size (Next number) = 9

-- the bytes of a change's record: its row has a flag for each optional column
abbrev pub change_size : Record → ℕ
change_size change = head_size change.head + (row_size change.row + optional_count change.columns)

-- what changes that wait add to a side: their records, and 5 bytes for all of them
abbrev pub waiting_size : List Record → ℕ
waiting_size [] = 0
waiting_size (change ∷ changes) = 5 + sum_by change_size (change ∷ changes)

-- what one change more of this size adds: itself, and where none waits yet the 5 bytes
abbrev pub change_cost : List Record → ℕ → ℕ
change_cost [] size = 5 + size
change_cost (change ∷ changes) size = size
