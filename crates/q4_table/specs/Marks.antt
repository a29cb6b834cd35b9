-- The marks of a table: for each source the number that its last row had there.
use Rattle.std.specs.Prelude.{◌==◌, ℕ, List, ◌∷◌, ◌++◌, filter, find, nat_lt, unwrap_or}
use Rattle.std.specs.Option.{option_map}
use Rattle.q4_table.specs.declared.marks.Mark.{Mark}

-- the mark of a source, which is 0 where the source is not listed
abbrev pub mark_of : List Mark → ℕ → ℕ
mark_of marks source = unwrap_or (option_map (λ m. m.number) (find (λ m. m.source == source) marks)) 0

-- the marks with one source's mark set, which stands between those of lesser and those of greater sources
abbrev pub with_mark : ℕ → ℕ → List Mark → List Mark
with_mark source number marks =
    filter (λ m. nat_lt m.source source) marks ++ record { source = source; number = number } ∷ filter (λ m. nat_lt source m.source) marks
