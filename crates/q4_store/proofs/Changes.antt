-- What the table of a store's content is after one change more.
use Rattle.std.proofs.Common.{◌≡◌, ◌≤◌, ◌+◌, ◌⊎◌, inl, inr, ℕ, List, [], ◌∷◌, Option, length, ◌∙◌, ap, subst, arith}
use Rattle.std.proofs.lemmas.List.{take-append-le}
use Rattle.std.proofs.lemmas.List.Sums.{fold_push}
use Rattle.q4_value.specs.declared.column.Column.{Column}
use Rattle.q4_value.specs.declared.row.Value.{Value}
use Rattle.q4_table.specs.declared.origin.Origin.{Origin}
use Rattle.q4_table.specs.TableState.{TableState}
use Rattle.q4_table.specs.Rows.{without_row}
use Rattle.q4_table.specs.Adding.{add_row}
use Rattle.q4_record.specs.Record.{Record}
use Rattle.q4_record.specs.Replay.{ReplayState, replayed, replays, at_batches, table_after}
use Rattle.q4_disk.specs.Told.{Sides}
use Rattle.q4_store.specs.Reading.{ReadsOwn, Opens}
use Rattle.q4_store.proofs.Quiet.{own_opened}
use Rattle.q4_store.specs.Content.{Content, row_added, row_ended, table_of, table_with, with_change, IsPrefix, IsPrefixOrNew}

more : (content : Content) (change : Record) → table_of (with_change content change) ≡ table_after (table_of content) change.head change.row
more content change = ap (λ (replay : ReplayState). replay.table) (fold_push replayed (at_batches content.committed) content.pending change)

pub added_is : (content : Content) (columns : List Column) (number : ℕ) (row : List Value) (origin : Option Origin) → number ≡ (table_of content).next → table_of (with_change content (row_added columns number row origin)) ≡ add_row (table_of content) row origin
added_is content columns number row origin is_next =
    more content (row_added columns number row origin) ∙ ap (λ (n : ℕ). add_row (record (table_of content) { next = n }) row origin) is_next

pub ended_is : (content : Content) (number : ℕ) → table_of (with_change content (row_ended number)) ≡ record (table_of content) { rows = without_row number (table_of content).rows }
ended_is content number = more content (row_ended number)

pub none_waits : (content : Content) (generation : ℕ) (sides : Sides) → content.pending ≡ [] → IsPrefix content generation sides → ReadsOwn content.committed.columns sides content.committed generation
none_waits content generation sides none prefix =
    let no_count : prefix.count ≡ 0 = let few = prefix.within in let empty = ap (λ (changes : List Record). length changes) none in omega (arith, few, empty) in
    subst (λ (n : ℕ). ReadsOwn content.committed.columns sides (table_with content n) generation) no_count prefix.reads

pub read_again : (content : Content) (generation h : ℕ) (sides : Sides) (table : TableState) → IsPrefix content generation sides → Opens content.committed.columns sides table h
    → (count : ℕ) × (count ≤ length content.pending) × (table ≡ table_with content count) × (h ≡ generation)
read_again content generation h sides table prefix opens =
    let same = own_opened content.committed.columns sides (table_with content prefix.count) table generation h prefix.reads opens in
    (prefix.count, prefix.within, same.0, same.1)

pub read_either : (content : Content) (generation h : ℕ) (sides : Sides) (table : TableState) → IsPrefixOrNew content generation sides → Opens content.committed.columns sides table h
    → ((count : ℕ) × (count ≤ length content.pending) × (table ≡ table_with content count) × (h ≡ generation)) ⊎ ((table ≡ table_of content) × (h ≡ generation + 1))
read_either content generation h sides table (inl prefix) opens = inl (read_again content generation h sides table prefix opens)
read_either content generation h sides table (inr new) opens = inr (own_opened content.committed.columns sides (table_of content) table (generation + 1) h new opens)

pub earlier_stays : (content : Content) (change : Record) (count : ℕ) → count ≤ length content.pending → table_with (with_change content change) count ≡ table_with content count
earlier_stays content change count within = ap (λ (changes : List Record). (replays (at_batches content.committed) changes).table) (take-append-le count content.pending (change ∷ []) within)
