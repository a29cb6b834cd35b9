-- A line spells one command at most.
use Rattle.std.proofs.Common.{◌≡◌, ◌<◌, ◌≤◌, ◌^◌, ◌∷◌, ◌∙◌, [], List, ℕ, Option, None, Some, Ok, decimal, refl, sym, ap, subst, arith}
use Rattle.std.proofs.lemmas.Fmt.{decimal_injective}
use Rattle.q4_value.specs.declared.row.Value.{Value}
use Rattle.q4_value.specs.declared.column.Kind.{Kind}
use Rattle.q4_value.specs.Row.{TakeEach}
use Rattle.q4_value.proofs.EscapeLaws.{escaped_once}
use Rattle.q4_cond.specs.Condition.{ReadsAs}
use Rattle.q4_cond.specs.Tokens.{bare, tokens_of, names_of as column_names}
use Rattle.q4_cond.specs.Tree.{Tree}
use Rattle.q4_cond.proofs.Verdicts.{one_tree}
use Rattle.q4_def.specs.declared.table_def.TableDef.{TableDef}
use Rattle.q4_def.specs.Tables.{AreDefs}
use Rattle.q4_machine.specs.declared.looks.Listed.{Listed}
use Rattle.q4_machine.specs.Definitions.{columns_at}
use Rattle.q4_machine.proofs.Histories.{cons_head, cons_tail}
use Rattle.q4_proto.specs.declared.command.Command.{Command}
use Rattle.q4_proto.specs.declared.command.Command.TheVariants as spelled
use Rattle.q4_proto.specs.declared.keyword.Keyword.{Keyword}
use Rattle.q4_proto.specs.declared.keyword.Keyword.TheVariants.{Insert, Wait, RowId, End, Abort, Select, Quit}
use Rattle.q4_proto.specs.Commands.{SpellsInsert, SpellsSelect, entries_of, seconds_of, IsSeconds, SpellsEntry, SpellEntries, SpellsWait, Spells, ReadsLine}
use Rattle.q4_proto.proofs.Named.{one_place}
use Rattle.q4_proto.proofs.Spellings.{row_once}
use Rattle.q4_proto.proofs.Entries.{one_cut}
use Rattle.q4_proto.proofs.Apart.{word_once}

-- ## Inserts

insert_once : (defs : List TableDef) (args : List (List ℕ)) (p q : ℕ) (a b : List Value) → AreDefs defs → SpellsInsert defs args p a → SpellsInsert defs args q b → (p ≡ q) × (a ≡ b)
insert_once defs args p q a b are one other =
    let lists = sym one.args_are ∙ other.args_are in
    let name : one.name ≡ other.name = escaped_once one.name other.name (cons_head lists) in
    let place : p ≡ q = one_place defs p q one.name are one.is_table (other.is_table ∙ ap Some (sym name)) in
    let x = one.row_is.fits.row_of in
    let y = other.row_is.fits.row_of in
    let taken = subst (λ n. TakeEach (columns_at defs n) b) (sym place) y.taken in
    (place, row_once (columns_at defs p) a b x.taken taken x.values y.values (cons_tail lists))

-- ## Waits and selects

number_once : (x y most : ℕ) → x ≤ most → y ≤ most → most < 2 ^ 64 → decimal x ≡ decimal y → x ≡ y
number_once x y most a b small same = decimal_injective x y (omega (arith, a, small)) (omega (arith, b, small)) same

select_once : (defs : List TableDef) (args : List (List ℕ)) (p q x y : ℕ) → AreDefs defs → SpellsSelect defs args p x → SpellsSelect defs args q y → (p ≡ q) × (x ≡ y)
select_once defs args p q x y are one other =
    let lists = sym one.args_are ∙ other.args_are in
    let name : one.name ≡ other.name = escaped_once one.name other.name (cons_head lists) in
    (one_place defs p q one.name are one.is_table (other.is_table ∙ ap Some (sym name)), number_once x y 1000 one.few other.few (omega arith) (cons_head (cons_tail lists)))

listed_of : ℕ → Option Tree → List Kind → Listed
listed_of table tree kinds = record { table = table; cond = record { tree = tree; kinds = kinds } }

listed_same : (x y : Listed) → x.table ≡ y.table → x.cond.tree ≡ y.cond.tree → x.cond.kinds ≡ y.cond.kinds → x ≡ y
unfolding listed_of
listed_same x y table tree kinds = ap (λ n. listed_of n x.cond.tree x.cond.kinds) table ∙ ap (λ t. listed_of y.table t x.cond.kinds) tree ∙ ap (λ ks. listed_of y.table y.cond.tree ks) kinds

listed_once : (defs : List TableDef) (field : List ℕ) (x y : Listed) → AreDefs defs → SpellsEntry defs field x → SpellsEntry defs field y → x ≡ y
listed_once defs field x y are one other =
    let same = one_cut defs field one.name other.name one.text other.text x.table y.table are one.is_table other.is_table one.field_is other.field_is in
    let columns = columns_at defs x.table in
    let reads : ReadsAs columns one.text y.cond = subst (λ t. ReadsAs columns t y.cond) (sym same.text_is) (subst (λ p. ReadsAs (columns_at defs p) other.text y.cond) (sym same.place_is) other.cond_is) in
    let tree : x.cond.tree ≡ y.cond.tree = one_tree 32 32 (bare (tokens_of (column_names columns) one.text)) x.cond.tree y.cond.tree one.cond_is.tree.spells.condition reads.tree.spells.condition in
    listed_same x y same.place_is tree (one.cond_is.kinds ∙ sym reads.kinds)

entries_once : (defs : List TableDef) (fields : List (List ℕ)) (a b : List Listed) → AreDefs defs → SpellEntries defs fields a → SpellEntries defs fields b → a ≡ b
entries_once defs [] [] [] are one other = refl
entries_once defs [] [] (y ∷ b) are one other = absurd other
entries_once defs [] (x ∷ a) b are one other = absurd one
entries_once defs (field ∷ fields) [] b are one other = absurd one
entries_once defs (field ∷ fields) (x ∷ a) [] are one other = absurd other
entries_once defs (field ∷ fields) (x ∷ a) (y ∷ b) are one other =
    ap (λ z. z ∷ a) (listed_once defs field x y are one.0 other.0) ∙ ap (λ zs. y ∷ zs) (entries_once defs fields a b are one.1 other.1)

seconds_once : (told : Option (List ℕ)) (x y : ℕ) → IsSeconds told x → IsSeconds told y → x ≡ y
seconds_once None x y one other = one ∙ sym other
seconds_once (Some digits) x y one other = number_once x y 3600 one.1 other.1 (omega arith) (sym one.0 ∙ other.0)

-- ## Any command

insert_is : (defs : List TableDef) (args : List (List ℕ)) (place : ℕ) (row : List Value) (b : Command) → AreDefs defs → SpellsInsert defs args place row → Spells defs Insert args b → spelled.Insert place row ≡ b
insert_is defs args place row (spelled.Insert q other_row) are one other =
    let same = insert_once defs args place q row other_row are one other in
    ap (λ p. spelled.Insert p row) same.0 ∙ ap (λ r. spelled.Insert q r) same.1
insert_is defs args place row _ are one other = absurd other

wait_is : (defs : List TableDef) (args : List (List ℕ)) (list : List Listed) (seconds : ℕ) (b : Command) → AreDefs defs → SpellsWait defs args list seconds → Spells defs Wait args b → spelled.Wait list seconds ≡ b
wait_is defs args list seconds (spelled.Wait others most) are one other =
    ap (λ l. spelled.Wait l seconds) (entries_once defs (entries_of args) list others are one.entries other.entries) ∙ ap (λ s. spelled.Wait others s) (seconds_once (seconds_of args) seconds most one.seconds_are other.seconds_are)
wait_is defs args list seconds _ are one other = absurd other

select_is : (defs : List TableDef) (args : List (List ℕ)) (place most : ℕ) (b : Command) → AreDefs defs → SpellsSelect defs args place most → Spells defs Select args b → spelled.Select place most ≡ b
select_is defs args place most (spelled.Select q limit) are one other =
    let same = select_once defs args place q most limit are one other in
    ap (λ p. spelled.Select p most) same.0 ∙ ap (λ n. spelled.Select q n) same.1
select_is defs args place most _ are one other = absurd other

row_id_is : (defs : List TableDef) (args : List (List ℕ)) (b : Command) → Spells defs RowId args b → spelled.RowId ≡ b
row_id_is defs args spelled.RowId other = refl
row_id_is defs args _ other = absurd other

end_is : (defs : List TableDef) (args : List (List ℕ)) (b : Command) → Spells defs End args b → spelled.End ≡ b
end_is defs args spelled.End other = refl
end_is defs args _ other = absurd other

abort_is : (defs : List TableDef) (args : List (List ℕ)) (b : Command) → Spells defs Abort args b → spelled.Abort ≡ b
abort_is defs args spelled.Abort other = refl
abort_is defs args _ other = absurd other

quit_is : (defs : List TableDef) (args : List (List ℕ)) (b : Command) → Spells defs Quit args b → spelled.Quit ≡ b
quit_is defs args spelled.Quit other = refl
quit_is defs args _ other = absurd other

spells_once : (defs : List TableDef) (keyword : Keyword) (args : List (List ℕ)) (a b : Command) → AreDefs defs → Spells defs keyword args a → Spells defs keyword args b → a ≡ b
spells_once defs Insert args (spelled.Insert place row) b are one other = insert_is defs args place row b are one other
spells_once defs Wait args (spelled.Wait list seconds) b are one other = wait_is defs args list seconds b are one other
spells_once defs RowId args spelled.RowId b are one other = row_id_is defs args b other
spells_once defs End args spelled.End b are one other = end_is defs args b other
spells_once defs Abort args spelled.Abort b are one other = abort_is defs args b other
spells_once defs Select args (spelled.Select place most) b are one other = select_is defs args place most b are one other
spells_once defs Quit args spelled.Quit b are one other = quit_is defs args b other
spells_once defs _ args _ b are one other = absurd one

-- a line that spells two commands spells one
pub command_once : (defs : List TableDef) (line : List ℕ) (a b : Command) → AreDefs defs → ReadsLine defs line (Ok a) → ReadsLine defs line (Ok b) → a ≡ b
command_once defs line a b are one other =
    let lists = sym one.begins ∙ other.begins in
    let same : one.keyword ≡ other.keyword = word_once one.keyword other.keyword (cons_head lists) in
    let spells = subst (λ fs. Spells defs other.keyword fs a) (cons_tail lists) (subst (λ k. Spells defs k one.args a) same one.fields) in
    spells_once defs other.keyword other.args a b are spells other.fields
