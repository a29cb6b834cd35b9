-- What a command that a line spells is for.
use Rattle.std.proofs.Common.{◌∷◌, [], List, ℕ, Ok, All}
use Rattle.std.proofs.lemmas.List.Elements.{All-nil, All-cons}
use Rattle.q4_def.specs.declared.table_def.TableDef.{TableDef}
use Rattle.q4_machine.specs.declared.looks.Listed.{Listed}
use Rattle.q4_machine.specs.Definitions.{IsListed}
use Rattle.q4_proto.specs.declared.command.Command.{Command}
use Rattle.q4_proto.specs.declared.command.Command.TheVariants as spelled
use Rattle.q4_proto.specs.declared.keyword.Keyword.{Keyword}
use Rattle.q4_proto.specs.declared.keyword.Keyword.TheVariants as word
use Rattle.q4_proto.specs.Commands.{Reads, Spells, SpellsEntry, SpellEntries}
use Rattle.q4_proto.proofs.Named.{found_inside}
use Rattle.q4_session.specs.Answering.{IsAllowed}

entry_listed : (defs : List TableDef) (field : List ℕ) (listed : Listed) → SpellsEntry defs field listed → IsListed defs listed
entry_listed defs field listed spells = record {
  inside = found_inside defs listed.table spells.name spells.is_table;
  kinds = spells.cond_is.kinds;
}

entries_listed : (defs : List TableDef) (fields : List (List ℕ)) (list : List Listed) → SpellEntries defs fields list → All (IsListed defs) list
entries_listed defs [] [] spell = All-nil (IsListed defs)
entries_listed defs [] (listed ∷ list) spell = absurd spell
entries_listed defs (field ∷ fields) [] spell = absurd spell
entries_listed defs (field ∷ fields) (listed ∷ list) spell = All-cons (IsListed defs) listed list (entry_listed defs field listed spell.0) (entries_listed defs fields list spell.1)

command_allowed : (defs : List TableDef) (keyword : Keyword) (args : List (List ℕ)) (command : Command) → Spells defs keyword args command → IsAllowed defs command
command_allowed defs word.Insert args (spelled.Insert table row) spells = spells.row_is
command_allowed defs word.Wait args (spelled.Wait list seconds) spells = entries_listed defs _ list spells.entries
command_allowed defs word.Select args (spelled.Select table most) spells = (found_inside defs table spells.name spells.is_table, spells.few)
command_allowed defs keyword args spelled.RowId spells = tt
command_allowed defs keyword args spelled.End spells = tt
command_allowed defs keyword args spelled.Abort spells = tt
command_allowed defs keyword args spelled.Quit spells = tt
command_allowed defs keyword args command spells = absurd spells

-- a line's command is one for the tables that it was read for
pub line_allowed : (defs : List TableDef) (line : List ℕ) (command : Command) → Reads defs line (Ok command) → IsAllowed defs command
line_allowed defs line command reads = command_allowed defs reads.keyword reads.args command reads.fields
