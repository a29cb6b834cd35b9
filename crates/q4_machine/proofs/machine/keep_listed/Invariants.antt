use Rattle.std.proofs.Common.{◌≡◌, drop, take}
use Rattle.q4_machine.specs.Kept.{keep_all}
use Rattle.q4_machine.proofs.machine.keep_listed.Given as goal

-- the conditions so far are kept, and the tables are as they were for the rules
abbrev pub invariant-loop-listed : goal.invariant-loop-listed
invariant-loop-listed l = record {
  tables : l.tables.tables ≡ l.fn.tables.tables;
  kept : l.tables.kept ≡ keep_all (take l.listed-index l.list) l.fn.tables.kept;
}
