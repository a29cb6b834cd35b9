use Rattle.std.proofs.Common.{◌≡◌, length, map, take}
use Rattle.std.specs.List.{AllZip}
use Rattle.toml.specs.View.{view}
use Rattle.q4_def.specs.Tables.{AreDistinct}
use Rattle.q4_def.specs.Document.{Defines}
use Rattle.q4_def.proofs.reading.read_tables.Given as goal

-- the members so far define these tables
abbrev pub invariant-loop-member : goal.invariant-loop-member
invariant-loop-member l = record {
  count : length l.tables.items ≡ l.member-index;
  each : AllZip Defines (map view (take l.member-index l.members)) l.tables.items;
  distinct : AreDistinct l.tables.items;
}
