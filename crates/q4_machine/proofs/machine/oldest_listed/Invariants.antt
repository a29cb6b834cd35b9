use Rattle.std.proofs.Common.{◌≡◌, ◌≤◌, ◌+◌, drop}
use Rattle.q4_machine.specs.Kept.{kept_after}
use Rattle.q4_machine.specs.Pick.{pick_from, asked_from}
use Rattle.q4_machine.proofs.machine.oldest_listed.Given as goal

-- The places so far have none, and no more than their rows were asked. The tables are as they were for the rules, and
-- what they keep is moved by the places so far.
abbrev pub invariant-loop-i : goal.invariant-loop-i
invariant-loop-i g l = record {
  none : pick_from l.fn.tables.tables 1 l.list ≡ pick_from l.fn.tables.tables (l.i + 1) (drop l.i l.list);
  tables : l.tables.tables ≡ l.fn.tables.tables;
  kept : kept_after l.fn.tables.tables l.list l.fn.tables.kept ≡ kept_after l.fn.tables.tables (drop l.i l.list) l.tables.kept;
  asked : l.steps + asked_from l.fn.tables.tables (drop l.i l.list) l.tables.kept ≤ l.fn.steps + asked_from l.fn.tables.tables l.list l.fn.tables.kept;
}
