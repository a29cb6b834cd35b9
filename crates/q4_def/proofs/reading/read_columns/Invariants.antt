use Rattle.std.proofs.Common.{◌≡◌, length, map, take}
use Rattle.q4_value.specs.Names.{AreNamed}
use Rattle.q4_def.specs.Document.{column_text}
use Rattle.q4_def.proofs.reading.read_columns.Given as goal

-- the strings so far are these columns
abbrev pub invariant-loop-text : goal.invariant-loop-text
invariant-loop-text l = record {
  count : length l.columns ≡ l.text-index;
  texts : map (λ text. text.now) (take l.text-index l.texts) ≡ map column_text l.columns;
  named : AreNamed l.columns;
}
