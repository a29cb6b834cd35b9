use Rattle.std.proofs.Common.{rules, tests}
use Rattle.std.specs.Str.{bytes_eq}
use Rattle.std.proofs.lemmas.Iterator.{YieldsList-from_slice}
use Rattle.std.proofs.lemmas.Iterator.Search.{any_from_yields_List}
use Rattle.q4_value.specs.declared.column.Column.{Column}
use Rattle.q4_def.proofs.Naming.{says_contains}
use Rattle.q4_def.proofs.reading.has_column.Goals as goal

pub returns : goal.returns
returns c = says_contains (λ (column : Column). column.name) c.args.columns.now c.args.name.now c.any.result
    (any_from_yields_List (λ (column : Column). bytes_eq column.name c.args.name.now) _ _ _ c.any.ensures.ran (YieldsList-from_slice c.args.columns.now cc) (λ x b q called. search (rules, tests)))
