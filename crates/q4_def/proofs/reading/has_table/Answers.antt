use Rattle.std.proofs.Common.{rules, tests}
use Rattle.std.specs.Str.{bytes_eq}
use Rattle.std.proofs.lemmas.Iterator.{YieldsList-from_slice}
use Rattle.std.proofs.lemmas.Iterator.Search.{any_from_yields_List}
use Rattle.q4_def.specs.declared.table_def.TableDef.{TableDef}
use Rattle.q4_def.proofs.Naming.{says_contains}
use Rattle.q4_def.proofs.reading.has_table.Goals as goal

pub returns : goal.returns
returns c = says_contains (λ (def : TableDef). def.name) c.args.defs.now c.args.name.now c.any.result
    (any_from_yields_List (λ (def : TableDef). bytes_eq def.name c.args.name.now) _ _ _ c.any.ensures.ran (YieldsList-from_slice c.args.defs.now cc) (λ x b q called. search (rules, tests)))
