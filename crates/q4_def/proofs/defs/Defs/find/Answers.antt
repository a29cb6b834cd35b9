use Rattle.std.proofs.Common.{◌<◌, length, arith, sym, ap, ◌∙◌}
use Rattle.std.proofs.lemmas.Slice.Eq.{bytes_eq-Decides}
use Rattle.q4_def.specs.declared.table_def.TableDef.{TableDef}
use Rattle.q4_def.proofs.Naming.{name_at, contains_no}
use Rattle.q4_def.proofs.defs.Defs.find.Goals as goal

pub returns-then-eq-clause-found : goal.returns-then-eq-clause-found
returns-then-eq-clause-found c =
    let same = (bytes_eq-Decides c.as_str.result.now c.args.name.now).0 (sym c.eq.ensures ∙ c.if-eq.true) in
    let within : c.loop-place.place < length c.self.inside.tables.items = omega (arith, c.loop-place-test.true, c.len-place-end.ensures.count, ap length c.self.view_is) in
    rw (← c.self.view_is) (name_at (λ (def : TableDef). def.name) c.self.inside.tables.items c.loop-place.place c.index.result.now c.args.name.now within c.index.ensures (sym c.as_str.ensures ∙ same))

pub returns-clause-none : goal.returns-clause-none
returns-clause-none c =
    contains_no (λ (def : TableDef). def.name) c.args.self.now c.args.name.now (λ k d within. c.loop-place.invariant k d (omega (arith, within, c.loop-place-test.false, c.len-place-end.ensures.count)))
