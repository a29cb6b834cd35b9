use Rattle.std.proofs.Common.{subst, arith}
use Rattle.q4_proto.specs.Inner.{ReadsValue}
use Rattle.q4_proto.proofs.Values.{first_misspelled, row_more}
use Rattle.q4_proto.proofs.insert.read_values.Goals as goal

pub returns-in_default-2 : goal.returns-in_default-2
returns-in_default-2 c =
    let inv = c.loop-place.invariant in
    let bad = subst (ReadsValue c.index-columns-place.result c.in-Some.field.now) c.in_default-2.is c.in_ok-value.ensures in
    first_misspelled c.args.columns.now c.args.values.now c.loop-place.rest c.next.new.self c.loop-place.row c.index-columns-place.result c.in-Some.field.now c.loop-place.place c.requires.same (omega arith) c.index-columns-place.is inv.0 c.in-Some.ensures.some inv.1 bad

pub loop-place-preserved : goal.loop-place-preserved
loop-place-preserved c =
    let inv = c.loop-place.invariant in
    let good = subst (ReadsValue c.index-columns-place.result c.in-Some.field.now) c.in-Some-2.is c.in_ok-value.ensures in
    rw c.in-Ok.ensures.pushed (row_more c.args.columns.now c.args.values.now c.loop-place.rest c.next.new.self c.loop-place.row c.index-columns-place.result c.in-Some-2.value c.in-Some.field.now c.loop-place.place (omega arith) c.index-columns-place.is inv.0 c.in-Some.ensures.some inv.1 inv.2 good.0 good.1 good.2)
