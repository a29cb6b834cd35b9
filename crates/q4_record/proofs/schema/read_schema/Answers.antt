use Rattle.std.proofs.Common.{◌+◌, refl, sym, subst, ◌∙◌, arith}
use Rattle.q4_record.specs.Schema.{OtherSchema}
use Rattle.q4_record.proofs.Schemas.{SchemaSoFar, no_schema, one_more_told, less_schema}
use Rattle.q4_record.proofs.schema.read_schema.Goals as goal

pub returns-in_default-read_column-clause-fault : goal.returns-in_default-read_column-clause-fault
returns-in_default-read_column-clause-fault c = (
  refl,
  λ others rest is e. no_schema c.args.format c.args.columns c.in-Some.told.now c.in-Some.count c.loop-place.place c.loop-place.rest.now c.loop-place.so_far c.loop-place.invariant c.loop-place-test.true c.in_default-read_column.ensures.none others rest is (sym c.in-Some.ensures.read ∙ e),
)

pub loop-place-preserved : goal.loop-place-preserved
loop-place-preserved c =
    one_more_told c.args.format c.args.columns c.in-Some.told.now c.loop-place.place c.loop-place.rest.now c.loop-place.so_far _ c.in-Some-read_column.after.now c.tell.new.self c.loop-place.invariant c.in-Some-read_column.ensures.name c.in-Some-read_column.ensures.may c.in-Some-read_column.ensures.read c.in_ok-tell.ensures

pub returns-then-count-len-clause-fault : goal.returns-then-count-len-clause-fault
returns-then-count-len-clause-fault c =
    subst (λ bs. OtherSchema c.args.format c.args.columns bs (c.in-Some.count + 1)) (sym c.in-Some.ensures.read)
    (less_schema c.args.format c.args.columns c.in-Some.told.now c.in-Some.count c.loop-place.rest.now c.loop-place.so_far (subst (λ n. SchemaSoFar c.args.format c.args.columns c.in-Some.told.now n c.loop-place.rest.now c.loop-place.so_far) (omega arith) c.loop-place.invariant) c.in-None.is c.in-Some.ensures.fits (omega (arith, c.if-count-len.true, c.len.ensures)))
