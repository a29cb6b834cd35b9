use Rattle.q4_record.proofs.Schemas.{SchemaSoFar}
use Rattle.q4_record.proofs.schema.read_schema.Given as goal

-- the columns that were told so far, how those given stand to them, and what is left
abbrev pub invariant-loop-place : goal.invariant-loop-place
invariant-loop-place l = SchemaSoFar l.format l.fn.columns l.initial.rest l.place l.rest l.so_far
