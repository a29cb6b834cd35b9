use Rattle.std.proofs.Common.{subst, arith}
use Rattle.std.specs.Str.{IsUtf8}
use Rattle.q4_record.proofs.Extending.{whole_text}
use Rattle.q4_record.proofs.extent.text_extent.Goals as goal

pub returns-in-Ok : goal.returns-in-Ok
returns-in-Ok c = whole_text c.args.bytes.now c.in-Some.rest.now c.in-Some.len c.in-Some.ensures.read c.in-Some.ensures.fits (omega arith) (subst IsUtf8 c.split_at.ensures.front c.in-Ok.ensures.cases.1)
