use Rattle.std.proofs.Common.{false, refl, sym, subst}
use Rattle.q4_value.specs.declared.row.Value.TheVariants.{Int}
use Rattle.q4_record.specs.Extents.{WholeValue}
use Rattle.q4_record.proofs.Extending.{whole_number}
use Rattle.q4_record.proofs.extent.value_extent.Goals as goal

pub returns-in-Some : goal.returns-in-Some
returns-in-Some c =
    subst (λ k. WholeValue k c.args.bytes.now 8 false) (sym c.in-Int.is) (whole_number c.args.bytes.now (Int c.in-Some.field-0.0) c.in-Some.field-0.1.now refl c.in-Some.ensures.fits c.in-Some.ensures.read)
