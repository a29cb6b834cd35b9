use Rattle.std.proofs.Common.{refl}
use Rattle.q4_def.proofs.reading.read_column.Goals as goal

pub returns-then-has_column-clause-cause : goal.returns-then-has_column-clause-cause
returns-then-has_column-clause-cause c =
    let parts = c.in_ok-name.ensures in (
      refl,
      refl,
      record {
        column = record { name = c.in_ok-name.name.now; kind = c.in_ok-name.kind; optional = c.in_ok-name.optional };
        is_column = parts.column;
        named = parts.named;
        repeated = c.has_column.ensures.0 c.if-has_column.true;
      },
    )
