use Rattle.std.proofs.Common.{◌≡◌, ◌+◌, ◌∙◌}
use Rattle.std.proofs.lemmas.Result.{IfOk-weaker}
use Rattle.q4_value.specs.Reading.{Reads}
use Rattle.q4_value.specs.Row.{row_size}
use Rattle.q4_value.specs.Spelling.{optional_count}
use Rattle.q4_value.proofs.Spelled.{length-row_bytes}
use Rattle.q4_value.proofs.ReadingLaws.{read_again}
use Rattle.q4_value.proofs.reading.read_row.Goals as goal

pub returns-clause-size : goal.returns-clause-size
returns-clause-size c = IfOk-weaker c.read_values.result (λ found. Reads c.args.columns.now c.args.bytes.now found.0 found.1) (λ found. found.1 ≡ row_size found.0 + optional_count c.args.columns.now)
    (λ found read. read.len_is ∙ length-row_bytes c.args.columns.now found.0) c.read_values.ensures.read

pub returns-clause-spelled : goal.returns-clause-spelled
returns-clause-spelled c = read_again c.args.columns.now c.args.bytes.now c.read_values.result c.read_values.ensures.read c.read_values.ensures.fault
