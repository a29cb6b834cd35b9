use Rattle.std.proofs.Common.{sym, ◌∙◌, ap}
use Rattle.q4_table.specs.TableState.{TableState}
use Rattle.q4_record.specs.Replay.{at_batches}
use Rattle.q4_store.proofs.Lifting.{columns_stay}
use Rattle.q4_store.proofs.tests.twin.same_columns.Goals as goal

pub returns : goal.returns
returns g c content s is = s.own ∙ sym (columns_stay (at_batches content.committed) content.pending) ∙ ap (λ (t : TableState). t.columns) is
