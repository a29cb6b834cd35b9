use Rattle.std.proofs.Common.{◌++◌, List, ℕ, ◌∙◌, ap}
use Rattle.q4_record.specs.Record.{record_bytes}
use Rattle.q4_store.specs.Content.{row_ended}
use Rattle.q4_store.proofs.Sealing.{added_unsealed}
use Rattle.q4_store.proofs.batch.Batch.put_end.Goals as goal

pub returns-clause-records : goal.returns-clause-records
returns-clause-records c =
    let more = record_bytes (row_ended c.args.number) in
    added_unsealed c.self.inside.bytes.items more c.spell_end.new.out.items c.seal.new.bytes.items c.self.invariant (c.spell_end.ensures.items ∙ ap (λ (l : List ℕ). l ++ more) c.unseal.ensures.items) c.seal.ensures.items
    ∙ ap (λ w. w.records ++ more) c.self.view_is
