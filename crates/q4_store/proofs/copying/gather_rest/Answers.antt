use Rattle.std.proofs.Common.{◌==◌, ◌++◌, ℕ, [], ◌∙◌, ap}
use Rattle.q4_record.specs.declared.head.Head.TheVariants as head
use Rattle.q4_record.specs.Record.{record_bytes}
use Rattle.q4_record.specs.Side.{base_at}
use Rattle.q4_store.proofs.Gathering.{gathered_rest}
use Rattle.q4_store.proofs.copying.gather_rest.Goals as goal

pub returns : goal.returns
returns c =
    gathered_rest (c.args.progress.at == base_at) c.args.table.now.state.columns c.args.progress.cursor c.args.table.now.state c.count.result c.args.ends.now c.in_ok-bytes.bytes c.push.new.self c.put_rows.new.out c.put_marks.new.out c.put_next.new.out c.push-2.new.self c.count.ensures
    c.in_ok-bytes.ensures c.in_ok-push.ensures.pushed c.in_ok-put_rows.ensures.put c.in_ok-put_marks.ensures
    (c.in_ok-put_next.ensures.put ∙ ap (λ (n : ℕ). c.put_marks.new.out ++ record_bytes (record { head = head.Next n; columns = []; row = [] })) c.next.ensures) c.in_ok-push-2.ensures.pushed
