use Rattle.std.proofs.Common.{◌∙◌, take, drop, sym, ap, arith}
use Rattle.std.proofs.lemmas.List.{take-append-drop}
use Rattle.q4_machine.specs.Kept.{TablesView, KeepsSome}
use Rattle.q4_machine.proofs.Keeping.{keep_more, where_refused}
use Rattle.q4_machine.proofs.machine.keep_listed.Goals as goal

pub returns-in_err-keep-clause-refused : goal.returns-in_err-keep-clause-refused
returns-in_err-keep-clause-refused c =
    let i = c.loop-listed.listed-index in
    where_refused (KeepsSome c.args.list.now c.args.tables.now.kept c.keep.new.self.kept) c.from_residual.result (record {
      front = take i c.args.list.now;
      back = drop i c.args.list.now;
      cut = sym (take-append-drop i c.args.list.now);
      kept_is = ap (λ (v : TablesView). v.kept) c.in_err-keep.ensures.unchanged ∙ c.loop-listed.invariant.kept;
    })

pub loop-listed-preserved : goal.loop-listed-preserved
loop-listed-preserved c =
    let inv = c.loop-listed.invariant in
    record {
      tables = ap (λ (v : TablesView). v.tables) c.in_ok-keep.ensures.kept ∙ inv.tables;
      kept = ap (λ (v : TablesView). v.kept) c.in_ok-keep.ensures.kept
          ∙ keep_more c.args.list.now c.loop-listed.listed-index c.listed-item.result c.args.tables.now.kept c.loop-listed.tables.kept (omega (arith, c.loop-listed-test.true)) c.listed-item.is inv.kept;
    }
