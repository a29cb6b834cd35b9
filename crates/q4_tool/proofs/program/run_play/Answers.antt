use Rattle.std.proofs.Common.{◌≡◌, ◌∷◌, [], List, All, inl, subst, IsTrue}
use Rattle.q4_def.specs.declared.table_def.TableDef.{TableDef}
use Rattle.q4_machine.specs.declared.entry.Entry.{Entry}
use Rattle.q4_machine.specs.History.{definitions_of, IsSettled}
use Rattle.q4_machine.specs.Patience.{PatienceState}
use Rattle.q4_machine.specs.Recorded.{opened_new, entry_limit}
use Rattle.q4_machine.proofs.Opened.{defined_new}
use Rattle.q4_play.specs.Plays.{Play}
use Rattle.q4_tool.specs.Tool.{fresh_patience}
use Rattle.q4_tool.proofs.program.run_play.Goals as goal

pub returns-in-Ok-clause-played : goal.returns-in-Ok-clause-played
returns-in-Ok-clause-played g c =
    let history = c.play-end.new.desk.seen in
    let told = c.history-history.ensures in
    let over = λ (defs : List TableDef) (start : List Entry) (patience : PatienceState). Play (record { defs = defs; limit = entry_limit; caller = 0 })
    (record { seen = start; left = g.S.Source.left c.args.input.now; written = g.W.Sink.written c.args.output.now; patience = patience })
    (record { seen = history; left = g.S.Source.left c.play-end.new.source; written = g.W.Sink.written c.play-end.new.sink; patience = c.play-end.new.patience })
    (IsTrue (g.S.Source.ended c.play-end.new.source)) c.play-end.result in
    inl (record {
      history = history;
      own = record {
        legal = c.play-end.ensures.in_order.legal;
        by_zero = subst (All (λ (e : Entry). e.caller ≡ 0)) told.seen told.sound.by_zero;
        settled = λ place. subst (λ (h : List Entry). IsSettled h place) told.seen (told.settled place);
        owed = c.play-end.ensures.in_order.owed;
      };
      patience = c.play-end.new.patience;
      how = c.play-end.result;
      play = subst (λ (defs : List TableDef). over defs (opened_new c.args.defs ∷ []) fresh_patience) (defined_new c.args.defs)
          (subst (λ (start : List Entry). over (definitions_of start) start fresh_patience) c.in-Ok.ensures.0 (subst (λ (patience : PatienceState). over (definitions_of c.in-Ok.desk.seen) c.in-Ok.desk.seen patience) c.new-patience.ensures c.play-end.ensures.play));
      status_is = c.play_status.ensures;
    })
