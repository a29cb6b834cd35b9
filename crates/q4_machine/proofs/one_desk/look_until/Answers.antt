use Rattle.std.proofs.Common.{◌≡◌, ◌∙◌, List, All, Some, refl, sym, ap, subst, inr}
use Rattle.q4_machine.specs.declared.entry.Call.TheVariants.{Sync}
use Rattle.q4_machine.specs.declared.entry.Reply.TheVariants.{Done}
use Rattle.q4_machine.specs.declared.looks.Listed.{Listed}
use Rattle.q4_machine.specs.declared.session.SessionMode.TheVariants.{NonOwner}
use Rattle.q4_machine.specs.Definitions.{IsListed}
use Rattle.q4_machine.specs.Machine.{MachineState, mode_of}
use Rattle.q4_machine.specs.History.{state_after, definitions_of}
use Rattle.q4_machine.specs.Kept.{KeepSame}
use Rattle.q4_machine.specs.Recorded.{Recorded, HasRoom, pushed}
use Rattle.q4_machine.proofs.Desks.{room_pushed}
use Rattle.q4_machine.proofs.Keeping.{still_same}
use Rattle.q4_machine.proofs.Pausing.{Settling, owes_still, state_synced, asked_more, spent_same}
use Rattle.q4_machine.proofs.one_desk.look_until.Goals as goal

pub loop-place-preserved-then-owes-2 : goal.loop-place-preserved-then-owes-2
loop-place-preserved-then-owes-2 g c =
    let inv = c.loop-place.invariant in
    let waits = c.in-Err.ensures.waits in
    let still = owes_still c.args.recorded.now.log c.loop-place.recorded.log c.args.session c.loop-place.owes c.args.owes inv.settled c.if-owes-2.true in
    let start : c.look.new.self.log ≡ c.args.recorded.now.log = waits.0 ∙ still.0 in
    let made : c.sync-then-owes-2.new.self.log ≡ pushed c.args.recorded.now.log c.args.session Sync Done = c.sync-then-owes-2.ensures.synced ∙ ap (λ (r : Recorded). pushed r c.args.session Sync Done) start in
    let defined : definitions_of c.sync-then-owes-2.new.self.log.seen ≡ definitions_of c.args.recorded.now.log.seen = c.sync-then-owes-2.ensures.defined ∙ ap (λ (r : Recorded). definitions_of r.seen) start in
    record {
      settled = inr (made, refl, still.1);
      room = room_pushed c.args.recorded.now.log c.sync-then-owes-2.new.self.log c.args.session Sync Done 2 c.requires.room made;
      is_open = c.sync-then-owes-2.ensures.is_open;
      mode = ap (λ (r : Recorded). mode_of (state_after r.seen) c.args.session) made ∙ ap (λ (m : MachineState). mode_of m c.args.session) (state_synced c.args.recorded.now.log.seen c.args.session) ∙ c.requires.mode;
      listed = subst (λ (list : List Listed). All (IsListed (definitions_of c.sync-then-owes-2.new.self.log.seen)) list) (sym (waits.1 ∙ inv.list)) (subst (λ defs. All (IsListed defs) c.args.list) (sym defined) c.requires.listed);
      defined = defined;
      list = waits.1 ∙ inv.list;
      kept = subst (KeepSame c.args.recorded.now.kept) (sym c.sync-then-owes-2.ensures.cursors) (still_same c.args.recorded.now.kept c.loop-place.recorded.kept c.look.new.self.kept (state_after c.loop-place.recorded.log.seen).tables c.loop-place.list inv.kept c.look.ensures.cursors);
      given = c.over-over.ensures.given ∙ inv.given;
      starts = c.over-over.ensures.starts ∙ inv.starts;
      limit = c.over-over.ensures.limit ∙ inv.limit;
      asks = asked_more (g.P.Patience.state c.args.patience.now) (g.P.Patience.state c.loop-place.patience) (g.P.Patience.state c.over-over.new.self) c.over-over.result c.over-over.ensures inv.asks;
      spent = spent_same (g.P.Patience.state c.args.patience.now) (g.P.Patience.state c.loop-place.patience) (g.P.Patience.state c.over-over.new.self) c.over-over.result c.over-over.ensures waits.2 inv.spent;
    }

pub loop-place-preserved : goal.loop-place-preserved
loop-place-preserved g c =
    let inv = c.loop-place.invariant in
    let waits = c.in-Err.ensures.waits in
    record {
      settled = subst (λ (r : Recorded). Settling c.args.recorded.now.log r c.args.session c.loop-place.owes c.args.owes) (sym waits.0) inv.settled;
      room = subst (λ (r : Recorded). HasRoom r 2) (sym waits.0) inv.room;
      is_open = c.look.ensures.is_open;
      mode = subst (λ (r : Recorded). mode_of (state_after r.seen) c.args.session ≡ Some NonOwner) (sym waits.0) inv.mode;
      listed = subst (λ (r : Recorded). All (IsListed (definitions_of r.seen)) c.in-Err.back) (sym waits.0) (subst (λ (list : List Listed). All (IsListed (definitions_of c.loop-place.recorded.log.seen)) list) (sym waits.1) inv.listed);
      defined = c.look.ensures.defined ∙ inv.defined;
      list = waits.1 ∙ inv.list;
      kept = still_same c.args.recorded.now.kept c.loop-place.recorded.kept c.look.new.self.kept (state_after c.loop-place.recorded.log.seen).tables c.loop-place.list inv.kept c.look.ensures.cursors;
      given = c.over-over.ensures.given ∙ inv.given;
      starts = c.over-over.ensures.starts ∙ inv.starts;
      limit = c.over-over.ensures.limit ∙ inv.limit;
      asks = asked_more (g.P.Patience.state c.args.patience.now) (g.P.Patience.state c.loop-place.patience) (g.P.Patience.state c.over-over.new.self) c.over-over.result c.over-over.ensures inv.asks;
      spent = spent_same (g.P.Patience.state c.args.patience.now) (g.P.Patience.state c.loop-place.patience) (g.P.Patience.state c.over-over.new.self) c.over-over.result c.over-over.ensures waits.2 inv.spent;
    }

pub returns-then-owes-clause-kept : goal.returns-then-owes-clause-kept
returns-then-owes-clause-kept g c =
    subst (KeepSame c.args.recorded.now.kept) (sym c.sync.ensures.cursors)
    (still_same c.args.recorded.now.kept c.loop-place.recorded.kept c.look.new.self.kept (state_after c.loop-place.recorded.log.seen).tables c.loop-place.list c.loop-place.invariant.kept c.look.ensures.cursors)

pub returns-else-owes-clause-kept : goal.returns-else-owes-clause-kept
returns-else-owes-clause-kept g c =
    still_same c.args.recorded.now.kept c.loop-place.recorded.kept c.look.new.self.kept (state_after c.loop-place.recorded.log.seen).tables c.loop-place.list c.loop-place.invariant.kept c.look.ensures.cursors
