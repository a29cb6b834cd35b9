use Rattle.std.proofs.Common.{◌≡◌, ◌∙◌, ◌+◌, Some, None, drop, sym, ap, subst, arith}
use Rattle.q4_table.specs.Cursors.{begin_of}
use Rattle.q4_table.specs.Oldest.{IsAsked}
use Rattle.q4_machine.specs.Machine.{table_at}
use Rattle.q4_machine.specs.Kept.{TablesView, kept_at, kept_after}
use Rattle.q4_machine.specs.Pick.{pick_from, asked_from}
use Rattle.q4_machine.proofs.Picks.{listed_oldest}
use Rattle.q4_machine.proofs.Asking.{rest_at, moved_to, passed, stops}
use Rattle.q4_machine.proofs.machine.oldest_listed.Goals as goal

pub returns-in-Some-clause-asked : goal.returns-in-Some-clause-asked
returns-in-Some-clause-asked g c =
    let inv = c.loop-i.invariant in
    let tables = c.args.tables.now.tables in
    let list = c.args.list.now in
    let l = c.index-list-i.result in
    let kept = c.loop-i.tables.kept in
    let cut = rest_at list c.loop-i.i l (omega (arith, c.loop-i-test.true)) c.index-list-i.is in
    let found = c.in-Some.ensures.oldest ∙ ap (λ ts. listed_oldest ts l) inv.tables in
    let moved = ap (λ (v : TablesView). v.kept) c.in-Some.ensures.moved ∙ ap (λ ts. moved_to ts l (Some c.in-Some.number) kept) inv.tables in
    let here = stops tables (c.loop-i.i + 1) (drop c.loop-i.i list) (drop (c.loop-i.i + 1) list) l c.in-Some.number kept c.oldest.new.self.kept cut found moved in
    let asked = subst (λ ts. IsAsked (table_at ts l.table).rows (begin_of (kept_at kept l.table) l.cond.tree) (Some c.in-Some.number) c.loop-i.steps c.oldest.new.steps) inv.tables c.in-Some.ensures.asked in
    omega (arith, here.asked, asked, inv.asked)

pub loop-i-preserved : goal.loop-i-preserved
loop-i-preserved g c =
    let inv = c.loop-i.invariant in
    let tables = c.args.tables.now.tables in
    let list = c.args.list.now in
    let l = c.index-list-i.result in
    let kept = c.loop-i.tables.kept in
    let cut = rest_at list c.loop-i.i l (omega (arith, c.loop-i-test.true)) c.index-list-i.is in
    let none = c.in_default.ensures.oldest ∙ ap (λ ts. listed_oldest ts l) inv.tables in
    let moved = ap (λ (v : TablesView). v.kept) c.in_default.ensures.moved ∙ ap (λ ts. moved_to ts l None kept) inv.tables in
    let here = passed tables (c.loop-i.i + 1) (drop c.loop-i.i list) (drop (c.loop-i.i + 1) list) l kept c.oldest.new.self.kept cut none moved in
    let asked = subst (λ ts. IsAsked (table_at ts l.table).rows (begin_of (kept_at kept l.table) l.cond.tree) None c.loop-i.steps c.oldest.new.steps) inv.tables c.in_default.ensures.asked in
    record {
      none = inv.none ∙ here.pick;
      tables = ap (λ (v : TablesView). v.tables) c.in_default.ensures.moved ∙ inv.tables;
      kept = inv.kept ∙ here.kept_is;
      asked = omega (arith, here.asked, asked, inv.asked);
    }
