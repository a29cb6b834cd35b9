use Rattle.std.proofs.Common.{◌∙◌, sym, arith}
use Rattle.q4_machine.proofs.Selecting.{told, shown_first, shown_next, shown_whole, shown_enough}
use Rattle.q4_machine.proofs.select.unowned_rows.Goals as goal

pub loop-alloc-init : goal.loop-alloc-init
loop-alloc-init c = rw c.new-rows.ensures (shown_first 0 c.args.table.now.state.next c.args.table.now.state.rows c.requires.numbers, omega arith, omega arith)

pub returns-in_default : goal.returns-in_default
returns-in_default c =
    let inv = c.loop-alloc.invariant in
    shown_whole 0 c.args.table.now.state.next c.loop-alloc.cursor c.args.most c.args.table.now.state.rows c.loop-alloc.rows c.requires.numbers (sym c.live_from.ensures ∙ c.in_default.is) inv.0 inv.1

pub push_unowned-requires : goal.push_unowned-requires
push_unowned-requires c = (told 0 c.args.table.now.state.next c.loop-alloc.cursor c.in-Some.number c.args.table.now.state.rows c.requires.numbers (sym c.live_from.ensures ∙ c.in-Some.is)).there

pub overflow_add-cursor : goal.overflow_add-cursor
overflow_add-cursor c =
    let found = told 0 c.args.table.now.state.next c.loop-alloc.cursor c.in-Some.number c.args.table.now.state.rows c.requires.numbers (sym c.live_from.ensures ∙ c.in-Some.is) in
    omega (arith, found.before, c.requires.limit)

pub loop-alloc-smaller : goal.loop-alloc-smaller
loop-alloc-smaller c =
    let found = told 0 c.args.table.now.state.next c.loop-alloc.cursor c.in-Some.number c.args.table.now.state.rows c.requires.numbers (sym c.live_from.ensures ∙ c.in-Some.is) in
    omega (arith, found.before, found.from_it, c.requires.limit)

pub loop-alloc-preserved : goal.loop-alloc-preserved
loop-alloc-preserved c =
    let inv = c.loop-alloc.invariant in
    let is = sym c.live_from.ensures ∙ c.in-Some.is in
    let found = told 0 c.args.table.now.state.next c.loop-alloc.cursor c.in-Some.number c.args.table.now.state.rows c.requires.numbers is in
    let next = shown_next 0 c.args.table.now.state.next c.loop-alloc.cursor c.in-Some.number c.args.table.now.state.rows c.loop-alloc.rows c.push_unowned.new.rows c.requires.numbers is inv.0 c.in_ok-push_unowned.ensures.free c.in_ok-push_unowned.ensures.owned in
    (next.shown, omega (arith, next.size, c.len.ensures, c.loop-alloc-test.true), omega (arith, found.before, c.requires.limit))

pub returns : goal.returns
returns c =
    let inv = c.loop-alloc.invariant in
    shown_enough 0 c.args.table.now.state.next c.loop-alloc.cursor c.args.most c.args.table.now.state.rows c.loop-alloc.rows c.requires.numbers inv.0 (omega (arith, inv.1, c.len.ensures, c.loop-alloc-test.false))
