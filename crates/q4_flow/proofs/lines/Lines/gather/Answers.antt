use Rattle.std.proofs.Common.{◌≡◌, ◌≤◌, ◌++◌, ◌∙◌, [], length, sym, subst, ap, arith, take, append-nil}
use Rattle.q4_flow.specs.Lines.{IsOneLine}
use Rattle.std.proofs.lemmas.List.{length-take-le}
use Rattle.q4_flow.proofs.Cutting.{gathered_line, gathered_all, too_long, no_range, whole_chunk, more_bytes, range_from_zero}
use Rattle.q4_flow.proofs.Known.{gave_more}
use Rattle.q4_flow.proofs.lines.Lines.gather.Goals as goal

pub returns-then-len-lt-LINE_LIMIT-clause-cut : goal.returns-then-len-lt-LINE_LIMIT-clause-cut
returns-then-len-lt-LINE_LIMIT-clause-cut g c =
    let inv = c.loop-at.invariant in
    let nothing = no_range c.loop-at.self-inside.chunk.items c.loop-at.self-inside.line_from c.loop-at.self-inside.line_until inv.line_from inv.line_until in
    let appended = rw c.deref.ensures.value at c.in-Some.ensures in
    let line = gathered_line c.loop-at.self-inside.chunk.items (c.args.self.now.pending ++ inv.taken) c.loop-at.self-inside.carried.items c.append_line.new.line.items c.loop-at.self-inside.from c.loop-at.self-inside.until c.in-Some.at inv.so_far inv.one_line appended in
    (inv.taken, inv.gave, rw (nothing, append-nil) (line.0, (line.1, omega arith)))

pub returns-in-Some-clause-cut : goal.returns-in-Some-clause-cut
returns-in-Some-clause-cut g c =
    let inv = c.loop-at.invariant in
    let appended = rw c.deref.ensures.value at c.in-Some.ensures in
    let line = gathered_line c.loop-at.self-inside.chunk.items (c.args.self.now.pending ++ inv.taken) c.loop-at.self-inside.carried.items c.append_line.new.line.items c.loop-at.self-inside.from c.loop-at.self-inside.until c.in-Some.at inv.so_far inv.one_line appended in
    (inv.taken, inv.gave, too_long _ _ _ line.0 line.1 (omega arith))

pub returns-then-len-ge-LINE_LIMIT-clause-cut : goal.returns-then-len-ge-LINE_LIMIT-clause-cut
returns-then-len-ge-LINE_LIMIT-clause-cut g c =
    let inv = c.loop-at.invariant in
    let appended = rw c.deref.ensures.value at c.in-None.ensures in
    let line = gathered_all c.loop-at.self-inside.chunk.items (c.args.self.now.pending ++ inv.taken) c.loop-at.self-inside.carried.items c.append_line.new.line.items c.loop-at.self-inside.from c.loop-at.self-inside.until inv.so_far inv.one_line appended in
    (inv.taken, inv.gave, too_long _ _ [] (line.0 ∙ sym (append-nil c.append_line.new.line.items)) line.1 (omega arith))

pub loop-at-preserved : goal.loop-at-preserved
loop-at-preserved g c =
    let inv = c.loop-at.invariant in
    let same : length c.read.new.into ≡ length c.loop-at.self-inside.chunk.items = omega arith in
    let whole = whole_chunk c.loop-at.self-inside.chunk.len c.read.new.into c.loop-at.self-inside.chunk.items same c.loop-at.self-inside.chunk.ok.0 in
    let appended = rw c.deref.ensures.value at c.in-None.ensures in
    let line = gathered_all c.loop-at.self-inside.chunk.items (c.args.self.now.pending ++ inv.taken) c.loop-at.self-inside.carried.items c.append_line.new.line.items c.loop-at.self-inside.from c.loop-at.self-inside.until inv.so_far inv.one_line appended in
    let short : length (take c.in-Ok.count c.read.new.into) ≤ 65536 =
    let size = length-take-le c.in-Ok.count c.read.new.into c.in-Ok.ensures.within in
    omega (arith, size, same, inv.size, c.in-Ok.ensures.within) in
    let fewer = c.in-Ok.ensures.costs (omega arith) in
    record {
      inside = omega arith;
      within = rw whole c.in-Ok.ensures.within;
      size = rw whole (same ∙ inv.size);
      line_from = inv.line_from;
      line_until = inv.line_until;
      stopped = inv.stopped;
      taken = inv.taken ++ take c.in-Ok.count c.read.new.into;
      gave = gave_more _ _ _ inv.taken (take c.in-Ok.count c.read.new.into) inv.gave c.in-Ok.ensures.gave;
      so_far = more_bytes c.args.self.now.pending inv.taken c.has_room-in-loop-at.new.line.items c.read.new.into _ c.in-Ok.count (line.0 ∙ sym c.has_room-in-loop-at.ensures.items) whole;
      one_line = subst IsOneLine (sym c.has_room-in-loop-at.ensures.items) line.1;
      room = let room = c.if-not-has_room-2.ensures.room cc in let items = ap length c.has_room-in-loop-at.ensures.items in omega (arith, room, items);
      costs = rw (whole, range_from_zero) (omega (arith, inv.costs, short, fewer));
      faults = c.in-Ok.ensures.cause.stayed ∙ inv.faults;
    }
