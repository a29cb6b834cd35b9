use Rattle.std.proofs.Common.{◌≡◌, ◌++◌, ◌∙◌, length, take, refl, ap, arith, length-append}
use Rattle.std.proofs.lemmas.List.{length-take-le}
use Rattle.q4_flow.proofs.Cutting.{whole_chunk}
use Rattle.q4_flow.proofs.Known.{gave_nothing, gave_more, gave_end}
use Rattle.q4_flow.proofs.all.read_all.Goals as goal

pub loop-bytes-init : goal.loop-bytes-init
loop-bytes-init g c = record {
  size = omega (arith, c.in-Ok.ensures.len, c.in-Ok.piece.ok);
  gave = rw c.new-bytes.ensures (gave_nothing _);
  room = rw c.new-bytes.ensures (omega arith);
  faults = refl;
}

pub returns-in-Ok-eq0-clause-all : goal.returns-in-Ok-eq0-clause-all
returns-in-Ok-eq0-clause-all g c =
    let inv = c.loop-bytes.invariant in
    let is = c.in-Ok-eq0.ensures in
    let end = is.ends.at_end c.in-Ok-eq0.field-0-test (omega arith) in
    let gave = rw c.in-Ok-eq0.field-0-test at is.gave in
    (c.loop-bytes.bytes, gave_end _ _ _ c.loop-bytes.bytes inv.gave gave, (refl, omega (arith, inv.room), end.0, end.1))

pub returns-then-count-room-clause-all : goal.returns-then-count-room-clause-all
returns-then-count-room-clause-all g c =
    let inv = c.loop-bytes.invariant in
    let is = c.in-Ok-read.ensures in
    let given = take c.in-Ok-read.count c.read.new.into in
    let size : length given ≡ c.in-Ok-read.count = length-take-le c.in-Ok-read.count c.read.new.into is.within in
    (c.loop-bytes.bytes ++ given, gave_more _ _ _ c.loop-bytes.bytes given inv.gave is.gave, omega (arith, inv.room, size, length-append c.loop-bytes.bytes given, c.if-count-room.true))

pub returns-in_default-push-clause-all : goal.returns-in_default-push-clause-all
returns-in_default-push-clause-all g c =
    let inv = c.loop-bytes.invariant in
    let is = c.in-Ok-read.ensures in
    let given = take c.in-Ok-read.count c.read.new.into in
    let size : length given ≡ c.in-Ok-read.count = length-take-le c.in-Ok-read.count c.read.new.into is.within in
    (c.loop-bytes.bytes ++ given, gave_more _ _ _ c.loop-bytes.bytes given inv.gave is.gave, omega (arith, inv.room, size, length-append c.loop-bytes.bytes given, c.if-count-room.false))

pub loop-bytes-preserved : goal.loop-bytes-preserved
loop-bytes-preserved g c =
    let inv = c.loop-bytes.invariant in
    let is = c.in-Ok-read.ensures in
    let given = take c.in-Ok-read.count c.read.new.into in
    let same : length c.read.new.into ≡ length c.loop-bytes.piece.items = omega arith in
    let whole = whole_chunk c.loop-bytes.piece.len c.read.new.into c.loop-bytes.piece.items same c.loop-bytes.piece.ok.0 in
    let pushed : c.push.new.self ≡ c.loop-bytes.bytes ++ given =
    c.in-Ok-push.ensures.pushed ∙ ap (λ xs. c.loop-bytes.bytes ++ take c.in-Ok-read.count xs) (c.deref.ensures.value ∙ whole) in
    let size : length given ≡ c.in-Ok-read.count = length-take-le c.in-Ok-read.count c.read.new.into is.within in
    record {
      size = rw whole (same ∙ inv.size);
      gave = rw pushed (gave_more _ _ _ c.loop-bytes.bytes given inv.gave is.gave);
      room = rw pushed (omega (arith, inv.room, size, length-append c.loop-bytes.bytes given, c.if-count-room.false));
      faults = is.cause.stayed ∙ inv.faults;
    }
