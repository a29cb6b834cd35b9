use Rattle.std.proofs.Common.{◌≡◌, ◌<◌, ◌∷◌, ◌∙◌, [], length, take, get_or, sym, ap, subst, arith}
use Rattle.std.specs.List.{flat_map}
use Rattle.std.specs.Option.{option_copied}
use Rattle.std.proofs.lemmas.Option.{get_or_from_slice_get}
use Rattle.q4_proto.specs.Text.{tab_value}
use Rattle.q4_proto.specs.Commands.{spelled_value}
use Rattle.q4_proto.specs.Pieces.{Writing, writing, Puts}
use Rattle.q4_proto.proofs.Writing.{put_then, flat_next}
use Rattle.q4_proto.proofs.rows.put_values.Goals as goal

pub loop-place-preserved : goal.loop-place-preserved
loop-place-preserved g c =
    let row = c.args.row.now in
    let place = c.loop-place.place in
    let value = c.in-Some.value.now in
    let is : value ≡ get_or row place value = sym (get_or_from_slice_get row place value value (sym c.at.ensures ∙ ap option_copied c.in-Some.is)) in
    let inside : place < length row = omega (arith, c.loop-place-test.true, c.len-place-end.ensures) in
    let first : Writing = writing (g.W.Sink.written c.args.sink.now) (g.W.Sink.faults c.args.sink.now) c.args.reply.now in
    let before : Writing = writing (g.W.Sink.written c.loop-place.sink) (g.W.Sink.faults c.loop-place.sink) c.loop-place.reply in
    let tab : Writing = writing (g.W.Sink.written c.put.new.sink) (g.W.Sink.faults c.put.new.sink) c.put.new.self in
    let after : Writing = writing (g.W.Sink.written c.put_value.new.sink) (g.W.Sink.faults c.put_value.new.sink) c.put_value.new.reply in
    subst (Puts first after) (sym (flat_next tab_value row place value inside is))
    (put_then first before after (flat_map tab_value (take place row)) (tab_value value) c.loop-place.invariant (put_then before tab after (9 ∷ []) (spelled_value value) c.put.ensures c.put_value.ensures))
