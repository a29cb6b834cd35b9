use Rattle.std.proofs.Common.{◌++◌, ◌∷◌, ◌∙◌, [], append-nil, ap, sym, refl, arith}
use Rattle.std.proofs.lemmas.List.{length-append}
use Rattle.std.proofs.lemmas.List.Elements.{All-nil, All-cons}
use Rattle.q4_proto.specs.Fields.{IsSpelled}
use Rattle.q4_proto.proofs.Values.{moved, table_bad, value_bad, texts_push, texts_spelled}
use Rattle.q4_proto.proofs.insert.bad_escape.Goals as goal

pub returns-then-not-is_escaped-clause-some : goal.returns-then-not-is_escaped-clause-some
returns-then-not-is_escaped-clause-some c =
    table_bad c.args.args.now c.next.new.self c.in-Some.name.now (sym c.again-rest.ensures ∙ c.in-Some.ensures.some) (λ spelled. c.if-not-is_escaped.ensures.bad spelled.0 spelled.1)

pub loop-field-init : goal.loop-field-init
loop-field-init c = (
  c.in-Some.name.now,
  [],
  sym c.again-rest.ensures ∙ c.in-Some.ensures.some,
  refl,
  All-cons IsSpelled c.in-Some.name.now [] c.if-not-is_escaped.ensures.spelled (All-nil IsSpelled),
)

pub returns-then-not-is_value_escaped-clause-some : goal.returns-then-not-is_value_escaped-clause-some
returns-then-not-is_value_escaped-clause-some c =
    let inv = c.loop-field.invariant in
    value_bad c.args.args.now inv.1 c.next-in-loop-field.new.self inv.0 c.in-Some-next.field.now c.loop-field.place (inv.2 ∙ ap (λ r. inv.0 ∷ inv.1 ++ r) c.in-Some-next.ensures.some) inv.3 inv.4 c.if-not-is_value_escaped.ensures.bad

pub loop-field-preserved : goal.loop-field-preserved
loop-field-preserved c =
    let inv = c.loop-field.invariant in
    let field = c.in-Some-next.field.now in (
      inv.0,
      inv.1 ++ field ∷ [],
      moved c.args.args.now (inv.0 ∷ inv.1) c.loop-field.rest c.next-in-loop-field.new.self field inv.2 c.in-Some-next.ensures.some,
      omega (arith, length-append inv.1 (field ∷ []), inv.3),
      texts_push inv.0 field inv.1 inv.4 c.if-not-is_value_escaped.ensures.spelled,
    )

pub returns-clause-none : goal.returns-clause-none
returns-clause-none c =
    let inv = c.loop-field.invariant in
    texts_spelled c.args.args.now inv.1 inv.0 (inv.2 ∙ ap (λ r. inv.0 ∷ inv.1 ++ r) c.in_default-next.ensures.none.0 ∙ append-nil (inv.0 ∷ inv.1)) inv.4
