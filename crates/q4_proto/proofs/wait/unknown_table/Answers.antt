use Rattle.std.proofs.Common.{◌++◌, ◌∷◌, ◌∙◌, [], All, append-nil, ap, sym, subst, arith}
use Rattle.std.proofs.lemmas.List.{length-append}
use Rattle.std.proofs.lemmas.List.Elements.{All-push}
use Rattle.q4_proto.specs.declared.keyword.Keyword.TheVariants.{Wait}
use Rattle.q4_proto.specs.Fields.{IsSpelled}
use Rattle.q4_proto.specs.Commands.{IsOfNoTable}
use Rattle.q4_proto.proofs.Values.{all_at, moved}
use Rattle.q4_proto.proofs.wait.unknown_table.Goals as goal

pub names_table-requires : goal.names_table-requires
names_table-requires c =
    let inv = c.loop-field.invariant in
    all_at IsSpelled c.args.entries.now inv.0 c.next.new.self c.in-Some.field.now c.requires.spelled (inv.1 ∙ ap (λ r. inv.0 ++ r) c.in-Some.ensures.some)

pub loop-field-preserved : goal.loop-field-preserved
loop-field-preserved c =
    let inv = c.loop-field.invariant in
    (inv.0 ++ c.in-Some.field.now ∷ [], moved c.args.entries.now inv.0 c.loop-field.rest c.next.new.self c.in-Some.field.now inv.1 c.in-Some.ensures.some, omega (arith, length-append inv.0 (c.in-Some.field.now ∷ []), inv.2), All-push (λ f. IsOfNoTable c.args.defs.now Wait f → ⊥) inv.0 c.in-Some.field.now inv.3 c.if-not-names_table.ensures.named)

pub returns-clause-none : goal.returns-clause-none
returns-clause-none c =
    let inv = c.loop-field.invariant in
    subst (All (λ f. IsOfNoTable c.args.defs.now Wait f → ⊥)) (sym (inv.1 ∙ ap (λ r. inv.0 ++ r) c.in_default.ensures.none.0 ∙ append-nil inv.0)) inv.3
