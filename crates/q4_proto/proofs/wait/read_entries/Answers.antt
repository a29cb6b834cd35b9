use Rattle.std.proofs.Common.{rules, ◌≡◌, ◌≢◌, ◌++◌, ◌∷◌, ◌∙◌, [], ap, sym, subst, arith}
use Rattle.std.proofs.lemmas.List.{length-append}
use Rattle.std.proofs.lemmas.List.Elements.{All-push}
use Rattle.q4_cond.specs.declared.fault.CondFault.{CondFault}
use Rattle.q4_cond.specs.declared.fault.CondFault.TheVariants.{Memory as CondMemory}
use Rattle.q4_proto.specs.declared.keyword.Keyword.TheVariants.{Wait}
use Rattle.q4_proto.specs.Fields.{IsSpelled}
use Rattle.q4_proto.specs.Commands.{SpellEntries, IsOfNoTable, EntryFails}
use Rattle.q4_proto.proofs.Values.{all_at, moved}
use Rattle.q4_proto.proofs.Waiting.{spell_more, if_ok}
use Rattle.q4_proto.proofs.wait.read_entries.Goals as goal

pub read_entry-requires-clause-spelled : goal.read_entry-requires-clause-spelled
read_entry-requires-clause-spelled c =
    let inv = c.loop-field.invariant in
    all_at IsSpelled c.args.entries.now inv.0 c.next.new.self c.in-Some.field.now c.requires.spelled (inv.1 ∙ ap (λ r. inv.0 ++ r) c.in-Some.ensures.some)

pub read_entry-requires-clause-named : goal.read_entry-requires-clause-named
read_entry-requires-clause-named c =
    let inv = c.loop-field.invariant in
    all_at (λ f. IsOfNoTable c.args.defs.now Wait f → ⊥) c.args.entries.now inv.0 c.next.new.self c.in-Some.field.now c.requires.named (inv.1 ∙ ap (λ r. inv.0 ++ r) c.in-Some.ensures.some)

pub returns-in-Err : goal.returns-in-Err
returns-in-Err c =
    let inv = c.loop-field.invariant in
    let told : c.in-Err.fault ≢ CondMemory = search rules in
    let fails = c.in-Err.ensures told in
    record {
      first = record {
        before = inv.0;
        found = c.in-Some.field.now;
        after = c.next.new.self;
        cut = inv.1 ∙ ap (λ r. inv.0 ++ r) c.in-Some.ensures.some;
        place_is = omega (arith, inv.2);
        none_before = inv.4;
        holds = (c.in-Err.fault, fails);
      };
      fails = fails;
    }

pub loop-field-preserved : goal.loop-field-preserved
loop-field-preserved c =
    let inv = c.loop-field.invariant in
    let read = c.in-Ok.ensures in
    let pushed : c.push.new.self ≡ c.loop-field.list ++ c.in-Ok.listed ∷ [] = if_ok c.push.result _ (sym c.is_err.ensures.value ∙ c.if-is_err.false) c.push.ensures.pushed in (
      inv.0 ++ c.in-Some.field.now ∷ [],
      moved c.args.entries.now inv.0 c.loop-field.rest c.next.new.self c.in-Some.field.now inv.1 c.in-Some.ensures.some,
      omega (arith, length-append inv.0 (c.in-Some.field.now ∷ []), inv.2),
      subst (SpellEntries c.args.defs.now (inv.0 ++ c.in-Some.field.now ∷ [])) (sym pushed) (spell_more c.args.defs.now inv.0 c.loop-field.list c.in-Some.field.now c.in-Ok.listed inv.3 read.0),
      All-push (λ f. ((why : CondFault) × EntryFails c.args.defs.now f why) → ⊥) inv.0 c.in-Some.field.now inv.4 (λ fails. read.1 fails.0 fails.1),
    )
