use Rattle.std.proofs.Common.{◌≤◌, ◌∙◌, All, Err, length, ap, subst, arith}
use Rattle.q4_proto.specs.declared.keyword.Keyword.TheVariants.{Wait}
use Rattle.q4_proto.specs.Fields.{IsFirst}
use Rattle.q4_proto.specs.Commands.{entries_of, IsOfNoTable}
use Rattle.q4_proto.specs.Inner.{ReadsEntries}
use Rattle.q4_proto.proofs.Waiting.{Passed, none_before, passed_escapes, passed_few, passed_named, entries_fault}
use Rattle.q4_proto.proofs.wait.read_wait.Goals as goal

pub returns-then-count-gt-MOST_ENTRIES : goal.returns-then-count-gt-MOST_ENTRIES
returns-then-count-gt-MOST_ENTRIES c =
    let cut = c.split_seconds-entries in
    let passed : Passed c.args.defs.now c.args.args.now 6 = passed_escapes c.args.defs.now c.args.args.now cut.result.0 _ c.in-Some.seconds cut.ensures.entries cut.ensures.seconds (λ none. c.if-count-eq0.false (c.count-count.ensures ∙ none)) c.in-Some.ensures.found c.in_default-bad_escape.ensures.none in
    record { stands = omega (arith, c.if-count-gt-MOST_ENTRIES.true, c.count-count.ensures, ap length cut.ensures.entries); first = none_before c.args.defs.now c.args.args.now 6 passed }

pub returns-in-Some-unknown_table : goal.returns-in-Some-unknown_table
returns-in-Some-unknown_table c =
    let cut = c.split_seconds-entries in
    let passed : Passed c.args.defs.now c.args.args.now 6 = passed_escapes c.args.defs.now c.args.args.now cut.result.0 _ c.in-Some.seconds cut.ensures.entries cut.ensures.seconds (λ none. c.if-count-eq0.false (c.count-count.ensures ∙ none)) c.in-Some.ensures.found c.in_default-bad_escape.ensures.none in
    let few : length (entries_of c.args.args.now) ≤ 16 = omega (arith, c.if-count-gt-MOST_ENTRIES.false, c.count-count.ensures, ap length cut.ensures.entries) in
    record {
      stands = subst (λ fs. IsFirst (IsOfNoTable c.args.defs.now Wait) fs c.in-Some-unknown_table.field) cut.ensures.entries c.in-Some-unknown_table.ensures.some;
      first = none_before c.args.defs.now c.args.args.now 7 (passed_few c.args.defs.now c.args.args.now passed few);
    }

pub returns-in-Err : goal.returns-in-Err
returns-in-Err c =
    let cut = c.split_seconds-entries in
    let passed : Passed c.args.defs.now c.args.args.now 6 = passed_escapes c.args.defs.now c.args.args.now cut.result.0 _ c.in-Some.seconds cut.ensures.entries cut.ensures.seconds (λ none. c.if-count-eq0.false (c.count-count.ensures ∙ none)) c.in-Some.ensures.found c.in_default-bad_escape.ensures.none in
    let few : length (entries_of c.args.args.now) ≤ 16 = omega (arith, c.if-count-gt-MOST_ENTRIES.false, c.count-count.ensures, ap length cut.ensures.entries) in
    let named = subst (All (λ f. IsOfNoTable c.args.defs.now Wait f → ⊥)) cut.ensures.entries c.in_default-unknown_table.ensures.none in
    entries_fault c.args.defs.now c.args.args.now (passed_named c.args.defs.now c.args.args.now (passed_few c.args.defs.now c.args.args.now passed few) named) c.in-Err.fault (subst (λ fs. ReadsEntries c.args.defs.now fs (Err c.in-Err.fault)) cut.ensures.entries c.in-Err.ensures)
