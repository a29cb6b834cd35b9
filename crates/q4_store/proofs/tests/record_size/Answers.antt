use Rattle.std.proofs.Common.{◌≡◌, ◌≤◌, ◌+◌, ◌^◌, ◌<◌, List, length, not, refl, arith, rules}
use Rattle.std.proofs.lemmas.List.Filters.{length-filter_both}
use Rattle.q4_value.specs.declared.column.Column.{Column}
use Rattle.q4_value.specs.Spelling.{optional_count}
use Rattle.q4_store.proofs.tests.record_size.Goals as goal

few_optional : (columns : List Column) → optional_count columns ≤ length columns
few_optional columns = omega (arith, length-filter_both (λ (c : Column). c.optional) (λ (c : Column). not c.optional) (λ c. refl) columns)

pub overflow_add-result-in-None : goal.overflow_add-result-in-None
overflow_add-result-in-None c =
    let few : c.optional_count-flags.result ≤ 32 = omega (arith, few_optional c.args.columns.now, c.optional_count-flags.ensures, c.requires.few) in
    let small : c.row_size.result < 2 ^ 31 = omega (arith, c.row_size.ensures, c.requires.size) in
    search rules

pub overflow_add-result-in-Some-2 : goal.overflow_add-result-in-Some-2
overflow_add-result-in-Some-2 c =
    let few : c.optional_count-flags.result ≤ 32 = omega (arith, few_optional c.args.columns.now, c.optional_count-flags.ensures, c.requires.few) in
    let small : c.row_size-in-Some.result < 2 ^ 31 = omega (arith, c.row_size-in-Some.ensures, c.requires.size) in
    search rules

pub returns-in-None-clause-small : goal.returns-in-None-clause-small
returns-in-None-clause-small c =
    let few : c.optional_count-flags.result ≤ 32 = omega (arith, few_optional c.args.columns.now, c.optional_count-flags.ensures, c.requires.few) in
    let small : c.row_size.result < 2 ^ 31 = omega (arith, c.row_size.ensures, c.requires.size) in
    omega (arith, few, small)

pub returns-in-Some-clause-small : goal.returns-in-Some-clause-small
returns-in-Some-clause-small c =
    let few : c.optional_count-flags.result ≤ 32 = omega (arith, few_optional c.args.columns.now, c.optional_count-flags.ensures, c.requires.few) in
    let small : c.row_size-in-Some.result < 2 ^ 31 = omega (arith, c.row_size-in-Some.ensures, c.requires.size) in
    omega (arith, few, small)
