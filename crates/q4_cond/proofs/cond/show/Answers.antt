use Rattle.std.proofs.Common.{◌≡◌, ◌≤◌, ℕ, List, length, sym, ap, ◌∙◌, subst}
use Rattle.q4_cond.specs.Tokens.{names_of}
use Rattle.q4_cond.specs.Reading.{IsRead}
use Rattle.q4_cond.specs.Shown.{condition_text}
use Rattle.q4_cond.proofs.Showing.{of_words}
use Rattle.q4_cond.proofs.Rereading.{nodes_written}
use Rattle.q4_cond.proofs.cond.show.Goals as goal

pub unreachable-requires : goal.unreachable-requires
unreachable-requires c =
    let tree = c.args.cond.now.tree in
    let w = nodes_written c.args.columns.now tree c.as_slice.result.now _ c.cond.inside.nodes.items c.requires (c.as_slice.ensures ∙ c.in_ok-bytes.ensures) c.deref.ensures.value (ap (λ v. v.tree) c.cond.view_is) in
    c.in_default.ensures.cases.0 w.shown.utf8

pub returns-clause-text : goal.returns-clause-text
returns-clause-text c =
    let tree = c.args.cond.now.tree in
    let w = nodes_written c.args.columns.now tree c.as_slice.result.now _ c.cond.inside.nodes.items c.requires (c.as_slice.ensures ∙ c.in_ok-bytes.ensures) c.deref.ensures.value (ap (λ v. v.tree) c.cond.view_is) in
    let P = λ (words : List ℕ). words ≡ condition_text (names_of c.args.columns.now) tree in
    of_words P _ c.new.result (c.in-Ok.ensures.cases.0 ∙ w.is) c.new.ensures

pub returns-clause-reads_back : goal.returns-clause-reads_back
returns-clause-reads_back c =
    let tree = c.args.cond.now.tree in
    let w = nodes_written c.args.columns.now tree c.as_slice.result.now _ c.cond.inside.nodes.items c.requires (c.as_slice.ensures ∙ c.in_ok-bytes.ensures) c.deref.ensures.value (ap (λ v. v.tree) c.cond.view_is) in
    let P = λ (words : List ℕ). IsRead c.args.columns.now words tree in
    of_words P _ c.new.result (subst P (sym c.in-Ok.ensures.cases.0) w.shown.reads) c.new.ensures

pub returns-clause-no_longer : goal.returns-clause-no_longer
returns-clause-no_longer c =
    let tree = c.args.cond.now.tree in
    let w = nodes_written c.args.columns.now tree c.as_slice.result.now _ c.cond.inside.nodes.items c.requires (c.as_slice.ensures ∙ c.in_ok-bytes.ensures) c.deref.ensures.value (ap (λ v. v.tree) c.cond.view_is) in
    let P = λ (words : List ℕ). (text : List ℕ) → IsRead c.args.columns.now text tree → length words ≤ length text in
    of_words P _ c.new.result (subst P (sym c.in-Ok.ensures.cases.0) w.shown.least) c.new.ensures
