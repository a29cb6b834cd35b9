use Rattle.std.proofs.Common.{◌≡◌, sym, ap, ◌∙◌}
use Rattle.std.proofs.lemmas.Bool.Decides.{Decides-like}
use Rattle.q4_cond.proofs.SameTrees.{same-of_nodes}
use Rattle.q4_cond.proofs.cond.Cond.has_tree_of.Goals as goal

pub returns-clause-tested : goal.returns-clause-tested
returns-clause-tested c =
    let here = c.deref.ensures.value in
    let there = c.deref-2.ensures.value in
    same-of_nodes c.same_nodes.result c.self.inside.nodes.items c.other.inside.nodes.items c.args.self.now.tree c.args.other.now.tree
    c.self.invariant.0 c.other.invariant.0 (ap (λ v. v.tree) c.self.view_is) (ap (λ v. v.tree) c.other.view_is)
    (Decides-like c.same_nodes.result (λ e. sym here ∙ (e ∙ there)) (λ e. here ∙ (e ∙ sym there)) c.same_nodes.ensures)
