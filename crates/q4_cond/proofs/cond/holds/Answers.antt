use Rattle.std.proofs.Common.{[], ap, ◌∙◌, arith}
use Rattle.q4_cond.specs.Values.{meets}
use Rattle.q4_cond.specs.Execution.{execute, verdict}
use Rattle.q4_cond.proofs.Meaning.{verdict-execute}
use Rattle.q4_cond.proofs.Operands.{most-few}
use Rattle.q4_cond.proofs.cond.holds.Goals as goal

pub execute-requires-else-cond-le32-clause-room : goal.execute-requires-else-cond-le32-clause-room
execute-requires-else-cond-le32-clause-room c = rw c.as_slice-nodes.ensures.value (omega (arith, most-few c.cond.inside.nodes.items 0, c.cond.invariant.1))

pub returns-then-cond-le4 : goal.returns-then-cond-le4
returns-then-cond-le4 c =
    c.execute.ensures
    ∙ (ap (λ ns. verdict (execute c.args.row.now ns [])) c.as_slice-nodes.ensures.value
    ∙ (verdict-execute c.args.row.now c.cond.inside.nodes.items ∙ ap (λ v. meets c.args.row.now v.tree) c.cond.view_is))

pub returns-then-cond-le32 : goal.returns-then-cond-le32
returns-then-cond-le32 c =
    c.execute-then-cond-le32.ensures
    ∙ (ap (λ ns. verdict (execute c.args.row.now ns [])) c.as_slice-nodes.ensures.value
    ∙ (verdict-execute c.args.row.now c.cond.inside.nodes.items ∙ ap (λ v. meets c.args.row.now v.tree) c.cond.view_is))

pub returns-else-cond-le32 : goal.returns-else-cond-le32
returns-else-cond-le32 c =
    c.execute-else-cond-le32.ensures
    ∙ (ap (λ ns. verdict (execute c.args.row.now ns [])) c.as_slice-nodes.ensures.value
    ∙ (verdict-execute c.args.row.now c.cond.inside.nodes.items ∙ ap (λ v. meets c.args.row.now v.tree) c.cond.view_is))
