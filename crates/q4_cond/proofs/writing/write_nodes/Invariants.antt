use Rattle.std.proofs.Common.{◌≡◌, [], drop, reverse}
use Rattle.q4_cond.specs.Tokens.{names_of}
use Rattle.q4_cond.specs.Shown.{write_nodes}
use Rattle.q4_cond.proofs.writing.write_nodes.Given as goal

abbrev pub invariant-loop-node : goal.invariant-loop-node
invariant-loop-node l = write_nodes (names_of l.columns) (drop l.node-index l.nodes) (reverse l.stack.items) ≡ write_nodes (names_of l.columns) l.nodes []
