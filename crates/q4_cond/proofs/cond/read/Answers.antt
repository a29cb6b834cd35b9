use Rattle.std.proofs.Common.{◌≡◌, ◌≤◌, length, false, subst, ap, ◌∙◌, arith}
use Rattle.q4_cond.specs.Postfix.{tree_of}
use Rattle.q4_cond.specs.Reading.{first_marked, IsRead, IsAt, IsNoColumn, IsKinds}
use Rattle.q4_cond.specs.Execution.{most_operands}
use Rattle.q4_cond.specs.Marks.{strays}
use Rattle.q4_cond.proofs.Finish.{read_at_end, read_no_column, read_kinds, read_ok, read_invariant, marked_parts}
use Rattle.q4_cond.proofs.cond.read.Goals as goal

pub returns-in_default : goal.returns-in_default
returns-in_default c =
    let bytes = c.as_bytes-bytes.result.now in
    let short : length bytes ≤ 1024 = omega arith in
    subst (λ t. IsAt c.args.columns.now t (length bytes)) c.as_bytes-bytes.ensures.value
    (read_at_end c.args.columns.now bytes _ _ _ short c.in_ok-scan.ensures.scanned (rw c.in_default.is at c.in_ok-nodes.ensures))

pub returns-in-Some-unknown : goal.returns-in-Some-unknown
returns-in-Some-unknown c =
    let bytes = c.as_bytes-bytes.result.now in
    let short : length bytes ≤ 1024 = omega arith in
    subst (λ t. IsNoColumn c.args.columns.now t c.in-Some-unknown.place) c.as_bytes-bytes.ensures.value
    (read_no_column c.args.columns.now bytes _ _ _ c.in-Some.nodes.items c.in-Some-unknown.place short c.in_ok-scan.ensures.scanned (rw c.in-Some.is at c.in_ok-nodes.ensures) c.in-Some-unknown.is)

pub returns-in-Some-first_misplaced : goal.returns-in-Some-first_misplaced
returns-in-Some-first_misplaced c =
    let bytes = c.as_bytes-bytes.result.now in
    let short : length bytes ≤ 1024 = omega arith in
    let o : c.first_misplaced.result ≡ first_marked (strays c.in_ok-kinds.kinds.items false c.in-Some.nodes.items) c.in_ok-scan.scan.atoms.items = marked_parts _ _ _ _ _ _ _ c.first_misplaced.ensures c.deref.ensures.value c.deref-2.ensures.value c.deref-3.ensures.value in
    subst (λ t. IsKinds c.args.columns.now t c.in-Some-first_misplaced.place) c.as_bytes-bytes.ensures.value
    (read_kinds c.args.columns.now bytes _ _ _ c.in-Some.nodes.items c.in_ok-kinds.kinds.items c.first_misplaced.result c.in-Some-first_misplaced.place short c.in_ok-scan.ensures.scanned (rw c.in-Some.is at c.in_ok-nodes.ensures) c.in_default-unknown.is c.in_ok-kinds.ensures o c.in-Some-first_misplaced.is)

pub most_operands-operands-requires : goal.most_operands-operands-requires
most_operands-operands-requires c =
    let bytes = c.as_bytes-bytes.result.now in
    let short : length bytes ≤ 1024 = omega arith in
    rw c.deref-4.ensures.value (read_invariant c.args.columns.now bytes _ _ _ c.in-Some.nodes.items short c.in_ok-scan.ensures.scanned (rw c.in-Some.is at c.in_ok-nodes.ensures)).1

pub invariant_of-result : goal.invariant_of-result
invariant_of-result c =
    let bytes = c.as_bytes-bytes.result.now in
    let short : length bytes ≤ 1024 = omega arith in
    let read = read_invariant c.args.columns.now bytes _ _ _ c.in-Some.nodes.items short c.in_ok-scan.ensures.scanned (rw c.in-Some.is at c.in_ok-nodes.ensures) in
    (read.0, read.1, c.most_operands-operands.ensures.most ∙ ap (λ ns. most_operands ns 0) c.deref-4.ensures.value)

pub returns : goal.returns
returns c =
    let bytes = c.as_bytes-bytes.result.now in
    let short : length bytes ≤ 1024 = omega arith in
    let o : c.first_misplaced.result ≡ first_marked (strays c.in_ok-kinds.kinds.items false c.in-Some.nodes.items) c.in_ok-scan.scan.atoms.items = marked_parts _ _ _ _ _ _ _ c.first_misplaced.ensures c.deref.ensures.value c.deref-2.ensures.value c.deref-3.ensures.value in
    record {
      tree = subst (λ t. IsRead c.args.columns.now t (tree_of c.in-Some.nodes.items)) c.as_bytes-bytes.ensures.value
          (read_ok c.args.columns.now bytes _ _ _ c.in-Some.nodes.items c.in_ok-kinds.kinds.items c.first_misplaced.result short c.in_ok-scan.ensures.scanned (rw c.in-Some.is at c.in_ok-nodes.ensures) c.in_default-unknown.is c.in_ok-kinds.ensures o c.in_default-first_misplaced.is);
      kinds = c.in_ok-kinds.ensures;
    }
