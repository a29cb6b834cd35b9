use Rattle.std.proofs.Common.{◌≡◌, ◌-◌, List, ℕ, [], ◌∷◌, ◌++◌, length, ◌∙◌, ap, arith, length-append}
use Rattle.q4_record.specs.Written.{base_bytes}
use Rattle.q4_store.specs.Looking.{header_bytes}
use Rattle.q4_store.proofs.Drafts.{gathered_base}
use Rattle.q4_store.proofs.creating.make_draft.Given as given
use Rattle.q4_store.proofs.creating.make_draft.Goals as goal
use Rattle.q4_store.proofs.creating.make_draft.Goals.{In_ok-base}

base_is : (c : goal.In_ok-base) → c.in_ok-base.base ≡ base_bytes c.args.table.now.state ++ 0 ∷ []
base_is c = c.in_ok-base.ensures ∙ ap (λ (l : List ℕ). l ++ 0 ∷ []) (gathered_base c.args.table.now.state c.tables_are_valid.ensures.table)

pub overflow_sub-as_slice : goal.overflow_sub-as_slice
overflow_sub-as_slice c = let base = ap length (base_is (goal.at.overflow_sub-as_slice c).In_ok-base) in let slice = ap length c.as_slice.ensures in omega (arith, base, slice, length-append (base_bytes c.args.table.now.state) (0 ∷ []))

pub returns : goal.returns
returns c =
    let base = base_is (goal.at.returns c).In_ok-base in
    let len : length c.as_slice.result.now - 1 ≡ length (base_bytes c.args.table.now.state) = omega (arith, ap length base, ap length c.as_slice.ensures, length-append (base_bytes c.args.table.now.state) (0 ∷ [])) in
    record { base_is = base; header_is = c.header_of-header.ensures ∙ ap (header_bytes c.args.generation) len }
