use Rattle.std.proofs.Common.{◌≡◌, ◌∙◌, Some, sym, ap, take, drop}
use Rattle.q4_flow.specs.Memory.{Input}
use Rattle.q4_flow.proofs.Cutting.{front_and_rest, slice_to_end}
use Rattle.q4_flow.proofs.memory.MemorySourceSource.read.Goals as goal

pub returns-clause-gave : goal.returns-clause-gave
returns-clause-gave c =
    let left = ap (λ (s : Input). s.left) c.self.view_is in
    let slice = slice_to_end c.self.inside.bytes.items c.deref-2.result.now c.self.inside.at c.deref-2.ensures.value in
    let count = c.copy_front-count.result in
    let given : take count c.copy_front-count.new.into ≡ take count (drop c.self.inside.at c.self.inside.bytes.items) =
    c.copy_front-count.ensures.front ∙ ap (take count) slice in
    ap Some (sym left ∙ front_and_rest c.self.inside.bytes.items (take count c.copy_front-count.new.into) c.self.inside.at count given)
