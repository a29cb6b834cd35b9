use Rattle.std.proofs.Common.{◌≡◌, ◌++◌, ℕ, List, All, length}
use Rattle.q4_cond.specs.declared.fault.CondFault.{CondFault}
use Rattle.q4_proto.specs.Commands.{SpellEntries, EntryFails}
use Rattle.q4_proto.proofs.wait.read_entries.Given as goal

-- the entries so far spell the list, and none of them is refused
abbrev pub invariant-loop-field : goal.invariant-loop-field
invariant-loop-field l = (front : List (List ℕ)) × (l.entries ≡ front ++ l.rest) × (length front ≡ l.place) × SpellEntries l.defs front l.list × All (λ f. ((why : CondFault) × EntryFails l.defs f why) → ⊥) front

abbrev pub decreases-loop-field : goal.decreases-loop-field
decreases-loop-field l = length l.rest
