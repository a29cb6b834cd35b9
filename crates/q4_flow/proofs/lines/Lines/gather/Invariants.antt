use Rattle.std.proofs.Common.{◌≡◌, ◌≤◌, ◌+◌, ◌++◌, List, ℕ, length, slice_range, vec_capacity}
use Rattle.q4_flow.specs.Flow.{Gave}
use Rattle.q4_flow.specs.Lines.{IsOneLine, fuel}
use Rattle.q4_flow.proofs.lines.Lines.gather.Given as goal

-- The bytes that were pending and those that were taken are the line so far and those pending now.
abbrev pub invariant-loop-at : goal.invariant-loop-at
invariant-loop-at g l = record {
  inside : l.self-inside.from ≤ l.self-inside.until;
  within : l.self-inside.until ≤ length l.self-inside.chunk.items;
  size : length l.self-inside.chunk.items ≡ 65536;
  line_from : l.self-inside.line_from ≡ 0;
  line_until : l.self-inside.line_until ≡ 0;
  stopped : l.self-inside.stopped ≡ l.fn.self.stopped;
  taken : List ℕ;
  gave : Gave (g.S.Source.left l.fn.source) (g.S.Source.left l.source) taken;
  so_far : l.fn.self.pending ++ taken ≡ l.self-inside.carried.items ++ slice_range l.self-inside.chunk.items l.self-inside.from l.self-inside.until;
  one_line : IsOneLine l.self-inside.carried.items;
  room : length l.self-inside.carried.items + 65536 ≤ vec_capacity l.self-inside.carried;
  costs : fuel (g.S.Source.reads l.source) (slice_range l.self-inside.chunk.items l.self-inside.from l.self-inside.until) ≤ fuel (g.S.Source.reads l.fn.source) l.fn.self.pending;
  faults : g.S.Source.faults l.source ≡ g.S.Source.faults l.fn.source;
}

abbrev pub decreases-loop-at : goal.decreases-loop-at
decreases-loop-at g l = g.S.Source.reads l.source
