-- What contracts see of a reader of lines.
use Rattle.std.specs.Prelude.{ℕ, List, Option}
use Rattle.q4_flow.specs.declared.lines.LineEnd.{LineEnd}

-- the bytes that were taken and not yet given in a line, the line that was given last, and the answer that
-- all further calls repeat
pub record Reading : Type 0 where
  pub pending : List ℕ
  pub line : List ℕ
  pub stopped : Option LineEnd
