-- What one pass added, for the tests.
use Rattle.std.specs.Prelude.{◌≡◌, ℕ, ◌+◌, List, [], ◌∷◌, length}
use Rattle.q4_turn.specs.declared.view.View.{View}
use Rattle.q4_turn.specs.Views.{old}

-- the view has added n entries, and is else as it was but for what it has seen
pub record Grew {E : Type 0} (v : View E) (n : ℕ) (w : View E) : Type 0 where
  pub number : w.number ≡ v.number
  pub parts : w.parts ≡ v.parts
  pub olds : w.olds ≡ v.olds
  pub mine : length w.mine ≡ length v.mine + n

-- the first pass added the first entry and m more, the one that was joined into it n
pub record Joined {E : Type 0} (m n : ℕ) (v : View E) : Type 0 where
  pub mine : length v.mine ≡ 1 + m
  pub number : ℕ
  pub theirs : List E
  pub olds : v.olds ≡ old number theirs ∷ []
  pub count : length theirs ≡ n
