-- What contracts see of a patience, and what a wait makes of it.
use Rattle.std.specs.Option.{ForSome}
use Rattle.std.specs.Prelude.{◌==◌, ◌≡◌, ◌≤◌, ◌<◌, ◌+◌, ◌-◌, ◌^◌, ℕ, Bool, false, Option, None, min, if◌then◌else◌}

-- how often `start` was called and the seconds of its last call, how often `over` was answered true, how often it was
-- answered at all, how many answers `false` may still come before the next `start`, and to how many a start sets that,
-- where the patience tells it
pub record PatienceState : Type 0 where
  pub starts : ℕ
  pub limit : ℕ
  pub spent : ℕ
  pub asks : ℕ
  pub turns : ℕ
  pub given : Option ℕ

-- one more; counts stop at 2^64 - 1
abbrev pub counted : ℕ → ℕ
counted count = min (count + 1) (2 ^ 64 - 1)

-- The count is greater than before, or stands at its type's end.
abbrev pub Rose : ℕ → ℕ → Type 0
Rose before now = counted before ≤ now

-- A wait of so many seconds begins.
pub record Starts (before now : PatienceState) (seconds : ℕ) : Type 0 where
  pub starts : now.starts ≡ counted before.starts
  pub limit : now.limit ≡ seconds
  pub spent : now.spent ≡ before.spent
  pub asks : now.asks ≡ before.asks
  pub given : now.given ≡ before.given
  pub set : ForSome now.given (λ turns. now.turns ≡ turns)

-- It was asked whether the time is over. Each answer `false` lowers the turns, so at 0 the answer is `true`. Where the
-- patience tells how many turns a start gives, it is `true` at 0 alone, and each `false` takes one.
pub record Asked (before now : PatienceState) (answer : Bool) : Type 0 where
  pub starts : now.starts ≡ before.starts
  pub limit : now.limit ≡ before.limit
  pub spent : now.spent ≡ (if answer then counted before.spent else before.spent)
  pub asks : now.asks ≡ counted before.asks
  pub turns : answer ≡ false → now.turns < before.turns
  pub given : now.given ≡ before.given
  pub exact : ForSome before.given (λ turns. (answer ≡ (before.turns == 0)) × (now.turns + (if answer then 0 else 1) ≡ before.turns))

-- It was asked for some looks, and where none was found it told that the time was over.
pub record Looked (before now : PatienceState) (result : Option ℕ) : Type 0 where
  pub given : now.given ≡ before.given
  pub starts : now.starts ≡ before.starts
  pub limit : now.limit ≡ before.limit
  pub asks : Rose before.asks now.asks
  pub spent : result ≡ None → Rose before.spent now.spent
