-- No fault was counted where none came.
use Rattle.std.proofs.Common.{◌≡◌, ◌⊎◌, ℕ, inl, inr}
use Rattle.q4_flow.specs.declared.lines.LineEnd.TheVariants as line
use Rattle.q4_play.specs.declared.turns.Turned.TheVariants.{Next, Stops}
use Rattle.q4_play.specs.declared.plays.PlayEnd.TheVariants.{WriteFault}
use Rattle.q4_play.specs.Playing.{TurnCause}

stays_or : (now before : ℕ) → (now ≡ before) ⊎ (Next ≡ Stops WriteFault) → now ≡ before
stays_or now before (inl same) = same
stays_or now before (inr other) = cc other

-- the play goes on, so no write failed
pub stays_at_next : (before now : ℕ) → TurnCause before now Next → now ≡ before
stays_at_next before now cause = stays_or now before cause.stayed

-- a line was found, so no read failed
pub stays_at_line : (before now : ℕ) → (now ≡ before) ⊎ (line.Line ≡ line.ReadFault) → now ≡ before
stays_at_line before now (inl same) = same
stays_at_line before now (inr other) = cc other
