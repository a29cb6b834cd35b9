-- A wait that goes on: what was made so far, and the patience that it asked.
use Rattle.std.proofs.Common.{◌≡◌, ◌≤◌, ◌-◌, ◌^◌, ◌++◌, ◌∷◌, ◌∙◌, ◌⊎◌, [], List, ℕ, Bool, true, false, cond, min, sym, ap, arith, inl, inr}
use Rattle.q4_machine.specs.declared.entry.Entry.{Entry}
use Rattle.q4_machine.specs.declared.entry.Call.TheVariants.{Sync}
use Rattle.q4_machine.specs.declared.entry.Reply.TheVariants.{Done}
use Rattle.q4_machine.specs.History.{state_after}
use Rattle.q4_machine.specs.Patience.{PatienceState, counted, Asked}
use Rattle.q4_machine.specs.Recorded.{Recorded, entry, pushed}
use Rattle.q4_machine.proofs.Histories.{state_push}

-- nothing was made so far, or the sync that was owed
abbrev pub Settling : Recorded → Recorded → ℕ → Bool → Bool → Type 0
Settling start now s owes owed = ((now ≡ start) × (owes ≡ owed)) ⊎ ((now ≡ pushed start s Sync Done) × (owes ≡ false) × (owed ≡ true))

false_true : false ≡ true → ⊥
false_true is = cc is

-- what is still owed is not made
pub owes_still : (start now : Recorded) (s : ℕ) (owes owed : Bool) → Settling start now s owes owed → owes ≡ true → (now ≡ start) × (owed ≡ true)
owes_still start now s owes owed (inl same) true_now = (same.0, sym same.1 ∙ true_now)
owes_still start now s owes owed (inr made) true_now = absurd (false_true (sym made.1 ∙ true_now))

-- a sync changes no table and no session
pub state_synced : (h : List Entry) (s : ℕ) → state_after (h ++ entry s Sync Done ∷ []) ≡ state_after h
state_synced h s = state_push h (entry s Sync Done)

-- a patience that was asked in vain
pub asked_more : (first before now : PatienceState) (answer : Bool) → Asked before now answer → min first.asks (2 ^ 64 - 1) ≤ before.asks → min first.asks (2 ^ 64 - 1) ≤ now.asks
asked_more first before now answer asked least = omega (arith, asked.asks, least)

pub spent_same : (first before now : PatienceState) (answer : Bool) → Asked before now answer → answer ≡ false → min first.spent (2 ^ 64 - 1) ≤ before.spent → min first.spent (2 ^ 64 - 1) ≤ now.spent
spent_same first before now answer asked vain least =
    let same : now.spent ≡ before.spent = asked.spent ∙ ap (λ b. cond b (counted before.spent) before.spent) vain in
    omega (arith, same, least)
