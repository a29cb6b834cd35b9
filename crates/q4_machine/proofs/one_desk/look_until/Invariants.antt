use Rattle.std.proofs.Common.{◌≡◌, ◌≤◌, ◌-◌, ◌^◌, ◌⊎◌, true, false, Some, All, min}
use Rattle.q4_machine.specs.declared.entry.Call.TheVariants.{Sync}
use Rattle.q4_machine.specs.declared.entry.Reply.TheVariants.{Done}
use Rattle.q4_machine.specs.declared.session.SessionMode.TheVariants.{NonOwner}
use Rattle.q4_machine.specs.Definitions.{IsListed}
use Rattle.q4_machine.specs.Machine.{mode_of}
use Rattle.q4_machine.specs.Kept.{KeepSame}
use Rattle.q4_machine.specs.History.{state_after, definitions_of, IsOpenFor}
use Rattle.q4_machine.specs.Recorded.{pushed, HasRoom}
use Rattle.q4_machine.proofs.one_desk.look_until.Given as goal

-- Nothing was made but a sync where one was owed, and the patience was only asked.
abbrev pub invariant-loop-place : goal.invariant-loop-place
invariant-loop-place g l = record {
  settled : ((l.recorded.log ≡ l.fn.recorded.log) × (l.owes ≡ l.fn.owes)) ⊎ ((l.recorded.log ≡ pushed l.fn.recorded.log l.session Sync Done) × (l.owes ≡ false) × (l.fn.owes ≡ true));
  room : HasRoom l.recorded.log 2;
  is_open : IsOpenFor l.recorded.log.seen 0 l.session;
  mode : mode_of (state_after l.recorded.log.seen) l.session ≡ Some NonOwner;
  listed : All (IsListed (definitions_of l.recorded.log.seen)) l.list;
  defined : definitions_of l.recorded.log.seen ≡ definitions_of l.fn.recorded.log.seen;
  list : l.list ≡ l.fn.list;
  kept : KeepSame l.fn.recorded.kept l.recorded.kept;
  given : (g.P.Patience.state l.patience).given ≡ (g.P.Patience.state l.fn.patience).given;
  starts : (g.P.Patience.state l.patience).starts ≡ (g.P.Patience.state l.fn.patience).starts;
  limit : (g.P.Patience.state l.patience).limit ≡ (g.P.Patience.state l.fn.patience).limit;
  asks : min (g.P.Patience.state l.fn.patience).asks (2 ^ 64 - 1) ≤ (g.P.Patience.state l.patience).asks;
  spent : min (g.P.Patience.state l.fn.patience).spent (2 ^ 64 - 1) ≤ (g.P.Patience.state l.patience).spent;
}

abbrev pub decreases-loop-place : goal.decreases-loop-place
decreases-loop-place g l = (g.P.Patience.state l.patience).turns
