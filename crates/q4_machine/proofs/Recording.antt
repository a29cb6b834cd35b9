-- One more entry of a machine that records its history.
use Rattle.std.proofs.Common.{◌≡◌, ◌≢◌, ◌<◌, ◌+◌, ◌^◌, ◌++◌, ◌∷◌, ◌∙◌, [], List, ℕ, false, Option, Some, None, All, length, refl, sym, ap, subst, append-nil}
use Rattle.std.proofs.lemmas.Bool.{true≢false}
use Rattle.std.proofs.lemmas.List.{length-map}
use Rattle.std.proofs.lemmas.List.Elements.{All-push}
use Rattle.q4_value.specs.declared.row.Value.{Value}
use Rattle.q4_table.specs.declared.adding.Check.{Check}
use Rattle.q4_table.specs.declared.adding.Check.TheVariants as check
use Rattle.q4_table.specs.Adding.{check_of}
use Rattle.q4_machine.specs.declared.entry.Entry.{Entry}
use Rattle.q4_machine.specs.declared.entry.Call.{Call}
use Rattle.q4_machine.specs.declared.entry.Call.TheVariants.{Open, Insert, Look, End, Abort, RowId, Select, Close, Sync}
use Rattle.q4_machine.specs.declared.entry.Reply.{Reply}
use Rattle.q4_machine.specs.declared.entry.Reply.TheVariants as reply
use Rattle.q4_machine.specs.declared.looks.Listed.{Listed}
use Rattle.q4_machine.specs.declared.session.SessionMode.{SessionMode}
use Rattle.q4_machine.specs.declared.session.SessionMode.TheVariants.{NonOwner, Empty, Owner}
use Rattle.q4_machine.specs.Definitions.{definition_of, definitions, IsRowFor, IsListed}
use Rattle.q4_machine.specs.Machine.{MachineState, mode_of, table_at}
use Rattle.q4_machine.specs.Pick.{Picked, pick}
use Rattle.q4_machine.specs.Step.{step, MayStep, inserted, looked, ended, aborted}
use Rattle.q4_machine.specs.Valid.{IsValid}
use Rattle.q4_machine.specs.History.{state_after, definitions_of, opens_session, opener, IsOpenFor, IsLegal}
use Rattle.q4_machine.specs.Recorded.{entry, IsRecorded}
use Rattle.q4_machine.proofs.Defined.{step_defined}
use Rattle.q4_machine.proofs.Reached.{valid_reached}
use Rattle.q4_machine.proofs.Steps.{mode_opened}
use Rattle.q4_machine.proofs.Validity.{none_some, mode_given}
use Rattle.q4_machine.proofs.Histories.{state_push, legal_push, opener_more, opener_now}

-- ## The definitions stay

-- a history that is not empty keeps its first entry
pub defined_push : (history : List Entry) (e : Entry) → IsLegal history → definitions_of (history ++ e ∷ []) ≡ definitions_of history
defined_push history e legal = ap (λ h. definitions_of (h ++ e ∷ [])) legal.whole ∙ ap definitions_of (sym legal.whole)

-- a number of all tables is one of all definitions
pub lists_defined : (m : MachineState) (history : List Entry) (n : ℕ) → IsRecorded m history → n ≡ length m.tables → n ≡ length (definitions_of history)
lists_defined m history n recorded size =
    size ∙ sym (length-map m.tables definition_of) ∙ ap (λ (x : MachineState). length (definitions x.tables)) recorded.reached ∙ ap length recorded.sound.defined

-- ## One more entry

pub recorded_push : (m m' : MachineState) (history : List Entry) (s : ℕ) (call : Call) (reply : Reply) → IsRecorded m history → step m s call ≡ (m', reply) → MayStep (state_after history) s call
    → (opens_session call ≡ false → opener history s ≡ Some 0) → length history + 1 < 2 ^ 61 → IsRecorded m' (history ++ entry s call reply ∷ [])
recorded_push m m' history s call reply recorded steps may opened few =
    let e = entry s call reply in
    let here : step (state_after history) s call ≡ (m', reply) = subst (λ (x : MachineState). step x s call ≡ (m', reply)) recorded.reached steps in
    let reached : m' ≡ state_after (history ++ e ∷ []) = sym (state_push history e ∙ ap (λ r. r.0) here) in
    record {
      reached = reached;
      sound = record {
        legal = legal_push history e recorded.sound.legal (record { may = may; caller = opened; reply = sym (ap (λ r. r.1) here) }) few;
        defined = ap (λ (x : MachineState). definitions x.tables) (state_push history e) ∙ step_defined (state_after history) s call may ∙ recorded.sound.defined ∙ sym (defined_push history e recorded.sound.legal);
        by_zero = All-push (λ (x : Entry). x.caller ≡ 0) history e recorded.sound.by_zero refl;
      };
    }

-- ## A session that stays open

-- the session is still there where it has some mode in what was reached
pub open_after : (history : List Entry) (s : ℕ) (call : Call) (reply : Reply) → IsOpenFor history 0 s → mode_of (step (state_after history) s call).0 s ≢ None → IsOpenFor (history ++ entry s call reply ∷ []) 0 s
open_after history s call reply was there = record {
  is_open = subst (λ (x : MachineState). mode_of x s ≢ None) (sym (state_push history (entry s call reply))) there;
  opened_by = opener_more history (entry s call reply ∷ []) s 0 was.opened_by;
}

some_there : (o : Option SessionMode) (mode : SessionMode) → o ≡ Some mode → o ≢ None
some_there o mode is none = none_some mode (sym none ∙ is)

-- after an end an open session is in non-owner mode
ended_mode : (m : MachineState) (s : ℕ) (o : Option SessionMode) → mode_of m s ≡ o → o ≢ None → mode_of (ended m s o).0 s ≡ Some NonOwner
ended_mode m s (Some NonOwner) was there = was
ended_mode m s (Some Empty) was there = mode_given s NonOwner m.sessions (some_there (mode_of m s) Empty was)
ended_mode m s (Some (Owner t n)) was there = mode_given s NonOwner m.sessions (some_there (mode_of m s) (Owner t n) was)
ended_mode m s None was there = absurd (there refl)

pub mode_ended : (m : MachineState) (s : ℕ) → mode_of m s ≢ None → mode_of (step m s End).0 s ≡ Some NonOwner
mode_ended m s there = ended_mode m s (mode_of m s) refl there

looked_mode : (m : MachineState) (s : ℕ) (o : Option Picked) → mode_of m s ≢ None → mode_of (looked m s o).0 s ≢ None
looked_mode m s (Some p) there = some_there (mode_of (looked m s (Some p)).0 s) (Owner p.table p.number) (mode_given s (Owner p.table p.number) m.sessions there)
looked_mode m s None there = some_there (mode_of (looked m s None).0 s) Empty (mode_given s Empty m.sessions there)

pub mode_looked : (m : MachineState) (s : ℕ) (list : List Listed) → mode_of m s ≢ None → mode_of (step m s (Look list)).0 s ≢ None
mode_looked m s list there = looked_mode m s (pick m list) there

-- ## Each call of an open session

-- The machine and its history after one more entry, with the session still open.
pub record Goes (m : MachineState) (history : List Entry) (s : ℕ) : Type 0 where
  pub recorded : IsRecorded m history
  pub is_open : IsOpenFor history 0 s

go_on : (m m' : MachineState) (history : List Entry) (s : ℕ) (call : Call) (reply : Reply) → IsRecorded m history → step m s call ≡ (m', reply) → MayStep (state_after history) s call
    → IsOpenFor history 0 s → mode_of (step (state_after history) s call).0 s ≢ None → length history + 1 < 2 ^ 61 → Goes m' (history ++ entry s call reply ∷ []) s
go_on m m' history s call reply recorded steps may was there few = record {
  recorded = recorded_push m m' history s call reply recorded steps may (λ _. was.opened_by) few;
  is_open = open_after history s call reply was there;
}

inserted_mode : (m : MachineState) (s t : ℕ) (row : List Value) (c : Check) → mode_of (inserted m t row c).0 s ≡ mode_of m s
inserted_mode m s t row check.New = refl
inserted_mode m s t row (check.Seen mark) = refl
inserted_mode m s t row check.Spent = refl
inserted_mode m s t row check.Rows = refl
inserted_mode m s t row (check.Bytes sum) = refl

pub insert_goes : (m m' : MachineState) (history : List Entry) (s t : ℕ) (row : List Value) (reply : Reply) → IsRecorded m history → step m s (Insert t row) ≡ (m', reply) → IsRowFor (definitions_of history) t row
    → IsOpenFor history 0 s → length history + 1 < 2 ^ 61 → Goes m' (history ++ entry s (Insert t row) reply ∷ []) s
insert_goes m m' history s t row reply recorded steps for_it was few =
    let reached = state_after history in
    let for_reached = subst (λ defs. IsRowFor defs t row) (sym recorded.sound.defined) for_it in
    let same = inserted_mode reached s t row (check_of (table_at reached.tables t) row None) in
    go_on m m' history s (Insert t row) reply recorded steps (was.is_open, for_reached) was (λ none. was.is_open (sym same ∙ none)) few

pub look_goes : (m m' : MachineState) (history : List Entry) (s : ℕ) (list : List Listed) (reply : Reply) → IsRecorded m history → step m s (Look list) ≡ (m', reply)
    → mode_of (state_after history) s ≡ Some NonOwner → All (IsListed (definitions_of history)) list → IsOpenFor history 0 s → length history + 1 < 2 ^ 61 → Goes m' (history ++ entry s (Look list) reply ∷ []) s
look_goes m m' history s list reply recorded steps mode listed was few =
    let listed_reached = subst (λ defs. All (IsListed defs) list) (sym recorded.sound.defined) listed in
    go_on m m' history s (Look list) reply recorded steps (mode, listed_reached) was (mode_looked (state_after history) s list was.is_open) few

pub end_goes : (m m' : MachineState) (history : List Entry) (s : ℕ) (reply : Reply) → IsRecorded m history → step m s End ≡ (m', reply) → IsOpenFor history 0 s → length history + 1 < 2 ^ 61
    → Goes m' (history ++ entry s End reply ∷ []) s
end_goes m m' history s reply recorded steps was few =
    go_on m m' history s End reply recorded steps was.is_open was (some_there (mode_of (step (state_after history) s End).0 s) NonOwner (mode_ended (state_after history) s was.is_open)) few

aborted_mode : (m : MachineState) (s : ℕ) (o : Option SessionMode) → mode_of m s ≡ o → o ≢ None → mode_of (aborted m s o).0 s ≢ None
aborted_mode m s (Some NonOwner) was there = some_there (mode_of m s) NonOwner was
aborted_mode m s (Some Empty) was there = some_there (mode_of (aborted m s (Some Empty)).0 s) NonOwner (mode_given s NonOwner m.sessions (some_there (mode_of m s) Empty was))
aborted_mode m s (Some (Owner t n)) was there = some_there (mode_of (aborted m s (Some (Owner t n))).0 s) NonOwner (mode_given s NonOwner m.sessions (some_there (mode_of m s) (Owner t n) was))
aborted_mode m s None was there = absurd (there refl)

pub abort_goes : (m m' : MachineState) (history : List Entry) (s : ℕ) (reply : Reply) → IsRecorded m history → step m s Abort ≡ (m', reply) → IsOpenFor history 0 s → length history + 1 < 2 ^ 61
    → Goes m' (history ++ entry s Abort reply ∷ []) s
abort_goes m m' history s reply recorded steps was few =
    let reached = state_after history in
    go_on m m' history s Abort reply recorded steps was.is_open was (aborted_mode reached s (mode_of reached s) refl was.is_open) few

pub row_id_goes : (m : MachineState) (history : List Entry) (s : ℕ) (reply : Reply) → IsRecorded m history → step m s RowId ≡ (m, reply) → IsOpenFor history 0 s → length history + 1 < 2 ^ 61
    → Goes m (history ++ entry s RowId reply ∷ []) s
row_id_goes m history s reply recorded steps was few = go_on m m history s RowId reply recorded steps was.is_open was was.is_open few

pub select_goes : (m : MachineState) (history : List Entry) (s t most : ℕ) (reply : Reply) → IsRecorded m history → step m s (Select t most) ≡ (m, reply) → t < length (definitions_of history) → IsOpenFor history 0 s → length history + 1 < 2 ^ 61
    → Goes m (history ++ entry s (Select t most) reply ∷ []) s
select_goes m history s t most reply recorded steps inside was few =
    let here : t < length (definitions (state_after history).tables) = subst (λ defs. t < length defs) (sym recorded.sound.defined) inside in
    go_on m m history s (Select t most) reply recorded steps (was.is_open, here) was was.is_open few

pub end_mode : (history : List Entry) (s : ℕ) (reply : Reply) → IsOpenFor history 0 s → mode_of (state_after (history ++ entry s End reply ∷ [])) s ≡ Some NonOwner
end_mode history s reply was = ap (λ (x : MachineState). mode_of x s) (state_push history (entry s End reply)) ∙ mode_ended (state_after history) s was.is_open

pub sync_goes : (m : MachineState) (history : List Entry) (s : ℕ) → IsRecorded m history → IsOpenFor history 0 s → length history + 1 < 2 ^ 61 → Goes m (history ++ entry s Sync reply.Done ∷ []) s
sync_goes m history s recorded was few = go_on m m history s Sync reply.Done recorded refl was.is_open was was.is_open few

pub close_recorded : (m m' : MachineState) (history : List Entry) (s : ℕ) → IsRecorded m history → step m s Close ≡ (m', reply.Done) → IsOpenFor history 0 s → length history + 1 < 2 ^ 61
    → IsRecorded m' (history ++ entry s Close reply.Done ∷ [])
close_recorded m m' history s recorded steps was few = recorded_push m m' history s Close reply.Done recorded steps was.is_open (λ _. was.opened_by) few

session_of : (a b : ℕ) → reply.Session a ≡ reply.Session b → a ≡ b
session_of a b is = ap (λ r. number_of r) is where
  number_of : Reply → ℕ
  number_of (reply.Session n) = n
  number_of _ = 0

cons_not_nil : (e : Entry) (es : List Entry) → e ∷ es ≡ [] → ⊥
cons_not_nil e es is = cc is

not_nil : (history : List Entry) → IsLegal history → history ≢ []
not_nil history legal is = cons_not_nil legal.opening legal.rest (sym legal.whole ∙ is)

opened_mode : (m : MachineState) → IsValid m → mode_of (step m m.next_session Open).0 m.next_session ≢ None
opened_mode m valid =
    some_there (mode_of (step m m.next_session Open).0 m.next_session) NonOwner (mode_opened m valid)

pub open_goes : (m m' : MachineState) (history : List Entry) (s : ℕ) → IsRecorded m history → (session : ℕ) → step m session Open ≡ (m', reply.Session s) → length history + 1 < 2 ^ 61
    → Goes m' (history ++ entry s Open (reply.Session s) ∷ []) s
open_goes m m' history s recorded session steps few =
    let number : m.next_session ≡ s = session_of m.next_session s (ap (λ r. r.1) steps) in
    let same : (state_after history).next_session ≡ s = ap (λ (x : MachineState). x.next_session) (sym recorded.reached) ∙ number in
    let here : step m s Open ≡ (m', reply.Session s) = steps in
    let valid : IsValid (state_after history) = valid_reached history recorded.sound.legal history [] (sym (append-nil history)) (not_nil history recorded.sound.legal) in
    record {
      recorded = recorded_push m m' history s Open (reply.Session s) recorded here (sym same) (λ is. absurd (true≢false is)) few;
      is_open = record {
        is_open = subst (λ (x : MachineState). mode_of x s ≢ None) (sym (state_push history (entry s Open (reply.Session s)))) (subst (λ (k : ℕ). mode_of (step (state_after history) s Open).0 k ≢ None) same (opened_mode (state_after history) valid));
        opened_by = opener_now history s (entry s Open (reply.Session s)) recorded.sound.by_zero refl refl refl;
      };
    }
