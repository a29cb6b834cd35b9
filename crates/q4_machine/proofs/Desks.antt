-- Each call of a desk in memory: the desk afterwards, and the part that the call added.
use Rattle.std.proofs.Common.{◌≡◌, ◌≢◌, ◌≤◌, ◌<◌, ◌+◌, ◌++◌, ◌∷◌, ◌∙◌, ◌⊎◌, [], List, ℕ, Bool, true, false, Option, Some, None, Result, Ok, Err, IfErr, All, length, refl, sym, ap, subst, arith, inl, inr, append_assoc, append-nil}
use Rattle.std.proofs.lemmas.Bool.{cases_lt}
use Rattle.std.proofs.lemmas.List.{length-append}
use Rattle.std.proofs.lemmas.List.Elements.{All-nil, All-cons, All-head, All-tail}
use Rattle.q4_value.specs.declared.row.Value.{Value}
use Rattle.q4_def.specs.declared.table_def.TableDef.{TableDef}
use Rattle.q4_machine.specs.declared.entry.Entry.{Entry}
use Rattle.q4_machine.specs.declared.entry.Call.{Call}
use Rattle.q4_machine.specs.declared.entry.Call.TheVariants.{Open, Insert, Look, End, Select, Close, Sync}
use Rattle.q4_machine.specs.declared.entry.Refusal.TheVariants as refusal
use Rattle.q4_machine.specs.declared.entry.Reply.{Reply}
use Rattle.q4_machine.specs.declared.entry.Reply.TheVariants as reply
use Rattle.q4_machine.specs.declared.session.SessionMode.{SessionMode}
use Rattle.q4_machine.specs.declared.session.SessionMode.TheVariants.{NonOwner, Empty, Owner}
use Rattle.q4_machine.specs.declared.shown.NumberedRow.{NumberedRow}
use Rattle.q4_machine.specs.Machine.{mode_of}
use Rattle.q4_table.specs.Cursors.{Cursor}
use Rattle.q4_table.specs.declared.adding.Added.TheVariants.{Seen}
use Rattle.q4_machine.specs.declared.looks.Listed.{Listed}
use Rattle.q4_machine.specs.declared.desk.DeskFault.{DeskFault}
use Rattle.q4_machine.specs.declared.desk.DeskFault.TheVariants as desk_fault
use Rattle.q4_machine.specs.declared.desk.InsertFault.{InsertFault}
use Rattle.q4_machine.specs.declared.desk.InsertFault.TheVariants as insert_fault
use Rattle.q4_machine.specs.Step.{look_reply}
use Rattle.q4_machine.specs.History.{state_after, is_added, is_owner, is_change, IsSettled, SyncsAreOwed, IsOpenFor}
use Rattle.q4_machine.specs.Parts.{IsWorn, Answer, Replied, WantsMemory, is_owner_mode, ends_first, ending, HadRoom, WasWorn, IsPart, IsInOrder, Grows, IsOpened, IsClosed, fault_answer, insert_answer, wait_answer, select_answer}
use Rattle.q4_machine.specs.Recorded.{Recorded, DeskState, entry, pushed, answered, IsInsertRefusal, entry_limit, open_sessions, ended_first, LookedUntil, HasRoom, HasBegun, IsSound}
use Rattle.q4_machine.specs.OneDesk.{IsDesk, BeginsNew}
use Rattle.q4_table.proofs.Lookup.{some_of}
use Rattle.q4_machine.proofs.Openers.{opened_by_zero}
use Rattle.q4_machine.proofs.Validity.{none_some}
use Rattle.q4_machine.proofs.Histories.{keeps_sessions, sessions_push, sessions_opened, sessions_closed, settled_push, settled_by_sync, unsettled_push, unsettled_more, owed_push}

-- ## A desk, from what holds of its history

pub desk_of : (r : Recorded) (current : Option ℕ) (s : ℕ) → current ≡ Some s → IsSound r.seen → IsOpenFor r.seen 0 s → ((place : ℕ) → IsSettled r.seen place) → SyncsAreOwed r.seen
    → HasRoom r (open_sessions r.seen) → length r.seen + open_sessions r.seen < entry_limit → IsDesk r current
desk_of r current s is sound open_for settled owed room few = record {
  in_order = record {
    legal = sound.legal;
    owed = owed;
    is_open = λ k here. subst (λ x. IsOpenFor r.seen 0 x) (some_of s k (sym is ∙ here)) open_for;
  };
  sound = sound;
  settled = settled;
  room = room;
  few = few;
}

-- more room
pub desk_reserved : (r r' : Recorded) (current : Option ℕ) → IsDesk r current → r'.seen ≡ r.seen → r.room ≤ r'.room → IsDesk r' current
desk_reserved r r' current desk same more =
    let size : length r'.seen ≡ length r.seen = ap length same in
    let sessions : open_sessions r'.seen ≡ open_sessions r.seen = ap open_sessions same in
    record {
      in_order = subst (λ h. IsInOrder h 0 current) (sym same) desk.in_order;
      sound = subst IsSound (sym same) desk.sound;
      settled = λ place. subst (λ h. IsSettled h place) (sym same) (desk.settled place);
      room = (omega (arith, desk.room.0, size, sessions, more), omega (arith, desk.room.1, size, sessions));
      few = omega (arith, desk.few, size, sessions);
    }

-- another session is current, or none
pub desk_chosen : (r : Recorded) (current current' : Option ℕ) → IsDesk r current → ((s : ℕ) → current' ≡ Some s → IsOpenFor r.seen 0 s) → IsDesk r current'
desk_chosen r current current' desk open_for = record {
  in_order = record { legal = desk.in_order.legal; owed = desk.in_order.owed; is_open = open_for };
  sound = desk.sound;
  settled = desk.settled;
  room = desk.room;
  few = desk.few;
}

-- a session that is open may be chosen
pub chosen : (r : Recorded) (current : Option ℕ) (s : ℕ) → IsDesk r current → mode_of (state_after r.seen) s ≢ None → IsDesk r (Some s)
chosen r current s desk there = desk_chosen r current (Some s) desk
    (λ k here. subst (λ x. IsOpenFor r.seen 0 x) (some_of s k here) (record { is_open = there; opened_by = opened_by_zero r.seen desk.sound.legal desk.sound.by_zero s there }))

-- no session is current
pub stood_up : (r : Recorded) (current : Option ℕ) → IsDesk r current → IsDesk r None
stood_up r current desk = desk_chosen r current None desk (λ k here. absurd (none_some k here))

-- ## Room

-- the limit leaves room for four more
not_worn : (h : List Entry) → (IsWorn entry_limit h → ⊥) → length h + open_sessions h + 4 ≤ entry_limit
not_worn h fresh = elim (cases_lt entry_limit (length h + open_sessions h + 4)) [ inl worn ↦ absurd (fresh worn) | inr few ↦ few ]

-- what a call that has begun has room for
pub begun_room : (h : List Entry) (r : Recorded) (n : ℕ) → HasBegun h r → n ≤ 4 → HasRoom r n
begun_room h r n begun few = (omega (arith, begun.room.0, few), omega (arith, begun.room.1, few))

-- one entry less
pub room_pushed : (r r' : Recorded) (s : ℕ) (call : Call) (reply : Reply) (n : ℕ) → HasRoom r (n + 1) → r' ≡ pushed r s call reply → HasRoom r' n
room_pushed r r' s call reply n room is =
    let size = length-append r.seen (entry s call reply ∷ []) in
    subst (λ (x : Recorded). HasRoom x n) (sym is) (omega (arith, size, room.0), omega (arith, size, room.1))

-- the end that a wait makes first takes one at most
pub room_ended : (r r' : Recorded) (s : ℕ) → HasRoom r 4 → r' ≡ ended_first r s → HasRoom r' 3
room_ended r r' s room is = subst (λ (x : Recorded). HasRoom x 3) (sym is) (after (is_owner_mode (mode_of (state_after r.seen) s))) where
  after : (b : Bool) → HasRoom (record { seen = r.seen ++ ending b 0 s; room = r.room }) 3
  after true = let size = length-append r.seen (entry s End reply.Done ∷ []) in (omega (arith, size, room.0), omega (arith, size, room.1))
  after false = let size = length-append r.seen [] in (omega (arith, size, room.0), omega (arith, size, room.1))

-- entries that open and close nothing leave as many sessions open
sessions_kept : (h grown : List Entry) → All (λ e. keeps_sessions e.call ≡ true) grown → open_sessions (h ++ grown) ≡ open_sessions h
sessions_kept h [] keep = ap open_sessions (append-nil h)
sessions_kept h (e ∷ es) keep =
    ap open_sessions (sym (append_assoc h (e ∷ []) es))
    ∙ sessions_kept (h ++ e ∷ []) es (All-tail (λ (x : Entry). keeps_sessions x.call ≡ true) e es keep)
    ∙ sessions_push h e (All-head (λ (x : Entry). keeps_sessions x.call ≡ true) e es keep)

-- ## What a call leaves: the desk afterwards, and the part that it added.

pub record Called (old : List Entry) (r : Recorded) (current : Option ℕ) (s : ℕ) (call : Call) (answer : Answer) : Type 0 where
  pub desk : IsDesk r current
  pub part : Grows old r.seen (λ grown. IsPart entry_limit old grown 0 s call answer)

-- What the entries of a call were: few, none opens or closes, all are settled, and each sync was owed.
record Grew (h grown : List Entry) : Type 0 where
  few : length grown ≤ 3
  keep : All (λ e. keeps_sessions e.call ≡ true) grown
  settled : (place : ℕ) → IsSettled (h ++ grown) place
  owed : SyncsAreOwed (h ++ grown)

called : (h grown : List Entry) (r1 r : Recorded) (current : Option ℕ) (s : ℕ) (call : Call) (answer : Answer) → current ≡ Some s → HasBegun h r1 → r.seen ≡ h ++ grown → r.room ≡ r1.room → Grew h grown
    → IsSound r.seen → IsOpenFor r.seen 0 s → IsPart entry_limit h grown 0 s call answer → Called h r current s call answer
called h grown r1 r current s call answer is begun grew_by same_room grew sound open_for part =
    let size : length r.seen ≡ length h + length grown = ap length grew_by ∙ length-append h grown in
    let sessions : open_sessions r.seen ≡ open_sessions h = ap open_sessions grew_by ∙ sessions_kept h grown grew.keep in
    let start : length r1.seen ≡ length h = ap length begun.seen in
    let worn = not_worn h begun.fresh in
    record {
      desk = desk_of r current s is sound open_for (λ place. subst (λ x. IsSettled x place) (sym grew_by) (grew.settled place)) (subst SyncsAreOwed (sym grew_by) grew.owed)
          (omega (arith, size, sessions, start, same_room, grew.few, begun.room.0), omega (arith, size, sessions, start, grew.few, begun.room.1)) (omega (arith, size, sessions, worn, grew.few));
      part = (grown, grew_by, part);
    }

-- ## Histories that grow by two and by three entries

push_two : (h : List Entry) (a b : Entry) → (h ++ a ∷ []) ++ b ∷ [] ≡ h ++ (a ∷ b ∷ [])
push_two h a b = append_assoc h (a ∷ []) (b ∷ [])

push_three : (h : List Entry) (a b c : Entry) → ((h ++ a ∷ []) ++ b ∷ []) ++ c ∷ [] ≡ h ++ (a ∷ b ∷ c ∷ [])
push_three h a b c = append_assoc (h ++ a ∷ []) (b ∷ []) (c ∷ []) ∙ append_assoc h (a ∷ []) (b ∷ c ∷ [])

keep_one : (a : Entry) → keeps_sessions a.call ≡ true → All (λ e. keeps_sessions e.call ≡ true) (a ∷ [])
keep_one a keeps = All-cons (λ (e : Entry). keeps_sessions e.call ≡ true) a [] keeps (All-nil (λ (e : Entry). keeps_sessions e.call ≡ true))

keep_more : (a : Entry) (es : List Entry) → keeps_sessions a.call ≡ true → All (λ e. keeps_sessions e.call ≡ true) es → All (λ e. keeps_sessions e.call ≡ true) (a ∷ es)
keep_more a es keeps rest = All-cons (λ (e : Entry). keeps_sessions e.call ≡ true) a es keeps rest

-- ## Parts

of_session : (s : ℕ) (e : Entry) (es : List Entry) → e.session ≡ s → All (λ (x : Entry). x.session ≡ s) es → All (λ (x : Entry). x.session ≡ s) (e ∷ es)
of_session s e es is rest = All-cons (λ (x : Entry). x.session ≡ s) e es is rest

none_of : (s : ℕ) → All (λ (x : Entry). x.session ≡ s) []
none_of s = All-nil (λ (x : Entry). x.session ≡ s)

-- the whole call was one hold
had_room : (h own : List Entry) → All (λ (e : Entry). e.caller ≡ 0) own → (IsWorn entry_limit h → ⊥) → HadRoom entry_limit h own 0
had_room h own by_zero fresh = record { start = []; own = own; cut = refl; by_caller = by_zero; room = subst (λ x. IsWorn entry_limit x → ⊥) (sym (append-nil h)) fresh }

by_none : All (λ (e : Entry). e.caller ≡ 0) []
by_none = All-nil (λ (e : Entry). e.caller ≡ 0)

by_one : (s : ℕ) (call : Call) (r : Reply) (es : List Entry) → All (λ (e : Entry). e.caller ≡ 0) es → All (λ (e : Entry). e.caller ≡ 0) (entry s call r ∷ es)
by_one s call r es rest = All-cons (λ (e : Entry). e.caller ≡ 0) (entry s call r) es refl rest

-- the one entry of a call
single_part : (h : List Entry) (s : ℕ) (call : Call) (r : Reply) → ends_first call (mode_of (state_after h) s) ≡ false → (IsWorn entry_limit h → ⊥) → ((place : ℕ) → IsSettled (h ++ entry s call r ∷ []) place)
    → IsPart entry_limit h (entry s call r ∷ []) 0 s call (Replied r)
single_part h s call r calm fresh settled = record {
  session_is = of_session s (entry s call r) [] refl (none_of s);
  cases = record {
    front = [];
    back = [];
    cut = refl;
    own_front = ap (λ b. ending b 0 s) (sym calm);
    own_back = refl;
    settled = settled (length (h ++ []));
    had_room = had_room h [] by_none fresh;
  };
}

-- the one entry of a call, and a sync
synced_part : (h : List Entry) (s : ℕ) (call : Call) (r : Reply) → ends_first call (mode_of (state_after h) s) ≡ false → (IsWorn entry_limit h → ⊥) → ((place : ℕ) → IsSettled (h ++ (entry s call r ∷ entry s Sync reply.Done ∷ [])) place)
    → IsPart entry_limit h (entry s call r ∷ entry s Sync reply.Done ∷ []) 0 s call (Replied r)
synced_part h s call r calm fresh settled = record {
  session_is = of_session s (entry s call r) (entry s Sync reply.Done ∷ []) refl (of_session s (entry s Sync reply.Done) [] refl (none_of s));
  cases = record {
    front = [];
    back = entry s Sync reply.Done ∷ [];
    cut = refl;
    own_front = ap (λ b. ending b 0 s) (sym calm);
    own_back = refl;
    settled = settled (length (h ++ []));
    had_room = had_room h [] by_none fresh;
  };
}

-- ## Calls of one entry

-- a call that is no change
pub calm_call : (r0 r1 r2 : Recorded) (current : Option ℕ) (s : ℕ) (call : Call) (r : Reply) → current ≡ Some s → IsDesk r0 current → HasBegun r0.seen r1 → r2 ≡ pushed r1 s call r
    → is_change (state_after r0.seen) call s r ≡ false → (call ≡ Sync → ⊥) → keeps_sessions call ≡ true → ends_first call (mode_of (state_after r0.seen) s) ≡ false
    → IsSound r2.seen → IsOpenFor r2.seen 0 s → Called r0.seen r2 current s call (Replied r)
calm_call r0 r1 r2 current s call r is desk begun first calm other keeps ends sound open_for =
    let h = r0.seen in
    let a = entry s call r in
    let grew : r2.seen ≡ h ++ a ∷ [] = ap (λ (x : Recorded). x.seen) first ∙ ap (λ x. x ++ a ∷ []) begun.seen in
    let settled = settled_push h a desk.settled calm in
    let owed = owed_push h a desk.in_order.owed (λ sync. absurd (other sync)) in
    called h (a ∷ []) r1 r2 current s call (Replied r) is begun grew (ap (λ (x : Recorded). x.room) first) (record { few = omega arith; keep = keep_one a keeps; settled = settled; owed = owed }) sound open_for (single_part h s call r ends begun.fresh settled)

-- a change, and its sync
pub synced_call : (r0 r1 r2 r3 : Recorded) (current : Option ℕ) (s : ℕ) (call : Call) (r : Reply) → current ≡ Some s → IsDesk r0 current → HasBegun r0.seen r1 → r2 ≡ pushed r1 s call r → r3 ≡ pushed r2 s Sync reply.Done
    → is_change (state_after r0.seen) call s r ≡ true → (call ≡ Sync → ⊥) → keeps_sessions call ≡ true → ends_first call (mode_of (state_after r0.seen) s) ≡ false
    → IsSound r3.seen → IsOpenFor r3.seen 0 s → Called r0.seen r3 current s call (Replied r)
synced_call r0 r1 r2 r3 current s call r is desk begun first second change other keeps ends sound open_for =
    let h = r0.seen in
    let a = entry s call r in
    let b = entry s Sync reply.Done in
    let seen2 : r2.seen ≡ h ++ a ∷ [] = ap (λ (x : Recorded). x.seen) first ∙ ap (λ x. x ++ a ∷ []) begun.seen in
    let seen3 : r3.seen ≡ (h ++ a ∷ []) ++ b ∷ [] = ap (λ (x : Recorded). x.seen) second ∙ ap (λ x. x ++ b ∷ []) seen2 in
    let settled = λ (place : ℕ). subst (λ x. IsSettled x place) (push_two h a b) (settled_by_sync (h ++ a ∷ []) b refl place) in
    let owed = subst SyncsAreOwed (push_two h a b) (owed_push (h ++ a ∷ []) b (owed_push h a desk.in_order.owed (λ sync. absurd (other sync))) (λ _. unsettled_push h a change)) in
    called h (a ∷ b ∷ []) r1 r3 current s call (Replied r) is begun (seen3 ∙ push_two h a b) (ap (λ (x : Recorded). x.room) second ∙ ap (λ (x : Recorded). x.room) first)
    (record { few = omega arith; keep = keep_more a (b ∷ []) keeps (keep_one b refl); settled = settled; owed = owed }) sound open_for (synced_part h s call r ends begun.fresh settled)

-- a call that wanted memory after it had begun
pub no_call : (r0 r1 r2 : Recorded) (current : Option ℕ) (s : ℕ) (call : Call) → IsDesk r0 current → HasBegun r0.seen r1 → r0.room ≤ r1.room → r2 ≡ r1 → Called r0.seen r2 current s call WantsMemory
no_call r0 r1 r2 current s call desk begun more same =
    let grew : r2.seen ≡ r0.seen = ap (λ (x : Recorded). x.seen) same ∙ begun.seen in
    let room : r2.room ≡ r1.room = ap (λ (x : Recorded). x.room) same in
    record {
      desk = desk_reserved r0 r2 current desk grew (omega (arith, more, room));
      part = ([], grew ∙ sym (append-nil r0.seen), record { session_is = none_of s; cases = refl });
    }

-- the history was full at the start
was_worn : (h : List Entry) → IsWorn entry_limit h → WasWorn entry_limit h [] (length h)
was_worn h worn = record { start = []; later = []; cut = refl; count_is = ap length (sym (append-nil h)); worn = subst (IsWorn entry_limit) (sym (append-nil h)) worn }

-- a call that did not begin
pub fault_part : (h h' : List Entry) (s : ℕ) (call : Call) (f : DeskFault) → h' ≡ h → (f ≡ desk_fault.Memory) ⊎ ((f ≡ desk_fault.Worn (length h)) × IsWorn entry_limit h) → Grows h h' (λ grown. IsPart entry_limit h grown 0 s call (fault_answer f))
fault_part h h' s call f same (inl memory) = ([], same ∙ sym (append-nil h), subst (λ x. IsPart entry_limit h [] 0 s call (fault_answer x)) (sym memory) (record { session_is = none_of s; cases = refl }))
fault_part h h' s call f same (inr worn) = ([], same ∙ sym (append-nil h), subst (λ x. IsPart entry_limit h [] 0 s call (fault_answer x)) (sym worn.0) (record { session_is = none_of s; cases = (was_worn h worn.1, inl refl) }))

-- ## Insert

pub insert_added : (r0 r1 r2 r3 : Recorded) (current : Option ℕ) (s t : ℕ) (row : List Value) (r : Reply) → current ≡ Some s → IsDesk r0 current → HasBegun r0.seen r1 → r2 ≡ pushed r1 s (Insert t row) r → r3 ≡ pushed r2 s Sync reply.Done
    → is_added r ≡ true → IsSound r3.seen → IsOpenFor r3.seen 0 s → Called r0.seen r3 current s (Insert t row) (Replied r)
insert_added r0 r1 r2 r3 current s t row r is desk begun first second added sound open_for =
    synced_call r0 r1 r2 r3 current s (Insert t row) r is desk begun first second added (λ e. cc e) refl refl sound open_for

calm_insert : (r0 r1 r2 : Recorded) (current : Option ℕ) (s t : ℕ) (row : List Value) (r : Reply) → current ≡ Some s → IsDesk r0 current → HasBegun r0.seen r1 → r2 ≡ pushed r1 s (Insert t row) r
    → is_added r ≡ false → IsSound r2.seen → IsOpenFor r2.seen 0 s → Called r0.seen r2 current s (Insert t row) (Replied r)
calm_insert r0 r1 r2 current s t row r is desk begun first calm sound open_for =
    calm_call r0 r1 r2 current s (Insert t row) r is desk begun first calm (λ e. cc e) refl refl sound open_for

-- an insert that was seen before
pub insert_seen : (r0 r1 r2 : Recorded) (current : Option ℕ) (s t : ℕ) (row : List Value) (mark : ℕ) → current ≡ Some s → IsDesk r0 current → HasBegun r0.seen r1 → r2 ≡ answered r1 s (Insert t row) (insert_answer (Ok (Seen mark)))
    → IsSound r2.seen → IsOpenFor r2.seen 0 s → Called r0.seen r2 current s (Insert t row) (insert_answer (Ok (Seen mark)))
insert_seen r0 r1 r2 current s t row mark is desk begun first sound open_for = calm_insert r0 r1 r2 current s t row (reply.Seen mark) is desk begun first refl sound open_for

pub insert_refused : (r0 r1 r2 : Recorded) (current : Option ℕ) (s t : ℕ) (row : List Value) (f : InsertFault) → current ≡ Some s → IsDesk r0 current → HasBegun r0.seen r1 → r0.room ≤ r1.room → r2 ≡ answered r1 s (Insert t row) (insert_answer (Err f)) → IsInsertRefusal f
    → IsSound r2.seen → IsOpenFor r2.seen 0 s → Called r0.seen r2 current s (Insert t row) (insert_answer (Err f))
insert_refused r0 r1 r2 current s t row insert_fault.Spent is desk begun more first entered sound open_for = calm_insert r0 r1 r2 current s t row (reply.Refused refusal.Spent) is desk begun first refl sound open_for
insert_refused r0 r1 r2 current s t row insert_fault.Rows is desk begun more first entered sound open_for = calm_insert r0 r1 r2 current s t row (reply.Refused refusal.Rows) is desk begun first refl sound open_for
insert_refused r0 r1 r2 current s t row (insert_fault.Bytes sum) is desk begun more first entered sound open_for = calm_insert r0 r1 r2 current s t row (reply.Refused (refusal.Bytes sum)) is desk begun first refl sound open_for
insert_refused r0 r1 r2 current s t row (insert_fault.Desk desk_fault.Memory) is desk begun more first entered sound open_for = no_call r0 r1 r2 current s (Insert t row) desk begun more first
insert_refused r0 r1 r2 current s t row (insert_fault.Desk (desk_fault.Worn count)) is desk begun more first entered sound open_for = absurd entered

-- ## Select

pub selected : (r0 r1 r2 : Recorded) (current : Option ℕ) (s t most : ℕ) (result : Result (List NumberedRow) DeskFault) → current ≡ Some s → IsDesk r0 current → HasBegun r0.seen r1 → r0.room ≤ r1.room → r2 ≡ answered r1 s (Select t most) (select_answer result)
    → ((f : DeskFault) → result ≡ Err f → f ≡ desk_fault.Memory) → IsSound r2.seen → IsOpenFor r2.seen 0 s → Called r0.seen r2 current s (Select t most) (select_answer result)
selected r0 r1 r2 current s t most (Ok rows) is desk begun more first memory sound open_for = calm_call r0 r1 r2 current s (Select t most) (reply.Shown rows) is desk begun first refl (λ e. cc e) refl refl sound open_for
selected r0 r1 r2 current s t most (Err desk_fault.Memory) is desk begun more first memory sound open_for = no_call r0 r1 r2 current s (Select t most) desk begun more first
selected r0 r1 r2 current s t most (Err (desk_fault.Worn count)) is desk begun more first memory sound open_for = absurd (other (memory (desk_fault.Worn count) refl)) where
  other : desk_fault.Worn count ≡ desk_fault.Memory → ⊥
  other e = cc e

-- a select that began is refused for want of memory alone
pub memory_only : (result : Result (List NumberedRow) DeskFault) → IfErr result (λ f. f ≡ desk_fault.Memory) → (f : DeskFault) → result ≡ Err f → f ≡ desk_fault.Memory
memory_only result told f is = subst (λ (r : Result (List NumberedRow) DeskFault). IfErr r (λ x. x ≡ desk_fault.Memory)) is told

-- ## Wait

-- a look that ends nothing first
looked_only : (r0 r1 r2 r3 : Recorded) (current : Option ℕ) (s : ℕ) (list : List Listed) (r : Reply) → is_owner_mode (mode_of (state_after r0.seen) s) ≡ false → current ≡ Some s → IsDesk r0 current → HasBegun r0.seen r1
    → r2.seen ≡ r0.seen ++ [] → r2.room ≡ r1.room → r3 ≡ pushed r2 s (Look list) r → IsSound r3.seen → IsOpenFor r3.seen 0 s → Called r0.seen r3 current s (Look list) (Replied r)
looked_only r0 r1 r2 r3 current s list r calm is desk begun ended room looked sound open_for =
    let same : r2.seen ≡ r1.seen = ended ∙ append-nil r0.seen ∙ sym begun.seen in
    let first : r3 ≡ pushed r1 s (Look list) r = looked ∙ ap (λ x. let p : Recorded = record { seen = x ++ entry s (Look list) r ∷ []; room = r2.room } in p) same ∙ ap (λ x. let p : Recorded = record { seen = r1.seen ++ entry s (Look list) r ∷ []; room = x } in p) room in
    calm_call r0 r1 r3 current s (Look list) r is desk begun first refl (λ e. cc e) refl calm sound open_for

-- What a wait's last entries are, behind the end that it made first.
waited_from : (r0 r1 r2 r3 : Recorded) (current : Option ℕ) (s : ℕ) (list : List Listed) (r : Reply) (o : Option SessionMode) → mode_of (state_after r0.seen) s ≡ o → current ≡ Some s → IsDesk r0 current → HasBegun r0.seen r1
    → r2.seen ≡ r0.seen ++ ending (is_owner_mode o) 0 s → r2.room ≡ r1.room → LookedUntil r2 r3 s (Look list) r (is_owner o) → IsSound r3.seen → IsOpenFor r3.seen 0 s → Called r0.seen r3 current s (Look list) (Replied r)
waited_from r0 r1 r2 r3 current s list r (Some NonOwner) mode is desk begun ended room looked sound open_for = looked_only r0 r1 r2 r3 current s list r (ap is_owner_mode mode) is desk begun ended room looked sound open_for
waited_from r0 r1 r2 r3 current s list r None mode is desk begun ended room looked sound open_for = looked_only r0 r1 r2 r3 current s list r (ap is_owner_mode mode) is desk begun ended room looked sound open_for
waited_from r0 r1 r2 r3 current s list r (Some Empty) mode is desk begun ended room looked sound open_for =
    let h = r0.seen in
    let a = entry s End reply.Done in
    let b = entry s (Look list) r in
    let seen3 : r3.seen ≡ (h ++ a ∷ []) ++ b ∷ [] = ap (λ (x : Recorded). x.seen) looked ∙ ap (λ x. x ++ b ∷ []) ended in
    let settled = λ (place : ℕ). subst (λ x. IsSettled x place) (push_two h a b) (settled_push (h ++ a ∷ []) b (settled_push h a desk.settled (ap is_owner mode)) refl place) in
    let owed = subst SyncsAreOwed (push_two h a b) (owed_push (h ++ a ∷ []) b (owed_push h a desk.in_order.owed (λ e. cc e)) (λ e. cc e)) in
    called h (a ∷ b ∷ []) r1 r3 current s (Look list) (Replied r) is begun (seen3 ∙ push_two h a b) (ap (λ (x : Recorded). x.room) looked ∙ room)
    (record { few = omega arith; keep = keep_more a (b ∷ []) refl (keep_one b refl); settled = settled; owed = owed }) sound open_for
    (record {
      session_is = of_session s a (b ∷ []) refl (of_session s b [] refl (none_of s));
      cases = record { front = a ∷ []; back = []; cut = refl; own_front = ap (λ x. ending (is_owner_mode x) 0 s) (sym mode); own_back = refl; settled = settled (length (h ++ a ∷ [])); had_room = had_room h (a ∷ []) (by_one s End reply.Done [] by_none) begun.fresh };
    })
waited_from r0 r1 r2 r3 current s list r (Some (Owner t n)) mode is desk begun ended room (inl looked) sound open_for =
    let h = r0.seen in
    let a = entry s End reply.Done in
    let b = entry s (Look list) r in
    let c = entry s Sync reply.Done in
    let seen3 : r3.seen ≡ ((h ++ a ∷ []) ++ b ∷ []) ++ c ∷ [] = ap (λ (x : Recorded). x.seen) looked ∙ ap (λ x. (x ++ b ∷ []) ++ c ∷ []) ended in
    let settled = λ (place : ℕ). subst (λ x. IsSettled x place) (push_three h a b c) (settled_by_sync ((h ++ a ∷ []) ++ b ∷ []) c refl place) in
    let owed = subst SyncsAreOwed (push_three h a b c) (owed_push ((h ++ a ∷ []) ++ b ∷ []) c (owed_push (h ++ a ∷ []) b (owed_push h a desk.in_order.owed (λ e. cc e)) (λ e. cc e)) (λ _. unsettled_more h a b (ap is_owner mode) (λ e. cc e))) in
    called h (a ∷ b ∷ c ∷ []) r1 r3 current s (Look list) (Replied r) is begun (seen3 ∙ push_three h a b c) (ap (λ (x : Recorded). x.room) looked ∙ room)
    (record { few = omega arith; keep = keep_more a (b ∷ c ∷ []) refl (keep_more b (c ∷ []) refl (keep_one c refl)); settled = settled; owed = owed }) sound open_for
    (record {
      session_is = of_session s a (b ∷ c ∷ []) refl (of_session s b (c ∷ []) refl (of_session s c [] refl (none_of s)));
      cases = record { front = a ∷ []; back = c ∷ []; cut = refl; own_front = ap (λ x. ending (is_owner_mode x) 0 s) (sym mode); own_back = refl; settled = settled (length (h ++ a ∷ [])); had_room = had_room h (a ∷ []) (by_one s End reply.Done [] by_none) begun.fresh };
    })
waited_from r0 r1 r2 r3 current s list r (Some (Owner t n)) mode is desk begun ended room (inr looked) sound open_for =
    let h = r0.seen in
    let a = entry s End reply.Done in
    let b = entry s Sync reply.Done in
    let c = entry s (Look list) r in
    let seen3 : r3.seen ≡ ((h ++ a ∷ []) ++ b ∷ []) ++ c ∷ [] = ap (λ (x : Recorded). x.seen) looked ∙ ap (λ x. (x ++ b ∷ []) ++ c ∷ []) ended in
    let settled = λ (place : ℕ). subst (λ x. IsSettled x place) (push_three h a b c) (settled_push ((h ++ a ∷ []) ++ b ∷ []) c (settled_by_sync (h ++ a ∷ []) b refl) refl place) in
    let owed = subst SyncsAreOwed (push_three h a b c) (owed_push ((h ++ a ∷ []) ++ b ∷ []) c (owed_push (h ++ a ∷ []) b (owed_push h a desk.in_order.owed (λ e. cc e)) (λ _. unsettled_push h a (ap is_owner mode))) (λ e. cc e)) in
    called h (a ∷ b ∷ c ∷ []) r1 r3 current s (Look list) (Replied r) is begun (seen3 ∙ push_three h a b c) (ap (λ (x : Recorded). x.room) looked ∙ room)
    (record { few = omega arith; keep = keep_more a (b ∷ c ∷ []) refl (keep_more b (c ∷ []) refl (keep_one c refl)); settled = settled; owed = owed }) sound open_for
    (record {
      session_is = of_session s a (b ∷ c ∷ []) refl (of_session s b (c ∷ []) refl (of_session s c [] refl (none_of s)));
      cases = record { front = a ∷ b ∷ []; back = []; cut = refl; own_front = ap (λ x. ending (is_owner_mode x) 0 s) (sym mode); own_back = refl; settled = settled (length (h ++ (a ∷ b ∷ []))); had_room = had_room h (a ∷ b ∷ []) (by_one s End reply.Done (b ∷ []) (by_one s Sync reply.Done [] by_none)) begun.fresh };
    })

pub waited : (r0 r1 r2 r3 : Recorded) (current : Option ℕ) (s : ℕ) (list : List Listed) (r : Reply) (owes : Bool) → current ≡ Some s → IsDesk r0 current → HasBegun r0.seen r1 → r2 ≡ ended_first r1 s → owes ≡ is_owner (mode_of (state_after r1.seen) s)
    → LookedUntil r2 r3 s (Look list) r owes → IsSound r3.seen → IsOpenFor r3.seen 0 s → Called r0.seen r3 current s (Look list) (Replied r)
waited r0 r1 r2 r3 current s list r owes is desk begun ended owed looked sound open_for =
    let mode : mode_of (state_after r1.seen) s ≡ mode_of (state_after r0.seen) s = ap (λ h. mode_of (state_after h) s) begun.seen in
    let seen : r2.seen ≡ r0.seen ++ ending (is_owner_mode (mode_of (state_after r0.seen) s)) 0 s = ap (λ (x : Recorded). x.seen) ended ∙ ap (λ h. h ++ ending (is_owner_mode (mode_of (state_after h) s)) 0 s) begun.seen in
    waited_from r0 r1 r2 r3 current s list r (mode_of (state_after r0.seen) s) refl is desk begun seen (ap (λ (x : Recorded). x.room) ended) (subst (LookedUntil r2 r3 s (Look list) r) (owed ∙ ap is_owner mode) looked) sound open_for

-- ## The first entry

-- a history that grew begins as it did
pub begins_grown : (defs : List TableDef) (old new : List Entry) (P : List Entry → Type 0) → BeginsNew defs old → Grows old new P → BeginsNew defs new
begins_grown defs old new P begins grows = (begins.0 ++ grows.0, grows.1 ∙ ap (λ h. h ++ grows.0) begins.1)

pub begins_same : (defs : List TableDef) (old new : List Entry) → BeginsNew defs old → new ≡ old → BeginsNew defs new
begins_same defs old new begins same = (begins.0, same ∙ begins.1)

-- ## As the desk's clauses say it

pub part_for : {kept : List (List Cursor)} → (d : DeskState) (seen : List Entry) (current : Option ℕ) (session : ℕ) (seen' : List Entry) (call : Call) (answer : Answer) → record { seen = seen; current = current; kept = kept } ≡ d → current ≡ Some session
    → Grows seen seen' (λ grown. IsPart entry_limit seen grown 0 session call answer) → (s : ℕ) → d.current ≡ Some s → Grows d.seen seen' (λ grown. IsPart entry_limit d.seen grown 0 s call answer)
part_for d seen current session seen' call answer view is part =
    subst (λ (x : DeskState). (s : ℕ) → x.current ≡ Some s → Grows x.seen seen' (λ grown. IsPart entry_limit x.seen grown 0 s call answer)) view
    (λ s here. subst (λ k. Grows seen seen' (λ grown. IsPart entry_limit seen grown 0 k call answer)) (some_of session s (sym is ∙ here)) part)

-- the part of a call that did not begin
pub fault_for : {kept : List (List Cursor)} → (d : DeskState) (seen : List Entry) (current : Option ℕ) (seen' : List Entry) (call : Call) (f : DeskFault) → record { seen = seen; current = current; kept = kept } ≡ d → seen' ≡ seen
    → (f ≡ desk_fault.Memory) ⊎ ((f ≡ desk_fault.Worn (length seen)) × IsWorn entry_limit seen) → (s : ℕ) → d.current ≡ Some s → Grows d.seen seen' (λ grown. IsPart entry_limit d.seen grown 0 s call (fault_answer f))
fault_for d seen current seen' call f view same why s is =
    subst (λ (x : DeskState). Grows x.seen seen' (λ grown. IsPart entry_limit x.seen grown 0 s call (fault_answer f))) view (fault_part seen seen' s call f same why)

-- the same part, of what is the same call and the same answer
pub part_as : (old seen : List Entry) (s : ℕ) (call call' : Call) (answer answer' : Answer) → call ≡ call' → answer ≡ answer' → Grows old seen (λ grown. IsPart entry_limit old grown 0 s call answer) → Grows old seen (λ grown. IsPart entry_limit old grown 0 s call' answer')
part_as old seen s call call' answer answer' same_call same_answer part =
    subst (λ x. Grows old seen (λ grown. IsPart entry_limit old grown 0 s x answer')) same_call (subst (λ x. Grows old seen (λ grown. IsPart entry_limit old grown 0 s call x)) same_answer part)

pub wait_replied : (place : Option ℕ) → Replied (look_reply place) ≡ wait_answer (Ok place)
wait_replied (Some place) = refl
wait_replied None = refl

-- ## Opening and closing

pub opened_desk : (r0 r1 r2 : Recorded) (s : ℕ) → IsDesk r0 None → HasBegun r0.seen r1 → r2 ≡ pushed r1 s Open (reply.Session s) → IsSound r2.seen → IsOpenFor r2.seen 0 s
    → IsDesk r2 (Some s) × Grows r0.seen r2.seen (λ grown. IsOpened entry_limit r0.seen grown 0 (Ok s))
opened_desk r0 r1 r2 s desk begun first sound open_for =
    let h = r0.seen in
    let a = entry s Open (reply.Session s) in
    let grew : r2.seen ≡ h ++ a ∷ [] = ap (λ (x : Recorded). x.seen) first ∙ ap (λ x. x ++ a ∷ []) begun.seen in
    let same_room : r2.room ≡ r1.room = ap (λ (x : Recorded). x.room) first in
    let start : length r1.seen ≡ length h = ap length begun.seen in
    let size : length r2.seen ≡ length h + 1 = ap length grew ∙ length-append h (a ∷ []) in
    let sessions : open_sessions r2.seen ≡ open_sessions h + 1 = ap open_sessions grew ∙ sessions_opened h a refl in
    let worn = not_worn h begun.fresh in
    let settled = λ (place : ℕ). subst (λ x. IsSettled x place) (sym grew) (settled_push h a desk.settled refl place) in (
      desk_of r2 (Some s) s refl sound open_for settled (subst SyncsAreOwed (sym grew) (owed_push h a desk.in_order.owed (λ e. cc e)))
          (omega (arith, size, sessions, start, same_room, begun.room.0), omega (arith, size, sessions, start, begun.room.1)) (omega (arith, size, sessions, worn)),
      (a ∷ [], grew, record { front = []; back = []; cut = refl; none_front = refl; none_back = refl; room = subst (λ x. IsWorn entry_limit x → ⊥) (sym (append-nil h)) begun.fresh }),
    )

-- an opening that did not begin, or wanted memory
pub refused_opening : (h h' : List Entry) (f : DeskFault) → h' ≡ h → (f ≡ desk_fault.Memory) ⊎ ((f ≡ desk_fault.Worn (length h)) × IsWorn entry_limit h) → Grows h h' (λ grown. IsOpened entry_limit h grown 0 (Err f))
refused_opening h h' f same (inl memory) = ([], same ∙ sym (append-nil h), subst (λ x. IsOpened entry_limit h [] 0 (Err x)) (sym memory) refl)
refused_opening h h' f same (inr worn) = ([], same ∙ sym (append-nil h), subst (λ x. IsOpened entry_limit h [] 0 (Err x)) (sym worn.0) (refl, was_worn h worn.1))

-- an open session may close
pub closing_room : (r : Recorded) (current : Option ℕ) (s : ℕ) → IsDesk r current → current ≡ Some s → HasRoom r 1
closing_room r current s desk is =
    let fewer = sessions_closed r.seen (entry s Close reply.Done) refl (desk.in_order.is_open s is).is_open in
    (omega (arith, fewer, desk.room.0), omega (arith, fewer, desk.room.1))

pub closed_desk : (r1 r2 : Recorded) (current : Option ℕ) (s : ℕ) → IsDesk r1 current → current ≡ Some s → r2 ≡ pushed r1 s Close reply.Done → IsSound r2.seen
    → IsDesk r2 None × Grows r1.seen r2.seen (λ grown. IsClosed 0 s grown)
closed_desk r1 r2 current s desk is first sound =
    let h = r1.seen in
    let a = entry s Close reply.Done in
    let grew : r2.seen ≡ h ++ a ∷ [] = ap (λ (x : Recorded). x.seen) first in
    let same_room : r2.room ≡ r1.room = ap (λ (x : Recorded). x.room) first in
    let size : length r2.seen ≡ length h + 1 = ap length grew ∙ length-append h (a ∷ []) in
    let sessions : open_sessions r2.seen + 1 ≤ open_sessions h = subst (λ x. open_sessions x + 1 ≤ open_sessions h) (sym grew) (sessions_closed h a refl (desk.in_order.is_open s is).is_open) in (
      record {
        in_order = record { legal = sound.legal; owed = subst SyncsAreOwed (sym grew) (owed_push h a desk.in_order.owed (λ e. cc e)); is_open = λ k none. absurd (none_some k none) };
        sound = sound;
        settled = λ place. subst (λ x. IsSettled x place) (sym grew) (settled_push h a desk.settled refl place);
        room = (omega (arith, size, sessions, same_room, desk.room.0), omega (arith, size, sessions, desk.room.1));
        few = omega (arith, size, sessions, desk.few);
      },
      (a ∷ [], grew, refl),
    )

pub closed_for : {kept : List (List Cursor)} → (d : DeskState) (seen : List Entry) (current : Option ℕ) (session : ℕ) (seen' : List Entry) → record { seen = seen; current = current; kept = kept } ≡ d → current ≡ Some session → Grows seen seen' (λ grown. IsClosed 0 session grown)
    → (s : ℕ) → d.current ≡ Some s → Grows d.seen seen' (λ grown. IsClosed 0 s grown)
closed_for d seen current session seen' view is closing =
    subst (λ (x : DeskState). (s : ℕ) → x.current ≡ Some s → Grows x.seen seen' (λ grown. IsClosed 0 s grown)) view
    (λ s here. subst (λ k. Grows seen seen' (λ grown. IsClosed 0 k grown)) (some_of session s (sym is ∙ here)) closing)
