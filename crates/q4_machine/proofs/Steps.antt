-- Each step leads from a valid machine to a valid one.
use Rattle.std.proofs.Common.{◌≡◌, ◌≢◌, ◌==◌, ◌<◌, ◌+◌, ◌∷◌, ◌∙◌, [], List, ℕ, not, Option, Some, None, map, length, refl, sym, ap, subst, arith, inl, inr, get_or-set_same, get_or-set_other}
use Rattle.std.specs.Option.{option_map, ForSome}
use Rattle.std.specs.Prelude.{option_and_then}
use Rattle.std.proofs.Math.ListN.{get_or-eq_default}
use Rattle.std.proofs.lemmas.Bool.{cases_eq, cases_lt}
use Rattle.std.proofs.lemmas.List.{map-append}
use Rattle.std.proofs.lemmas.List.Elements.{All-set, All-get_or}
use Rattle.q4_value.specs.declared.row.Value.{Value}
use Rattle.q4_value.specs.Row.{Fits}
use Rattle.q4_table.specs.declared.adding.Check.TheVariants as check
use Rattle.q4_table.specs.declared.rows.StoredRow.{StoredRow}
use Rattle.q4_table.specs.TableState.{TableState}
use Rattle.q4_table.specs.Rows.{row_in, owner_in, with_owner, without_row}
use Rattle.q4_table.specs.Adding.{IsOrigin, check_of, add_row}
use Rattle.q4_table.specs.Valid.{RiseBelow, IsValidTable}
use Rattle.q4_machine.specs.declared.session.SessionMode.{SessionMode}
use Rattle.q4_machine.specs.declared.session.SessionMode.TheVariants.{NonOwner, Empty, Owner}
use Rattle.q4_machine.specs.declared.session.OpenSession.{OpenSession}
use Rattle.q4_machine.specs.Opening.{Opening}
use Rattle.q4_machine.specs.declared.entry.Call.TheVariants.{Open}
use Rattle.q4_machine.specs.Machine.{MachineState, no_table, opening_at, table_at, mode_of, owner_at, session_in, in_mode, with_mode, without_session}
use Rattle.q4_machine.specs.Step.{with_table, with_rows, with_session, with_none, step, ended, aborted, closed}
use Rattle.q4_machine.specs.Valid.{IsValid}
use Rattle.q4_table.proofs.Lookup.{found, found_others, found_gone, found_before, found_last}
use Rattle.q4_table.proofs.Rising.{rise-push, rise-filter, none_next, map_keeps}
use Rattle.q4_table.proofs.Validity.{valid-owned, valid-removed, valid-added}
use Rattle.q4_machine.proofs.Validity.{Agrees, OwnsNothing, agrees_quiet, agrees_take, agrees_leave, none_some, keeps_session, mode_given, mode_other, owner_given, owner_other}

-- ## Owners after a change of one table

abbrev pub IsValidOpening : Opening → Type 0
IsValidOpening opening = IsValidTable opening.table

abbrev pub with_its : MachineState → ℕ → TableState → Opening
with_its m t table = record (opening_at m.tables t) { table = table }

pub owner_same : (m : MachineState) (t : ℕ) (table : TableState) (k : ℕ) → t < length m.tables → owner_at (with_table m t table) t k ≡ owner_in table.rows k
owner_same m t table k inside = ap (λ (x : Opening). owner_in x.table.rows k) (get_or-set_same m.tables t (with_its m t table) no_table inside)

pub owner_apart : (m : MachineState) (t : ℕ) (table : TableState) (q k : ℕ) → q ≢ t → owner_at (with_table m t table) q k ≡ owner_at m q k
owner_apart m t table q k other = ap (λ (x : Opening). owner_in x.table.rows k) (get_or-set_other m.tables t q (with_its m t table) no_table other)

-- where one row of a table changes, all others keep their owners
pub owner_elsewhere : (m : MachineState) (t n : ℕ) (table : TableState) → t < length m.tables → ((k : ℕ) → k ≢ n → owner_in table.rows k ≡ owner_in (table_at m.tables t).rows k)
    → (q k : ℕ) → (q ≡ t → k ≡ n → ⊥) → owner_at (with_table m t table) q k ≡ owner_at m q k
owner_elsewhere m t n table inside rows q k other = elim (cases_eq q t) [
  | inl here ↦
      ap (λ x. owner_at (with_table m t table) x k) here ∙ owner_same m t table k inside ∙ rows k (other here) ∙ ap (λ x. owner_at m x k) (sym here)
  | inr apart ↦ owner_apart m t table q k apart
]

row_of_owner : (o : Option StoredRow) (s : ℕ) → option_and_then (λ (r : StoredRow). r.owner) o ≡ Some s → o ≢ None
row_of_owner o s is none = none_some s (ap (option_and_then (λ (r : StoredRow). r.owner)) (sym none) ∙ is)

-- a row with an owner is a row of a table that is there
pub owned_inside : (m : MachineState) (t n s : ℕ) → owner_at m t n ≡ Some s → (t < length m.tables) × (row_in (table_at m.tables t).rows n ≢ None)
owned_inside m t n s is = elim (cases_lt t (length m.tables)) [
  | inl inside ↦ (inside, row_of_owner (row_in (table_at m.tables t).rows n) s is)
  | inr past ↦ absurd (none_some s (sym (ap (λ (x : Opening). owner_in x.table.rows n) (get_or-eq_default m.tables no_table past)) ∙ is))
]

-- ## Sessions

pub agrees : (m : MachineState) → IsValid m → Agrees (mode_of m) (owner_at m)
agrees m valid = record { owns = valid.owns; owned = valid.owned }

pub not_owner : OwnsNothing (Some NonOwner)
not_owner = λ t n is. cc is

pub not_empty : OwnsNothing (Some Empty)
not_empty = λ t n is. cc is

pub not_there : OwnsNothing None
not_there = λ t n is. cc is

mode_there : (m : MachineState) (s : ℕ) (mode : SessionMode) → mode_of m s ≡ Some mode → mode_of m s ≢ None
mode_there m s mode is none = none_some mode (sym none ∙ is)

-- the numbers of the sessions after a change of mode
sessions_moved : (m : MachineState) (s : ℕ) (mode : SessionMode) → RiseBelow 0 m.next_session (map (λ (x : OpenSession). x.session) m.sessions)
    → RiseBelow 0 m.next_session (map (λ (x : OpenSession). x.session) (with_mode s mode m.sessions))
sessions_moved m s mode rise = subst (RiseBelow 0 m.next_session) (sym (map_keeps (λ (x : OpenSession). x.session) (in_mode s mode) (keeps_session s mode) m.sessions)) rise

-- ## Steps

-- a session that owns nothing goes to another such mode
pub valid_quiet : (m : MachineState) (s : ℕ) (old new : SessionMode) → IsValid m → mode_of m s ≡ Some old → OwnsNothing (Some old) → OwnsNothing (Some new) → IsValid (with_session m s new)
valid_quiet m s old new valid was before after =
    let given : mode_of (with_session m s new) s ≡ Some new = mode_given s new m.sessions (mode_there m s old was) in
    let agree = agrees_quiet (mode_of m) (mode_of (with_session m s new)) (owner_at m) (owner_at m) s (agrees m valid)
    (λ t n. refl) (λ j other. mode_other s j new m.sessions other) (λ t n is. before t n (sym was ∙ is)) (λ t n is. after t n (sym given ∙ is)) in
    record { tables = valid.tables; begins = valid.begins; sessions = sessions_moved m s new valid.sessions; owns = agree.owns; owned = agree.owned }

-- a session that owns nothing takes a row that nobody owns
pub valid_taken : (m : MachineState) (s t n : ℕ) → IsValid m → mode_of m s ≡ Some NonOwner → t < length m.tables → row_in (table_at m.tables t).rows n ≢ None → owner_at m t n ≡ None
    → IsValid (with_session (with_rows m t (with_owner n (Some s))) s (Owner t n))
valid_taken m s t n valid was inside there free =
    let table = table_at m.tables t in
    let taken : TableState = record table { rows = with_owner n (Some s) table.rows } in
    let m' = with_session (with_table m t taken) s (Owner t n) in
    let given : mode_of m' s ≡ Some (Owner t n) = mode_given s (Owner t n) m.sessions (mode_there m s NonOwner was) in
    let agree = agrees_take (mode_of m) (mode_of m') (owner_at m) (owner_at m') s t n (agrees m valid)
    (λ q k is. not_owner q k (sym was ∙ is)) free
    (owner_same m t taken n inside ∙ owner_given n (Some s) table.rows there)
    (owner_elsewhere m t n taken inside (λ k other. owner_other n k (Some s) table.rows other))
    given (λ j other. mode_other s j (Owner t n) m.sessions other) in
    record {
      tables = All-set IsValidOpening m.tables t (with_its m t taken) (valid-owned table n (Some s) (All-get_or IsValidOpening m.tables t no_table inside valid.tables)) valid.tables;
      begins = valid.begins;
      sessions = sessions_moved m s (Owner t n) valid.sessions;
      owns = agree.owns;
      owned = agree.owned;
    }

owner_gone : (n k : ℕ) (rows : List StoredRow) → k ≢ n → owner_in (without_row n rows) k ≡ owner_in rows k
owner_gone n k rows other = ap (option_and_then (λ (r : StoredRow). r.owner)) (found_others (λ (r : StoredRow). r.number) n k rows other)

none_gone : (n : ℕ) (rows : List StoredRow) → owner_in (without_row n rows) n ≡ None
none_gone n rows = ap (option_and_then (λ (r : StoredRow). r.owner)) (found_gone (λ (r : StoredRow). r.number) n rows)

-- a session removes the row that it owns
pub valid_removed : (m : MachineState) (s t n : ℕ) → IsValid m → mode_of m s ≡ Some (Owner t n) → IsValid (with_session (with_rows m t (without_row n)) s NonOwner)
valid_removed m s t n valid was =
    let table = table_at m.tables t in
    let inside = owned_inside m t n s (valid.owns s t n was) in
    let rest : TableState = record table { rows = without_row n table.rows } in
    let m' = with_session (with_table m t rest) s NonOwner in
    let given : mode_of m' s ≡ Some NonOwner = mode_given s NonOwner m.sessions (mode_there m s (Owner t n) was) in
    let agree = agrees_leave (mode_of m) (mode_of m') (owner_at m) (owner_at m') s t n (agrees m valid) was
    (owner_same m t rest n inside.0 ∙ none_gone n table.rows)
    (owner_elsewhere m t n rest inside.0 (λ k other. owner_gone n k table.rows other))
    (λ q k is. not_owner q k (sym given ∙ is)) (λ j other. mode_other s j NonOwner m.sessions other) in
    record {
      tables = All-set IsValidOpening m.tables t (with_its m t rest) (valid-removed table n (All-get_or IsValidOpening m.tables t no_table inside.0 valid.tables)) valid.tables;
      begins = valid.begins;
      sessions = sessions_moved m s NonOwner valid.sessions;
      owns = agree.owns;
      owned = agree.owned;
    }

-- a session gives back the row that it owns
pub valid_released : (m : MachineState) (s t n : ℕ) → IsValid m → mode_of m s ≡ Some (Owner t n) → IsValid (with_session (with_rows m t (with_owner n None)) s NonOwner)
valid_released m s t n valid was =
    let table = table_at m.tables t in
    let inside = owned_inside m t n s (valid.owns s t n was) in
    let rest : TableState = record table { rows = with_owner n None table.rows } in
    let m' = with_session (with_table m t rest) s NonOwner in
    let given : mode_of m' s ≡ Some NonOwner = mode_given s NonOwner m.sessions (mode_there m s (Owner t n) was) in
    let agree = agrees_leave (mode_of m) (mode_of m') (owner_at m) (owner_at m') s t n (agrees m valid) was
    (owner_same m t rest n inside.0 ∙ owner_given n None table.rows inside.1)
    (owner_elsewhere m t n rest inside.0 (λ k other. owner_other n k None table.rows other))
    (λ q k is. not_owner q k (sym given ∙ is)) (λ j other. mode_other s j NonOwner m.sessions other) in
    record {
      tables = All-set IsValidOpening m.tables t (with_its m t rest) (valid-owned table n None (All-get_or IsValidOpening m.tables t no_table inside.0 valid.tables)) valid.tables;
      begins = valid.begins;
      sessions = sessions_moved m s NonOwner valid.sessions;
      owns = agree.owns;
      owned = agree.owned;
    }

mode_without_other : (s k : ℕ) (sessions : List OpenSession) → k ≢ s
    → option_map (λ (x : OpenSession). x.mode) (session_in (without_session s sessions) k) ≡ option_map (λ (x : OpenSession). x.mode) (session_in sessions k)
mode_without_other s k sessions other = ap (option_map (λ (x : OpenSession). x.mode)) (found_others (λ (x : OpenSession). x.session) s k sessions other)

mode_without : (s : ℕ) (sessions : List OpenSession) → option_map (λ (x : OpenSession). x.mode) (session_in (without_session s sessions) s) ≡ None
mode_without s sessions = ap (option_map (λ (x : OpenSession). x.mode)) (found_gone (λ (x : OpenSession). x.session) s sessions)

sessions_left : (m : MachineState) (s : ℕ) → RiseBelow 0 m.next_session (map (λ (x : OpenSession). x.session) m.sessions)
    → RiseBelow 0 m.next_session (map (λ (x : OpenSession). x.session) (without_session s m.sessions))
sessions_left m s rise = rise-filter (λ (x : OpenSession). x.session) (λ (x : OpenSession). not (x.session == s)) 0 m.next_session m.sessions rise

-- a session that owns nothing closes
pub valid_left : (m : MachineState) (s : ℕ) (old : SessionMode) → IsValid m → mode_of m s ≡ Some old → OwnsNothing (Some old) → IsValid (with_none m s)
valid_left m s old valid was before =
    let gone : mode_of (with_none m s) s ≡ None = mode_without s m.sessions in
    let agree = agrees_quiet (mode_of m) (mode_of (with_none m s)) (owner_at m) (owner_at m) s (agrees m valid)
    (λ t n. refl) (λ j other. mode_without_other s j m.sessions other) (λ t n is. before t n (sym was ∙ is)) (λ t n is. not_there t n (sym gone ∙ is)) in
    record { tables = valid.tables; begins = valid.begins; sessions = sessions_left m s valid.sessions; owns = agree.owns; owned = agree.owned }

-- a session that owns a row gives it back and closes
pub valid_given_back : (m : MachineState) (s t n : ℕ) → IsValid m → mode_of m s ≡ Some (Owner t n) → IsValid (with_none (with_rows m t (with_owner n None)) s)
valid_given_back m s t n valid was =
    let table = table_at m.tables t in
    let inside = owned_inside m t n s (valid.owns s t n was) in
    let given : TableState = record table { rows = with_owner n None table.rows } in
    let m' = with_none (with_table m t given) s in
    let gone : mode_of m' s ≡ None = mode_without s m.sessions in
    let agree = agrees_leave (mode_of m) (mode_of m') (owner_at m) (owner_at m') s t n (agrees m valid) was
    (owner_same m t given n inside.0 ∙ owner_given n None table.rows inside.1)
    (owner_elsewhere m t n given inside.0 (λ k other. owner_other n k None table.rows other))
    (λ q k is. not_there q k (sym gone ∙ is)) (λ j other. mode_without_other s j m.sessions other) in
    record {
      tables = All-set IsValidOpening m.tables t (with_its m t given) (valid-owned table n None (All-get_or IsValidOpening m.tables t no_table inside.0 valid.tables)) valid.tables;
      begins = valid.begins;
      sessions = sessions_left m s valid.sessions;
      owns = agree.owns;
      owned = agree.owned;
    }

opened_session : ℕ → OpenSession
opened_session s = record { session = s; mode = NonOwner }

-- a new session is in non-owner mode
pub mode_opened : (m : MachineState) → IsValid m → mode_of (step m m.next_session Open).0 m.next_session ≡ Some NonOwner
unfolding opened_session
mode_opened m valid =
    let key = λ (x : OpenSession). x.session in
    ap (option_map (λ (x : OpenSession). x.mode)) (found_last key m.next_session m.sessions (opened_session m.next_session) (none_next key 0 m.next_session m.sessions valid.sessions) refl)

-- a new session
pub valid_opened : (m : MachineState) (session : ℕ) → IsValid m → IsValid (step m session Open).0
unfolding opened_session
valid_opened m session valid =
    let s = m.next_session in
    let m' = (step m session Open).0 in
    let key = λ (x : OpenSession). x.session in
    let none : found key s m.sessions ≡ None = none_next key 0 s m.sessions valid.sessions in
    let given : mode_of m' s ≡ Some NonOwner = ap (option_map (λ (x : OpenSession). x.mode)) (found_last key s m.sessions (opened_session s) none refl) in
    let agree = agrees_quiet (mode_of m) (mode_of m') (owner_at m) (owner_at m') s (agrees m valid)
    (λ t n. refl) (λ j other. ap (option_map (λ (x : OpenSession). x.mode)) (found_before key j m.sessions (opened_session s) other))
    (λ t n is. not_there t n (sym (ap (option_map (λ (x : OpenSession). x.mode)) none) ∙ is)) (λ t n is. not_owner t n (sym given ∙ is)) in
    record {
      tables = valid.tables;
      begins = omega arith;
      sessions = subst (RiseBelow 0 (s + 1)) (sym (map-append key m.sessions (opened_session s ∷ []))) (rise-push 0 s (map key m.sessions) valid.begins valid.sessions);
      owns = agree.owns;
      owned = agree.owned;
    }

-- a new row
-- no row has an origin yet
no_origin : ForSome None IsOrigin
no_origin origin is = absurd (none_some origin is)

new_row : TableState → List Value → StoredRow
new_row table row = record { number = table.next; row = row; owner = None }

pub valid_added : (m : MachineState) (t : ℕ) (row : List Value) → IsValid m → t < length m.tables → Fits (table_at m.tables t).columns row → check_of (table_at m.tables t) row None ≡ check.New → IsValid (with_table m t (add_row (table_at m.tables t) row None))
unfolding new_row
valid_added m t row valid inside fits new =
    let table = table_at m.tables t in
    let was = All-get_or IsValidOpening m.tables t no_table inside valid.tables in
    let more = add_row table row None in
    let key = λ (r : StoredRow). r.number in
    let none : found key table.next table.rows ≡ None = none_next key 0 table.next table.rows was.numbers in
    let owner = λ (o : Option StoredRow). option_and_then (λ (r : StoredRow). r.owner) o in
    let same_rows = λ (k : ℕ). elim (cases_eq k table.next) as (λ _. owner_in more.rows k ≡ owner_in table.rows k) [
      | inl here ↦ ap owner (found_last key k table.rows (new_row table row) (ap (λ x. found key x table.rows) here ∙ none) (sym here)) ∙ sym (ap owner (ap (λ x. found key x table.rows) here ∙ none))
      | inr other ↦ ap owner (found_before key k table.rows (new_row table row) other)
    ] in
    let same = λ (q k : ℕ). elim (cases_eq q t) as (λ _. owner_at (with_table m t more) q k ≡ owner_at m q k) [
      | inl here ↦ ap (λ x. owner_at (with_table m t more) x k) here ∙ owner_same m t more k inside ∙ same_rows k ∙ ap (λ x. owner_at m x k) (sym here)
      | inr apart ↦ owner_apart m t more q k apart
    ] in
    record {
      tables = All-set IsValidOpening m.tables t (with_its m t more) (valid-added table row None was fits no_origin new) valid.tables;
      begins = valid.begins;
      sessions = valid.sessions;
      owns = λ s q k is. same q k ∙ valid.owns s q k is;
      owned = λ s q k is. valid.owned s q k (sym (same q k) ∙ is);
    }

-- ## Closing and ending, by the session's mode

pub valid_ended : (m : MachineState) (s : ℕ) (o : Option SessionMode) → mode_of m s ≡ o → IsValid m → IsValid (ended m s o).0
valid_ended m s (Some NonOwner) was valid = valid
valid_ended m s (Some Empty) was valid = valid_quiet m s Empty NonOwner valid was not_empty not_owner
valid_ended m s (Some (Owner t n)) was valid = valid_removed m s t n valid was
valid_ended m s None was valid = valid

pub valid_aborted : (m : MachineState) (s : ℕ) (o : Option SessionMode) → mode_of m s ≡ o → IsValid m → IsValid (aborted m s o).0
valid_aborted m s (Some NonOwner) was valid = valid
valid_aborted m s (Some Empty) was valid = valid_quiet m s Empty NonOwner valid was not_empty not_owner
valid_aborted m s (Some (Owner t n)) was valid = valid_released m s t n valid was
valid_aborted m s None was valid = valid

pub valid_closed : (m : MachineState) (s : ℕ) (o : Option SessionMode) → mode_of m s ≡ o → IsValid m → IsValid (closed m s o).0
valid_closed m s (Some NonOwner) was valid = valid_left m s NonOwner valid was not_owner
valid_closed m s (Some Empty) was valid = valid_left m s Empty valid was not_empty
valid_closed m s (Some (Owner t n)) was valid = valid_given_back m s t n valid was
valid_closed m s None was valid = valid
