-- An insert of the machine, from what its table did.
use Rattle.std.proofs.Common.{◌≡◌, ◌∙◌, List, ℕ, Some, None, Result, Ok, Err, OnErr, IfOk, IfErr, sym, ap, subst}
use Rattle.std.proofs.lemmas.List.{set-get_or}
use Rattle.q4_value.specs.declared.row.Value.{Value}
use Rattle.q4_value.specs.Row.{Fits}
use Rattle.q4_table.specs.declared.adding.Added.{Added}
use Rattle.q4_table.specs.declared.adding.Added.TheVariants as added
use Rattle.q4_table.specs.declared.adding.AddFault.{AddFault}
use Rattle.q4_table.specs.declared.adding.AddFault.TheVariants as fault
use Rattle.q4_table.specs.TableState.{TableState}
use Rattle.q4_table.specs.Adding.{check_of, IsAdded, IsRefused, with_added}
use Rattle.q4_machine.specs.declared.entry.Call.TheVariants.{Insert}
use Rattle.q4_machine.specs.declared.session.OpenSession.{OpenSession}
use Rattle.q4_machine.specs.declared.entry.Reply.{Reply}
use Rattle.q4_machine.specs.declared.entry.Reply.TheVariants as reply
use Rattle.q4_machine.specs.declared.entry.Refusal.TheVariants as refusal
use Rattle.q4_machine.specs.Definitions.{definitions, IsRowFor}
use Rattle.q4_machine.specs.Machine.{MachineState, no_table, table_at}
use Rattle.q4_machine.specs.Kept.{TablesView}
use Rattle.q4_machine.specs.Opening.{Opening}
use Rattle.q4_machine.specs.Step.{step, tables_with, inserted, insert_reply}
use Rattle.q4_machine.specs.Valid.{IsValid}
use Rattle.q4_machine.proofs.Defined.{columns_of, inside_tables}
use Rattle.q4_table.proofs.Lookup.{some_of}
use Rattle.q4_machine.proofs.Steps.{valid_added}
use Rattle.q4_machine.proofs.Validity.{none_some}

-- the machine over these tables
abbrev pub machine_over : TablesView → List OpenSession → ℕ → MachineState
machine_over v sessions next = record { tables = v.tables; sessions = sessions; next_session = next }

-- what the tables did of a row
pub record Adds (old : TablesView) (t : ℕ) (row : List Value) (new : TablesView) (result : Result Added (AddFault × List Value)) : Type 0 where
  pub added : IfOk result (IsAdded (check_of (table_at old.tables t) row None) (table_at old.tables t).next)
  pub tables_are : IfOk result (λ a. new ≡ record { tables = tables_with old.tables t (with_added (table_at old.tables t) row None a); kept = old.kept })
  pub refused : IfErr result (λ f. IsRefused (check_of (table_at old.tables t) row None) f.0)
  pub kept : OnErr result (new ≡ old)

-- a table that is put back as it was
same_table : (v : TablesView) (t : ℕ) → record { tables = tables_with v.tables t (table_at v.tables t); kept = v.kept } ≡ v
same_table v t = ap (λ ts. record { tables = ts; kept = v.kept }) (set-get_or v.tables t no_table)

pub insert_valid : (old new : TablesView) (sessions : List OpenSession) (next t : ℕ) (row : List Value) (result : Result Added (AddFault × List Value)) → IsValid (machine_over old sessions next) → IsRowFor (definitions old.tables) t row → Adds old t row new result
    → IsValid (machine_over new sessions next)
insert_valid old new sessions next t row (Ok (added.New number)) valid for_it adds =
    subst (λ v. IsValid (machine_over v sessions next)) (sym adds.tables_are) (valid_added (machine_over old sessions next) t row valid (inside_tables old.tables t for_it.inside) (subst (λ cs. Fits cs row) (columns_of old.tables t) for_it.fits) adds.added.0)
insert_valid old new sessions next t row (Ok (added.Seen mark)) valid for_it adds =
    subst (λ v. IsValid (machine_over v sessions next)) (sym (adds.tables_are ∙ same_table old t)) valid
insert_valid old new sessions next t row (Err f) valid for_it adds = subst (λ v. IsValid (machine_over v sessions next)) (sym adds.kept) valid

-- the tables keep what they kept
pub insert_keeps : (old new : TablesView) (t : ℕ) (row : List Value) (result : Result Added (AddFault × List Value)) → Adds old t row new result → new.kept ≡ old.kept
insert_keeps old new t row (Ok a) adds = ap (λ (v : TablesView). v.kept) adds.tables_are
insert_keeps old new t row (Err f) adds = ap (λ (v : TablesView). v.kept) adds.kept

-- an insert that changed nothing
unchanged : (old new : TablesView) (sessions : List OpenSession) (next : ℕ) (r x : Reply) → new ≡ old → Some r ≡ Some x → ◌≡◌ {A = MachineState × Reply} (machine_over old sessions next, r) (machine_over new sessions next, x)
unchanged old new sessions next r x same is = ap (λ v. (machine_over v sessions next, r)) (sym same) ∙ ap (λ y. (machine_over new sessions next, y)) (some_of r x is)

pub insert_step : (old new : TablesView) (sessions : List OpenSession) (next s t : ℕ) (row : List Value) (result : Result Added (AddFault × List Value)) → Adds old t row new result → (x : Reply) → insert_reply result ≡ Some x
    → step (machine_over old sessions next) s (Insert t row) ≡ (machine_over new sessions next, x)
insert_step old new sessions next s t row (Ok (added.New number)) adds x is =
    let m = machine_over old sessions next in
    ap (inserted m t row) adds.added.0 ∙ ap (λ v. (machine_over v sessions next, reply.Added (table_at old.tables t).next)) (sym adds.tables_are)
    ∙ ap (λ n. (machine_over new sessions next, reply.Added n)) (sym adds.added.1) ∙ ap (λ y. (machine_over new sessions next, y)) (some_of (reply.Added number) x is)
insert_step old new sessions next s t row (Ok (added.Seen mark)) adds x is =
    ap (inserted (machine_over old sessions next) t row) adds.added ∙ unchanged old new sessions next (reply.Seen mark) x (adds.tables_are ∙ same_table old t) is
insert_step old new sessions next s t row (Err (fault.Spent, back)) adds x is =
    ap (inserted (machine_over old sessions next) t row) adds.refused ∙ unchanged old new sessions next (reply.Refused refusal.Spent) x adds.kept is
insert_step old new sessions next s t row (Err (fault.Rows, back)) adds x is =
    ap (inserted (machine_over old sessions next) t row) adds.refused ∙ unchanged old new sessions next (reply.Refused refusal.Rows) x adds.kept is
insert_step old new sessions next s t row (Err (fault.Bytes sum, back)) adds x is =
    ap (inserted (machine_over old sessions next) t row) adds.refused ∙ unchanged old new sessions next (reply.Refused (refusal.Bytes sum)) x adds.kept is
insert_step old new sessions next s t row (Err (fault.Memory, back)) adds x is = absurd (none_some x is)

-- where there was no reply, memory was wanted
pub insert_kept : (P : Type 0) (result : Result Added (AddFault × List Value)) → insert_reply result ≡ None → OnErr result P → P
insert_kept P (Ok a) none kept = absurd (some_none none) where
  some_none : {x : Reply} → Some x ≡ None → ⊥
  some_none e = cc e
insert_kept P (Err f) none kept = kept
