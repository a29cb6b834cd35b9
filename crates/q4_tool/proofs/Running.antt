-- What came of the definitions, with what was done then.
use Rattle.std.proofs.Common.{◌≡◌, ◌≢◌, ◌<◌, ◌⊎◌, List, ℕ, Option, Result, Ok, Err, inl, inr, arith}
use Rattle.q4_flow.specs.Flow.{Rose}
use Rattle.q4_def.specs.declared.table_def.TableDef.{TableDef}
use Rattle.q4_tool.specs.declared.definitions.Undefined.{Undefined}
use Rattle.q4_tool.specs.declared.definitions.Undefined.TheVariants.{Faulty, TooLong, ReadFault, Memory}
use Rattle.q4_tool.specs.Definitions.{Comes, undefined_line, undefined_status}
use Rattle.q4_tool.specs.Tool.{Prints, Says, Defined}

-- whatever came, some bytes did
gave_some : (left left' : Option (List ℕ)) (ended failed : Type 0) (came : Result (List TableDef) Undefined) → Comes left left' ended failed came → Comes left left' ended failed (Err Memory)
gave_some left left' ended failed (Ok defs) are = (are.bytes, are.all.gave)
gave_some left left' ended failed (Err (Faulty why)) are = (are.bytes, are.all.gave)
gave_some left left' ended failed (Err TooLong) are = (are.bytes, are.gave)
gave_some left left' ended failed (Err ReadFault) are = (are.bytes, are.gave)
gave_some left left' ended failed (Err Memory) gave = gave

no_fault : (faults faults' : ℕ) (defs : List TableDef) → (faults' ≡ faults) ⊎ (◌≡◌ {A = Result (List TableDef) Undefined} (Ok defs) (Err ReadFault)) → faults' ≡ faults
no_fault faults faults' defs (inl same) = same
no_fault faults faults' defs (inr is) = cc is

other_fault : (faults faults' : ℕ) (why : Undefined) → why ≢ ReadFault → (faults' ≡ faults) ⊎ (◌≡◌ {A = Result (List TableDef) Undefined} (Err why) (Err ReadFault)) → faults' ≡ faults
other_fault faults faults' why other (inl same) = same
other_fault faults faults' why other (inr is) = absurd (other (cc is))

-- definitions came, and what they were for was done, or memory was wanted
pub done_defined : (text text' : Option (List ℕ)) (text_ended : Type 0) (faults faults' : ℕ) (done : List TableDef → Type 0) (untouched : Type 0) (written written' : Option (List ℕ)) (status : ℕ) (defs : List TableDef)
    → Comes text text' text_ended (Rose faults faults') (Ok defs) → (faults' ≡ faults) ⊎ (◌≡◌ {A = Result (List TableDef) Undefined} (Ok defs) (Err ReadFault))
    → done defs ⊎ Says (undefined_line Memory) 9 untouched written written' status
    → Defined text text' text_ended faults faults' done untouched written written' status
done_defined text text' text_ended faults faults' done untouched written written' status defs comes stayed (inl is_done) = record { came = Ok defs; comes = comes; stayed = stayed; does = is_done }
done_defined text text' text_ended faults faults' done untouched written written' status defs comes stayed (inr says) =
    record { came = Err Memory; comes = gave_some text text' text_ended (Rose faults faults') (Ok defs) comes; stayed = inl (no_fault faults faults' defs stayed); does = says }

-- none came, and it was said why, or memory was wanted
pub refused_defined : (text text' : Option (List ℕ)) (text_ended : Type 0) (faults faults' : ℕ) (done : List TableDef → Type 0) (untouched : Type 0) (written written' : Option (List ℕ)) (status : ℕ) (why : Undefined)
    → Comes text text' text_ended (Rose faults faults') (Err why) → (faults' ≡ faults) ⊎ (◌≡◌ {A = Result (List TableDef) Undefined} (Err why) (Err ReadFault))
    → Prints (undefined_line why) (undefined_status why) written written' status ⊎ ((why ≢ ReadFault) × Prints (undefined_line Memory) 9 written written' status)
    → untouched → Defined text text' text_ended faults faults' done untouched written written' status
refused_defined text text' text_ended faults faults' done untouched written written' status why comes stayed (inl prints) same = record { came = Err why; comes = comes; stayed = stayed; does = (same, prints) }
refused_defined text text' text_ended faults faults' done untouched written written' status why comes stayed (inr prints) same =
    record { came = Err Memory; comes = gave_some text text' text_ended (Rose faults faults') (Err why) comes; stayed = inl (other_fault faults faults' why prints.0 stayed); does = (same, prints.1) }

-- a source whose count rose failed
pub rose_unread : (why : Undefined) (before now : ℕ) → (now ≡ before) ⊎ (◌≡◌ {A = Result (List TableDef) Undefined} (Err why) (Err ReadFault)) → before < now → why ≡ ReadFault
rose_unread why before now (inl same) rose = absurd (omega arith)
rose_unread why before now (inr is) rose = cc is
