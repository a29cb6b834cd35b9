-- Runs of device calls, one after another.
use Rattle.std.proofs.Common.{◌≡◌, ◌≢◌, ◌⊎◌, ◌↔◌, true, Bool, IsTrue, IsErr, ℕ, List, [], ◌∷◌, ◌++◌, Result, Ok, Err, refl, sym, ◌∙◌, ap, subst, inl, inr, append_assoc}
use Rattle.std.proofs.lemmas.List.{append-nil}
use Rattle.std.specs.Result.{IfOk, IfErr, OnOk}
use Rattle.q4_value.specs.declared.column.Column.{Column}
use Rattle.q4_table.specs.TableState.{new_table}
use Rattle.q4_record.specs.Side.{IsOpen, IsNarrow}
use Rattle.q4_disk.specs.declared.disk.DiskFailed.{DiskFailed}
use Rattle.q4_disk.specs.declared.disk.Side.{Side}
use Rattle.q4_disk.specs.declared.disk.Side.TheVariants.{A}
use Rattle.q4_disk.specs.declared.tally.DeviceCall.{DeviceCall as Last}
use Rattle.q4_disk.specs.Told.{Sides, Told}
use Rattle.q4_disk.specs.Images.{on, other, size}
use Rattle.q4_disk.specs.Calls.{IsCall}
use Rattle.q4_store.specs.declared.fault.OpenFault.{OpenFault}
use Rattle.q4_store.specs.declared.fault.OpenFault.TheVariants as fault
use Rattle.q4_store.specs.declared.head.Choice.TheVariants as choice
use Rattle.q4_store.specs.Reading.{IsCurrent, IsOutgrown, Reads}
use Rattle.q4_store.specs.Parts.{IsShut}
use Rattle.q4_store.specs.Looking.{IsChoice}
use Rattle.q4_store.specs.Device.{DeviceCall, AllMade, BrokeOff, Makes, StopsEarly, Stops, load_calls, write_calls, Size, Read, ReadsCurrent, Rewrites, WritesNew, IsBehindLook, MayBehindLook, MayReadBehindLook, StopsBehindLook, HasOpened, HasStopped, look_calls}

module _ {D : Type 0} (told : D → Told) where
  -- a run that fails broke off
  pub broke : {T : Type 0} (calls : List DeviceCall) (result : Result T DiskFailed) (a b : D) → IsErr result → BrokeOff told calls a b → Makes told calls result a b
  broke calls (Ok x) a b fails off = absurd (cc fails)
  broke calls (Err why) a b fails off = off

  -- all of a run, and all of the next
  pub made_then : (first second : List DeviceCall) (a b c : D) → AllMade told first a b → AllMade told second b c → AllMade told (first ++ second) a c
  made_then [] second a b c is made = subst (λ (d : D). AllMade told second d c) is made
  made_then (call ∷ first) second a b c before made = (before.0, before.1, made_then first second before.0 b c before.2 made)

  made_parts : (first second : List DeviceCall) (a c : D) → AllMade told (first ++ second) a c → (b : D) × AllMade told first a b × AllMade told second b c
  made_parts [] second a c made = (a, refl, made)
  made_parts (call ∷ first) second a c made = let rest = made_parts first second made.0 c made.2 in (rest.0, (made.0, made.1, rest.1), rest.2)

  -- it broke off in the first
  pub broke_first : (first second : List DeviceCall) (a b : D) → BrokeOff told first a b → BrokeOff told (first ++ second) a b
  broke_first [] second a b broke = absurd broke
  broke_first (call ∷ first) second a b (inl failed) = inl failed
  broke_first (call ∷ first) second a b (inr later) = inr (later.0, later.1, broke_first first second later.0 b later.2)

  -- or in the second
  pub broke_then : (first second : List DeviceCall) (a b c : D) → AllMade told first a b → BrokeOff told second b c → BrokeOff told (first ++ second) a c
  broke_then [] second a b c is broke = subst (λ (d : D). BrokeOff told second d c) is broke
  broke_then (call ∷ first) second a b c before broke = inr (before.0, before.1, broke_then first second before.0 b c before.2 broke)

  -- a front of the second
  pub early_then : (first second : List DeviceCall) (a b c : D) → AllMade told first a b → StopsEarly told second b c → StopsEarly told (first ++ second) a c
  early_then first second a b c before early = record {
    front = first ++ early.front;
    rest = early.rest;
    parts = ap (λ (l : List DeviceCall). first ++ l) early.parts ∙ sym (append_assoc first early.front early.rest);
    made = made_then first early.front a b c before early.made;
  }

  -- a refusal in the second
  pub stops_then : (first second : List DeviceCall) (why : OpenFault) (a b c : D) → AllMade told first a b → Stops told second why b c → Stops told (first ++ second) why a c
  stops_then first second fault.Disk a b c before stops = broke_then first second a b c before stops
  stops_then first second (fault.Damaged side place) a b c before stops = early_then first second a b c before stops
  stops_then first second (fault.Schema column) a b c before stops = early_then first second a b c before stops
  stops_then first second (fault.Large limit) a b c before stops = early_then first second a b c before stops
  stops_then first second fault.Memory a b c before stops = early_then first second a b c before stops

  -- it stopped behind a front for another reason than the disk
  pub stops_early : (why : OpenFault) (front rest : List DeviceCall) (a b : D) → why ≢ fault.Disk → AllMade told front a b → Stops told (front ++ rest) why a b
  stops_early fault.Disk front rest a b other made = absurd (other refl)
  stops_early (fault.Damaged side place) front rest a b other made = record { front = front; rest = rest; parts = refl; made = made }
  stops_early (fault.Schema column) front rest a b other made = record { front = front; rest = rest; parts = refl; made = made }
  stops_early (fault.Large limit) front rest a b other made = record { front = front; rest = rest; parts = refl; made = made }
  stops_early fault.Memory front rest a b other made = record { front = front; rest = rest; parts = refl; made = made }

  is_early : (calls : List DeviceCall) (why : OpenFault) (a b : D) → why ≢ fault.Disk → Stops told calls why a b → StopsEarly told calls a b
  is_early calls fault.Disk a b other stops = absurd (other refl)
  is_early calls (fault.Damaged side place) a b other stops = stops
  is_early calls (fault.Schema column) a b other stops = stops
  is_early calls (fault.Large limit) a b other stops = stops
  is_early calls fault.Memory a b other stops = stops

  -- all was called, and what came behind asks the disk for nothing
  pub all_called : {T : Type 0} (calls : List DeviceCall) (result : Result T OpenFault) (a b : D) → AllMade told calls a b → IfErr result (λ why. why ≢ fault.Disk) → IfErr result (λ why. Stops told calls why a b)
  all_called calls (Ok x) a b made other = tt
  all_called calls (Err why) a b made other = subst (λ (l : List DeviceCall). Stops told l why a b) (append-nil calls) (stops_early why calls [] a b other made)

  pub load_made : {T E : Type 0} (side : Side) (n total : ℕ) (honest : Bool) (result : Result T E) (a b c : D) → (IsTrue honest → n ≡ total) → AllMade told (Size side ∷ []) a b → IfOk result (λ x. AllMade told (Read side 0 n ∷ []) b c)
      → IfOk result (λ x. (k : ℕ) × (IsTrue honest → k ≡ total) × AllMade told (load_calls side k) a c)
  load_made side n total honest (Ok x) a b c whole sized made = (n, whole, made_then (Size side ∷ []) (Read side 0 n ∷ []) a b c sized made)
  load_made side n total honest (Err why) a b c whole sized made = tt

  -- a side's size was asked for, and it was read
  pub load_stops : {T : Type 0} (side : Side) (n total : ℕ) (honest : Bool) (result : Result T OpenFault) (a b c : D) → (IsTrue honest → n ≡ total) → AllMade told (Size side ∷ []) a b → IfErr result (λ why. Stops told (Read side 0 n ∷ []) why b c)
      → IfErr result (λ why. (k : ℕ) × (IsTrue honest → k ≡ total) × Stops told (load_calls side k) why a c)
  load_stops side n total honest (Ok x) a b c whole sized stops = tt
  load_stops side n total honest (Err why) a b c whole sized stops = (n, whole, stops_then (Size side ∷ []) (Read side 0 n ∷ []) why a b c sized stops)

-- what is said of a call doesn't rest on its answer
pub called_ok : {T : Type 0} {made : Last} (x : T) (old new : Told) → IsCall {T = T} {E = DiskFailed} made (Ok x) old new → IsCall {T = Unit {0}} {E = DiskFailed} made (Ok tt) old new
called_ok x old new call = record {
  counted = record { honest = call.counted.honest; faults = record { later = call.counted.faults.later; failed = tt; stayed = call.counted.faults.stayed }; calls = call.counted.calls; last = call.counted.last };
  writes = call.writes;
  syncs = call.syncs;
}

pub called_err : {T : Type 0} {made : Last} (why : DiskFailed) (old new : Told) → IsCall {T = T} {E = DiskFailed} made (Err why) old new → IsCall {T = Unit {0}} {E = DiskFailed} made (Err why) old new
called_err why old new call = record {
  counted = record { honest = call.counted.honest; faults = record { later = call.counted.faults.later; failed = call.counted.faults.failed; stayed = tt }; calls = call.counted.calls; last = call.counted.last };
  writes = call.writes;
  syncs = call.syncs;
}

-- the calls behind the look, by what the look leaves as it was
pub current_still : (old mid : Told) (calls : List DeviceCall) → mid.honest ≡ old.honest → (IsTrue old.honest → mid.bytes ≡ old.bytes) → ReadsCurrent mid calls → ReadsCurrent old calls
current_still old mid calls same bytes reads = record {
  side = reads.side;
  length = reads.length;
  are = reads.are;
  current = λ h. subst (IsCurrent reads.side) (bytes h) (reads.current (same ∙ h));
  whole = λ h. reads.whole (same ∙ h) ∙ ap (size reads.side) (bytes h);
}

pub new_still : (columns : List Column) (old mid : Told) (calls : List DeviceCall) → mid.honest ≡ old.honest → (IsTrue old.honest → mid.bytes ≡ old.bytes) → WritesNew columns mid calls → WritesNew columns old calls
new_still columns old mid calls same bytes writes = record {
  known = writes.known;
  are = writes.are;
  closed_a = λ h is_open. writes.closed_a (same ∙ h) (subst (λ (s : Sides). IsOpen s.a) (sym (bytes h)) is_open);
  closed_b = λ h is_open. writes.closed_b (same ∙ h) (subst (λ (s : Sides). IsOpen s.b) (sym (bytes h)) is_open);
  known_is = λ h. subst (λ (s : Sides). (writes.known ≡ true) ↔ IsShut s.a) (bytes h) (writes.known_is (same ∙ h));
}

rewrites_still : (columns : List Column) (old mid : Told) (calls : List DeviceCall) → mid.honest ≡ old.honest → (IsTrue old.honest → mid.bytes ≡ old.bytes) → Rewrites columns mid calls → Rewrites columns old calls
rewrites_still columns old mid calls same bytes rewrites = record {
  side = rewrites.side;
  length = rewrites.length;
  known = rewrites.known;
  table = rewrites.table;
  generation = rewrites.generation;
  are = rewrites.are;
  current = λ h. subst (IsCurrent rewrites.side) (bytes h) (rewrites.current (same ∙ h));
  whole = λ h. rewrites.whole (same ∙ h) ∙ ap (size rewrites.side) (bytes h);
  narrow = λ h. subst (λ (s : Sides). IsNarrow columns (on rewrites.side s)) (bytes h) (rewrites.narrow (same ∙ h));
  reads = λ h. subst (λ (s : Sides). Reads columns s rewrites.table rewrites.generation) (bytes h) (rewrites.reads (same ∙ h));
  known_is = λ h. subst (λ (s : Sides). (rewrites.known ≡ true) ↔ IsShut (on (other rewrites.side) s)) (bytes h) (rewrites.known_is (same ∙ h));
}

pub behind_still : (columns : List Column) (old mid : Told) (calls : List DeviceCall) → mid.honest ≡ old.honest → (IsTrue old.honest → mid.bytes ≡ old.bytes) → IsBehindLook columns mid calls → IsBehindLook columns old calls
behind_still columns old mid calls same bytes (inl reads) = inl (current_still old mid calls same bytes reads.0, λ h outgrown. reads.1 (same ∙ h) (subst (IsOutgrown columns) (sym (bytes h)) outgrown))
behind_still columns old mid calls same bytes (inr (inl rewrites)) = inr (inl (rewrites_still columns old mid calls same bytes rewrites))
behind_still columns old mid calls same bytes (inr (inr writes)) = inr (inr (new_still columns old mid calls same bytes writes))

may_still : (columns : List Column) (old mid : Told) (calls : List DeviceCall) → mid.honest ≡ old.honest → (IsTrue old.honest → mid.bytes ≡ old.bytes) → MayBehindLook columns mid calls → MayBehindLook columns old calls
may_still columns old mid calls same bytes (inl reads) = inl (current_still old mid calls same bytes reads)
may_still columns old mid calls same bytes (inr (inl rewrites)) = inr (inl (rewrites_still columns old mid calls same bytes rewrites))
may_still columns old mid calls same bytes (inr (inr (inl writes))) = inr (inr (inl (new_still columns old mid calls same bytes writes)))
may_still columns old mid calls same bytes (inr (inr (inr none))) = inr (inr (inr none))

may_read_still : (old mid : Told) (calls : List DeviceCall) → mid.honest ≡ old.honest → (IsTrue old.honest → mid.bytes ≡ old.bytes) → MayReadBehindLook mid calls → MayReadBehindLook old calls
may_read_still old mid calls same bytes (inl reads) = inl (current_still old mid calls same bytes reads)
may_read_still old mid calls same bytes (inr none) = inr none

pub current_read : (told : Told) (side : Side) (known : Bool) (n : ℕ) → (IsTrue told.honest → IsChoice told.bytes (choice.Current side known)) → (IsTrue told.honest → n ≡ size side told.bytes) → ReadsCurrent told (load_calls side n)
current_read told side known n chosen whole = record { side = side; length = n; are = refl; current = λ h. (chosen h).0; whole = whole }

pub new_written : (columns : List Column) (told : Told) (known other : Bool) → (IsTrue told.honest → IsChoice told.bytes (choice.Neither known other)) → WritesNew columns told (write_calls A known (new_table columns) 1)
new_written columns told known other chosen = record { known = known; are = refl; closed_a = λ h. (chosen h).0; closed_b = λ h. (chosen h).1; known_is = λ h. (chosen h).3 }

-- opening goes on behind its look
module _ {D : Type 0} (told : D → Told) (columns : List Column) where
  pub writes_ok : {T E : Type 0} (result : Result T E) (a b : D) → OnOk result ((calls : List DeviceCall) × WritesNew columns (told a) calls × AllMade told calls a b) → OnOk result ((calls : List DeviceCall) × IsBehindLook columns (told a) calls × AllMade told calls a b)
  writes_ok (Ok x) a b made = (made.0, inr (inr made.1), made.2)
  writes_ok (Err why) a b made = tt

  -- refused for another reason than the disk, behind calls that only read
  pub stops_reading : (why : OpenFault) (calls : List DeviceCall) (a b : D) → why ≢ fault.Disk → MayReadBehindLook (told a) calls → StopsEarly told calls a b → StopsBehindLook columns told why a b
  stops_reading why calls a b other reads early = record { failed = λ disk. absurd (other disk); refused = λ any. (calls, reads, early) }

  -- it broke off where the disk failed
  pub stops_broken : (calls : List DeviceCall) (a b : D) → MayBehindLook columns (told a) calls → BrokeOff told calls a b → StopsBehindLook columns told fault.Disk a b
  stops_broken calls a b may broke = record { failed = λ disk. (calls, may, broke); refused = λ other. absurd (other refl) }

  -- the side that counts was to be read
  pub stops_loading : (why : OpenFault) (calls : List DeviceCall) (a b : D) → ReadsCurrent (told a) calls → Stops told calls why a b → StopsBehindLook columns told why a b
  stops_loading why calls a b reads stops = record {
    failed = λ disk. (calls, inl reads, subst (λ w. Stops told calls w a b) disk stops);
    refused = λ other. (calls, inl reads, is_early told calls why a b other stops);
  }

  -- a table is written behind what was read of it
  pub rewrites_ok : {T E : Type 0} (result : Result T E) (read write : List DeviceCall) (a b c : D) → Rewrites columns (told a) (read ++ write) → AllMade told read a b → OnOk result (AllMade told write b c)
      → OnOk result ((calls : List DeviceCall) × IsBehindLook columns (told a) calls × AllMade told calls a c)
  rewrites_ok (Ok x) read write a b c rewrites before made = (read ++ write, inr (inl rewrites), made_then told read write a b c before made)
  rewrites_ok (Err why) read write a b c rewrites before made = tt

  pub rewrites_err : {T : Type 0} (result : Result T OpenFault) (read write : List DeviceCall) (a b c : D) → ReadsCurrent (told a) read → Rewrites columns (told a) (read ++ write) → AllMade told read a b
      → IfErr result (λ why. why ≡ fault.Disk → BrokeOff told write b c) → IfErr result (λ why. why ≢ fault.Disk → c ≡ b) → IfErr result (λ why. StopsBehindLook columns told why a c)
  rewrites_err (Ok x) read write a b c reads rewrites before broke none = tt
  rewrites_err (Err why) read write a b c reads rewrites before broke none = record {
    failed = λ disk. (read ++ write, inr (inl rewrites), broke_then told read write a b c before (broke disk));
    refused = λ other. (read, inl reads, record { front = read; rest = []; parts = sym (append-nil read); made = subst (λ (d : D). AllMade told read a d) (sym (none other)) before });
  }

  pub opened_ok : {T E : Type 0} (result : Result T E) (a b c : D) → AllMade told look_calls a b → (told b).honest ≡ (told a).honest → (IsTrue (told a).honest → (told b).bytes ≡ (told a).bytes)
      → OnOk result ((calls : List DeviceCall) × IsBehindLook columns (told b) calls × AllMade told calls b c) → OnOk result (HasOpened columns told a c)
  opened_ok (Ok x) a b c look same bytes made = record { calls = made.0; behind = behind_still columns (told a) (told b) made.0 same bytes made.1; made = made_then told look_calls made.0 a b c look made.2 }
  opened_ok (Err why) a b c look same bytes made = tt

  pub opened_err : {T : Type 0} (result : Result T OpenFault) (a b c : D) → AllMade told look_calls a b → (told b).honest ≡ (told a).honest → (IsTrue (told a).honest → (told b).bytes ≡ (told a).bytes)
      → IfErr result (λ why. StopsBehindLook columns told why b c) → IfErr result (λ why. HasStopped columns told why a c)
  opened_err (Ok x) a b c look same bytes stops = tt
  opened_err (Err why) a b c look same bytes stops = record {
    failed = λ disk. let s = stops.failed disk in (s.0, may_still columns (told a) (told b) s.0 same bytes s.1, broke_then told look_calls s.0 a b c look s.2);
    refused = λ other. let s = stops.refused other in (b, look, (s.0, may_read_still (told a) (told b) s.0 same bytes s.1, s.2));
  }

  -- the look broke off
  pub look_broke : (a b : D) → BrokeOff told look_calls a b → HasStopped columns told fault.Disk a b
  look_broke a b off = record { failed = λ disk. ([], inr (inr (inr refl)), subst (λ (l : List DeviceCall). BrokeOff told l a b) (sym (append-nil look_calls)) off); refused = λ other. absurd (other refl) }
