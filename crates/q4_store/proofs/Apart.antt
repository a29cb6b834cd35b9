-- Sides that read as a table have no fault, and sides have one fault at most.
use Rattle.std.proofs.Common.{◌≡◌, ℕ, ◌⊎◌, ◌∙◌, List, refl, sym, ap, inl, inr, arith}
use Rattle.q4_value.specs.declared.column.Column.{Column}
use Rattle.q4_value.specs.Names.{AreColumns}
use Rattle.q4_table.specs.TableState.{TableState}
use Rattle.q4_record.specs.declared.side.SideFault.{SideFault}
use Rattle.q4_record.specs.declared.side.SideFault.TheVariants as side_fault
use Rattle.q4_record.specs.Side.{IsOpen, Side as IsSide}
use Rattle.q4_record.proofs.OneSide as one_side
use Rattle.q4_disk.specs.declared.disk.Side.{Side}
use Rattle.q4_disk.specs.declared.disk.Side.TheVariants.{A, B}
use Rattle.q4_disk.specs.Told.{Sides}
use Rattle.q4_disk.specs.Images.{on}
use Rattle.q4_store.specs.declared.fault.OpenFault.{OpenFault}
use Rattle.q4_store.specs.declared.fault.OpenFault.TheVariants as fault
use Rattle.q4_record.specs.Side.{HasMagic}
use Rattle.q4_store.specs.Reading.{IsCurrent, ReadsNew, Reads}
use Rattle.q4_store.specs.Opening.{LacksMagic, AreEqual, IsUnclear, CurrentFails, OpenFails, IsOutside}
use Rattle.q4_store.proofs.Drafts.{is_schema}

-- the current side and the one behind it have the magic
has_magic : (columns : List Column) (s x : Side) (c : Sides) (table : TableState) (g n : ℕ) → IsCurrent s c → IsSide columns (on s c) table g n → IsOpen (on x c) → HasMagic (on x c)
has_magic columns A A c table g n current stands is_open = stands.stands.stands.reaches.begins.header.magic
has_magic columns B B c table g n current stands is_open = stands.stands.stands.reaches.begins.header.magic
has_magic columns A B c table g n current stands is_open = (current.behind is_open).0
has_magic columns B A c table g n current stands is_open = (current.behind is_open).0

not_lacking : (columns : List Column) (x : Side) (c : Sides) (table : TableState) (g : ℕ) → Reads columns c table g → LacksMagic (on x c) → ⊥
not_lacking columns x c table g (inl reads) lacks = lacks.other (has_magic columns reads.side x c table g reads.len reads.current reads.stands lacks.is_open)
not_lacking columns A c table g (inr new) lacks = new.closed_a lacks.is_open
not_lacking columns B c table g (inr new) lacks = new.closed_b lacks.is_open

lesser_there : (s : Side) (c : Sides) → IsCurrent s c → AreEqual c → ⊥
lesser_there A c current equal = let behind = current.behind equal.b in omega (arith, behind.1, equal.same)
lesser_there B c current equal = let behind = current.behind equal.a in omega (arith, behind.1, equal.same)

not_equal : (columns : List Column) (c : Sides) (table : TableState) (g : ℕ) → Reads columns c table g → AreEqual c → ⊥
not_equal columns c table g (inl reads) equal = lesser_there reads.side c reads.current equal
not_equal columns c table g (inr new) equal = new.closed_a equal.a

not_unclear : (columns : List Column) (side : Side) (place : ℕ) (c : Sides) (table : TableState) (g : ℕ) → Reads columns c table g → IsUnclear c side place → ⊥
not_unclear columns A place c table g reads unclear = not_lacking columns A c table g reads unclear.1
not_unclear columns B place c table g reads (first, inl lacks) = not_lacking columns B c table g reads lacks.1
not_unclear columns B place c table g reads (first, inr equal) = not_equal columns c table g reads equal.2

same_side_fails : (columns : List Column) (s x : Side) (c : Sides) (table : TableState) (g n : ℕ) (why : SideFault) → AreColumns columns → IsCurrent s c → IsSide columns (on s c) table g n → CurrentFails columns c x why → why ≡ side_fault.Memory
same_side_fails columns A A c table g n why are current stands fails = one_side.apart columns c.a table g n why (is_schema columns are) stands fails.fails
same_side_fails columns B B c table g n why are current stands fails = one_side.apart columns c.b table g n why (is_schema columns are) stands fails.fails
same_side_fails columns A B c table g n why are current stands fails =
    let up = current.behind fails.current.is_open in
    let down = fails.current.behind current.is_open in
    absurd (omega (arith, up.1, down.1))
same_side_fails columns B A c table g n why are current stands fails =
    let up = current.behind fails.current.is_open in
    let down = fails.current.behind current.is_open in
    absurd (omega (arith, up.1, down.1))

no_new_fails : (columns : List Column) (x : Side) (c : Sides) (table : TableState) (g : ℕ) (why : SideFault) → ReadsNew columns c table g → CurrentFails columns c x why → ⊥
no_new_fails columns A c table g why new fails = new.closed_a fails.current.is_open
no_new_fails columns B c table g why new fails = new.closed_b fails.current.is_open

current_fails : (columns : List Column) (x : Side) (c : Sides) (table : TableState) (g : ℕ) (why : SideFault) → AreColumns columns → Reads columns c table g → CurrentFails columns c x why → why ≡ side_fault.Memory
current_fails columns x c table g why are (inl reads) fails = same_side_fails columns reads.side x c table g reads.len why are reads.current reads.stands fails
current_fails columns x c table g why are (inr new) fails = absurd (no_new_fails columns x c table g why new fails)

pub reads_apart : (columns : List Column) (c : Sides) (table : TableState) (g : ℕ) (why : OpenFault) → AreColumns columns → Reads columns c table g → OpenFails columns c why → (why ≡ fault.Disk) ⊎ (why ≡ fault.Memory)
reads_apart columns c table g fault.Disk are reads fails = inl refl
reads_apart columns c table g (fault.Damaged side place) are reads (inl unclear) = absurd (not_unclear columns side place c table g reads unclear)
reads_apart columns c table g (fault.Damaged side place) are reads (inr fails) = let wrong = current_fails columns side c table g (side_fault.Damaged place) are reads fails in absurd (cc wrong)
reads_apart columns c table g (fault.Schema column) are reads fails = let wrong = current_fails columns fails.0 c table g (side_fault.Schema column) are reads fails.1 in absurd (cc wrong)
reads_apart columns c table g (fault.Large limit) are reads fails = let wrong = current_fails columns fails.0 c table g (side_fault.Large limit) are reads fails.1 in absurd (cc wrong)
reads_apart columns c table g fault.Memory are reads fails = inr refl

-- ## One fault

-- what opening tells of a side's fault
abbrev told_of : Side → SideFault → OpenFault
told_of side side_fault.Closed = fault.Damaged side 0
told_of side (side_fault.Damaged place) = fault.Damaged side place
told_of side (side_fault.Schema column) = fault.Schema column
told_of side (side_fault.Large limit) = fault.Large limit
told_of side side_fault.Memory = fault.Memory

-- no side counts, or the one that does has a fault
abbrev Caused : List Column → Sides → OpenFault → Type 0
Caused columns c why =
    ((side : Side) × (place : ℕ) × (why ≡ fault.Damaged side place) × IsUnclear c side place)
    ⊎ ((side : Side) × (is : SideFault) × (why ≡ told_of side is) × (is ≡ side_fault.Memory → ⊥) × CurrentFails columns c side is)

caused : (columns : List Column) (c : Sides) (why : OpenFault) → OpenFails columns c why → IsOutside why ⊎ Caused columns c why
caused columns c fault.Disk fails = inl tt
caused columns c (fault.Damaged side place) (inl unclear) = inr (inl (side, place, refl, unclear))
caused columns c (fault.Damaged side place) (inr fails) = inr (inr (side, side_fault.Damaged place, refl, λ is. cc is, fails))
caused columns c (fault.Schema column) fails = inr (inr (fails.0, side_fault.Schema column, refl, λ is. cc is, fails.1))
caused columns c (fault.Large limit) fails = inr (inr (fails.0, side_fault.Large limit, refl, λ is. cc is, fails.1))
caused columns c fault.Memory fails = inl tt

one_unclear : (c : Sides) (s t : Side) (m n : ℕ) → IsUnclear c s m → IsUnclear c t n → fault.Damaged s m ≡ fault.Damaged t n
one_unclear c A A m n one two = ap (fault.Damaged A) (one.0 ∙ sym two.0)
one_unclear c A B m n one two = absurd (two.0 one.1)
one_unclear c B A m n one two = absurd (one.0 two.1)
one_unclear c B B m n (first, inl one) (second, inl two) = ap (fault.Damaged B) (one.0 ∙ sym two.0)
one_unclear c B B m n (first, inl one) (second, inr two) = absurd (two.1 one.1)
one_unclear c B B m n (first, inr one) (second, inl two) = absurd (one.1 two.1)
one_unclear c B B m n (first, inr one) (second, inr two) = ap (fault.Damaged B) (one.0 ∙ sym two.0)

magic_there : (s x : Side) (c : Sides) → IsCurrent s c → HasMagic (on s c) → IsOpen (on x c) → HasMagic (on x c)
magic_there A A c current magic is_open = magic
magic_there B B c current magic is_open = magic
magic_there A B c current magic is_open = (current.behind is_open).0
magic_there B A c current magic is_open = (current.behind is_open).0

no_unclear : (columns : List Column) (s t : Side) (c : Sides) (n : ℕ) (is : SideFault) → CurrentFails columns c s is → IsUnclear c t n → ⊥
no_unclear columns s A c n is fails unclear = unclear.1.other (magic_there s A c fails.current fails.magic unclear.1.is_open)
no_unclear columns s B c n is fails (first, inl lacks) = lacks.1.other (magic_there s B c fails.current fails.magic lacks.1.is_open)
no_unclear columns s B c n is fails (first, inr equal) = lesser_there s c fails.current equal.2

one_told : (s : Side) (is it : SideFault) → (is ≡ side_fault.Memory → ⊥) → (it ≡ side_fault.Memory → ⊥) → (is ≡ it) ⊎ (is ≡ side_fault.Memory) ⊎ (it ≡ side_fault.Memory) → told_of s is ≡ told_of s it
one_told s is it some also (inl same) = ap (told_of s) same
one_told s is it some also (inr (inl memory)) = absurd (some memory)
one_told s is it some also (inr (inr memory)) = absurd (also memory)

one_current : (columns : List Column) (s t : Side) (c : Sides) (is it : SideFault) → AreColumns columns → (is ≡ side_fault.Memory → ⊥) → (it ≡ side_fault.Memory → ⊥) → CurrentFails columns c s is → CurrentFails columns c t it → told_of s is ≡ told_of t it
one_current columns A A c is it are some also one two = one_told A is it some also (one_side.fails_once columns c.a is it (is_schema columns are) one.fails two.fails)
one_current columns B B c is it are some also one two = one_told B is it some also (one_side.fails_once columns c.b is it (is_schema columns are) one.fails two.fails)
one_current columns A B c is it are some also one two =
    let up = one.current.behind two.current.is_open in
    let down = two.current.behind one.current.is_open in
    absurd (omega (arith, up.1, down.1))
one_current columns B A c is it are some also one two =
    let up = one.current.behind two.current.is_open in
    let down = two.current.behind one.current.is_open in
    absurd (omega (arith, up.1, down.1))

-- two sides have one fault at most
pub one_fault : (columns : List Column) (c : Sides) (why way : OpenFault) → AreColumns columns → OpenFails columns c why → OpenFails columns c way → (why ≡ way) ⊎ IsOutside why ⊎ IsOutside way
one_fault columns c why way are one two = both (caused columns c why one) (caused columns c way two) where
  known : Caused columns c why → Caused columns c way → why ≡ way
  known (inl (s, m, is, first)) (inl (t, n, it, second)) = is ∙ one_unclear c s t m n first second ∙ sym it
  known (inl (s, m, is, first)) (inr (t, found, it, some, second)) = absurd (no_unclear columns t s c m found second first)
  known (inr (s, found, is, some, first)) (inl (t, n, it, second)) = absurd (no_unclear columns s t c n found first second)
  known (inr (s, found, is, some, first)) (inr (t, other_found, it, also, second)) = is ∙ one_current columns s t c found other_found are some also first second ∙ sym it

  both : IsOutside why ⊎ Caused columns c why → IsOutside way ⊎ Caused columns c way → (why ≡ way) ⊎ IsOutside why ⊎ IsOutside way
  both (inl out) other = inr (inl out)
  both (inr cause) (inl out) = inr (inr out)
  both (inr cause) (inr also) = inl (known cause also)
