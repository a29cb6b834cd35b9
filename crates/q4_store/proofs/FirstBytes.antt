-- What the first bytes of a side tell of the side.
use Rattle.std.proofs.Common.{◌≡◌, ℕ, ◌-◌, ◌≤◌, IsTrue, Bool, min, List, ◌∷◌, ◌++◌, length, take, drop, Result, Ok, Err, sym, ◌∙◌, ap, subst, arith, length-append}
use Rattle.std.proofs.lemmas.List.{take_at, take_min, take_all, length-take, take-append-drop}
use Rattle.std.specs.Result.{IfErr}
use Rattle.q4_value.specs.declared.column.Column.{Column}
use Rattle.q4_disk.specs.declared.disk.Side.{Side}
use Rattle.q4_record.specs.Side.{base_at, IsOpen}
use Rattle.q4_store.specs.declared.fault.OpenFault.{OpenFault}
use Rattle.q4_store.specs.declared.head.Head.{Head}
use Rattle.q4_store.specs.declared.head.Head.TheVariants as head
use Rattle.q4_store.specs.Looking.{IsHead, LoadFails}
use Rattle.q4_store.proofs.Fronts.{told_front, gate_front, magic_front}
use Rattle.q4_store.proofs.Idle.{has_magic}

-- what is read of a side from its front on
pub read_front : (side before after : List ℕ) (n most : ℕ) → length before ≡ most → n ≡ min (length before) (length side - 0) → after ≡ take n (drop 0 side) ++ drop n before → take n after ≡ take most side
read_front side before after n most len n_is after_is =
    let size : length (take n side) ≡ n = omega (arith, length-take n side, n_is) in
    let least : n ≡ min most (length side) = omega (arith, n_is, len) in
    ap (take n) after_is ∙ take_at (take n side) (drop n before) n size ∙ ap (λ (k : ℕ). take k side) least ∙ take_min most side

more_told : (front more : List ℕ) (h : Head) → base_at ≤ length front → IsHead front h → IsHead (front ++ more) h
more_told front more (head.Open magic generation) long is = (
  record { header = omega (arith, long, length-append front more); gate = gate_front front more (omega (arith, long)) ∙ is.0.gate },
  ((λ t. has_magic front (front ++ more) (sym (magic_front front more (omega (arith, long)))) (is.1.0 t)), (λ m. is.1.1 (has_magic (front ++ more) front (magic_front front more (omega (arith, long))) m))),
  is.2 ∙ sym (told_front 5 front more (omega (arith, long))),
)
more_told front more head.Shut long is = record { gate = is.gate; rest = is.rest ++ more; closed = is.closed; is = ap (λ (l : List ℕ). l ++ more) is.is }
more_told front more head.Short long is = absurd (omega (arith, is.0, long))

-- they tell all that a head tells
pub head_whole : (bytes front : List ℕ) (h : Head) → front ≡ take base_at bytes → IsHead front h → IsHead bytes h
head_whole bytes front (head.Open magic generation) front_is is =
    subst (λ (l : List ℕ). IsHead l (head.Open magic generation)) (ap (λ (l : List ℕ). l ++ drop base_at bytes) front_is ∙ take-append-drop base_at bytes) (more_told front (drop base_at bytes) (head.Open magic generation) is.0.header is)
head_whole bytes front head.Shut front_is is =
    let e : bytes ≡ is.gate ∷ (is.rest ++ drop base_at bytes) = sym (take-append-drop base_at bytes) ∙ ap (λ (l : List ℕ). l ++ drop base_at bytes) (sym front_is ∙ is.is) in
    record { gate = is.gate; rest = is.rest ++ drop base_at bytes; closed = is.closed; is = e }
head_whole bytes front head.Short front_is is = (
  omega (arith, is.0, ap length front_is, length-take base_at bytes),
  λ shut. is.1 (record { gate = shut.gate; rest = take 20 shut.rest; closed = shut.closed; is = front_is ∙ ap (take base_at) shut.is }),
)

-- why bytes stand for no table, where they are those of the side
pub fails_of : {T : Type 0} (r : Result T OpenFault) (honest : Bool) (columns : List Column) (front bytes : List ℕ) (side : Side) → (IsTrue honest → front ≡ bytes) → IfErr r (λ why. IsOpen front → LoadFails columns front side why)
    → IfErr r (λ why. IsTrue honest → IsOpen bytes → LoadFails columns bytes side why)
fails_of (Ok x) honest columns front bytes side same fails = tt
fails_of (Err why) honest columns front bytes side same fails = λ h. subst (λ (l : List ℕ). IsOpen l → LoadFails columns l side why) (same h) fails

-- all bytes of a side that are read at once
pub read_all : (side before after : List ℕ) (n : ℕ) → length before ≡ length side → n ≡ min (length before) (length side - 0) → after ≡ take n (drop 0 side) ++ drop n before → take n after ≡ side
read_all side before after n len n_is after_is = read_front side before after n (length side) len n_is after_is ∙ take_all (length side) side (omega arith)

-- the same after calls that changed nothing that is read
pub fails_still : {T : Type 0} (r : Result T OpenFault) (honest later : Bool) (columns : List Column) (front bytes : List ℕ) (side : Side) → later ≡ honest → (IsTrue honest → front ≡ bytes) → IfErr r (λ why. IsTrue later → IsOpen front → LoadFails columns front side why)
    → IfErr r (λ why. IsTrue honest → IsOpen bytes → LoadFails columns bytes side why)
fails_still (Ok x) honest later columns front bytes side is same fails = tt
fails_still (Err why) honest later columns front bytes side is same fails = λ h. subst (λ (l : List ℕ). IsOpen l → LoadFails columns l side why) (same h) (fails (is ∙ h))
