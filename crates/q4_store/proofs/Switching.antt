-- What opening the gate of a side leaves.
use Rattle.std.proofs.Common.{◌≡◌, ◌≢◌, ℕ, ◌⊎◌, List, [], ◌∷◌, Result, IsTrue, refl, sym, ◌∙◌, ap, subst, inl, inr}
use Rattle.std.proofs.Math.Logic.{⊎_elim}
use Rattle.std.proofs.lemmas.Bool.{cases_eq}
use Rattle.q4_value.specs.declared.column.Column.{Column}
use Rattle.q4_table.specs.TableState.{TableState}
use Rattle.q4_record.specs.Side.{generation_of, OwnSide}
use Rattle.q4_disk.specs.declared.disk.Side.{Side}
use Rattle.q4_disk.specs.Told.{Sides, Told}
use Rattle.q4_disk.specs.Images.{on, other, put, written, Torn, Sided, Within}
use Rattle.q4_disk.specs.Time.{OtherStays}
use Rattle.q4_disk.specs.Calls.{Wrote, Synced}
use Rattle.q4_disk.specs.inner.Laws.{on_put}
use Rattle.q4_disk.proofs.Moments.{Along, began, wrote, synced}
use Rattle.q4_disk.proofs.Ranges.{torn_byte}
use Rattle.q4_store.specs.Reading.{IsBehind, ReadsOwn, ReadsAs}
use Rattle.q4_store.specs.Parts.{IsShut, IsFilled, opened}
use Rattle.q4_store.proofs.Idle.{shut_idle, idle_alike}
use Rattle.q4_store.proofs.Lifting.{reads_current}

-- what is read of a side after its gate was written, and synced
pub gate_written : (side : Side) (old one two : Sides) → one ≡ put side (written (on side old) 0 (1 ∷ [])) old → two ≡ one → on side two ≡ opened (on side old)
gate_written side old one two first same = ap (on side) same ∙ ap (on side) first ∙ on_put side (written (on side old) 0 (1 ∷ [])) old

module _ (columns : List Column) (table : TableState) (generation len : ℕ) (side : Side) (old : Told) (f : IsFilled old side columns table generation len) where
  abbrev pub May : Sides → Type 0
  May c = ReadsAs columns old.images c ⊎ ReadsOwn columns c table generation

  -- any gate, beside the other side of an image of the start
  pub record AnyGate (c : Sides) : Type 0 where
    pub from : Sides
    pub image : old.images from
    pub same : on (other side) c ≡ on (other side) from
    pub gate : ℕ
    pub is : on side c ≡ gate ∷ f.shut.rest

  -- with an open gate it is the whole table
  pub gate_whole : (c : Sides) → AnyGate c → OwnSide columns (opened (on side c)) table generation len
  gate_whole c any = subst (λ (bytes : List ℕ). OwnSide columns bytes table generation len) (ap opened f.shut.is ∙ sym (ap opened any.is)) f.stands

  told_generation : generation_of (opened (on side old.bytes)) ≡ generation
  told_generation = sym f.stands.stands.generation_is

  reads_open : (c : Sides) → (any : AnyGate c) → any.gate ≡ 1 → ReadsOwn columns c table generation
  reads_open c any one =
      let here : on side c ≡ opened (on side old.bytes) = any.is ∙ ap (λ (n : ℕ). n ∷ f.shut.rest) one ∙ sym (ap opened f.shut.is) in
      let stands = subst (λ (bytes : List ℕ). OwnSide columns bytes table generation len) (sym here) f.stands in
      reads_current columns side c table generation len stands (subst (IsBehind generation) (sym any.same) (f.behind any.from any.image))

  reads_shut : (c : Sides) → (any : AnyGate c) → any.gate ≢ 1 → ReadsAs columns old.images c
  reads_shut c any shut = (
    any.from,
    any.image,
    idle_alike columns side any.from c any.same (shut_idle side any.from (subst IsShut (sym (f.only any.from any.image)) f.shut)) (shut_idle side c (record { gate = any.gate; rest = f.shut.rest; closed = shut; is = any.is })),
  )

  any_reads : (c : Sides) → AnyGate c → May c
  any_reads c any = ⊎_elim (λ one. inr (reads_open c any one)) (λ shut. inl (reads_shut c any shut)) (cases_eq any.gate 1)

  pub switch_start : IsTrue old.honest → ((c : Sides) → old.since old.moment c → old.images c) → Along old old May AnyGate
  switch_start honest only_now = began old May AnyGate honest only_now (λ c im. record { from = c; image = im; same = refl; gate = f.shut.gate; is = f.only c im ∙ f.shut.is }) any_reads

  torn_gate : (d c : Sides) → AnyGate d → Sided side (Torn 0 1) d c → AnyGate c
  torn_gate d c any torn =
      let byte = torn_byte [] f.shut.rest (on side c) any.gate 0 refl (subst (λ (l : List ℕ). Torn 0 1 l (on side c)) any.is torn.here) in
      record { from = any.from; image = any.image; same = torn.there ∙ any.same; gate = byte.byte; is = byte.is }

  pub switch_write : {T E : Type 0} {result : Result T E} (new : Told) → Along old old May AnyGate → new.honest ≡ old.honest → (IsTrue old.honest → Wrote side 0 (1 ∷ []) result old new) → Along old new May AnyGate
  switch_write new so_far honest does = wrote old old new May AnyGate AnyGate side 0 (1 ∷ []) so_far honest does torn_gate any_reads

  pub switch_sync : {T E : Type 0} {result : Result T E} (mid new : Told) → Along old mid May AnyGate → new.honest ≡ mid.honest → (IsTrue mid.honest → Synced side result mid new) → Along old new May AnyGate
  switch_sync mid new so_far honest does = synced old mid new May AnyGate side so_far honest does any_reads

  -- the gate is open in each image
  pub switched : (new : Told) → on side new.bytes ≡ opened (on side old.bytes) → Within new.images (λ c. on side c ≡ on side new.bytes) → OtherStays side old new → Within new.images (λ c. ReadsOwn columns c table generation)
  switched new is only stays c left =
      let from = stays.each c left in
      reads_current columns side c table generation len (subst (λ (bytes : List ℕ). OwnSide columns bytes table generation len) (sym (only c left ∙ is)) f.stands) (subst (IsBehind generation) (sym from.2) (f.behind from.0 from.1))
