-- How a run of device calls goes on: one lemma for each call. The crates above prove their clauses on crashes by these.
use Rattle.std.proofs.Common.{◌≡◌, ℕ, ◌≤◌, ◌⊎◌, List, length, take, Result, Ok, IsTrue, refl, ◌∙◌, inl, inr, arith}
use Rattle.std.proofs.Math.Logic.{⊎_elim}
use Rattle.q4_disk.specs.declared.disk.Side.{Side}
use Rattle.q4_disk.specs.Told.{Sides, Told}
use Rattle.q4_disk.specs.Images.{on, written, Torn, Cut, Sided}
use Rattle.q4_disk.specs.Time.{Elapses, LeavesOnly, OtherStays}
use Rattle.q4_disk.specs.Calls.{Rests, Steps, Wrote, DidCut, Synced}

-- a run from old has come to mid: each image so far has P, and each image now has A
pub record Along (old mid : Told) (P A : Sides → Type 0) : Type 0 where
  pub honest : IsTrue mid.honest
  pub only : LeavesOnly old mid P
  pub now : (c : Sides) → mid.images c → A c

-- before the first call
pub began : (old : Told) (P A : Sides → Type 0) → IsTrue old.honest → ((c : Sides) → old.since old.moment c → old.images c) → ((c : Sides) → old.images c → A c) → ((c : Sides) → A c → P c) → Along old old P A
began old P A honest only_now now fits = record {
  honest = honest;
  only = record { later = omega arith; each = λ c left. fits c (now c (only_now c left)); adds = λ t c le left. inl left };
  now = now;
}

-- one call more
pub goes_on : (old mid new : Told) (P A B : Sides → Type 0) → Along old mid P A → new.honest ≡ mid.honest → Elapses mid new → ((c : Sides) → new.images c → B c) → ((c : Sides) → B c → P c) → Along old new P B
goes_on old mid new P A B so_far honest time now fits = record {
  honest = honest ∙ so_far.honest;
  only = record {
    later = omega (arith, so_far.only.later, time.later);
    each = λ c left. ⊎_elim (so_far.only.each c) (λ here. fits c (now c here)) (time.nothing_else old.moment c so_far.only.later left);
    adds = λ t c le left. ⊎_elim (so_far.only.adds t c le) (λ here. inr (fits c (now c here))) (time.nothing_else t c (omega (arith, le, so_far.only.later)) left);
  };
  now = now;
}

-- a write or a cut, whether it fails or not
pub stepped : {T E : Type 0} {result : Result T E} (old mid new : Told) (P A B : Sides → Type 0) (side : Side) (step : List ℕ → List ℕ → Type 0) (after : List ℕ)
    → Along old mid P A → new.honest ≡ mid.honest → (IsTrue mid.honest → Steps side step after result mid new) → ((d c : Sides) → A d → Sided side step d c → B c) → ((c : Sides) → B c → P c) → Along old new P B
stepped old mid new P A B side step after so_far honest does leads fits =
    let did = does so_far.honest in
    goes_on old mid new P A B so_far honest did.time (λ c left. let from = did.images c left in leads from.0 c (so_far.now from.0 from.1) from.2) fits

pub wrote : {T E : Type 0} {result : Result T E} (old mid new : Told) (P A B : Sides → Type 0) (side : Side) (at : ℕ) (bytes : List ℕ)
    → Along old mid P A → new.honest ≡ mid.honest → (IsTrue mid.honest → Wrote side at bytes result mid new) → ((d c : Sides) → A d → Sided side (Torn at (length bytes)) d c → B c) → ((c : Sides) → B c → P c) → Along old new P B
wrote old mid new P A B side at bytes so_far honest does leads fits = stepped old mid new P A B side (Torn at (length bytes)) (written (on side mid.bytes) at bytes) so_far honest does leads fits

pub did_cut : {T E : Type 0} {result : Result T E} (old mid new : Told) (P A B : Sides → Type 0) (side : Side) (n : ℕ)
    → Along old mid P A → new.honest ≡ mid.honest → (IsTrue mid.honest → DidCut side n result mid new) → ((d c : Sides) → A d → Sided side (Cut n) d c → B c) → ((c : Sides) → B c → P c) → Along old new P B
did_cut old mid new P A B side n so_far honest does leads fits = stepped old mid new P A B side (Cut n) (take n (on side mid.bytes)) so_far honest does leads fits

-- a sync, whether it fails or not
pub synced : {T E : Type 0} {result : Result T E} (old mid new : Told) (P A : Sides → Type 0) (side : Side) → Along old mid P A → new.honest ≡ mid.honest → (IsTrue mid.honest → Synced side result mid new)
    → ((c : Sides) → A c → P c) → Along old new P A
synced old mid new P A side so_far honest does fits =
    let did = does so_far.honest in
    goes_on old mid new P A A so_far honest did.time (λ c left. so_far.now c (did.images c left)) fits

-- a sync that succeeded: besides, the side is what is read
pub synced_ok : {T E : Type 0} {x : T} (old mid new : Told) (P A B : Sides → Type 0) (side : Side) → Along old mid P A → new.honest ≡ mid.honest → (IsTrue mid.honest → Synced {T = T} {E = E} side (Ok x) mid new)
    → ((c : Sides) → A c → on side c ≡ on side mid.bytes → B c) → ((c : Sides) → B c → P c) → Along old new P B
synced_ok old mid new P A B side so_far honest does leads fits =
    let did = does so_far.honest in
    goes_on old mid new P A B so_far honest did.time (λ c left. leads c (so_far.now c (did.images c left)) (did.durable c left)) fits

-- a call that changes nothing
pub rested : (old mid new : Told) (P A : Sides → Type 0) → Along old mid P A → new.honest ≡ mid.honest → Rests mid new → ((c : Sides) → A c → P c) → Along old new P A
rested old mid new P A so_far honest did fits = goes_on old mid new P A A so_far honest did.time (λ c left. so_far.now c (did.images c left)) fits

-- a whole run as one step of another
pub ran : (old mid new : Told) (P Q A B : Sides → Type 0) → Along old mid P A → new.honest ≡ mid.honest → LeavesOnly mid new Q → ((c : Sides) → Q c → P c) → ((c : Sides) → new.images c → B c) → Along old new P B
ran old mid new P Q A B so_far honest run fits now = record {
  honest = honest ∙ so_far.honest;
  only = record {
    later = omega (arith, so_far.only.later, run.later);
    each = λ c left. ⊎_elim (so_far.only.each c) (fits c) (run.adds old.moment c so_far.only.later left);
    adds = λ t c le left. ⊎_elim (so_far.only.adds t c le) (λ q. inr (fits c q)) (run.adds t c (omega (arith, le, so_far.only.later)) left);
  };
  now = now;
}

-- one run after another
pub then_only : (a b c : Told) (P Q : Sides → Type 0) → LeavesOnly a b P → LeavesOnly b c Q → LeavesOnly a c (λ x. P x ⊎ Q x)
then_only a b c P Q first second = record {
  later = omega (arith, first.later, second.later);
  each = λ x left. ⊎_elim (λ was. inl (first.each x was)) (λ new. inr new) (second.adds a.moment x first.later left);
  adds = λ t x le left. ⊎_elim (λ was. ⊎_elim (λ older. inl older) (λ p. inr (inl p)) (first.adds t x le was)) (λ q. inr (inr q)) (second.adds t x (omega (arith, le, first.later)) left);
}

-- what it leads to may be said more weakly
pub weaker : (a b : Told) (P Q : Sides → Type 0) → LeavesOnly a b P → ((c : Sides) → P c → Q c) → LeavesOnly a b Q
weaker a b P Q run leads = record { later = run.later; each = λ c left. leads c (run.each c left); adds = λ t c le left. ⊎_elim (λ was. inl was) (λ p. inr (leads c p)) (run.adds t c le left) }

-- what a crash now may leave is among what a crash since then may have left
pub left_now : (old new : Told) (P : Sides → Type 0) → ((t : ℕ) (c : Sides) → t ≤ new.moment → new.images c → new.since t c) → LeavesOnly old new P → (c : Sides) → new.images c → P c
left_now old new P counts run c im = run.each c (counts old.moment c run.later im)

-- calls on one side leave the other as it was
pub other_stepped : {T E : Type 0} {result : Result T E} {old new : Told} {side : Side} {step : List ℕ → List ℕ → Type 0} {after : List ℕ} → Steps side step after result old new → OtherStays side old new
other_stepped did = record { each = λ c im. let from = did.images c im in (from.0, from.1, from.2.there) }

pub other_synced : {T E : Type 0} {result : Result T E} {old new : Told} {side : Side} → Synced side result old new → OtherStays side old new
other_synced did = record { each = λ c im. (c, did.images c im, refl) }

pub other_then : {a b c : Told} {side : Side} → OtherStays side a b → OtherStays side b c → OtherStays side a c
other_then first second = record { each = λ s im. let y = second.each s im in let x = first.each y.0 y.1 in (x.0, x.1, y.2 ∙ x.2) }
