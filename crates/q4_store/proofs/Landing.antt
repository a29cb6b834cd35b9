-- What each device call of a commit leaves.
use Rattle.std.proofs.Common.{◌≡◌, ℕ, ◌+◌, ◌-◌, ◌≤◌, List, [], ◌∷◌, ◌++◌, length, drop, Result, Ok, IsTrue, refl, sym, ◌∙◌, ap, subst, inl, inr, arith, append_assoc, length-append, length-drop}
use Rattle.std.proofs.Math.Logic.{⊎_elim}
use Rattle.std.proofs.lemmas.Bool.{cases_eq}
use Rattle.q4_disk.specs.declared.disk.Side.{Side}
use Rattle.q4_disk.specs.Told.{Sides, Told}
use Rattle.q4_disk.specs.Images.{on, other, put, size, written, Torn, Sided}
use Rattle.q4_disk.specs.Calls.{Wrote, Synced}
use Rattle.q4_disk.specs.inner.Laws.{on_put}
use Rattle.q4_disk.proofs.Moments.{Along, began, wrote, synced, synced_ok}
use Rattle.q4_disk.proofs.Ranges.{written_at, torn_front, torn_byte}
use Rattle.q4_store.specs.Commit.{EndsBehind, IsClosedBehind, IsOpenBehind, MayHaveBatch, grown}

-- beside the other side of an image of the start the side is of a kind
pub record Is (images : Sides → Type 0) (side : Side) (kind : List ℕ → Type 0) (c : Sides) : Type 0 where
  pub from : Sides
  pub image : images from
  pub same : on (other side) c ≡ on (other side) from
  pub here : kind (on side c)

-- what is read of a side after a batch, a sync, a byte, and a sync
pub landed : (side : Side) (old one two three four : Sides) (end at : ℕ) (batch gate : List ℕ) → one ≡ put side (written (on side old) end batch) old → two ≡ one → three ≡ put side (written (on side two) at gate) two → four ≡ three
    → on side four ≡ written (written (on side old) end batch) at gate
landed side old one two three four end at batch gate first same second last =
    ap (on side) last ∙ ap (on side) second ∙ on_put side (written (on side two) at gate) two
    ∙ ap (λ (l : List ℕ). written l at gate) (ap (on side) same ∙ ap (on side) first ∙ on_put side (written (on side old) end batch) old)

module _ (old : Told) (side : Side) (end : ℕ) (front batch : List ℕ) (e : EndsBehind old side front) (end_is : end ≡ length front + 1) where
  abbrev pub most : ℕ
  most = grown old side end batch

  abbrev pub P : Sides → Type 0
  P = MayHaveBatch old.images side front batch most

  abbrev pub rest : List ℕ
  rest = drop (length batch) e.tail

  -- before, staged and done
  abbrev pub Before : List ℕ → Type 0
  Before bytes = bytes ≡ front ++ e.gate ∷ e.tail

  abbrev pub Staged : List ℕ → Type 0
  Staged bytes = bytes ≡ front ++ e.gate ∷ (batch ++ rest)

  abbrev pub Done : List ℕ → Type 0
  Done bytes = bytes ≡ front ++ 1 ∷ (batch ++ rest)

  -- with any bytes behind the closing gate
  pub record Behind (bytes : List ℕ) : Type 0 where
    pub tail : List ℕ
    pub is : bytes ≡ front ++ e.gate ∷ tail
    pub few : length bytes ≤ most

  -- with any closing gate
  pub record Gated (bytes : List ℕ) : Type 0 where
    pub gate : ℕ
    pub is : bytes ≡ front ++ gate ∷ (batch ++ rest)

  old_size : size side old.bytes ≡ length front + 1 + length e.tail
  old_size = omega (arith, ap length e.is, length-append front (e.gate ∷ e.tail))

  few_staged : (g : ℕ) (bytes : List ℕ) → bytes ≡ front ++ g ∷ (batch ++ rest) → length bytes ≤ most
  few_staged g bytes is = omega (arith, old_size, end_is, ap length is, length-append front (g ∷ (batch ++ rest)), length-append batch rest, length-drop (length batch) e.tail)

  closed_p : (c : Sides) (b : Is old.images side (λ bytes. IsClosedBehind front most bytes) c) → P c
  closed_p c b = record { from = b.from; image = b.image; same = b.same; here = inl b.here }

  before_p : (c : Sides) → Is old.images side Before c → P c
  before_p c b = record { from = b.from; image = b.image; same = b.same; here = inl (record { gate = e.gate; tail = e.tail; closed = e.closed; is = b.here; few = omega (arith, old_size, ap length b.here, length-append front (e.gate ∷ e.tail)) }) }

  behind_p : (c : Sides) → Is old.images side Behind c → P c
  behind_p c b = record { from = b.from; image = b.image; same = b.same; here = inl (record { gate = e.gate; tail = b.here.tail; closed = e.closed; is = b.here.is; few = b.here.few }) }

  staged_p : (c : Sides) → Is old.images side Staged c → P c
  staged_p c b = record { from = b.from; image = b.image; same = b.same; here = inl (record { gate = e.gate; tail = batch ++ rest; closed = e.closed; is = b.here; few = few_staged e.gate (on side c) b.here }) }

  gated_p : (c : Sides) → Is old.images side Gated c → P c
  gated_p c b = record {
    from = b.from;
    image = b.image;
    same = b.same;
    here = ⊎_elim
        (λ one. inr (record { tail = rest; is = b.here.is ∙ ap (λ (h : ℕ). front ++ h ∷ (batch ++ rest)) one; few = few_staged b.here.gate (on side c) b.here.is }))
        (λ shut. inl (record { gate = b.here.gate; tail = batch ++ rest; closed = shut; is = b.here.is; few = few_staged b.here.gate (on side c) b.here.is }))
        (cases_eq b.here.gate 1);
  }

  done_p : (c : Sides) → Is old.images side Done c → P c
  done_p c b = record { from = b.from; image = b.image; same = b.same; here = inr (record { tail = rest; is = b.here; few = few_staged 1 (on side c) b.here }) }

  pub started : IsTrue old.honest → ((c : Sides) → old.since old.moment c → old.images c) → Along old old P (Is old.images side Before)
  started honest only_now = began old P (Is old.images side Before) honest only_now (λ c im. record { from = c; image = im; same = refl; here = e.only c im ∙ e.is }) before_p

  open_front : front ++ e.gate ∷ e.tail ≡ (front ++ e.gate ∷ []) ++ e.tail
  open_front = sym (append_assoc front (e.gate ∷ []) e.tail)

  behind_place : length (front ++ e.gate ∷ []) ≡ end
  behind_place = omega (arith, end_is, length-append front (e.gate ∷ []))

  torn_behind : (d c : Sides) → Is old.images side Before d → Sided side (Torn end (length batch)) d c → Is old.images side Behind c
  torn_behind d c was torn =
      let begins = torn_front (front ++ e.gate ∷ []) e.tail (on side c) end (length batch) behind_place (subst (λ (l : List ℕ). Torn end (length batch) l (on side c)) (was.here ∙ open_front) torn.here) in
      record {
        from = was.from;
        image = was.image;
        same = torn.there ∙ was.same;
        here = record {
          tail = begins.end;
          is = begins.is ∙ append_assoc front (e.gate ∷ []) begins.end;
          few = omega (arith, torn.here.no_longer, old_size, ap length was.here, length-append front (e.gate ∷ e.tail));
        };
      }

  -- the write behind the closing gate
  pub write_behind : {T E : Type 0} {result : Result T E} (new : Told) → Along old old P (Is old.images side Before) → new.honest ≡ old.honest → (IsTrue old.honest → Wrote side end batch result old new) → Along old new P (Is old.images side Behind)
  write_behind new so_far honest does = wrote old old new P (Is old.images side Before) (Is old.images side Behind) side end batch so_far honest does torn_behind behind_p

  -- which is read then
  pub read_behind : (new : Sides) → new ≡ put side (written (on side old.bytes) end batch) old.bytes → Staged (on side new)
  read_behind new wrote_it =
      ap (on side) wrote_it ∙ on_put side (written (on side old.bytes) end batch) old.bytes
      ∙ ap (λ (l : List ℕ). written l end batch) (e.is ∙ open_front)
      ∙ written_at (front ++ e.gate ∷ []) e.tail batch end behind_place
      ∙ append_assoc front (e.gate ∷ []) (batch ++ rest)

  pub sync_fails : {T E : Type 0} {result : Result T E} (mid new : Told) → Along old mid P (Is old.images side Behind) → new.honest ≡ mid.honest → (IsTrue mid.honest → Synced side result mid new) → Along old new P (Is old.images side Behind)
  sync_fails mid new so_far honest does = synced old mid new P (Is old.images side Behind) side so_far honest does behind_p

  -- the first sync
  pub sync_behind : {T E : Type 0} {x : T} (mid new : Told) → Along old mid P (Is old.images side Behind) → Staged (on side mid.bytes) → new.honest ≡ mid.honest → (IsTrue mid.honest → Synced {T = T} {E = E} side (Ok x) mid new) → Along old new P (Is old.images side Staged)
  sync_behind mid new so_far read honest does = synced_ok old mid new P (Is old.images side Behind) (Is old.images side Staged) side so_far honest does
      (λ c b same. record { from = b.from; image = b.image; same = b.same; here = same ∙ read }) staged_p

  torn_gate : (d c : Sides) → Is old.images side Staged d → Sided side (Torn (length front) 1) d c → Is old.images side Gated c
  torn_gate d c was torn =
      let any = torn_byte front (batch ++ rest) (on side c) e.gate (length front) refl (subst (λ (l : List ℕ). Torn (length front) 1 l (on side c)) was.here torn.here) in
      record { from = was.from; image = was.image; same = torn.there ∙ was.same; here = record { gate = any.byte; is = any.is } }

  before_end : end - 1 ≡ length front
  before_end = omega (arith, end_is)

  -- the gate's write
  pub write_gate : {T E : Type 0} {result : Result T E} (mid new : Told) → Along old mid P (Is old.images side Staged) → new.honest ≡ mid.honest → (IsTrue mid.honest → Wrote side (end - 1) (1 ∷ []) result mid new) → Along old new P (Is old.images side Gated)
  write_gate mid new so_far honest does = wrote old mid new P (Is old.images side Staged) (Is old.images side Gated) side (end - 1) (1 ∷ []) so_far honest does
      (λ d c was torn. torn_gate d c was (subst (λ (n : ℕ). Sided side (Torn n 1) d c) before_end torn)) gated_p

  pub read_gate : (mid new : Sides) → Staged (on side mid) → new ≡ put side (written (on side mid) (end - 1) (1 ∷ [])) mid → Done (on side new)
  read_gate mid new read wrote_it =
      ap (on side) wrote_it ∙ on_put side (written (on side mid) (end - 1) (1 ∷ [])) mid ∙ ap (λ (n : ℕ). written (on side mid) n (1 ∷ [])) before_end
      ∙ ap (λ (l : List ℕ). written l (length front) (1 ∷ [])) read ∙ written_at front (e.gate ∷ (batch ++ rest)) (1 ∷ []) (length front) refl

  pub gate_sync : {T E : Type 0} {result : Result T E} (mid new : Told) → Along old mid P (Is old.images side Gated) → new.honest ≡ mid.honest → (IsTrue mid.honest → Synced side result mid new) → Along old new P (Is old.images side Gated)
  gate_sync mid new so_far honest does = synced old mid new P (Is old.images side Gated) side so_far honest does gated_p

  pub is_done : (bytes : List ℕ) → Done bytes → IsOpenBehind front batch most bytes
  is_done bytes done = record { tail = rest; is = done; few = few_staged 1 bytes done }
