-- The steps of a hold keep the rule: a ticket is drawn, the turn is looked for, the history is measured, the turn is ended, the next is woken.
use Rattle.std.proofs.Common.{◌≡◌, ◌≢◌, ℕ, zero, suc, ◌+◌, ◌%◌, ◌^◌, ◌<◌, ◌≤◌, eqb, Bool, true, false, true≢false, cond, List, [], ◌∷◌, ◌++◌, length, get_or, set, refl, sym, ap, ap₂, ◌∙◌, subst, inl, inr, ⊎_elim, arith}
use Rattle.std.specs.Prelude.{Option, Some, None}
use mathlib.Core.Logic.{dite}
use mathlib.Core.Option.{some, none, some-ne-none, some-injective}
use mathlib.Core.Option as maybe
use native.Mathlib.Decide.{ℕ_discrete, dec_lt}
use lib.ListN.{get_elem?}
use prog.Atomic.{either}
use Rattle.atomic_table.specs.Table.{State, Me, step, keeps, takes, gives, stepped, rest, put_back, carried_after, Valid, Allows, Act}
use Rattle.atomic_table.proofs.Lists.{set_again, exchanged}
use Rattle.q4_turn.specs.declared.view.View.{View}
use Rattle.q4_turn.specs.Lists.{StartsWith, total, Every, one_if, one_at, marked}
use Rattle.q4_turn.specs.Views.{times, claims, claimed, numbered, ticketed, held, live_parts, founding_view, founding_taken, with_ticket, with_turn, without_turn}
use Rattle.q4_turn.specs.Rules.{IsClaim, Fits, Slot, IsTurn, IsFounding, Keeps}
use Rattle.q4_turn.specs.Passes.{Entered}
use Rattle.q4_turn.specs.Steps.{AreOthers, IsExact, TellsTicket, TellsLook, TellsLength, TellsEnd, TellsNothing}
use Rattle.q4_turn.proofs.Basics.{after_seen, set_same, total_set, total_kept, total_one, total_two, total_some, each_set, Every-weaker, starts_self, one_same, one_other}

module _ {V E : Type 0} (stands : V → List E → Type 0) (mark : E → ℕ) (all : ℕ) where
  abbrev St : Type 0
  St = State (Option V) (View E)

  abbrev M : Type 0
  M = Me (Option V) (View E)

  abbrev K : St → Type 0
  K = Keeps stands mark all

  -- a live view isn't there before the first entry
  pub is_founded : (s : St) (id : ℕ) (v : View E) → get_elem? s.views id ≡ some v → v.live ≡ true → K s → IsTurn stands mark all s
  is_founded s id v at alive k =
      ⊎_elim
      (λ (u : IsFounding all s). ⊎_elim
      (λ (h : (s.homes ≡ some None ∷ []) × (s.views ≡ founding_view all ∷ [])). absurd (only (founding_view all) refl id (subst (λ (l : List (View E)). get_elem? l id ≡ some v) h.1 at)))
      (λ (h : (s.homes ≡ none ∷ []) × (s.views ≡ founding_taken all ∷ [])). absurd (only (founding_taken all) refl id (subst (λ (l : List (View E)). get_elem? l id ≡ some v) h.1 at))) u.one)
      (λ r. r) k
    where
      only : (x : View E) → x.live ≡ false → (i : ℕ) → get_elem? (x ∷ []) i ≡ some v → ⊥
      only x off zero e = true≢false (sym (ap (λ (y : View E). y.live) (some-injective x v e) ∙ alive) ∙ off)
      only x off (suc i) e = some-ne-none v (sym e)

  -- a step that changes tickets and the turn alone: the view at id becomes w, which answers for the same numbers and has the same parts
  pub restep : (s : St) (r : IsTurn stands mark all s) (id : ℕ) (v w : View E) (words : List ℕ) (homes : List (maybe.Option (Option V))) (ticket serving : ℕ) → get_elem? s.views id ≡ some v
      → live_parts w ≡ live_parts v → ((n : ℕ) → claimed n w ≡ claimed n v) → w.in_hand ≡ v.in_hand
      → words ≡ ticket ∷ serving ∷ length r.history ∷ r.made ∷ r.bells → serving ≤ ticket → ticket ≤ 2 ^ 62
      → ((t : ℕ) → serving ≤ t → t < ticket → total (ticketed t) (set s.views id w) ≡ 1)
      → ((t : ℕ) → t < serving → total (ticketed t) (set s.views id w) ≡ 0)
      → ((t : ℕ) → ticket ≤ t → total (ticketed t) (set s.views id w) ≡ 0)
      → Slot stands homes (set s.views id w) r.history
      → ((j : ℕ) (u : View E) → j ≢ id → get_elem? s.views j ≡ some u → Fits mark all serving r.history u) → Fits mark all serving r.history w
      → IsTurn stands mark all record { words = words; homes = homes; views = set s.views id w }
  restep s r id v w words homes ticket serving at same_parts same_claims same_hand is below few waits past future slot others mine =
      let same : (n : ℕ) → numbered n w ≡ numbered n v = λ n. let a = same_claims n in let b : one_at n w.in_hand ≡ one_at n v.in_hand = ap (one_at n) same_hand in omega arith in
      let sm = r.small in
      record {
        ticket = ticket;
        serving = serving;
        made = r.made;
        history = r.history;
        bells = r.bells;
        words = is;
        small = (below, few, sm.2, sm.3);
        waits = waits;
        past = past;
        future = future;
        slot = slot;
        parts = total_kept live_parts s.views id v w at same_parts ∙ r.parts;
        each = each_set (Fits mark all serving r.history) s.views id w others mine;
        below = λ n h. total_kept (numbered n) s.views id v w at (same n) ∙ r.below n h;
        above = λ n h. total_kept (numbered n) s.views id v w at (same n) ∙ r.above n h;
        added = Every-weaker (λ e. 0 < total (claimed (mark e)) s.views) (λ e. 0 < total (claimed (mark e)) (set s.views id w))
            (λ e h. subst (λ (n : ℕ). 0 < n) (sym (total_kept (claimed (mark e)) s.views id v w at (same_claims (mark e)))) h) r.history r.added;
      }

  -- nothing changes
  pub stays : (s : St) → K s → (i id : ℕ) (v : View E) → get_elem? s.views id ≡ some v → K record { words = set s.words i (get_or s.words i 0); homes = s.homes; views = set s.views id v }
  stays s k i id v at = subst (λ (z : List ℕ × List (View E)). K record { words = z.0; homes = s.homes; views = z.1 }) (λ j. (sym (set_same s.words i 0) j, sym (set_again s.views id v at) j)) k

  pub slot_kept : (homes : List (maybe.Option (Option V))) (views now : List (View E)) (history : List E) → total held now ≡ total held views → Slot stands homes views history → Slot stands homes now history
  slot_kept homes views now history same slot =
      ⊎_elim (λ (h : (total held views ≡ 0) × ((y : V) × (homes ≡ some (Some y) ∷ []) × stands y history)). inl (same ∙ h.0, h.1)) (λ (h : (total held views ≡ 1) × (homes ≡ none ∷ [])). inr (same ∙ h.0, h.1)) slot

  -- what a step on the word i owes, where the word becomes n
  abbrev pub Goes : St → ℕ → ℕ → M → (M → Type 0) → ℕ → Type 0
  Goes s i id me then n = (w : View E) × (a : Act (Option V)) × Valid s.homes me.1 a × K (stepped s i n id me.1 w a) × then (w, carried_after me.1 a)

  -- a ticket is drawn
  pub draws : (slots id : ℕ) (me : M) (old new : ℕ) → new ≡ old + 1 → old < 2 ^ 62 → me.0.live ≡ true → me.0.ticket ≡ None → me.0.holding ≡ false
      → Allows K slots id me 0 (λ n. either (eqb n old) new n) (TellsTicket (step slots 0 old new none) me)
  draws slots id me old new more few alive idle free s k _ at _ =
      let r = is_founded s id me.0 at alive k in
      let v : View E = me.0 in
      let x : ℕ = get_or s.words 0 0 in
      let is : x ≡ r.ticket = ap (λ (l : List ℕ). get_or l 0 0) r.words in
      let tells : M → Type 0 = TellsTicket (step slots 0 old new none) me x in
      exchanged x old new (Goes s 0 id me tells)
      (λ hit.
      let w : View E = with_ticket v x in
      let f = r.each id v at in
      let next : new ≡ r.ticket + 1 = omega arith in
      let none_yet : (t : ℕ) → ticketed t v ≡ 0 = λ t. ap (one_at t) idle in
      let mine : ticketed x w ≡ 1 = one_same x in
      let other : (t : ℕ) → t ≢ x → ticketed t w ≡ 0 = λ t ne. one_other t x (λ e. ne (sym e)) in
      let here : total (ticketed x) (set s.views id w) ≡ 1 = let a = total_set (ticketed x) s.views id v w at in let b = r.future x (omega arith) in let c = none_yet x in omega arith in
      let there : (t : ℕ) → t ≢ x → total (ticketed t) (set s.views id w) ≡ total (ticketed t) s.views = λ t ne. total_kept (ticketed t) s.views id v w at (other t ne ∙ sym (none_yet t)) in
      let sm = r.small in (
        w,
        keeps,
        tt,
        inr (restep s r id v w (set s.words 0 new) s.homes (r.ticket + 1) r.serving at refl (λ n. refl) refl (ap (λ (l : List ℕ). set l 0 new) r.words ∙ ap (λ (n : ℕ). n ∷ r.serving ∷ length r.history ∷ r.made ∷ r.bells) next)
            (omega arith) (omega arith)
            (λ t le lt. dite (ℕ_discrete t x) (λ e. subst (λ (n : ℕ). total (ticketed n) (set s.views id w) ≡ 1) (sym e) here) (λ ne. there t ne ∙ r.waits t le (omega arith)))
            (λ t lt. there t (λ e. omega arith) ∙ r.past t lt)
            (λ t le. there t (λ e. omega arith) ∙ r.future t (omega arith))
            (slot_kept s.homes s.views (set s.views id w) r.history (total_kept held s.views id v w at refl) r.slot)
            (λ j u _ e. r.each j u e)
            record { founded = f.founded; holding = λ h. absurd (true≢false (sym h ∙ free)); closing = f.closing; knows = λ h. let kn = f.knows h in record { part = kn.part; seen = kn.seen; unmerged = kn.unmerged; exact = kn.exact } }),
        ((λ _. refl), (λ miss. absurd (miss hit)), refl),
      ))
      (λ miss. (me.0, keeps, tt, stays s k 0 id me.0 at, ((λ hit. absurd (miss hit)), (λ _. refl), refl)))

  -- a view that holds the turn is the one that does
  pub holds_alone : (s : St) (r : IsTurn stands mark all s) (id j : ℕ) (v u : View E) → get_elem? s.views id ≡ some v → get_elem? s.views j ≡ some u → j ≢ id → v.holding ≡ true → u.holding ≡ true → ⊥
  holds_alone s r id j v u at there apart mine theirs =
      let two = total_two held s.views id j v u (λ e. apart (sym e)) at there in
      let a : held v ≡ 1 = ap one_if mine in
      let b : held u ≡ 1 = ap one_if theirs in
      ⊎_elim (λ (h : (total held s.views ≡ 0) × ((y : V) × (s.homes ≡ some (Some y) ∷ []) × stands y r.history)). let n = h.0 in absurd (omega arith))
      (λ (h : (total held s.views ≡ 1) × (s.homes ≡ none ∷ [])). let n = h.0 in absurd (omega arith)) r.slot

  pub is_away : (s : St) (r : IsTurn stands mark all s) (id : ℕ) (v : View E) → get_elem? s.views id ≡ some v → v.holding ≡ true → (total held s.views ≡ 1) × (s.homes ≡ none ∷ [])
  is_away s r id v at mine =
      let one = total_one held s.views id v at in
      let a : held v ≡ 1 = ap one_if mine in
      ⊎_elim (λ (h : (total held s.views ≡ 0) × ((y : V) × (s.homes ≡ some (Some y) ∷ []) × stands y r.history)). let n = h.0 in absurd (omega arith))
      (λ (h : (total held s.views ≡ 1) × (s.homes ≡ none ∷ [])). h) r.slot

  -- at most one view has a ticket
  pub few_tickets : (s : St) (r : IsTurn stands mark all s) (t : ℕ) → total (ticketed t) s.views ≤ 1
  few_tickets s r t = dite (dec_lt t r.serving) (λ (h : t < r.serving). let a = r.past t h in omega arith)
      (λ n. dite (dec_lt t r.ticket) (λ (h : t < r.ticket). let a = r.waits t (omega arith) h in omega arith) (λ m. let a = r.future t (omega arith) in omega arith))

  pub few_numbers : (s : St) (r : IsTurn stands mark all s) (n : ℕ) → total (numbered n) s.views ≤ 1
  few_numbers s r n = dite (dec_lt n r.made) (λ (h : n < r.made). let a = r.below n h in omega arith) (λ m. let a = r.above n (omega arith) in omega arith)

  -- a live view answers for each number at most once
  pub once_in : (s : St) (r : IsTurn stands mark all s) (id : ℕ) (v : View E) → get_elem? s.views id ≡ some v → v.live ≡ true → (n : ℕ) → times n (claims v) ≤ 1
  once_in s r id v at alive n =
      let a : claimed n v ≡ times n (claims v) = ap (λ (b : Bool). cond b (times n (claims v)) 0) alive in
      let one = total_one (numbered n) s.views id v at in
      let few = few_numbers s r n in omega arith

  -- what a live view answers for, once it has seen all
  pub exact_in : (s : St) (r : IsTurn stands mark all s) (id : ℕ) (v w : View E) → get_elem? s.views id ≡ some v → v.live ≡ true → w ≡ record v { seen = r.history; holding = w.holding; closing = w.closing } → Every (IsClaim mark r.history r.history) (claims v) → IsExact mark w
  exact_in s r id v w at alive is h = subst (IsExact mark) (sym is) record { lists = Every-weaker (IsClaim mark r.history r.history) (λ o. marked mark o.number r.history ≡ o.mine) (λ o c. c.0) (claims v) h; once = once_in s r id v at alive }

  -- the turn of this ticket has come, and this view doesn't hold it yet: no view does
  is_home : (s : St) (r : IsTurn stands mark all s) (id : ℕ) (v : View E) → get_elem? s.views id ≡ some v → v.ticket ≡ Some r.serving → v.holding ≡ false
      → (total held s.views ≡ 0) × ((y : V) × (s.homes ≡ some (Some y) ∷ []) × stands y r.history)
  is_home s r id v at has free =
      ⊎_elim (λ (h : (total held s.views ≡ 0) × ((y : V) × (s.homes ≡ some (Some y) ∷ []) × stands y r.history)). h)
      (λ (h : (total held s.views ≡ 1) × (s.homes ≡ none ∷ [])).
      let n = h.0 in
      let some_one = total_some held s.views (omega arith) in
      let u = some_one.1 in
      let theirs : u.holding ≡ true = truth u.holding some_one.3 in
      let f = r.each some_one.0 u some_one.2 in
      let apart : id ≢ some_one.0 = λ e. true≢false (sym theirs ∙ (ap (λ (x : View E). x.holding) (some-injective u v (sym some_one.2 ∙ (ap (get_elem? s.views) (sym e) ∙ at))) ∙ free)) in
      let two = total_two (ticketed r.serving) s.views id some_one.0 v u apart at some_one.2 in
      let a : ticketed r.serving v ≡ 1 = ap (one_at r.serving) has ∙ one_same r.serving in
      let b : ticketed r.serving u ≡ 1 = ap (one_at r.serving) (f.holding theirs).0 ∙ one_same r.serving in
      let few = few_tickets s r r.serving in
      absurd (omega arith)) r.slot
    where
      truth : (b : Bool) → 0 < one_if b → b ≡ true
      truth true h = refl
      truth false h = absurd (omega arith)

  -- serving is looked at, and the slot is taken where it is the ticket
  pub looks : (slots id : ℕ) (me : M) (t : ℕ) → me.0.live ≡ true → me.0.ticket ≡ Some t → me.0.holding ≡ false → me.1 ≡ []
      → Allows K slots id me 1 (λ n. n) (TellsLook stands mark (step slots 1 0 0 none) me)
  looks slots id me t alive has free bare s k _ at _ =
      let r = is_founded s id me.0 at alive k in
      let v : View E = me.0 in
      let x : ℕ = get_or s.words 1 0 in
      let is : x ≡ r.serving = ap (λ (l : List ℕ). get_or l 1 0) r.words in
      let tells : M → Type 0 = TellsLook stands mark (step slots 1 0 0 none) me x in
      dite (ℕ_discrete t x)
      (λ hit.
      let w : View E = with_turn v r.history in
      let f = r.each id v at in
      let kn = f.knows alive in
      let served : v.ticket ≡ Some r.serving = has ∙ ap (λ (n : ℕ). Some n) (hit ∙ is) in
      let home = is_home s r id v at served free in
      let y : V = home.1.0 in
      let same : (n : ℕ) → total (ticketed n) (set s.views id w) ≡ total (ticketed n) s.views = λ n. total_kept (ticketed n) s.views id v w at refl in
      let one : total held (set s.views id w) ≡ 1 = let a = total_set held s.views id v w at in let b : held v ≡ 0 = ap one_if free in let c = home.0 in omega arith in
      let exact : Every (IsClaim mark r.history r.history) (claims v) = Every-weaker (IsClaim mark v.seen r.history) (IsClaim mark r.history r.history) (λ o h. (h.1, h.1)) (claims v) kn.exact in
      let sm = r.small in (
        w,
        takes 0 (Some y),
        ap (λ (l : List (maybe.Option (Option V))). get_elem? l 0) home.1.1,
        inr (restep s r id v w (set s.words 1 x) (set s.homes 0 none) r.ticket r.serving at refl (λ n. refl) refl (set_same s.words 1 0 ∙ r.words)
            sm.0 sm.1 (λ n le lt. same n ∙ r.waits n le lt) (λ n lt. same n ∙ r.past n lt) (λ n le. same n ∙ r.future n le)
            (inr (one, ap (λ (l : List (maybe.Option (Option V))). set l 0 none) home.1.1))
            (λ j u _ e. r.each j u e)
            record { founded = f.founded; holding = λ _. (served, refl, alive); closing = λ h. let c = f.closing h in (c.0, refl, c.2); knows = λ _. record { part = kn.part; seen = starts_self r.history; unmerged = kn.unmerged; exact = exact } }),
        (
          (λ _. (y, r.history, ap (λ (l : List (ℕ × Option V)). (0, Some y) ∷ l) bare, refl, kn.seen, after_seen mark v.seen r.history (claims v) kn.seen kn.exact, home.1.2, exact_in s r id v w at alive refl exact)),
          (λ miss. absurd (miss (has ∙ ap (λ (n : ℕ). Some n) hit))),
        ),
      ))
      (λ miss. (
        me.0,
        keeps,
        tt,
        stays s k 1 id me.0 at,
        ((λ hit. absurd (miss (some_same (sym has ∙ hit)))), (λ _. (refl, refl))),
      ))
    where
      some_same : {a b : ℕ} → Some a ≡ Some b → a ≡ b
      some_same e = cc

  -- the history is measured
  pub measures : (slots id : ℕ) (me : M) → me.0.live ≡ true → me.0.holding ≡ true → Allows K slots id me 2 (λ n. n) (TellsLength (step slots 2 0 0 none) me)
  measures slots id me alive mine s k _ at _ =
      let r = is_founded s id me.0 at alive k in
      let is : get_or s.words 2 0 ≡ length r.history = ap (λ (l : List ℕ). get_or l 2 0) r.words in
      let sm = r.small in
      (me.0, keeps, tt, stays s k 2 id me.0 at, (refl, refl, is ∙ ap (λ (l : List E). length l) (sym ((r.each id me.0 at).holding mine).1), omega arith))

  -- the turn is ended, and the slot goes home
  pub ends : (slots id : ℕ) (me : M) (y : V) → me.0.live ≡ true → me.0.holding ≡ true → me.1 ≡ (0, Some y) ∷ [] → stands y me.0.seen
      → Allows K slots id me 1 (λ n. (n + 1) % 2 ^ 64) (TellsEnd (step slots 1 1 0 none) me)
  ends slots id me y alive mine has fits s k _ at _ =
      let r = is_founded s id me.0 at alive k in
      let v : View E = me.0 in
      let w : View E = without_turn v in
      let x : ℕ = get_or s.words 1 0 in
      let is : x ≡ r.serving = ap (λ (l : List ℕ). get_or l 1 0) r.words in
      let f = r.each id v at in
      let hold = f.holding mine in
      let away = is_away s r id v at mine in
      let sm = r.small in
      let one : ticketed r.serving v ≡ 1 = ap (one_at r.serving) hold.0 ∙ one_same r.serving in
      let at_most = total_one (ticketed r.serving) s.views id v at in
      let below : r.serving < r.ticket = dite (dec_lt r.serving r.ticket) (λ (h : r.serving < r.ticket). h) (λ n. let a = r.future r.serving (omega arith) in absurd (omega arith)) in
      let next : (x + 1) % 18446744073709551616 ≡ r.serving + 1 = let lim = sm.1 in omega arith in
      let none_left : (t : ℕ) → ticketed t w ≡ 0 = λ t. refl in
      let other : (t : ℕ) → t ≢ r.serving → total (ticketed t) (set s.views id w) ≡ total (ticketed t) s.views =
      λ t ne. total_kept (ticketed t) s.views id v w at (sym (ap (one_at t) hold.0 ∙ one_other t r.serving (λ e. ne (sym e)))) in
      let here : total (ticketed r.serving) (set s.views id w) ≡ 0 = let a = total_set (ticketed r.serving) s.views id v w at in let b = r.waits r.serving (omega arith) below in let c = none_left r.serving in omega arith in
      let none_holds : total held (set s.views id w) ≡ 0 = let a = total_set held s.views id v w at in let b : held v ≡ 1 = ap one_if mine in let c = away.0 in omega arith in
      let homes : put_back s.homes me.1 ≡ some (Some y) ∷ [] = ap₂ (λ (h : List (maybe.Option (Option V))) (c : List (ℕ × Option V)). put_back h c) away.1 has in (
        w,
        gives,
        tt,
        inr (restep s r id v w (set s.words 1 ((x + 1) % 18446744073709551616)) (put_back s.homes me.1) r.ticket (r.serving + 1) at refl (λ n. refl) refl
            (ap₂ (λ (l : List ℕ) (n : ℕ). set l 1 n) r.words next)
            (omega arith) sm.1
            (λ t le lt. other t (λ e. omega arith) ∙ r.waits t (omega arith) lt)
            (λ t lt. dite (ℕ_discrete t r.serving) (λ e. subst (λ (n : ℕ). total (ticketed n) (set s.views id w) ≡ 0) (sym e) here) (λ ne. other t ne ∙ r.past t (omega arith)))
            (λ t le. other t (λ e. omega arith) ∙ r.future t le)
            (inl (none_holds, (y, homes, subst (stands y) hold.1 fits)))
            (λ j u apart e. let g = r.each j u e in record { founded = g.founded; holding = λ h. absurd (holds_alone s r id j v u at e apart mine h); closing = g.closing; knows = g.knows })
            record { founded = f.founded; holding = λ h. absurd (true≢false (sym h)); closing = f.closing; knows = λ h. let kn = f.knows h in record { part = kn.part; seen = kn.seen; unmerged = kn.unmerged; exact = kn.exact } }),
        (refl, ap (λ (c : List (ℕ × Option V)). rest c) has),
      )

  past_four : (a b c d : ℕ) (l : List ℕ) (i j n : ℕ) → i ≡ suc (suc (suc (suc j))) → set (a ∷ b ∷ c ∷ d ∷ l) i n ≡ a ∷ b ∷ c ∷ d ∷ set l j n
  past_four a b c d l i j n e = ap (λ (k : ℕ). set (a ∷ b ∷ c ∷ d ∷ l) k n) e

  -- a word that threads sleep on may become any number
  pub rings : (slots id : ℕ) (me : M) (i j k : ℕ) → i ≡ 4 + j → me.0.live ≡ true → Allows K slots id me i (λ n. (n + k) % 2 ^ 64) (TellsNothing (step slots i k 0 none) me)
  rings slots id me i j k is alive s kept _ at _ =
      let r = is_founded s id me.0 at alive kept in
      let n : ℕ = (get_or s.words i 0 + k) % 18446744073709551616 in
      let words : set s.words i n ≡ r.ticket ∷ r.serving ∷ length r.history ∷ r.made ∷ set r.bells j n =
      ap (λ (l : List ℕ). set l i n) r.words ∙ past_four r.ticket r.serving (length r.history) r.made r.bells i j n (omega arith) in
      let rung : IsTurn stands mark all record { words = set s.words i n; homes = s.homes; views = s.views } =
      record { ticket = r.ticket; serving = r.serving; made = r.made; history = r.history; bells = set r.bells j n; words = words; small = r.small; waits = r.waits; past = r.past; future = r.future; slot = r.slot; parts = r.parts; each = r.each; below = r.below; above = r.above; added = r.added } in
      (me.0, keeps, tt, inr (subst (λ (l : List (View E)). IsTurn stands mark all record { words = set s.words i n; homes = s.homes; views = l }) (sym (set_again s.views id me.0 at)) rung), (refl, refl))

  -- what `enter` says, once a ticket was drawn and the turn was taken
  pub all_entered : (v m w : View E) (t : ℕ) (es : List E) (value y : V) → value ≡ y → m ≡ with_ticket v t → w ≡ with_turn m es → (begins : StartsWith es m.seen) → AreOthers mark m begins.0 → stands y es → IsExact mark w
      → Entered stands mark v value w
  all_entered v m w t es value y here drawn is begins others fits exact =
      let now : w ≡ with_turn (with_ticket v t) es = is ∙ ap (λ (x : View E). with_turn x es) drawn in
      let seen : w.seen ≡ es = ap (λ (x : View E). x.seen) now in
      let ticket : w.ticket ≡ Some t = ap (λ (x : View E). x.ticket) now in
      record {
        same = now ∙ ap₂ (λ (n : Option ℕ) (l : List E). record v { holding = true; ticket = n; holds = v.holds + 1; seen = l }) (sym ticket) (sym seen);
        seen = (begins.0, seen ∙ (begins.1 ∙ ap (λ (x : View E). x.seen ++ begins.0) drawn));
        others = subst (λ (x : View E). AreOthers mark x begins.0) drawn others;
        for_seen = subst (λ (z : V). stands z w.seen) (sym here) (subst (stands y) (sym seen) fits);
        exact = exact;
      }
