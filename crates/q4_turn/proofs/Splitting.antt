-- A number that is drawn, a split, and the looks after a split and a join keep the rule.
use Rattle.std.proofs.Common.{◌-◌, ◌≡◌, ◌≢◌, ℕ, ◌+◌, ◌^◌, ◌<◌, ◌≤◌, eqb, Bool, true, false, true≢false, cond, List, [], ◌∷◌, ◌++◌, get_or, set, refl, sym, ap, ap₂, ◌∙◌, subst, inr, arith}
use Rattle.std.specs.Prelude.{Option, Some, None}
use mathlib.Core.Logic.{dite}
use mathlib.Core.Option.{some, none}
use native.Mathlib.Decide.{ℕ_discrete}
use lib.ListN.{get_elem?}
use prog.Atomic.{either}
use Rattle.atomic_table.specs.Table.{State, Me, step, keeps, Allows}
use Rattle.q4_turn.specs.declared.view.View.{View}
use Rattle.q4_turn.specs.Lists.{number_of_hand, total, one_if, one_at, marked}
use Rattle.q4_turn.specs.Views.{times, compared, with_number, after_split, split_by_hand, claims, claimed, numbered, ticketed, held, live_parts}
use Rattle.q4_turn.specs.Rules.{IsClaim, Fits, IsTurn, Keeps}
use Rattle.q4_turn.specs.Steps.{TellsNumber, TellsExact, TellsCompared}
use Rattle.atomic_table.specs.Table.{Splits}
use Rattle.atomic_table.proofs.Lists.{exchanged}
use Rattle.q4_turn.proofs.Basics.{set_same, starts_both, marked_nowhere, marked_before, total-plus, total_split, each_split, total_set, total_kept, total_one, each_set, Every-weaker, one_same, one_other}
use Rattle.q4_turn.proofs.Holding.{restep, once_in, is_founded, few_numbers, slot_kept, stays, Goes}

module _ {V E : Type 0} (stands : V → List E → Type 0) (mark : E → ℕ) (all : ℕ) where
  abbrev St : Type 0
  St = State (Option V) (View E)

  abbrev M : Type 0
  M = Me (Option V) (View E)

  abbrev K : St → Type 0
  K = Keeps stands mark all

  -- a look after a split: what the rule knows of a live view
  pub knows : (slots id : ℕ) (me : M) → me.0.live ≡ true → Allows K slots id me 0 (λ n. n) (TellsExact mark (step slots 0 0 0 none) me)
  knows slots id me alive s k _ at _ =
      let r = is_founded stands mark all s id me.0 at alive k in
      let kn = (r.each id me.0 at).knows alive in
      (me.0, keeps, tt, stays stands mark all s k 0 id me.0 at, (refl, refl, record { lists = Every-weaker (IsClaim mark me.0.seen r.history) (λ o. marked mark o.number me.0.seen ≡ o.mine) (λ o h. h.0) (claims me.0) kn.exact; once = once_in stands mark all s r id me.0 at alive }))

  -- a look after a join: the longer of two begins with the other
  pub compares : (slots id : ℕ) (me : M) → me.0.live ≡ true → Allows K slots id me 0 (λ n. n) (TellsCompared mark (step slots 0 0 0 none) me)
  compares slots id me alive s k _ at _ =
      let r = is_founded stands mark all s id me.0 at alive k in
      let v : View E = me.0 in
      let w : View E = compared v in
      let f = r.each id v at in
      let kn = f.knows alive in
      let sm = r.small in (
        w,
        keeps,
        tt,
        inr (restep stands mark all s r id v w (set s.words 0 (get_or s.words 0 0)) s.homes r.ticket r.serving at refl (λ n. refl) refl (set_same s.words 0 0 ∙ r.words) sm.0 sm.1
            (λ t le lt. total_kept (ticketed t) s.views id v w at refl ∙ r.waits t le lt)
            (λ t lt. total_kept (ticketed t) s.views id v w at refl ∙ r.past t lt)
            (λ t le. total_kept (ticketed t) s.views id v w at refl ∙ r.future t le)
            (slot_kept stands mark all s.homes s.views (set s.views id w) r.history (total_kept held s.views id v w at refl) r.slot)
            (λ j u _ e. r.each j u e)
            record { founded = f.founded; holding = f.holding; closing = f.closing; knows = λ _. record { part = kn.part; seen = kn.seen; unmerged = (r.history, refl); exact = kn.exact } }),
        (
          refl,
          refl,
          record { lists = Every-weaker (IsClaim mark v.seen r.history) (λ o. marked mark o.number v.seen ≡ o.mine) (λ o h. h.0) (claims v) kn.exact; once = once_in stands mark all s r id v at alive },
          λ le. starts_both r.history v.unmerged v.seen kn.unmerged kn.seen le,
        ),
      )

  -- a number is drawn
  pub numbers : (slots id : ℕ) (me : M) (old new : ℕ) → new ≡ old + 1 → old < 2 ^ 62 → me.0.live ≡ true → me.0.in_hand ≡ None
      → Allows K slots id me 3 (λ n. either (eqb n old) new n) (TellsNumber (step slots 3 old new none) me)
  numbers slots id me old new more few alive idle s k _ at _ =
      let r = is_founded stands mark all s id me.0 at alive k in
      let v : View E = me.0 in
      let x : ℕ = get_or s.words 3 0 in
      let is : x ≡ r.made = ap (λ (l : List ℕ). get_or l 3 0) r.words in
      let tells : M → Type 0 = TellsNumber (step slots 3 old new none) me x in
      exchanged x old new (Goes stands mark all s 3 id me tells)
      (λ hit.
      let w : View E = with_number v x in
      let f = r.each id v at in
      let next : new ≡ r.made + 1 = omega arith in
      let none_yet : (n : ℕ) → numbered n v ≡ claimed n v = λ n. let a : one_at n v.in_hand ≡ 0 = ap (one_at n) idle in omega arith in
      let mine : numbered x w ≡ claimed x v + 1 = let a = one_same x in omega arith in
      let other : (n : ℕ) → n ≢ x → numbered n w ≡ numbered n v = λ n ne. let a : one_at n (Some x) ≡ 0 = one_other n x (λ e. ne (sym e)) in let b = none_yet n in omega arith in
      let here : total (numbered x) (set s.views id w) ≡ 1 = let a = total_set (numbered x) s.views id v w at in let b = r.above x (omega arith) in let c = none_yet x in omega arith in
      let there : (n : ℕ) → n ≢ x → total (numbered n) (set s.views id w) ≡ total (numbered n) s.views = λ n ne. total_kept (numbered n) s.views id v w at (other n ne) in
      let none_before : times x (claims v) ≡ 0 = let a = total_one (numbered x) s.views id v at in let b = r.above x (omega arith) in let c : claimed x v ≡ times x (claims v) = ap (λ (b : Bool). cond b (times x (claims v)) 0) alive in omega arith in
      let sm = r.small in (
        w,
        keeps,
        tt,
        inr record {
          ticket = r.ticket;
          serving = r.serving;
          made = r.made + 1;
          history = r.history;
          bells = r.bells;
          words = ap₂ (λ (l : List ℕ) (n : ℕ). set l 3 n) r.words next;
          small = (sm.0, sm.1, sm.2, omega arith);
          waits = λ t le lt. total_kept (ticketed t) s.views id v w at refl ∙ r.waits t le lt;
          past = λ t lt. total_kept (ticketed t) s.views id v w at refl ∙ r.past t lt;
          future = λ t le. total_kept (ticketed t) s.views id v w at refl ∙ r.future t le;
          slot = slot_kept stands mark all s.homes s.views (set s.views id w) r.history (total_kept held s.views id v w at refl) r.slot;
          parts = total_kept live_parts s.views id v w at refl ∙ r.parts;
          each = each_set (Fits mark all r.serving r.history) s.views id w (λ j u _ e. r.each j u e)
              record { founded = f.founded; holding = f.holding; closing = f.closing; knows = λ h. let kn = f.knows h in record { part = kn.part; seen = kn.seen; unmerged = kn.unmerged; exact = kn.exact } };
          below = λ n h. dite (ℕ_discrete n x) (λ e. subst (λ (m : ℕ). total (numbered m) (set s.views id w) ≡ 1) (sym e) here) (λ ne. there n ne ∙ r.below n (omega arith));
          above = λ n h. there n (λ e. omega arith) ∙ r.above n (omega arith);
          added = Every-weaker (λ e. 0 < total (claimed (mark e)) s.views) (λ e. 0 < total (claimed (mark e)) (set s.views id w))
              (λ e h. subst (λ (n : ℕ). 0 < n) (sym (total_kept (claimed (mark e)) s.views id v w at refl)) h) r.history r.added;
        },
        ((λ _. (refl, none_before)), (λ miss. absurd (miss hit)), refl),
      ))
      (λ miss. (me.0, keeps, tt, stays stands mark all s k 3 id me.0 at, ((λ hit. absurd (miss hit)), (λ _. refl), refl)))

  -- no entry has a number that is in hand
  none_in_hand : (s : St) (r : IsTurn stands mark all s) (id n : ℕ) (v : View E) → get_elem? s.views id ≡ some v → v.in_hand ≡ Some n → total (claimed n) s.views ≡ 0
  none_in_hand s r id n v at has =
      let plus = total-plus (claimed n) (λ (u : View E). one_at n u.in_hand) s.views in
      let few = few_numbers stands mark all s r n in
      let one = total_one (λ (u : View E). one_at n u.in_hand) s.views id v at in
      let a : one_at n v.in_hand ≡ 1 = ap (one_at n) has ∙ one_same n in
      omega arith

  -- a view is split by the number in its hand
  pub splits : (id n k : ℕ) (v : View E) → v.live ≡ true → v.ticket ≡ None → v.holding ≡ false → v.closing ≡ false → v.in_hand ≡ Some n → 0 < k → k < v.parts
      → Splits K id v (after_split k v) (split_by_hand k v)
  splits id n k v alive idle free unclosed has some_part fewer s kept at =
      let r = is_founded stands mark all s id v at alive kept in
      let a : View E = after_split k v in
      let b : View E = split_by_hand k v in
      let f = r.each id v at in
      let kn = f.knows alive in
      let is_n : number_of_hand v.in_hand ≡ n = ap number_of_hand has in
      let views : List (View E) = set s.views id a ++ b ∷ [] in
      let now : (f : View E → ℕ) → f a + f b ≡ f v → total f views ≡ total f s.views = λ f e. let t = total_split f s.views id v a b at in omega arith in
      let same_claims : (m : ℕ) → claimed m a ≡ claimed m v = λ m. refl in
      let tickets : (t : ℕ) → total (ticketed t) views ≡ total (ticketed t) s.views = λ t. now (ticketed t) (omega arith) in
      let parts_a : live_parts a ≡ v.parts - k = ap (λ (x : Bool). cond x (v.parts - k) 0) alive in
      let parts_v : live_parts v ≡ v.parts = ap (λ (x : Bool). cond x v.parts 0) alive in
      let numbers_same : (m : ℕ) → total (numbered m) views ≡ total (numbered m) s.views = λ m. now (numbered m)
      (let p : one_at m v.in_hand ≡ one_if (eqb n m) = ap (one_at m) has in let q : claimed m b ≡ one_if (eqb n m) + 0 = ap (λ (x : ℕ). one_if (eqb x m) + 0) is_n in omega arith) in
      let more : (m : ℕ) → total (claimed m) s.views ≤ total (claimed m) views = λ m. let t = total_split (claimed m) s.views id v a b at in let e = same_claims m in omega arith in
      let none_at : marked mark n r.history ≡ [] = marked_nowhere mark n r.history (Every-weaker (λ e. 0 < total (claimed (mark e)) s.views) (λ e. mark e ≢ n)
      (λ e h is. let z = none_in_hand s r id n v at has in let y : 0 < total (claimed n) s.views = subst (λ (m : ℕ). 0 < total (claimed m) s.views) is h in absurd (omega arith)) r.history r.added) in
      let none_seen : marked mark n v.seen ≡ [] = marked_before mark n v.seen r.history kn.seen none_at in
      inr record {
        ticket = r.ticket;
        serving = r.serving;
        made = r.made;
        history = r.history;
        bells = r.bells;
        words = r.words;
        small = r.small;
        waits = λ t le lt. tickets t ∙ r.waits t le lt;
        past = λ t lt. tickets t ∙ r.past t lt;
        future = λ t le. tickets t ∙ r.future t le;
        slot = slot_kept stands mark all s.homes s.views views r.history (now held (omega arith)) r.slot;
        parts = now live_parts (omega arith) ∙ r.parts;
        each = each_split (Fits mark all r.serving r.history) s.views id a b (λ j u _ e. r.each j u e)
            record { founded = f.founded; holding = f.holding; closing = λ h. absurd (true≢false (sym h ∙ unclosed)); knows = λ h. record { part = omega arith; seen = kn.seen; unmerged = kn.unmerged; exact = kn.exact } }
            record {
              founded = refl;
              holding = λ h. absurd (true≢false (sym h));
              closing = λ h. absurd (true≢false (sym h));
              knows = λ _. record { part = some_part; seen = kn.seen; unmerged = (r.history, refl); exact = ((ap (λ (m : ℕ). marked mark m v.seen) is_n ∙ none_seen, ap (λ (m : ℕ). marked mark m r.history) is_n ∙ none_at), tt) };
            };
        below = λ m h. numbers_same m ∙ r.below m h;
        above = λ m h. numbers_same m ∙ r.above m h;
        added = Every-weaker (λ e. 0 < total (claimed (mark e)) s.views) (λ e. 0 < total (claimed (mark e)) views) (λ e h. let m = more (mark e) in omega arith) r.history r.added;
      }
