-- A join, the close and the end keep the rule.
use Rattle.std.proofs.Common.{append-nil, ◌≡◌, ◌≢◌, ℕ, ◌+◌, ◌<◌, Bool, true, false, true≢false, cond, List, [], ◌∷◌, ◌++◌, get_or, set, refl, sym, ap, ◌∙◌, subst, inr, ⊎_elim, arith}
use Rattle.std.specs.Prelude.{Option, Some, None}
use mathlib.Core.Option.{some, none, some-ne-none, some-injective}
use mathlib.Core.Option as maybe
use lib.ListN.{get_elem?}
use Rattle.atomic_table.specs.Table.{State, Me, step, keeps, Allows}
use Rattle.q4_turn.specs.declared.view.View.{View}
use Rattle.q4_turn.specs.declared.view.JoinedPass.{JoinedPass}
use Rattle.q4_turn.specs.Lists.{marked, longer, total, Every, StartsWith, one_if, one_at}
use Rattle.q4_turn.specs.Views.{uncompared, spent_view, closed_view, retired, times, claims, claimed, numbered, ticketed, held, live_parts}
use Rattle.q4_turn.specs.Rules.{IsClaim, Fits, IsTurn, Keeps}
use Rattle.q4_turn.specs.Steps.{IsExact, TellsClose}
use Rattle.q4_turn.specs.Passes.{Ended}
use Rattle.atomic_table.specs.Table.{Joins, Splits, Seen, Final}
use Rattle.atomic_table.proofs.Lists.{set_else}
use Rattle.q4_turn.proofs.Basics.{after_seen, none_of_these, Every-after, starts_shorter, total_only, starts_longer, longer_first, longer_second, marked_between, each_gone, times-append, total_split, each_split, set_same, total_set, total_kept, total_two, total_some, Every-weaker, Every-append}
use Rattle.q4_turn.proofs.Holding.{restep, once_in, is_founded, slot_kept}

module _ {V E : Type 0} (stands : V → List E → Type 0) (mark : E → ℕ) (all : ℕ) where
  abbrev St : Type 0
  St = State (Option V) (View E)

  abbrev M : Type 0
  M = Me (Option V) (View E)

  abbrev K : St → Type 0
  K = Keeps stands mark all

  -- the claims of a view hold of a longer beginning of the same history
  claims_longer : (seen more history : List E) (os : List (JoinedPass E)) → StartsWith more seen → StartsWith history more → Every (IsClaim mark seen history) os → Every (IsClaim mark more history) os
  claims_longer seen more history os low high h = Every-weaker (IsClaim mark seen history) (IsClaim mark more history) (λ o c. (marked_between mark o.number seen more history o.mine low high c.0 c.1, c.1)) os h

  -- two views are joined
  pub joins : (id other : ℕ) (v w : View E) → v.live ≡ true → v.ticket ≡ None → v.holding ≡ false → v.in_hand ≡ None → w.live ≡ true → w.ticket ≡ None → w.holding ≡ false → w.in_hand ≡ None → v.closing ≡ false
      → Joins K id v other w (uncompared v w) spent_view
  joins id other v w alive idle free hand alive' idle' free' hand' unclosed s kept at apart there =
      let r = is_founded stands mark all s id v at alive kept in
      let b : View E = uncompared v w in
      let at' : get_elem? s.views other ≡ some w = sym (set_else s.views id other b apart) ∙ there in
      let f = r.each id v at in
      let kn = f.knows alive in
      let kn' = (r.each other w at').knows alive' in
      let views : List (View E) = set (set s.views id b) other spent_view in
      let now : (f : View E → ℕ) → f b ≡ f v + f w → f spent_view ≡ 0 → total f views ≡ total f s.views = λ f e z. let t = total_set f s.views id v b at in let u = total_set f (set s.views id b) other w spent_view there in omega arith in
      let tickets : (t : ℕ) → total (ticketed t) views ≡ total (ticketed t) s.views = λ t. now (ticketed t) (let a : ticketed t v ≡ 0 = ap (one_at t) idle in let c : ticketed t w ≡ 0 = ap (one_at t) idle' in omega arith) refl in
      let holds : total held views ≡ total held s.views = now held (let a : held v ≡ 0 = ap one_if free in let c : held w ≡ 0 = ap one_if free' in omega arith) refl in
      let claims_same : (n : ℕ) → claimed n b ≡ claimed n v + claimed n w = λ n.
      let p : claimed n b ≡ times n (claims v ++ claims w) = ap (λ (x : Bool). cond x (times n (claims v ++ claims w)) 0) alive in
      let q : claimed n v ≡ times n (claims v) = ap (λ (x : Bool). cond x (times n (claims v)) 0) alive in
      let q' : claimed n w ≡ times n (claims w) = ap (λ (x : Bool). cond x (times n (claims w)) 0) alive' in
      let t = times-append n (claims v) (claims w) in omega arith in
      let hands : (n : ℕ) → numbered n b ≡ numbered n v + numbered n w = λ n. let c = claims_same n in let a : one_at n v.in_hand ≡ 0 = ap (one_at n) hand in let d : one_at n w.in_hand ≡ 0 = ap (one_at n) hand' in omega arith in
      let numbers_same : (n : ℕ) → total (numbered n) views ≡ total (numbered n) s.views = λ n. now (numbered n) (hands n) refl in
      let parts_same : total live_parts views ≡ total live_parts s.views = now live_parts
      (let p : live_parts b ≡ v.parts + w.parts = ap (λ (x : Bool). cond x (v.parts + w.parts) 0) alive in let q : live_parts v ≡ v.parts = ap (λ (x : Bool). cond x v.parts 0) alive in let q' : live_parts w ≡ w.parts = ap (λ (x : Bool). cond x w.parts 0) alive' in omega arith) refl in
      let most : List E = longer v.seen w.seen in
      let of_all = starts_longer r.history v.seen w.seen kn.seen kn'.seen in
      let of_first = longer_first r.history v.seen w.seen kn.seen kn'.seen in
      let of_second = longer_second r.history v.seen w.seen kn.seen kn'.seen in
      inr record {
        ticket = r.ticket;
        serving = r.serving;
        made = r.made;
        history = r.history;
        bells = r.bells;
        words = r.words;
        small = r.small;
        waits = λ t le lt. tickets t ∙ r.waits t le lt;
        past = λ t lt. tickets t ∙ r.past t lt;
        future = λ t le. tickets t ∙ r.future t le;
        slot = slot_kept stands mark all s.homes s.views views r.history holds r.slot;
        parts = parts_same ∙ r.parts;
        each = each_gone (Fits mark all r.serving r.history) s.views id other b spent_view (λ j u e. r.each j u e)
            record {
              founded = f.founded;
              holding = λ h. absurd (true≢false (sym h ∙ free));
              closing = λ h. absurd (true≢false (sym h ∙ unclosed));
              knows = λ _. record {
                part = let p = kn.part in omega arith;
                seen = of_all;
                unmerged = starts_shorter r.history v.seen w.seen kn.seen kn'.seen;
                exact = Every-append (IsClaim mark most r.history) (claims v) (claims w) (claims_longer v.seen most r.history (claims v) of_first of_all kn.exact) (claims_longer w.seen most r.history (claims w) of_second of_all kn'.exact);
              };
            }
            record { founded = refl; holding = λ h. absurd (true≢false (sym h)); closing = λ h. absurd (true≢false (sym h)); knows = λ h. absurd (true≢false (sym h)) };
        below = λ n h. numbers_same n ∙ r.below n h;
        above = λ n h. numbers_same n ∙ r.above n h;
        added = Every-weaker (λ e. 0 < total (claimed (mark e)) s.views) (λ e. 0 < total (claimed (mark e)) views)
            (λ e h. subst (λ (n : ℕ). 0 < n) (sym (now (claimed (mark e)) (claims_same (mark e)) refl)) h) r.history r.added;
      }

  -- no other view is live
  others_gone : (s : St) (r : IsTurn stands mark all s) (id j : ℕ) (v u : View E) → get_elem? s.views id ≡ some v → get_elem? s.views j ≡ some u → j ≢ id → v.live ≡ true → v.parts ≡ all → u.live ≡ true → ⊥
  others_gone s r id j v u at there apart mine whole theirs =
      let two = total_two live_parts s.views id j v u (λ e. apart (sym e)) at there in
      let a : live_parts v ≡ v.parts = ap (λ (b : Bool). cond b v.parts 0) mine in
      let b : live_parts u ≡ u.parts = ap (λ (b : Bool). cond b u.parts 0) theirs in
      let p = ((r.each j u there).knows theirs).part in
      let sum = r.parts in
      absurd (omega arith)

  -- the history is closed
  pub closes : (slots id : ℕ) (me : M) → me.0.live ≡ true → me.0.parts ≡ all → Allows K slots id me 0 (λ n. n) (TellsClose mark (step slots 0 0 0 none) me)
  closes slots id me alive whole s k _ at _ =
      let r = is_founded stands mark all s id me.0 at alive k in
      let v : View E = me.0 in
      let w : View E = closed_view v in
      let f = r.each id v at in
      let kn = f.knows alive in
      let sm = r.small in
      let only : (n : ℕ) → total (claimed n) s.views ≡ times n (claims v) = λ n.
      total_only (claimed n) s.views id v at (λ j u apart e. gone_none n u (λ theirs. others_gone s r id j v u at e apart alive whole theirs)) ∙ ap (λ (b : Bool). cond b (times n (claims v)) 0) alive in
      let known : Every (λ e. 0 < times (mark e) (claims v)) r.history =
      Every-weaker (λ e. 0 < total (claimed (mark e)) s.views) (λ e. 0 < times (mark e) (claims v)) (λ e h. subst (λ (n : ℕ). 0 < n) (only (mark e)) h) r.history r.added in
      let others : Every (λ o. marked mark o.number kn.seen.0 ≡ []) (claims v) = after_seen mark v.seen r.history (claims v) kn.seen kn.exact in
      let more : Every (λ e. 0 < times (mark e) (claims v)) kn.seen.0 = Every-after (λ e. 0 < times (mark e) (claims v)) v.seen kn.seen.0 (subst (Every (λ e. 0 < times (mark e) (claims v))) kn.seen.1 known) in
      let none_more : kn.seen.0 ≡ [] = none_of_these mark (claims v) kn.seen.0 others more in
      let all_seen : v.seen ≡ r.history = sym (kn.seen.1 ∙ (ap (λ (l : List E). v.seen ++ l) none_more ∙ append-nil v.seen)) in (
        w,
        keeps,
        tt,
        inr (restep stands mark all s r id v w (set s.words 0 (get_or s.words 0 0)) s.homes r.ticket r.serving at refl (λ n. refl) refl (set_same s.words 0 0 ∙ r.words) sm.0 sm.1
            (λ t le lt. total_kept (ticketed t) s.views id v w at refl ∙ r.waits t le lt)
            (λ t lt. total_kept (ticketed t) s.views id v w at refl ∙ r.past t lt)
            (λ t le. total_kept (ticketed t) s.views id v w at refl ∙ r.future t le)
            (slot_kept stands mark all s.homes s.views (set s.views id w) r.history (total_kept held s.views id v w at refl) r.slot)
            (λ j u _ e. r.each j u e)
            record {
              founded = f.founded;
              holding = f.holding;
              closing = λ _. (whole, all_seen, alive);
              knows = λ _. record { part = kn.part; seen = kn.seen; unmerged = kn.unmerged; exact = kn.exact };
            }),
        (
          refl,
          refl,
          record { lists = Every-weaker (IsClaim mark v.seen r.history) (λ o. marked mark o.number v.seen ≡ o.mine) (λ o h. h.0) (claims v) kn.exact; once = once_in stands mark all s r id v at alive },
          subst (Every (λ e. 0 < times (mark e) (claims v))) (sym all_seen) known,
        ),
      )
    where
      gone_none : (n : ℕ) (u : View E) → (u.live ≡ true → ⊥) → claimed n u ≡ 0
      gone_none n u h = here u.live refl
        where
          here : (b : Bool) → u.live ≡ b → cond b (times n (claims u)) 0 ≡ 0
          here true e = absurd (h e)
          here false e = refl

  -- the end: the value is at home, and stands for all that the closing view has seen
  pub ending : (id : ℕ) (v : View E) (xs : List (Option V)) (ws : List ℕ) → v.live ≡ true → v.closing ≡ true → v.holding ≡ false → Final (Seen K id v) ws xs
      → (y : V) × (get_elem? xs 0 ≡ some (Some y)) × stands y v.seen
  ending id v xs ws alive ended free final =
      let s = final.0 in
      let r = is_founded stands mark all s id v final.1.1 alive final.1.0 in
      let c = (r.each id v final.1.1).closing ended in
      ⊎_elim
      (λ (h : (total held s.views ≡ 0) × ((y : V) × (s.homes ≡ some (Some y) ∷ []) × stands y r.history)).
      (h.1.0, final.4 0 (Some h.1.0) (ap (λ (l : List (maybe.Option (Option V))). get_elem? l 0) h.1.1), subst (stands h.1.0) (sym c.1) h.1.2))
      (λ (h : (total held s.views ≡ 1) × (s.homes ≡ none ∷ [])).
      let n = h.0 in
      let there = total_some held s.views (omega arith) in
      let u = there.1 in
      let theirs : u.holding ≡ true = truth u.holding there.3 in
      let apart : there.0 ≢ id = λ e. true≢false (sym theirs ∙ (ap (λ (x : View E). x.holding) (some-injective u v (sym there.2 ∙ (ap (get_elem? s.views) e ∙ final.1.1))) ∙ free)) in
      absurd (others_gone s r id there.0 v u final.1.1 there.2 apart alive c.0 ((r.each there.0 u there.2).holding theirs).2)) r.slot
    where
      truth : (b : Bool) → 0 < one_if b → b ≡ true
      truth true h = refl
      truth false h = absurd (omega arith)

  -- a copy of the view is kept for after the end
  pub leaves : (id : ℕ) (v : View E) → v.live ≡ true → Splits K id v v (retired v)
  leaves id v alive s kept at =
      let r = is_founded stands mark all s id v at alive kept in
      let f = r.each id v at in
      let b : View E = retired v in
      let views : List (View E) = set s.views id v ++ b ∷ [] in
      let now : (f : View E → ℕ) → f b ≡ 0 → total f views ≡ total f s.views = λ f e. let t = total_split f s.views id v v b at in omega arith in
      inr record {
        ticket = r.ticket;
        serving = r.serving;
        made = r.made;
        history = r.history;
        bells = r.bells;
        words = r.words;
        small = r.small;
        waits = λ t le lt. now (ticketed t) refl ∙ r.waits t le lt;
        past = λ t lt. now (ticketed t) refl ∙ r.past t lt;
        future = λ t le. now (ticketed t) refl ∙ r.future t le;
        slot = slot_kept stands mark all s.homes s.views views r.history (now held refl) r.slot;
        parts = now live_parts refl ∙ r.parts;
        each = each_split (Fits mark all r.serving r.history) s.views id v b (λ j u _ e. r.each j u e) f
            record { founded = f.founded; holding = λ h. absurd (true≢false (sym h)); closing = λ h. absurd (true≢false (sym h)); knows = λ h. absurd (true≢false (sym h)) };
        below = λ n h. now (numbered n) refl ∙ r.below n h;
        above = λ n h. now (numbered n) refl ∙ r.above n h;
        added = Every-weaker (λ e. 0 < total (claimed (mark e)) s.views) (λ e. 0 < total (claimed (mark e)) views) (λ e h. subst (λ (n : ℕ). 0 < n) (sym (now (claimed (mark e)) refl)) h) r.history r.added;
      }

  -- what `close` says of that copy
  pub all_ended : (v v' v'' w : View E) (value y : V) → value ≡ y → v' ≡ closed_view v → v'' ≡ v' → w ≡ retired v' → IsExact mark v → Every (λ e. 0 < times (mark e) (claims v)) v.seen → stands y v''.seen
      → Ended stands mark v value w
  all_ended v v' v'' w value y here is same left exact known fits =
      let now : w ≡ retired v = left ∙ ap (λ (x : View E). retired x) is in
      let seen : w.seen ≡ v.seen = ap (λ (x : View E). x.seen) now in
      record {
        same = now;
        for_all = subst (λ (z : V). stands z w.seen) (sym here) (subst (stands y) (ap (λ (x : View E). x.seen) (same ∙ is) ∙ sym seen) fits);
        exact = subst (IsExact mark) (sym now) record { lists = exact.lists; once = exact.once };
        known = subst (λ (x : View E). Every (λ e. 0 < times (mark e) (claims x)) x.seen) (sym now) known;
      }

pub same_some : {V : Type 0} (x : Option V) (y : V) (xs : List (Option V)) → get_elem? xs 0 ≡ some x → get_elem? xs 0 ≡ some (Some y) → x ≡ Some y
same_some x y xs a b = some-injective x (Some y) (sym a ∙ b)
