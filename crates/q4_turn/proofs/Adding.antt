-- The count keeps the rule: the history grows by entries of the pass that holds the turn.
use Rattle.std.proofs.Common.{append-nil, ◌≡◌, ◌≢◌, ℕ, ◌+◌, ◌%◌, ◌^◌, ◌<◌, ◌≤◌, eq-eqb, Bool, true, cond, List, [], ◌++◌, length, get_or, set, refl, sym, ap, ap₂, ◌∙◌, subst, inr, arith, length-append}
use Rattle.std.specs.Prelude.{Option}
use mathlib.Core.Option.{some, none}
use lib.ListN.{get_elem?}
use Rattle.atomic_table.specs.Table.{State, Me, step, keeps, Allows}
use Rattle.q4_turn.specs.declared.view.View.{View}
use Rattle.q4_turn.specs.Lists.{total, Every, one_if, marked}
use Rattle.q4_turn.specs.Views.{times, claims, claimed, numbered, ticketed, held, live_parts, extended}
use Rattle.q4_turn.specs.Rules.{IsClaim, Fits, IsTurn, Keeps}
use Rattle.q4_turn.specs.Steps.{TellsGrowth}
use Rattle.q4_turn.proofs.Basics.{marked_apart, marked_more, Every-apart, total_kept, total_one, total_two, each_set, Every-weaker, Every-append, starts_more}
use Rattle.q4_turn.proofs.Holding.{once_in, is_founded, is_away, holds_alone, few_numbers}

module _ {V E : Type 0} (stands : V → List E → Type 0) (mark : E → ℕ) (all : ℕ) where
  abbrev St : Type 0
  St = State (Option V) (View E)

  -- how often a live view answers for its own number
  own_number : (v : View E) → v.live ≡ true → claimed v.number v ≡ 1 + times v.number v.olds
  own_number v alive = ap (λ (b : Bool). cond b (times v.number (claims v)) 0) alive ∙ ap (λ (b : Bool). one_if b + times v.number v.olds) (eq-eqb v.number v.number refl)

  claims_of : (n : ℕ) (v : View E) → v.live ≡ true → claimed n v ≡ times n (claims v)
  claims_of n v alive = ap (λ (b : Bool). cond b (times n (claims v)) 0) alive

  -- no view but the one that holds the turn has all parts
  other_part : (s : St) (r : IsTurn stands mark all s) (id j : ℕ) (v u : View E) → get_elem? s.views id ≡ some v → get_elem? s.views j ≡ some u → j ≢ id → v.live ≡ true → u.live ≡ true → u.parts ≡ all → ⊥
  other_part s r id j v u at there apart mine theirs whole =
      let two = total_two live_parts s.views id j v u (λ e. apart (sym e)) at there in
      let a : live_parts v ≡ v.parts = ap (λ (b : Bool). cond b v.parts 0) mine in
      let b : live_parts u ≡ u.parts = ap (λ (b : Bool). cond b u.parts 0) theirs in
      let p = ((r.each id v at).knows mine).part in
      let sum = r.parts in
      absurd (omega arith)

  pub counts : (slots id : ℕ) (me : Me (Option V) (View E)) (k : ℕ) (es : List E) → me.0.live ≡ true → me.0.holding ≡ true → length es ≡ k → Every (λ e. mark e ≡ me.0.number) es → length me.0.seen + k ≤ 2 ^ 62
      → Allows (Keeps stands mark all) slots id me 2 (λ n. (n + k) % 2 ^ 64) (TellsGrowth mark es (step slots 2 k 0 none) me)
  counts slots id me k es alive mine long all_mine room s kept _ at _ =
      let r = is_founded stands mark all s id me.0 at alive kept in
      let v : View E = me.0 in
      let w : View E = extended v es in
      let x : ℕ = get_or s.words 2 0 in
      let is : x ≡ length r.history = ap (λ (l : List ℕ). get_or l 2 0) r.words in
      let f = r.each id v at in
      let kn = f.knows alive in
      let hold = f.holding mine in
      let more : List E = r.history ++ es in
      let seen_all : length v.seen ≡ length r.history = ap (λ (l : List E). length l) hold.1 in
      let longer : length more ≡ length r.history + length es = length-append r.history es in
      let next : (x + k) % 18446744073709551616 ≡ length more = omega arith in
      let own = own_number v alive in
      let few = few_numbers stands mark all s r v.number in
      let one = total_one (numbered v.number) s.views id v at in
      let mine_once : times v.number v.olds ≡ 0 = omega arith in
      let away = is_away stands mark all s r id v at mine in
      let sm = r.small in
      let others : (j : ℕ) (u : View E) → j ≢ id → get_elem? s.views j ≡ some u → Fits mark all r.serving more u = λ j u apart e.
      let g = r.each j u e in
      record {
        founded = g.founded;
        holding = λ h. absurd (holds_alone stands mark all s r id j v u at e apart mine h);
        closing = λ h. let c = g.closing h in absurd (other_part s r id j v u at e apart alive c.2 c.0);
        knows = λ h.
            let gk = g.knows h in
            let two = total_two (numbered v.number) s.views id j v u (λ i. apart (sym i)) at e in
            let none_there : times v.number (claims u) ≡ 0 = let c = claims_of v.number u h in omega arith in
            record {
              part = gk.part;
              seen = starts_more r.history u.seen es gk.seen;
              unmerged = starts_more r.history u.unmerged es gk.unmerged;
              exact = Every-apart (IsClaim mark u.seen r.history) (IsClaim mark u.seen more) v.number (λ o ne c. (c.0, marked_apart mark v.number o.number r.history es all_mine ne ∙ c.1)) (claims u) none_there gk.exact;
            };
      } in (
        w,
        keeps,
        tt,
        inr record {
          ticket = r.ticket;
          serving = r.serving;
          made = r.made;
          history = more;
          bells = r.bells;
          words = ap₂ (λ (l : List ℕ) (n : ℕ). set l 2 n) r.words next;
          small = (sm.0, sm.1, omega arith, sm.3);
          waits = λ t le lt. total_kept (ticketed t) s.views id v w at refl ∙ r.waits t le lt;
          past = λ t lt. total_kept (ticketed t) s.views id v w at refl ∙ r.past t lt;
          future = λ t le. total_kept (ticketed t) s.views id v w at refl ∙ r.future t le;
          slot = inr (total_kept held s.views id v w at refl ∙ away.0, away.1);
          parts = total_kept live_parts s.views id v w at refl ∙ r.parts;
          each = each_set (Fits mark all r.serving more) s.views id w others
              record {
                founded = f.founded;
                holding = λ _. (hold.0, ap (λ (l : List E). l ++ es) hold.1, alive);
                closing = λ h. let c = f.closing h in (c.0, ap (λ (l : List E). l ++ es) c.1, c.2);
                knows = λ _. record {
                  part = kn.part;
                  unmerged = starts_more r.history v.unmerged es kn.unmerged;
                  seen = ([], ap (λ (l : List E). l ++ es) (sym hold.1) ∙ sym (append-nil (v.seen ++ es)));
                  exact = (
                    (marked_more mark v.number v.seen es all_mine ∙ ap (λ (l : List E). l ++ es) kn.exact.0.0, marked_more mark v.number r.history es all_mine ∙ ap (λ (l : List E). l ++ es) kn.exact.0.1),
                    Every-apart (IsClaim mark v.seen r.history) (IsClaim mark (v.seen ++ es) more) v.number
                        (λ o ne c. (marked_apart mark v.number o.number v.seen es all_mine ne ∙ c.0, marked_apart mark v.number o.number r.history es all_mine ne ∙ c.1)) v.olds mine_once kn.exact.1,
                  );
                };
              };
          below = λ n h. total_kept (numbered n) s.views id v w at refl ∙ r.below n h;
          above = λ n h. total_kept (numbered n) s.views id v w at refl ∙ r.above n h;
          added = Every-append (λ e. 0 < total (claimed (mark e)) (set s.views id w)) r.history es
              (Every-weaker (λ e. 0 < total (claimed (mark e)) s.views) (λ e. 0 < total (claimed (mark e)) (set s.views id w))
              (λ e h. subst (λ (n : ℕ). 0 < n) (sym (total_kept (claimed (mark e)) s.views id v w at refl)) h) r.history r.added)
              (Every-weaker (λ e. mark e ≡ v.number) (λ e. 0 < total (claimed (mark e)) (set s.views id w))
              (λ e h. subst (λ (n : ℕ). 0 < total (claimed n) (set s.views id w)) (sym h)
              (let a = total_kept (claimed v.number) s.views id v w at refl in let b = total_one (claimed v.number) s.views id v at in omega arith)) es all_mine);
        },
        (
          refl,
          refl,
          record {
            lists = (
              marked_more mark v.number v.seen es all_mine ∙ ap (λ (l : List E). l ++ es) kn.exact.0.0,
              Every-apart (IsClaim mark v.seen r.history) (λ o. marked mark o.number (v.seen ++ es) ≡ o.mine) v.number (λ o ne c. marked_apart mark v.number o.number v.seen es all_mine ne ∙ c.0) v.olds mine_once kn.exact.1,
            );
            once = once_in stands mark all s r id v at alive;
          },
        ),
      )
