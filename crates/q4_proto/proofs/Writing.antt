-- Texts that are put one behind the other.
use Rattle.std.proofs.Common.{◌≡◌, ◌<◌, ◌≤◌, ◌+◌, ◌++◌, ◌∷◌, ◌∙◌, [], length, take, get_or, List, ℕ, Option, Bool, true, false, Result, Ok, Err, refl, sym, ap, subst, append_assoc, append-nil}
use Rattle.std.specs.List.{flat_map}
use Rattle.std.proofs.lemmas.Bool.{true≢false}
use Rattle.std.proofs.lemmas.List.Concat.{flat_map-append, flat_map-cons}
use Rattle.q4_value.proofs.Rows.{take_next}
use Rattle.q4_flow.specs.declared.sink.WriteFailed.{WriteFailed}
use Rattle.q4_flow.specs.Flow.{Took, TookFront, Rose, Counts}
use Rattle.q4_flow.proofs.Known.{took_nothing, took_more, took_then_front, front_of_more}
use Rattle.q4_proto.specs.Pieces.{Writing, Goes, Breaks, Stays, PutsBy, Puts, Ends, FinishesBy, Finishes}

pub put_nothing : (before : Writing) → Puts before before []
put_nothing before = by_failure before.failed before where
  by_failure : (failed : Bool) (w : Writing) → PutsBy failed failed w w []
  by_failure true w = record { written = refl; faults = refl }
  by_failure false w = record { sent = []; whole = append-nil w.waiting; took = took_nothing w.written; stayed = refl }

goes_twice : (a b c : Writing) (one two : List ℕ) → Goes a b one → Goes b c two → Goes a c (one ++ two)
goes_twice a b c one two first second = record {
  sent = first.sent ++ second.sent;
  whole = sym (append_assoc a.waiting one two) ∙ ap (λ xs. xs ++ two) first.whole ∙ append_assoc first.sent b.waiting two ∙ ap (λ xs. first.sent ++ xs) second.whole ∙ sym (append_assoc first.sent second.sent c.waiting);
  took = took_more a.written b.written c.written first.sent second.sent first.took second.took;
  stayed = second.stayed ∙ first.stayed;
}

goes_then_breaks : (a b c : Writing) (one two : List ℕ) → Goes a b one → Breaks b c two → Breaks a c (one ++ two)
goes_then_breaks a b c one two first second =
    let whole : first.sent ++ (b.waiting ++ two) ≡ a.waiting ++ (one ++ two) = sym (append_assoc first.sent b.waiting two) ∙ ap (λ xs. xs ++ two) (sym first.whole) ∙ append_assoc a.waiting one two in
    record {
      front = subst (TookFront a.written c.written) whole (took_then_front a.written b.written c.written first.sent (b.waiting ++ two) first.took second.front);
      later = subst (λ n. n ≤ c.faults) first.stayed second.later;
      rose = subst (λ n. Rose n c.faults) first.stayed second.rose;
    }

breaks_then_stays : (a b c : Writing) (one two : List ℕ) → Breaks a b one → Stays b c → Breaks a c (one ++ two)
breaks_then_stays a b c one two first second = record {
  front = subst (TookFront a.written c.written) (append_assoc a.waiting one two) (front_of_more a.written c.written (a.waiting ++ one) two (subst (λ w. TookFront a.written w (a.waiting ++ one)) (sym second.written) first.front));
  later = subst (λ n. a.faults ≤ n) (sym second.faults) first.later;
  rose = subst (λ n. Rose a.faults n) (sym second.faults) first.rose;
}

pub put_then : (a b c : Writing) (one two : List ℕ) → Puts a b one → Puts b c two → Puts a c (one ++ two)
put_then a b c one two first second = by_failures a.failed b.failed c.failed first second where
  by_failures : (x y z : Bool) → PutsBy x y a b one → PutsBy y z b c two → PutsBy x z a c (one ++ two)
  by_failures true true true first second = record { written = second.written ∙ first.written; faults = second.faults ∙ first.faults }
  by_failures true true false first second = absurd second
  by_failures true false z first second = absurd first
  by_failures false true true first second = breaks_then_stays a b c one two first second
  by_failures false true false first second = absurd second
  by_failures false false true first second = goes_then_breaks a b c one two first second
  by_failures false false false first second = goes_twice a b c one two first second

-- a front that waits, and what then goes out
pub waits_then : (before mid after : Writing) (front : List ℕ) → before.failed ≡ false → mid.failed ≡ false → mid.written ≡ before.written → mid.faults ≡ before.faults → mid.waiting ≡ before.waiting ++ front → Puts mid after [] → Puts before after front
waits_then before mid after front ran runs written faults waits puts =
    let first : Puts before mid front = subst (λ t. PutsBy t mid.failed before mid front) (sym ran) (subst (λ t. PutsBy false t before mid front) (sym runs)
    (record { sent = []; whole = sym waits; took = subst (λ w. Took before.written w []) (sym written) (took_nothing before.written); stayed = faults })) in
    subst (Puts before after) (append-nil front) (put_then before mid after front [] first puts)

-- one element more
pub flat_next : {X : Type 0} (f : X → List ℕ) (xs : List X) (i : ℕ) (x : X) → i < length xs → x ≡ get_or xs i x → flat_map f (take (i + 1) xs) ≡ flat_map f (take i xs) ++ f x
flat_next f xs i x lt is =
    ap (flat_map f) (take_next xs i x lt is) ∙ flat_map-append f (take i xs) (x ∷ []) ∙ ap (λ ys. flat_map f (take i xs) ++ ys) (flat_map-cons f x [] ∙ append-nil (f x))

-- the whole text, where the last of it went out
pub finished : (before last : Writing) (after : Option (List ℕ)) (now : ℕ) (text : List ℕ) (result : Result (Unit {0}) WriteFailed) → PutsBy false last.failed before last text → Finishes last after now result → Ends before.written after before.faults now (before.waiting ++ text) result
finished before last after now text result puts ends = by_failure last.failed result puts ends where
  by_failure : (failed : Bool) (result : Result (Unit {0}) WriteFailed) → PutsBy false failed before last text → FinishesBy failed last after now result → Ends before.written after before.faults now (before.waiting ++ text) result
  by_failure false (Ok done) puts ends = record {
    all = subst (Took before.written after) (sym puts.whole) (took_more before.written last.written after puts.sent last.waiting puts.took ends.all);
    front = tt;
    cause = subst (λ n. Counts {E = WriteFailed} n now (Ok done)) puts.stayed ends.cause;
  }
  by_failure false (Err fault) puts ends = record {
    all = tt;
    front = subst (TookFront before.written after) (sym puts.whole) (took_then_front before.written last.written after puts.sent last.waiting puts.took ends.front);
    cause = subst (λ n. Counts {T = Unit {0}} n now (Err fault)) puts.stayed ends.cause;
  }
  by_failure true (Ok done) puts ends = absurd (true≢false (sym ends.2))
  by_failure true (Err fault) puts ends = record {
    all = tt;
    front = subst (λ w. TookFront before.written w (before.waiting ++ text)) (sym ends.0) puts.front;
    cause = record { later = subst (λ n. before.faults ≤ n) (sym ends.1) puts.later; failed = subst (Rose before.faults) (sym ends.1) puts.rose; stayed = tt };
  }
