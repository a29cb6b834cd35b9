-- How runs of the reader's states compose.
use Rattle.std.proofs.Common.{◌≡◌, ℕ, suc, ◌<◌, ◌≤◌, List, [], ◌∷◌, ◌++◌, Option, Some, None, map, refl, ap, ◌∙◌, arith, leb, le-leb, ◌≢◌}
use Rattle.std.specs.Option.{option_and_then}
use Rattle.std.proofs.lemmas.Bool.{cond-true, cond-false, lt-leb}
use Rattle.q4_cond.specs.declared.tree.Operator.{Operator}
use Rattle.q4_cond.specs.declared.tree.Operator.TheVariants.{Or, And, Equal, Unequal, Below, AtMost, Above, AtLeast, Add, Subtract, Multiply, Divide, Remainder}
use Rattle.q4_cond.specs.declared.tree.Token.{Token}
use Rattle.q4_cond.specs.declared.tree.Frame.{Frame}
use Rattle.q4_cond.specs.declared.tree.Frame.TheVariants.{Pending, Inverting, Negating, Group}
use Rattle.q4_cond.specs.Tree.{level_of, left_level}
use Rattle.q4_cond.specs.Machine.{State, frame_level, wanted_level, frame_node, kept_frames, closed_nodes, step, run}

bind_run : (n : ℕ) (a b : List Token) → ((s : State) → run n s (a ++ b) ≡ option_and_then (λ x. run n x b) (run n s a)) → (o : Option State) → option_and_then (λ x. run n x (a ++ b)) o ≡ option_and_then (λ x. run n x b) (option_and_then (λ x. run n x a) o)
bind_run n a b ih None = refl
bind_run n a b ih (Some s) = ih s

pub run-append : (n : ℕ) (a b : List Token) (s : State) → run n s (a ++ b) ≡ option_and_then (λ x. run n x b) (run n s a)
run-append n [] b s = refl
run-append n (t ∷ a) b s = bind_run n a b (run-append n a b) (step n s t)

-- a run, and a run from where it ends
pub run_then : (n : ℕ) (a b : List Token) (s s1 : State) (r : Option State) → run n s a ≡ Some s1 → run n s1 b ≡ r → run n s (a ++ b) ≡ r
run_then n a b s s1 r e f = run-append n a b s ∙ (ap (option_and_then (λ x. run n x b)) e ∙ f)

-- a step, and a run from where it ends
pub run_step : (n : ℕ) (t : Token) (ts : List Token) (s s1 : State) (r : Option State) → step n s t ≡ Some s1 → run n s1 ts ≡ r → run n s (t ∷ ts) ≡ r
run_step n t ts s s1 r e f = ap (option_and_then (λ x. run n x ts)) e ∙ f

-- what holds of the levels of every operator
pub record Levels (op : Operator) : Type 0 where
  pub some : 1 ≤ level_of op
  pub most : level_of op ≤ 6
  pub left : level_of op ≤ left_level op
  pub near : left_level op ≤ suc (level_of op)
  pub no_not : level_of op ≢ 3

pub levels : (op : Operator) → Levels op
levels Or = record { some = omega arith; most = omega arith; left = omega arith; near = omega arith; no_not = λ h. omega arith }
levels And = record { some = omega arith; most = omega arith; left = omega arith; near = omega arith; no_not = λ h. omega arith }
levels Equal = record { some = omega arith; most = omega arith; left = omega arith; near = omega arith; no_not = λ h. omega arith }
levels Unequal = record { some = omega arith; most = omega arith; left = omega arith; near = omega arith; no_not = λ h. omega arith }
levels Below = record { some = omega arith; most = omega arith; left = omega arith; near = omega arith; no_not = λ h. omega arith }
levels AtMost = record { some = omega arith; most = omega arith; left = omega arith; near = omega arith; no_not = λ h. omega arith }
levels Above = record { some = omega arith; most = omega arith; left = omega arith; near = omega arith; no_not = λ h. omega arith }
levels AtLeast = record { some = omega arith; most = omega arith; left = omega arith; near = omega arith; no_not = λ h. omega arith }
levels Add = record { some = omega arith; most = omega arith; left = omega arith; near = omega arith; no_not = λ h. omega arith }
levels Subtract = record { some = omega arith; most = omega arith; left = omega arith; near = omega arith; no_not = λ h. omega arith }
levels Multiply = record { some = omega arith; most = omega arith; left = omega arith; near = omega arith; no_not = λ h. omega arith }
levels Divide = record { some = omega arith; most = omega arith; left = omega arith; near = omega arith; no_not = λ h. omega arith }
levels Remainder = record { some = omega arith; most = omega arith; left = omega arith; near = omega arith; no_not = λ h. omega arith }

-- the frames all make phrases of the level l, or tighter ones
abbrev pub AtLeastAll : ℕ → List Frame → Type 0
AtLeastAll l [] = Unit {0}
AtLeastAll l (f ∷ fs) = (l ≤ frame_level f) × AtLeastAll l fs

pub tight_weaken : (l m : ℕ) (fs : List Frame) → l ≤ m → AtLeastAll m fs → AtLeastAll l fs
tight_weaken l m [] le h = tt
tight_weaken l m (f ∷ fs) le h = (omega (arith, h.0), tight_weaken l m fs le h.1)

pub tight_push : (l : ℕ) (fs : List Frame) (f : Frame) → l ≤ frame_level f → AtLeastAll l fs → AtLeastAll l (fs ++ f ∷ [])
tight_push l [] f le h = (le, tt)
tight_push l (g ∷ fs) f le h = (h.0, tight_push l fs f le h.1)

pub kept-tight : (l : ℕ) (gs fs : List Frame) → AtLeastAll l gs → kept_frames l (gs ++ fs) ≡ kept_frames l fs
kept-tight l [] fs h = refl
kept-tight l (g ∷ gs) fs h = cond-true (leb l (frame_level g)) _ _ (le-leb _ _ h.0) ∙ kept-tight l gs fs h.1

pub closed-tight : (l : ℕ) (gs fs : List Frame) → AtLeastAll l gs → closed_nodes l (gs ++ fs) ≡ map frame_node gs ++ closed_nodes l fs
closed-tight l [] fs h = refl
closed-tight l (g ∷ gs) fs h = cond-true (leb l (frame_level g)) _ _ (le-leb _ _ h.0) ∙ ap (λ r. frame_node g ∷ r) (closed-tight l gs fs h.1)

-- the innermost frame makes a looser phrase than l
abbrev pub TopBelow : ℕ → List Frame → Type 0
TopBelow l [] = Unit {0}
TopBelow l (f ∷ fs) = frame_level f < l

pub kept_stays : (l : ℕ) (fs : List Frame) → TopBelow l fs → kept_frames l fs ≡ fs
kept_stays l [] h = refl
kept_stays l (f ∷ fs) h = cond-false (leb l (frame_level f)) _ _ (lt-leb _ _ h)

pub closed_none : (l : ℕ) (fs : List Frame) → TopBelow l fs → closed_nodes l fs ≡ []
closed_none l [] h = refl
closed_none l (f ∷ fs) h = cond-false (leb l (frame_level f)) _ _ (lt-leb _ _ h)

pub top_below : (op : Operator) (fs : List Frame) → wanted_level fs ≤ level_of op → TopBelow (left_level op) fs
top_below op [] h = tt
top_below op (Pending p ∷ fs) h = let a = levels op in omega arith
top_below op (Inverting ∷ fs) h = let a = levels op in omega arith
top_below op (Negating ∷ fs) h = let a = levels op in omega arith
top_below op (Group ∷ fs) h = let a = levels op in omega arith
