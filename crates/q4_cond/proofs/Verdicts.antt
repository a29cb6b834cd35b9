-- What a refused token, a refused end and an accepted end say of the grammar.
use Rattle.std.proofs.Common.{◌≡◌, ℕ, ◌+◌, ◌<◌, ◌≤◌, List, [], ◌∷◌, ◌++◌, Option, Some, None, refl, sym, ap, ◌∙◌, arith, append_assoc, append-nil, ltb, leb, ltb-true, lt-ltb}
use Rattle.std.specs.Option.{option_and_then}
use Rattle.std.proofs.lemmas.Bool.{cond-true}
use Rattle.q4_cond.specs.declared.tree.Operator.{Operator}
use Rattle.q4_cond.specs.declared.tree.Operator.TheVariants.{Or, And, Equal, Unequal, Below, AtMost, Above, AtLeast, Add, Subtract, Multiply, Divide, Remainder}
use Rattle.q4_cond.specs.declared.tree.Node.{Node}
use Rattle.q4_cond.specs.declared.tree.Token.{Token}
use Rattle.q4_cond.specs.declared.tree.Token.TheVariants.{Operand, Sign, Not, Open, Close, Bad}
use Rattle.q4_cond.specs.declared.tree.Frame.{Frame}
use Rattle.q4_cond.specs.declared.tree.Frame.TheVariants.{Inverting, Negating, Group}
use Rattle.q4_cond.specs.Tree.{Tree, postfix}
use Rattle.q4_cond.specs.Postfix.{tree_of}
use Rattle.q4_cond.specs.Condition.{tree_of-postfix}
use Rattle.q4_cond.specs.Grammar.{Phrase, IsCondition, nothing, whole, BeginsWithin, Begins}
use Rattle.q4_cond.specs.Machine.{State, Wants, Has, wanted_level, open_count, closed_nodes, opened, signed, step, run, ended, accepted}
use Rattle.q4_cond.proofs.ReaderSteps.{run-append, run_then, run_step, kept-tight, closed-tight}
use Rattle.q4_cond.proofs.Complete.{complete}
use Rattle.q4_cond.proofs.Sound.{Before, start, run_sound, run_begins, Accepts, accepted_sound, cond_some, cond_opened}

opened_up : (n m : ℕ) (f : Frame) (fs : List Frame) (out : List Node) (s : State) → n ≤ m → opened n f fs out ≡ Some s → opened m f fs out ≡ Some s
opened_up n m f fs out s le e =
    let c = cond_some (ltb (open_count fs) n) (Wants (f ∷ fs) out) s e in
    let few : open_count fs < n = ltb-true _ _ c.0 in
    let room : open_count fs < m = omega arith in
    cond-true (ltb (open_count fs) m) _ _ (lt-ltb _ _ room) ∙ ap Some c.1

signed_up : (n m : ℕ) (op : Operator) (fs : List Frame) (out : List Node) (s : State) → n ≤ m → signed n op fs out ≡ Some s → signed m op fs out ≡ Some s
signed_up n m Subtract fs out s le e = opened_up n m Negating fs out s le e
signed_up n m Or fs out s le e = e
signed_up n m And fs out s le e = e
signed_up n m Equal fs out s le e = e
signed_up n m Unequal fs out s le e = e
signed_up n m Below fs out s le e = e
signed_up n m AtMost fs out s le e = e
signed_up n m Above fs out s le e = e
signed_up n m AtLeast fs out s le e = e
signed_up n m Add fs out s le e = e
signed_up n m Multiply fs out s le e = e
signed_up n m Divide fs out s le e = e
signed_up n m Remainder fs out s le e = e

-- a step that a limit allows is the same under a higher one
pub step_up : (n m : ℕ) (s : State) (tok : Token) (s' : State) → n ≤ m → step n s tok ≡ Some s' → step m s tok ≡ Some s'
step_up n m (Wants fs out) (Operand a) s' le e = e
step_up n m (Wants fs out) (Sign op) s' le e = signed_up n m op fs out s' le e
step_up n m (Wants fs out) Not s' le e =
    let c = cond_opened (leb (wanted_level fs) 3) (opened n Inverting fs out) s' e in
    cond-true (leb (wanted_level fs) 3) _ _ c.0 ∙ opened_up n m Inverting fs out s' le c.1
step_up n m (Wants fs out) Open s' le e = opened_up n m Group fs out s' le e
step_up n m (Wants fs out) Close s' le e = e
step_up n m (Wants fs out) Bad s' le e = e
step_up n m (Has fs out) (Operand a) s' le e = e
step_up n m (Has fs out) (Sign op) s' le e = e
step_up n m (Has fs out) Not s' le e = e
step_up n m (Has fs out) Open s' le e = e
step_up n m (Has fs out) Close s' le e = e
step_up n m (Has fs out) Bad s' le e = e

bind_up : (n m : ℕ) (s : State) (tok : Token) (ts : List Token) (s' : State) → n ≤ m → ((x : State) → run n x ts ≡ Some s' → run m x ts ≡ Some s') → (o : Option State) → step n s tok ≡ o → option_and_then (λ x. run n x ts) o ≡ Some s' → run m s (tok ∷ ts) ≡ Some s'
bind_up n m s tok ts s' le ih None e f = absurd cc
bind_up n m s tok ts s' le ih (Some x) e f = run_step m tok ts s x (Some s') (step_up n m s tok x le e) (ih x f)

pub run_up : (n m : ℕ) (ts : List Token) (s s' : State) → n ≤ m → run n s ts ≡ Some s' → run m s ts ≡ Some s'
run_up n m [] s s' le e = e
run_up n m (tok ∷ ts) s s' le e = bind_up n m s tok ts s' le (λ x f. run_up n m ts x s' le f) (step n s tok) refl e

-- two runs over the same tokens end alike, whatever their limits
agree : (n m : ℕ) (ts : List Token) (s a b : State) → run n s ts ≡ Some a → run m s ts ≡ Some b → a ≡ b
agree n m ts s a b e f =
    let x = run_up n (n + m) ts s a (omega arith) e in
    let y = run_up m (n + m) ts s b (omega arith) f in
    cc

-- a condition's tokens are read to its nodes
record Spelled (m : ℕ) (ts : List Token) (t : Tree) : Type 0 where
  last : State
  goes : run m (Wants [] []) ts ≡ Some last
  ends : accepted last ≡ Some (postfix t)

spelled : (m : ℕ) (ts : List Token) (t : Tree) → Phrase m 1 ts t → Spelled m ts t
spelled m ts t p =
    let r = complete p m [] [] (omega arith) (omega arith) in
    record {
      last = Has (r.frames ++ []) r.done;
      goes = r.goes;
      ends = ap (λ k. ended k (r.done ++ closed_nodes 1 (r.frames ++ []))) (kept-tight 1 r.frames [] r.tight)
          ∙ ap Some (ap (λ k. r.done ++ k) (closed-tight 1 r.frames [] r.tight ∙ append-nil _) ∙ r.ends);
    }

front_none : (m : ℕ) (ts rest : List Token) (s : State) → (o : Option State) → run m s ts ≡ o → run m s (ts ++ rest) ≡ option_and_then (λ x. run m x rest) o
front_none m ts rest s o e = run-append m ts rest s ∙ ap (option_and_then (λ x. run m x rest)) e

front_cases : (m : ℕ) (ts rest : List Token) (s last : State) (o : Option State) → run m s ts ≡ o → run m s (ts ++ rest) ≡ Some last → (mid : State) × (run m s ts ≡ Some mid) × (run m mid rest ≡ Some last)
front_cases m ts rest s last None e f = let g = front_none m ts rest s None e in absurd cc
front_cases m ts rest s last (Some mid) e f = (mid, e, sym (front_none m ts rest s (Some mid) e) ∙ f)

-- a run over a longer list has a run over its front
front_some : (m : ℕ) (ts rest : List Token) (s last : State) → run m s (ts ++ rest) ≡ Some last → (mid : State) × (run m s ts ≡ Some mid) × (run m mid rest ≡ Some last)
front_some m ts rest s last e = front_cases m ts rest s last (run m s ts) refl e

not_empty : (ts : List Token) (tok : Token) (rest : List Token) → (ts ++ tok ∷ []) ++ rest ≡ [] → ⊥
not_empty [] tok rest e = cc
not_empty (t ∷ ts) tok rest e = cc

empty_list : (n : ℕ) (ts : List Token) → IsCondition n ts None → ts ≡ []
empty_list n _ nothing = refl

pub condition_phrase : {n : ℕ} {ts : List Token} {t : Tree} → IsCondition n ts (Some t) → Phrase n 1 ts t
condition_phrase (whole p) = p

refused_phrase : (n m : ℕ) (ts : List Token) (tok : Token) (s : State) → run n (Wants [] []) ts ≡ Some s → step m s tok ≡ None → (rest : List Token) (t : Tree) → Phrase m 1 ((ts ++ tok ∷ []) ++ rest) t → ⊥
refused_phrase n m ts tok s e none rest t p =
    let sp = spelled m _ t p in
    let whole_run = ap (λ l. run m (Wants [] []) l) (sym (append_assoc ts (tok ∷ []) rest)) ∙ sp.goes in
    let f = front_some m ts (tok ∷ rest) (Wants [] []) sp.last whole_run in
    let same = agree n m ts (Wants [] []) s f.0 e f.1 in
    let stop : step m f.0 tok ≡ None = ap (λ x. step m x tok) (sym same) ∙ none in
    let gone : run m f.0 (tok ∷ rest) ≡ None = ap (option_and_then (λ x. run m x rest)) stop in
    cc

-- no condition of this depth begins with a token that the step refuses
pub refused_within : (n m : ℕ) (ts : List Token) (tok : Token) (s : State) → run n (Wants [] []) ts ≡ Some s → step m s tok ≡ None → BeginsWithin m (ts ++ tok ∷ []) → ⊥
refused_within n m ts tok s e none (rest, None, c) = not_empty ts tok rest (empty_list m _ c)
refused_within n m ts tok s e none (rest, Some t, c) = refused_phrase n m ts tok s e none rest t (condition_phrase c)

pub refused_all : (n : ℕ) (ts : List Token) (tok : Token) (s : State) → run n (Wants [] []) ts ≡ Some s → ((m : ℕ) → step m s tok ≡ None) → Begins (ts ++ tok ∷ []) → ⊥
refused_all n ts tok s e none (m, b) = refused_within n m ts tok s e (none m) b

-- a token that the step takes goes on a condition
pub taken_begins : (n m : ℕ) (ts : List Token) (tok : Token) (s s' : State) → n ≤ m → run n (Wants [] []) ts ≡ Some s → step m s tok ≡ Some s' → BeginsWithin m (ts ++ tok ∷ [])
taken_begins n m ts tok s s' le e f = run_begins m (ts ++ tok ∷ []) s' (run_then m ts (tok ∷ []) (Wants [] []) s _ (run_up n m ts (Wants [] []) s le e) (run_step m tok [] s s' _ f refl))

-- where the tokens may not end, they are no condition, unless there is none
pub unended : (n : ℕ) (ts : List Token) (s : State) → run n (Wants [] []) ts ≡ Some s → accepted s ≡ None → (s ≡ Wants [] [] → ⊥) → (m : ℕ) (t : Option Tree) → IsCondition m ts t → ⊥
unended n _ s e none more m None nothing = more cc
unended n ts s e none more m (Some t) (whole p) =
    let sp = spelled m ts t p in
    let same = agree n m ts (Wants [] []) s sp.last e sp.goes in
    let at : accepted s ≡ Some (postfix t) = ap accepted same ∙ sp.ends in
    absurd cc

-- where they may, they are one with these nodes
pub ended_condition : (n : ℕ) (ts : List Token) (s : State) (nodes : List Node) → run n (Wants [] []) ts ≡ Some s → accepted s ≡ Some nodes → Accepts n ts nodes
ended_condition n ts s nodes e a = accepted_sound n s ts nodes (run_sound n ts (Wants [] []) s [] start e) a

before_none : (n : ℕ) (ts : List Token) → Before n [] [] ts → ts ≡ []
before_none n _ start = refl

-- only the empty list leaves the reader where it began
pub unbegun : (n : ℕ) (ts : List Token) → run n (Wants [] []) ts ≡ Some (Wants [] []) → ts ≡ []
unbegun n ts e = before_none n ts (run_sound n ts (Wants [] []) (Wants [] []) [] start e)

pub postfix_same : (t u : Tree) → postfix t ≡ postfix u → t ≡ u
postfix_same t u e =
    let f : Some t ≡ Some u = sym (tree_of-postfix t) ∙ (ap tree_of e ∙ tree_of-postfix u) in
    cc

empty_tree : (m : ℕ) (u : Option Tree) → IsCondition m [] u → None ≡ u
empty_tree m None c = refl
empty_tree m (Some u) c = let sp = spelled m [] u (condition_phrase c) in let g : Wants [] [] ≡ sp.last = cc in let h : None ≡ Some (postfix u) = ap accepted g ∙ sp.ends in absurd cc

same_tree : (n m : ℕ) (ts : List Token) (t : Tree) → Phrase n 1 ts t → (u : Option Tree) → IsCondition m ts u → Some t ≡ u
same_tree n m ts t p None c = let sp = spelled n ts t p in let e = empty_list m ts c in let f : run n (Wants [] []) [] ≡ Some sp.last = ap (λ l. run n (Wants [] []) l) (sym e) ∙ sp.goes in let g : Wants [] [] ≡ sp.last = cc in let h : None ≡ Some (postfix t) = ap accepted g ∙ sp.ends in absurd cc
same_tree n m ts t p (Some u) c =
    let a = spelled n ts t p in
    let b = spelled m ts u (condition_phrase c) in
    let same = agree n m ts (Wants [] []) a.last b.last a.goes b.goes in
    let nodes : Some (postfix t) ≡ Some (postfix u) = sym a.ends ∙ (ap accepted same ∙ b.ends) in
    ap Some (postfix_same t u cc)

-- one list of tokens spells one tree
pub one_tree : (n m : ℕ) (ts : List Token) (t u : Option Tree) → IsCondition n ts t → IsCondition m ts u → t ≡ u
one_tree n m _ None u nothing d = empty_tree m u d
one_tree n m ts (Some t) u (whole p) d = same_tree n m ts t p u d
