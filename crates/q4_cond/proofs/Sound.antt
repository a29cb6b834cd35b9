-- What is read is a phrase of the grammar, and each state can be completed.
use Rattle.std.proofs.Common.{◌≡◌, ℕ, zero, suc, ◌-◌, ◌<◌, ◌≤◌, List, [], ◌∷◌, ◌++◌, Bool, true, false, Option, Some, None, refl, sym, ap, ◌∙◌, subst, subst₂, cond, arith, append_assoc, append-nil, leb, ltb, leb-true, ltb-true, inl, inr, pos}
use Rattle.std.specs.Option.{option_and_then}
use Rattle.std.proofs.lemmas.Bool.{cond-true, cond-false, cases_Bool, cases_lt}
use Rattle.q4_cond.specs.declared.tree.Operator.{Operator}
use Rattle.q4_cond.specs.declared.tree.Operator.TheVariants.{Or, And, Equal, Unequal, Below, AtMost, Above, AtLeast, Add, Subtract, Multiply, Divide, Remainder}
use Rattle.q4_cond.specs.declared.tree.Atom.TheVariants.{Number}
use Rattle.q4_cond.specs.declared.tree.Node.{Node}
use Rattle.q4_cond.specs.declared.tree.Node.TheVariants.{Leaf}
use Rattle.q4_cond.specs.declared.tree.Token.{Token}
use Rattle.q4_cond.specs.declared.tree.Token.TheVariants.{Operand, Sign, Not, Open, Close, Bad}
use Rattle.q4_cond.specs.declared.tree.Frame.{Frame}
use Rattle.q4_cond.specs.declared.tree.Frame.TheVariants.{Pending, Inverting, Negating, Group}
use Rattle.q4_cond.specs.Tree.{Tree, NotOf, MinusOf, level_of, left_level, right_level, postfix}
use Rattle.q4_cond.specs.Grammar.{Phrase, atom, group, minus, inverse, both, looser, whole, BeginsWithin}
use Rattle.q4_cond.specs.Machine.{State, Wants, Has, frame_level, wanted_level, frame_node, open_count, kept_frames, closed_nodes, opened, signed, pending, grouped, step, run, ended, accepted}
use Rattle.q4_cond.proofs.ReaderSteps.{run_then, run_step, levels, AtLeastAll, tight_push, kept-tight}

-- the tokens so far, where an operand is wanted: they left these frames and nodes
pub data Before (n : ℕ) : List Frame → List Node → List Token → Type 0 where
  start : Before n [] [] []
  after_sign : {fs : List Frame} {o : List Node} {a b : List Token} {t : Tree} (op : Operator) → Before n fs o a → Phrase (n - open_count fs) (left_level op) b t → wanted_level fs ≤ level_of op → Before n (Pending op ∷ fs) (o ++ postfix t) (a ++ (b ++ Sign op ∷ []))
  after_not : {fs : List Frame} {o : List Node} {a : List Token} → Before n fs o a → wanted_level fs ≤ 3 → open_count fs < n → Before n (Inverting ∷ fs) o (a ++ Not ∷ [])
  after_minus : {fs : List Frame} {o : List Node} {a : List Token} → Before n fs o a → open_count fs < n → Before n (Negating ∷ fs) o (a ++ Sign Subtract ∷ [])
  after_open : {fs : List Frame} {o : List Node} {a : List Token} → Before n fs o a → open_count fs < n → Before n (Group ∷ fs) o (a ++ Open ∷ [])

-- and where the last of them are a phrase of the level l
pub data Behind (n l : ℕ) : List Frame → List Node → List Token → Type 0 where
  behind : {fs : List Frame} {o : List Node} {a b : List Token} {t : Tree} → Before n fs o a → Phrase (n - open_count fs) l b t → Behind n l fs (o ++ postfix t) (a ++ b)

abbrev pub Reached : ℕ → State → List Token → Type 0
Reached n (Wants fs out) ts = Before n fs out ts
Reached n (Has fs out) ts = Behind n 8 fs out ts

behind_as : (n l : ℕ) (fs : List Frame) (o o' : List Node) (a a' : List Token) → o ≡ o' → a ≡ a' → Behind n l fs o a → Behind n l fs o' a'
behind_as n l fs o o' a a' e f h = subst₂ (λ x y. Behind n l fs x y) e f h

pub loosen : {n : ℕ} {ts : List Token} {t : Tree} (m l : ℕ) → l ≤ m → Phrase n m ts t → Phrase n l ts t
loosen {n} {ts} {t} zero l le p = let e : zero ≡ l = omega arith in subst (λ k. Phrase n k ts t) e p
loosen {n} {ts} {t} (suc m) l le p =
    elim (cases_lt l (suc m)) as (λ _. Phrase n l ts t) [ inl h ↦ loosen m l (omega arith) (looser p) | inr h ↦ (let e : suc m ≡ l = omega arith in subst (λ k. Phrase n k ts t) e p) ]

wanted_most : (fs : List Frame) → wanted_level fs ≤ 7
wanted_most [] = omega arith
wanted_most (Pending op ∷ fs) = let a = levels op in omega arith
wanted_most (Inverting ∷ fs) = omega arith
wanted_most (Negating ∷ fs) = omega arith
wanted_most (Group ∷ fs) = omega arith

-- the innermost frame closes over the phrase behind it
close_frame : (n m : ℕ) (f : Frame) (fs : List Frame) (out : List Node) (ts : List Token) → Behind n m (f ∷ fs) out ts → wanted_level (f ∷ fs) ≤ m → 1 ≤ frame_level f → Behind n (frame_level f) fs (out ++ frame_node f ∷ []) ts × (wanted_level fs ≤ frame_level f)
close_frame n m (Pending op) fs _ _ (behind {b = b'} {t = u} (after_sign {o = o} {a = a} {b = b} {t = t} _ before p le) q) want some =
    (behind_as n (level_of op) fs _ _ _ _ (simp append_assoc) (simp append_assoc) (behind before (both op p (loosen m (right_level op) want q))), le)
close_frame n m Inverting fs _ _ (behind {b = b} {t = t} (after_not {o = o} {a = a} before le few) q) want some =
    let e : suc (n - suc (open_count fs)) ≡ n - open_count fs = omega arith in
    (behind_as n 3 fs _ _ _ _ (simp append_assoc) (simp append_assoc) (behind before (subst (λ k. Phrase k 3 (Not ∷ b) (NotOf t)) e (inverse (loosen m 3 want q)))), le)
close_frame n m Negating fs _ _ (behind {b = b} {t = t} (after_minus {o = o} {a = a} before few) q) want some =
    let e : suc (n - suc (open_count fs)) ≡ n - open_count fs = omega arith in
    (behind_as n 7 fs _ _ _ _ (simp append_assoc) (simp append_assoc) (behind before (subst (λ k. Phrase k 7 (Sign Subtract ∷ b) (MinusOf t)) e (minus (loosen m 7 want q)))), wanted_most fs)
close_frame n m Group fs out ts h want some = absurd (omega arith)

-- what is left where an operand is complete at the level l
record Reduced (n l : ℕ) (fs : List Frame) (out : List Node) (ts : List Token) : Type 0 where
  level : ℕ
  read : Behind n level fs out ts
  fits : wanted_level fs ≤ level
  tight : l ≤ level

reduced_as : (n l : ℕ) (fs fs' : List Frame) (o o' : List Node) (ts : List Token) → fs ≡ fs' → o ≡ o' → Reduced n l fs o ts → Reduced n l fs' o' ts
reduced_as n l fs fs' o o' ts e f h = subst₂ (λ x y. Reduced n l x y ts) e f h

reduce : (n l m : ℕ) (fs : List Frame) (out : List Node) (ts : List Token) → Behind n m fs out ts → wanted_level fs ≤ m → l ≤ m → 1 ≤ l → Reduced n l (kept_frames l fs) (out ++ closed_nodes l fs) ts
reduce n l m [] out ts h fits tight some = record { level = m; read = behind_as n m [] _ _ _ _ (sym (append-nil out)) refl h; fits = fits; tight = tight }
reduce n l m (f ∷ fs) out ts h fits tight some =
    elim (cases_Bool (leb l (frame_level f))) as (λ _. Reduced n l (kept_frames l (f ∷ fs)) (out ++ closed_nodes l (f ∷ fs)) ts) [
      | inl e ↦
          (let high : l ≤ frame_level f = leb-true _ _ e in
          let c = close_frame n m f fs out ts h fits (omega arith) in
          let r = reduce n l (frame_level f) fs (out ++ frame_node f ∷ []) ts c.0 c.1 high some in
          reduced_as n l _ _ _ _ ts (sym (cond-true (leb l (frame_level f)) _ _ e))
          (append_assoc out (frame_node f ∷ []) (closed_nodes l fs) ∙ ap (λ x. out ++ x) (sym (cond-true (leb l (frame_level f)) (frame_node f ∷ closed_nodes l fs) [] e))) r)
      | inr e ↦
          (reduced_as n l (f ∷ fs) _ out _ ts (sym (cond-false (leb l (frame_level f)) _ _ e))
          (sym (append-nil out) ∙ ap (λ x. out ++ x) (sym (cond-false (leb l (frame_level f)) (frame_node f ∷ closed_nodes l fs) [] e)))
          (record { level = m; read = h; fits = fits; tight = tight }))
    ]

-- a test that gives something is true
pub cond_some : {A : Type 0} (b : Bool) (x y : A) → cond b (Some x) None ≡ Some y → (b ≡ true) × (x ≡ y)
cond_some true x y e = (refl, cc)
cond_some false x y e = absurd cc

pub cond_opened : {A : Type 0} (b : Bool) (o : Option A) (y : A) → cond b o None ≡ Some y → (b ≡ true) × (o ≡ Some y)
cond_opened true o y e = (refl, e)
cond_opened false o y e = absurd cc

opened_sound : (n : ℕ) (f : Frame) (fs : List Frame) (out : List Node) (s : State) (ts : List Token) → opened n f fs out ≡ Some s → (open_count fs < n → Before n (f ∷ fs) out ts) → Reached n s ts
opened_sound n f fs out s ts e make =
    let c = cond_some (ltb (open_count fs) n) (Wants (f ∷ fs) out) s e in
    subst (λ x. Reached n x ts) c.1 (make (ltb-true _ _ c.0))

signed_sound : (n : ℕ) (op : Operator) (fs : List Frame) (out : List Node) (s : State) (ts : List Token) → Before n fs out ts → signed n op fs out ≡ Some s → Reached n s (ts ++ Sign op ∷ [])
signed_sound n Subtract fs out s ts b e = opened_sound n Negating fs out s (ts ++ Sign Subtract ∷ []) e (λ few. after_minus b few)
signed_sound n Or fs out s ts b e = absurd cc
signed_sound n And fs out s ts b e = absurd cc
signed_sound n Equal fs out s ts b e = absurd cc
signed_sound n Unequal fs out s ts b e = absurd cc
signed_sound n Below fs out s ts b e = absurd cc
signed_sound n AtMost fs out s ts b e = absurd cc
signed_sound n Above fs out s ts b e = absurd cc
signed_sound n AtLeast fs out s ts b e = absurd cc
signed_sound n Add fs out s ts b e = absurd cc
signed_sound n Multiply fs out s ts b e = absurd cc
signed_sound n Divide fs out s ts b e = absurd cc
signed_sound n Remainder fs out s ts b e = absurd cc

le8 : (fs : List Frame) → wanted_level fs ≤ 8
le8 fs = omega (arith, wanted_most fs)

behind_sign : (n : ℕ) (op : Operator) (fs : List Frame) (out : List Node) (ts : List Token) (m : ℕ) → Behind n m fs out ts → left_level op ≤ m → wanted_level fs ≤ level_of op → Before n (Pending op ∷ fs) out (ts ++ Sign op ∷ [])
behind_sign n op fs _ _ m (behind {o = o} {a = a} {b = b} {t = t} before p) tight le =
    subst (λ x. Before n (Pending op ∷ fs) (o ++ postfix t) x) (sym (append_assoc a b (Sign op ∷ []))) (after_sign op before (loosen m (left_level op) tight p) le)

-- an operator behind an operand
pending_before : (n : ℕ) (op : Operator) (fs : List Frame) (out : List Node) (ts : List Token) → Reduced n (left_level op) fs out ts → wanted_level fs ≤ level_of op → Before n (Pending op ∷ fs) out (ts ++ Sign op ∷ [])
pending_before n op fs out ts r le = behind_sign n op fs out ts r.level r.read r.tight le

pending_sound : (n : ℕ) (op : Operator) (fs : List Frame) (out : List Node) (s : State) (ts : List Token) → Reduced n (left_level op) fs out ts → pending op fs out ≡ Some s → Reached n s (ts ++ Sign op ∷ [])
pending_sound n op fs out s ts r e =
    let c = cond_some (leb (wanted_level fs) (level_of op)) (Wants (Pending op ∷ fs) out) s e in
    subst (λ x. Reached n x (ts ++ Sign op ∷ [])) c.1 (pending_before n op fs out ts r (leb-true _ _ c.0))

group_behind : (n m : ℕ) (fs : List Frame) (out : List Node) (ts : List Token) → Behind n m (Group ∷ fs) out ts → 1 ≤ m → Behind n 8 fs out (ts ++ Close ∷ [])
group_behind n m fs _ _ (behind {b = b} {t = t} (after_open {o = o} {a = a} before few) q) some =
    let e : suc (n - suc (open_count fs)) ≡ n - open_count fs = omega arith in
    behind_as n 8 fs _ _ _ _ refl (simp append_assoc) (behind before (subst (λ k. Phrase k 8 (Open ∷ (b ++ Close ∷ [])) t) e (group (loosen m 1 some q))))

grouped_sound : (n : ℕ) (fs : List Frame) (out : List Node) (s : State) (ts : List Token) → Reduced n 1 fs out ts → grouped fs out ≡ Some s → Reached n s (ts ++ Close ∷ [])
grouped_sound n [] out s ts r e = absurd cc
grouped_sound n (Pending op ∷ fs) out s ts r e = absurd cc
grouped_sound n (Inverting ∷ fs) out s ts r e = absurd cc
grouped_sound n (Negating ∷ fs) out s ts r e = absurd cc
grouped_sound n (Group ∷ fs) out s ts r e =
    let same : Has fs out ≡ s = cc in
    subst (λ x. Reached n x (ts ++ Close ∷ [])) same (group_behind n r.level fs out ts r.read r.tight)

step_sound : (n : ℕ) (s : State) (tok : Token) (s' : State) (ts : List Token) → Reached n s ts → step n s tok ≡ Some s' → Reached n s' (ts ++ tok ∷ [])
step_sound n (Wants fs out) (Operand a) s' ts h e =
    let same : Has fs (out ++ Leaf a ∷ []) ≡ s' = cc in
    subst (λ x. Reached n x (ts ++ Operand a ∷ [])) same (behind h (atom a))
step_sound n (Wants fs out) (Sign op) s' ts h e = signed_sound n op fs out s' ts h e
step_sound n (Wants fs out) Not s' ts h e =
    let c = cond_opened (leb (wanted_level fs) 3) (opened n Inverting fs out) s' e in
    opened_sound n Inverting fs out s' (ts ++ Not ∷ []) c.1 (λ few. after_not h (leb-true _ _ c.0) few)
step_sound n (Wants fs out) Open s' ts h e = opened_sound n Group fs out s' (ts ++ Open ∷ []) e (λ few. after_open h few)
step_sound n (Wants fs out) Close s' ts h e = absurd cc
step_sound n (Wants fs out) Bad s' ts h e = absurd cc
step_sound n (Has fs out) (Operand a) s' ts h e = absurd cc
step_sound n (Has fs out) (Sign op) s' ts h e =
    let a = levels op in
    let most : left_level op ≤ 8 = omega arith in
    let some : 1 ≤ left_level op = omega arith in
    pending_sound n op _ _ s' ts (reduce n (left_level op) 8 fs out ts h (le8 fs) most some) e
step_sound n (Has fs out) Not s' ts h e = absurd cc
step_sound n (Has fs out) Open s' ts h e = absurd cc
step_sound n (Has fs out) Close s' ts h e = grouped_sound n _ _ s' ts (reduce n 1 8 fs out ts h (le8 fs) (omega arith) (omega arith)) e
step_sound n (Has fs out) Bad s' ts h e = absurd cc

run_from : (n : ℕ) (s : State) (tok : Token) (ts before : List Token) (s' : State) → ((m : State) → Reached n m (before ++ tok ∷ []) → run n m ts ≡ Some s' → Reached n s' ((before ++ tok ∷ []) ++ ts)) → Reached n s before → (o : Option State) → step n s tok ≡ o → option_and_then (λ x. run n x ts) o ≡ Some s' → Reached n s' ((before ++ tok ∷ []) ++ ts)
run_from n s tok ts before s' ih h None e f = absurd cc
run_from n s tok ts before s' ih h (Some m) e f = ih m (step_sound n s tok m before h e) f

pub run_sound : (n : ℕ) (ts : List Token) (s s' : State) (before : List Token) → Reached n s before → run n s ts ≡ Some s' → Reached n s' (before ++ ts)
run_sound n [] s s' before h e =
    let same : s ≡ s' = cc in
    subst₂ (λ x y. Reached n x y) same (sym (append-nil before)) h
run_sound n (tok ∷ ts) s s' before h e =
    let r = run_from n s tok ts before s' (λ m hm em. run_sound n ts m s' (before ++ tok ∷ []) hm em) h (step n s tok) refl e in
    subst (λ x. Reached n s' x) (append_assoc before (tok ∷ []) ts) r

ended_some : (fs : List Frame) (out nodes : List Node) → ended fs out ≡ Some nodes → (fs ≡ []) × (out ≡ nodes)
ended_some [] out nodes e = (refl, cc)
ended_some (f ∷ fs) out nodes e = absurd cc

-- a phrase with nothing before it
record Whole (n l : ℕ) (out : List Node) (ts : List Token) : Type 0 where
  tree : Tree
  phrase : Phrase n l ts tree
  nodes : out ≡ postfix tree

alone : (n l : ℕ) (out : List Node) (ts : List Token) → Behind n l [] out ts → Whole n l out ts
alone n l _ _ (behind {b = b} {t = t} start p) = let e : n - 0 ≡ n = omega arith in record { tree = t; phrase = subst (λ k. Phrase k l b t) e p; nodes = refl }

-- where the tokens may end, they are a condition with these nodes
pub record Accepts (n : ℕ) (ts : List Token) (nodes : List Node) : Type 0 where
  pub tree : Tree
  pub phrase : Phrase n 1 ts tree
  pub spelled : nodes ≡ postfix tree

pub accepted_sound : (n : ℕ) (s : State) (ts : List Token) (nodes : List Node) → Reached n s ts → accepted s ≡ Some nodes → Accepts n ts nodes
accepted_sound n (Wants fs out) ts nodes h e = absurd cc
accepted_sound n (Has fs out) ts nodes h e =
    let r = reduce n 1 8 fs out ts h (le8 fs) (omega arith) (omega arith) in
    let c = ended_some _ _ nodes e in
    let w = alone n r.level _ ts (subst₂ (λ x y. Behind n r.level x y ts) c.0 c.1 r.read) in
    record { tree = w.tree; phrase = loosen r.level 1 r.tight w.phrase; spelled = w.nodes }

-- some tokens bring the state to an end
record Ends (n : ℕ) (s : State) : Type 0 where
  rest : List Token
  last : State
  nodes : List Node
  goes : run n s rest ≡ Some last
  ends : accepted last ≡ Some nodes

ends_over : (n : ℕ) (f : Frame) (fs gs : List Frame) (out : List Node) → Ends n (Has ((gs ++ f ∷ []) ++ fs) out) → Ends n (Has (gs ++ f ∷ fs) out)
ends_over n f fs gs out h = subst (λ k. Ends n (Has k out)) (append_assoc gs (f ∷ []) fs) h

ends_has : (n : ℕ) (fs gs : List Frame) (out : List Node) → AtLeastAll 1 gs → Ends n (Has (gs ++ fs) out)
ends_has n [] gs out tight =
    record { rest = []; last = Has (gs ++ []) out; nodes = out ++ closed_nodes 1 (gs ++ []); goes = refl; ends = ap (λ k. ended k (out ++ closed_nodes 1 (gs ++ []))) (kept-tight 1 gs [] tight) }
ends_has n (Group ∷ fs) gs out tight =
    let o = out ++ closed_nodes 1 (gs ++ Group ∷ fs) in
    let r = ends_has n fs [] o tt in
    let at_close : step n (Has (gs ++ Group ∷ fs) out) Close ≡ Some (Has fs o) = ap (λ k. grouped k o) (kept-tight 1 gs (Group ∷ fs) tight) in
    record { rest = Close ∷ r.rest; last = r.last; nodes = r.nodes; goes = run_step n Close r.rest (Has (gs ++ Group ∷ fs) out) (Has fs o) _ at_close r.goes; ends = r.ends }
ends_has n (Pending op ∷ fs) gs out tight = let a = levels op in ends_over n (Pending op) fs gs out (ends_has n fs (gs ++ Pending op ∷ []) out (tight_push 1 gs (Pending op) (omega arith) tight))
ends_has n (Inverting ∷ fs) gs out tight = ends_over n Inverting fs gs out (ends_has n fs (gs ++ Inverting ∷ []) out (tight_push 1 gs Inverting (omega arith) tight))
ends_has n (Negating ∷ fs) gs out tight = ends_over n Negating fs gs out (ends_has n fs (gs ++ Negating ∷ []) out (tight_push 1 gs Negating (omega arith) tight))

ends : (n : ℕ) (s : State) → Ends n s
ends n (Has fs out) = ends_has n fs [] out tt
ends n (Wants fs out) =
    let one = Operand (Number (pos 1)) in
    let o = out ++ Leaf (Number (pos 1)) ∷ [] in
    let r = ends_has n fs [] o tt in
    record { rest = one ∷ r.rest; last = r.last; nodes = r.nodes; goes = run_step n one r.rest (Wants fs out) (Has fs o) _ refl r.goes; ends = r.ends }

-- where a run goes on, its tokens begin a condition
pub run_begins : (n : ℕ) (ts : List Token) (s : State) → run n (Wants [] []) ts ≡ Some s → BeginsWithin n ts
run_begins n ts s e =
    let f = ends n s in
    let all = run_then n ts f.rest (Wants [] []) s _ e f.goes in
    let a = accepted_sound n f.last (ts ++ f.rest) f.nodes (run_sound n (ts ++ f.rest) (Wants [] []) f.last [] start all) f.ends in
    (f.rest, Some a.tree, whole a.phrase)
