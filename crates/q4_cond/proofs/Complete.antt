-- Each phrase of the grammar is read.
use Rattle.std.proofs.Common.{◌≡◌, ℕ, suc, ◌+◌, ◌<◌, ◌≤◌, List, [], ◌∷◌, ◌++◌, Some, map, refl, sym, ap, ap₂, ◌∙◌, arith, append_assoc, append-nil, le-leb, lt-ltb}
use Rattle.std.proofs.lemmas.Bool.{cond-true}
use Rattle.std.proofs.lemmas.List.{map-append}
use Rattle.q4_cond.specs.declared.tree.Operator.{Operator}
use Rattle.q4_cond.specs.declared.tree.Operator.TheVariants.{Subtract}
use Rattle.q4_cond.specs.declared.tree.Node.{Node}
use Rattle.q4_cond.specs.declared.tree.Node.TheVariants.{Leaf, Binary}
use Rattle.q4_cond.specs.declared.tree.Token.{Token}
use Rattle.q4_cond.specs.declared.tree.Token.TheVariants.{Sign, Not, Open, Close}
use Rattle.q4_cond.specs.declared.tree.Frame.{Frame}
use Rattle.q4_cond.specs.declared.tree.Frame.TheVariants.{Pending, Inverting, Negating, Group}
use Rattle.q4_cond.specs.Tree.{Tree, NotOf, MinusOf, level_of, left_level, right_level, postfix}
use Rattle.q4_cond.specs.Grammar.{Phrase, atom, group, minus, inverse, both, looser}
use Rattle.q4_cond.specs.Machine.{Wants, Has, frame_level, wanted_level, frame_node, open_count, opened, pending, grouped, step, run}
use Rattle.q4_cond.proofs.ReaderSteps.{run_then, run_step, levels, AtLeastAll, tight_weaken, tight_push, kept-tight, closed-tight, kept_stays, closed_none, top_below}

-- the tokens are read over the frames fs and the nodes out: frames stay that close into the tree's last nodes
pub record Reads (n l : ℕ) (fs : List Frame) (out : List Node) (ts : List Token) (t : Tree) : Type 0 where
  pub frames : List Frame
  pub done : List Node
  pub goes : run n (Wants fs out) ts ≡ Some (Has (frames ++ fs) done)
  pub tight : AtLeastAll l frames
  pub ends : done ++ map frame_node frames ≡ out ++ postfix t

pub opens : (n : ℕ) (f : Frame) (fs : List Frame) (out : List Node) → open_count fs < n → opened n f fs out ≡ Some (Wants (f ∷ fs) out)
opens n f fs out h = cond-true _ _ _ (lt-ltb _ _ h)

-- the operator behind a complete left operand
operator_step : (n : ℕ) (op : Operator) (gs fs : List Frame) (out : List Node) → wanted_level fs ≤ level_of op → AtLeastAll (left_level op) gs → step n (Has (gs ++ fs) out) (Sign op) ≡ Some (Wants (Pending op ∷ fs) (out ++ map frame_node gs))
operator_step n op gs fs out le tight =
    let l = left_level op in
    let below = top_below op fs le in
    let kept = kept-tight l gs fs tight ∙ kept_stays l fs below in
    let closed = closed-tight l gs fs tight ∙ (ap (λ r. map frame_node gs ++ r) (closed_none l fs below) ∙ append-nil (map frame_node gs)) in
    ap₂ (λ k c. pending op k (out ++ c)) kept closed ∙ cond-true _ _ _ (le-leb _ _ le)

close_step : (n : ℕ) (gs fs : List Frame) (out : List Node) → AtLeastAll 1 gs → step n (Has (gs ++ Group ∷ fs) out) Close ≡ Some (Has fs (out ++ map frame_node gs))
close_step n gs fs out tight =
    let kept = kept-tight 1 gs (Group ∷ fs) tight in
    let closed = closed-tight 1 gs (Group ∷ fs) tight ∙ append-nil (map frame_node gs) in
    ap₂ (λ k c. grouped k (out ++ c)) kept closed

-- a construct of one operand: its frame closes into its node
one_operand : (n l : ℕ) (f : Frame) (fs : List Frame) (out : List Node) (tok : Token) (ts : List Token) (t u : Tree) → step n (Wants fs out) tok ≡ Some (Wants (f ∷ fs) out) → l ≤ frame_level f → postfix u ≡ postfix t ++ frame_node f ∷ [] → Reads n l (f ∷ fs) out ts t → Reads n l fs out (tok ∷ ts) u
one_operand n l f fs out tok ts t u e le p r =
    record {
      frames = r.frames ++ f ∷ [];
      done = r.done;
      goes = run_step n tok ts (Wants fs out) (Wants (f ∷ fs) out) _ e (r.goes ∙ ap (λ k. Some (Has k r.done)) (sym (append_assoc r.frames (f ∷ []) fs)));
      tight = tight_push l r.frames f le r.tight;
      ends = ap (λ m. r.done ++ m) (map-append frame_node r.frames (f ∷ [])) ∙ (sym (append_assoc r.done (map frame_node r.frames) (frame_node f ∷ [])) ∙ (ap (λ m. m ++ frame_node f ∷ []) r.ends ∙ (append_assoc out (postfix t) (frame_node f ∷ []) ∙ ap (λ m. out ++ m) (sym p))));
    }

pub complete : {n l : ℕ} {ts : List Token} {t : Tree} → Phrase n l ts t → (m : ℕ) (fs : List Frame) (out : List Node) → wanted_level fs ≤ l → open_count fs + n ≤ m → Reads m l fs out ts t
complete (atom a) m fs out le room = record { frames = []; done = out ++ Leaf a ∷ []; goes = refl; tight = tt; ends = append-nil _ }
complete (group {n} {ts} {t} p) m fs out le room =
    let few : open_count fs < m = omega arith in
    let r = complete p m (Group ∷ fs) out (omega arith) (omega arith) in
    record {
      frames = [];
      done = out ++ postfix t;
      goes = run_step m Open (ts ++ Close ∷ []) (Wants fs out) (Wants (Group ∷ fs) out) _ (opens m Group fs out few)
          (run_then m ts (Close ∷ []) (Wants (Group ∷ fs) out) (Has (r.frames ++ Group ∷ fs) r.done) _ r.goes
          (run_step m Close [] (Has (r.frames ++ Group ∷ fs) r.done) (Has fs (r.done ++ map frame_node r.frames)) _ (close_step m r.frames fs r.done r.tight) (ap (λ o. Some (Has fs o)) r.ends)));
      tight = tt;
      ends = append-nil _;
    }
complete (minus {n} {ts} {t} p) m fs out le room =
    let few : open_count fs < m = omega arith in
    one_operand m 7 Negating fs out (Sign Subtract) ts t (MinusOf t) (opens m Negating fs out few) (omega arith) refl (complete p m (Negating ∷ fs) out (omega arith) (omega arith))
complete (inverse {n} {ts} {t} p) m fs out le room =
    let few : open_count fs < m = omega arith in
    one_operand m 3 Inverting fs out Not ts t (NotOf t) (cond-true _ _ _ (le-leb _ _ le) ∙ opens m Inverting fs out few) (omega arith) refl (complete p m (Inverting ∷ fs) out (omega arith) (omega arith))
complete (both {n} op {left} {right} {t} {u} p q) m fs out le room =
    let a = levels op in
    let r = complete p m fs out (omega arith) room in
    let s = complete q m (Pending op ∷ fs) (out ++ postfix t) (omega arith) room in
    let at_sign : step m (Has (r.frames ++ fs) r.done) (Sign op) ≡ Some (Wants (Pending op ∷ fs) (out ++ postfix t)) =
    operator_step m op r.frames fs r.done le r.tight ∙ ap (λ o. Some (Wants (Pending op ∷ fs) o)) r.ends in
    record {
      frames = s.frames ++ Pending op ∷ [];
      done = s.done;
      goes = run_then m left (Sign op ∷ right) (Wants fs out) (Has (r.frames ++ fs) r.done) _ r.goes
          (run_step m (Sign op) right (Has (r.frames ++ fs) r.done) (Wants (Pending op ∷ fs) (out ++ postfix t)) _ at_sign (s.goes ∙ ap (λ k. Some (Has k s.done)) (sym (append_assoc s.frames (Pending op ∷ []) fs))));
      tight = tight_push (level_of op) s.frames (Pending op) (omega arith) (tight_weaken (level_of op) (right_level op) s.frames (omega arith) s.tight);
      ends = ap (λ k. s.done ++ k) (map-append frame_node s.frames (Pending op ∷ [])) ∙ (sym (append_assoc s.done (map frame_node s.frames) (Binary op ∷ [])) ∙ (ap (λ k. k ++ Binary op ∷ []) s.ends ∙ simp append_assoc));
    }
complete (looser {n} {l} {ts} {t} p) m fs out le room =
    let r = complete p m fs out (omega arith) room in
    record { frames = r.frames; done = r.done; goes = r.goes; tight = tight_weaken l (suc l) r.frames (omega arith) r.tight; ends = r.ends }
