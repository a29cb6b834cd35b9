-- The reader's answers to a token, from what it does.
use Rattle.std.proofs.Common.{◌≡◌, ℕ, suc, ◌<◌, ◌≤◌, List, [], ◌∷◌, ◌++◌, Bool, true, false, Some, None, sym, ap, ◌∙◌, subst, arith, append-nil, ltb, leb, lt-ltb, le-ltb, le-leb}
use Rattle.std.specs.Prelude.{IfOk, Ok, Err, slice_get}
use Rattle.std.specs.declared.result.Result.{Result}
use Rattle.std.proofs.lemmas.Bool.{cond-true, cond-false}
use Rattle.q4_value.specs.declared.NoMemory.{NoMemory}
use Rattle.q4_cond.specs.declared.tree.Operator.{Operator}
use Rattle.q4_cond.specs.declared.tree.Operator.TheVariants.{Subtract}
use Rattle.q4_cond.specs.declared.tree.Node.{Node}
use Rattle.q4_cond.specs.declared.tree.Token.{Token}
use Rattle.q4_cond.specs.declared.tree.Token.TheVariants.{Sign, Not, Open}
use Rattle.q4_cond.specs.declared.tree.Frame.{Frame}
use Rattle.q4_cond.specs.declared.tree.Frame.TheVariants.{Inverting, Negating, Group}
use Rattle.q4_cond.specs.declared.reader.Step.{Step}
use Rattle.q4_cond.specs.declared.reader.Step.TheVariants.{Taken, Refused, TooDeep}
use Rattle.q4_cond.proofs.ReaderSteps.{TopBelow, kept_stays, closed_none}
use Rattle.q4_cond.specs.Machine.{State, Wants, Has, frame_level, wanted_level, open_count, kept_frames, closed_nodes, opened, step, state_of, StepSays, OpenSays}

pub open_deep : (f : Frame) (fs : List Frame) (out : List Node) → 32 ≤ open_count fs → (opened 32 f fs out ≡ None) × (n : ℕ) × (32 ≤ n) × (opened n f fs out ≡ Some (Wants (f ∷ fs) out))
open_deep f fs out le =
    (cond-false (ltb (open_count fs) 32) _ _ (le-ltb _ _ le), suc (open_count fs), omega arith, cond-true (ltb (open_count fs) (suc (open_count fs))) _ _ (lt-ltb (open_count fs) (suc (open_count fs)) (omega arith)))

minus_says : (fs : List Frame) (out : List Node) (new : State) (says : Step) → OpenSays Negating fs out new says → StepSays (Wants fs out) (Sign Subtract) new says
minus_says fs out new Taken h = h
minus_says fs out new Refused h = absurd h
minus_says fs out new TooDeep h = (h.0, h.1, h.2, Wants (Negating ∷ fs) out, h.3)

group_says : (fs : List Frame) (out : List Node) (new : State) (says : Step) → OpenSays Group fs out new says → StepSays (Wants fs out) Open new says
group_says fs out new Taken h = h
group_says fs out new Refused h = absurd h
group_says fs out new TooDeep h = (h.0, h.1, h.2, Wants (Group ∷ fs) out, h.3)

not_step : (n : ℕ) (fs : List Frame) (out : List Node) → wanted_level fs ≤ 3 → step n (Wants fs out) Not ≡ opened n Inverting fs out
not_step n fs out le = cond-true (leb (wanted_level fs) 3) _ _ (le-leb _ _ le)

not_says : (fs : List Frame) (out : List Node) (new : State) (says : Step) → wanted_level fs ≤ 3 → OpenSays Inverting fs out new says → StepSays (Wants fs out) Not new says
not_says fs out new Taken le h = not_step 32 fs out le ∙ h
not_says fs out new Refused le h = absurd h
not_says fs out new TooDeep le h = (not_step 32 fs out le ∙ h.0, h.1, h.2, Wants (Inverting ∷ fs) out, not_step h.1 fs out le ∙ h.3)

-- what is said of a state where an operand is wanted, or is there
pub wants_says : (w : Bool) (fs : List Frame) (out : List Node) (tok : Token) (new : State) (r : Result Step NoMemory) → w ≡ true → IfOk r (λ s. StepSays (Wants fs out) tok new s) → IfOk r (λ s. StepSays (state_of w fs out) tok new s)
wants_says w fs out tok new r e h = subst (λ x. IfOk r (λ s. StepSays (state_of x fs out) tok new s)) (sym e) h

pub has_says : (w : Bool) (fs : List Frame) (out : List Node) (tok : Token) (new : State) (r : Result Step NoMemory) → w ≡ false → IfOk r (λ s. StepSays (Has fs out) tok new s) → IfOk r (λ s. StepSays (state_of w fs out) tok new s)
has_says w fs out tok new r e h = subst (λ x. IfOk r (λ s. StepSays (state_of x fs out) tok new s)) (sym e) h

pub minus_answer : (w : Bool) (fs : List Frame) (out : List Node) (op : Operator) (new : State) (r : Result Step NoMemory) → w ≡ true → op ≡ Subtract → IfOk r (λ s. OpenSays Negating fs out new s) → IfOk r (λ s. StepSays (state_of w fs out) (Sign op) new s)
minus_answer w fs out op new (Ok s) e f h = subst (λ x. StepSays (state_of x fs out) (Sign op) new s) (sym e) (subst (λ o. StepSays (Wants fs out) (Sign o) new s) (sym f) (minus_says fs out new s h))
minus_answer w fs out op new (Err m) e f h = tt

pub group_answer : (w : Bool) (fs : List Frame) (out : List Node) (new : State) (r : Result Step NoMemory) → w ≡ true → IfOk r (λ s. OpenSays Group fs out new s) → IfOk r (λ s. StepSays (state_of w fs out) Open new s)
group_answer w fs out new (Ok s) e h = subst (λ x. StepSays (state_of x fs out) Open new s) (sym e) (group_says fs out new s h)
group_answer w fs out new (Err m) e h = tt

pub not_answer : (w : Bool) (fs : List Frame) (out : List Node) (new : State) (r : Result Step NoMemory) → w ≡ true → wanted_level fs ≤ 3 → IfOk r (λ s. OpenSays Inverting fs out new s) → IfOk r (λ s. StepSays (state_of w fs out) Not new s)
not_answer w fs out new (Ok s) e le h = subst (λ x. StepSays (state_of x fs out) Not new s) (sym e) (not_says fs out new s le h)
not_answer w fs out new (Err m) e le h = tt

below_head : (l : ℕ) (fs : List Frame) (f : Frame) → slice_get fs 0 ≡ Some f → frame_level f < l → TopBelow l fs
below_head l [] f e lt = tt
below_head l (g ∷ fs) f e lt = let same : f ≡ g = cc in subst (λ x. frame_level x < l) same lt

below_none : (l : ℕ) (fs : List Frame) → slice_get fs 0 ≡ None → TopBelow l fs
below_none l [] e = tt
below_none l (g ∷ fs) e = absurd cc

-- where the innermost frame is looser, or none is there, no frame closes
pub kept_head : (l : ℕ) (fs : List Frame) (f : Frame) → slice_get fs 0 ≡ Some f → frame_level f < l → kept_frames l fs ≡ fs
kept_head l fs f e lt = kept_stays l fs (below_head l fs f e lt)

pub closed_head : (l : ℕ) (fs : List Frame) (out : List Node) (f : Frame) → slice_get fs 0 ≡ Some f → frame_level f < l → out ++ closed_nodes l fs ≡ out
closed_head l fs out f e lt = ap (λ c. out ++ c) (closed_none l fs (below_head l fs f e lt)) ∙ append-nil out

pub kept_empty : (l : ℕ) (fs : List Frame) → slice_get fs 0 ≡ None → kept_frames l fs ≡ fs
kept_empty l fs e = kept_stays l fs (below_none l fs e)

pub closed_empty : (l : ℕ) (fs : List Frame) (out : List Node) → slice_get fs 0 ≡ None → out ++ closed_nodes l fs ≡ out
closed_empty l fs out e = ap (λ c. out ++ c) (closed_none l fs (below_none l fs e)) ∙ append-nil out
