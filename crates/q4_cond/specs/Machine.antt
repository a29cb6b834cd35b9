-- The states of the reader, which its own functions are described by. No public clause cites them.
use Rattle.std.specs.Prelude.{◌≡◌, ◌≤◌, Bool, true, false, ℕ, suc, List, [], ◌∷◌, ◌++◌, Option, Some, None, nat_le, nat_lt, if◌then◌else◌}
use Rattle.std.specs.Option.{option_and_then}
use Rattle.q4_cond.specs.declared.tree.Operator.{Operator}
use Rattle.q4_cond.specs.declared.tree.Operator.TheVariants.{Or, And, Equal, Unequal, Below, AtMost, Above, AtLeast, Add, Subtract, Multiply, Divide, Remainder}
use Rattle.q4_cond.specs.declared.tree.Node.{Node}
use Rattle.q4_cond.specs.declared.tree.Node.TheVariants.{Leaf, Binary, Inverted, Negated}
use Rattle.q4_cond.specs.declared.tree.Token.{Token}
use Rattle.q4_cond.specs.declared.tree.Token.TheVariants.{Operand, Sign, Not, Open, Close, Bad}
use Rattle.q4_cond.specs.declared.tree.Frame.{Frame}
use Rattle.q4_cond.specs.declared.tree.Frame.TheVariants.{Pending, Inverting, Negating, Group}
use Rattle.q4_cond.specs.declared.reader.Step.{Step}
use Rattle.q4_cond.specs.declared.reader.Step.TheVariants.{Taken, Refused, TooDeep}
use Rattle.q4_cond.specs.Tree.{level_of, left_level, right_level}

-- the reader wants an operand, or has one; with its frames, the innermost first, and the nodes that are done
pub data State : Type 0 where
  Wants : List Frame → List Node → State
  Has : List Frame → List Node → State

-- the level of the phrase that a frame makes
abbrev pub frame_level : Frame → ℕ
frame_level (Pending op) = level_of op
frame_level Inverting = 3
frame_level Negating = 7
frame_level Group = 0

-- the level of the operand that the innermost frame wants
abbrev pub wanted_level : List Frame → ℕ
wanted_level [] = 1
wanted_level (Pending op ∷ fs) = right_level op
wanted_level (Inverting ∷ fs) = 3
wanted_level (Negating ∷ fs) = 7
wanted_level (Group ∷ fs) = 1

-- the node that closes a frame; a group has none, and is never closed by one
abbrev pub frame_node : Frame → Node
frame_node (Pending op) = Binary op
frame_node Inverting = Inverted
frame_node Negating = Negated
frame_node Group = Negated

-- how many constructs are open
abbrev pub open_count : List Frame → ℕ
open_count [] = 0
open_count (Pending op ∷ fs) = open_count fs
open_count (Inverting ∷ fs) = suc (open_count fs)
open_count (Negating ∷ fs) = suc (open_count fs)
open_count (Group ∷ fs) = suc (open_count fs)

-- the frames that stay, and the nodes of those that close, where an operand of the level l is complete
abbrev pub kept_frames : ℕ → List Frame → List Frame
kept_frames l [] = []
kept_frames l (f ∷ fs) = if nat_le l (frame_level f) then kept_frames l fs else f ∷ fs

abbrev pub closed_nodes : ℕ → List Frame → List Node
closed_nodes l [] = []
closed_nodes l (f ∷ fs) = if nat_le l (frame_level f) then frame_node f ∷ closed_nodes l fs else []

-- a construct is opened, if fewer than n are open
abbrev pub opened : ℕ → Frame → List Frame → List Node → Option State
opened n f fs out = if nat_lt (open_count fs) n then Some (Wants (f ∷ fs) out) else None

-- what a complete operand, with these frames left, becomes before an operator
abbrev pub pending : Operator → List Frame → List Node → Option State
pending op fs out = if nat_le (wanted_level fs) (level_of op) then Some (Wants (Pending op ∷ fs) out) else None

abbrev pub grouped : List Frame → List Node → Option State
grouped [] out = None
grouped (Pending op ∷ fs) out = None
grouped (Inverting ∷ fs) out = None
grouped (Negating ∷ fs) out = None
grouped (Group ∷ fs) out = Some (Has fs out)

-- an operator where an operand is wanted: a `-` opens a construct, others are refused
abbrev pub signed : ℕ → Operator → List Frame → List Node → Option State
signed n Or fs out = None
signed n And fs out = None
signed n Equal fs out = None
signed n Unequal fs out = None
signed n Below fs out = None
signed n AtMost fs out = None
signed n Above fs out = None
signed n AtLeast fs out = None
signed n Add fs out = None
signed n Subtract fs out = opened n Negating fs out
signed n Multiply fs out = None
signed n Divide fs out = None
signed n Remainder fs out = None

-- one token
abbrev pub step : ℕ → State → Token → Option State
step n (Wants fs out) (Operand a) = Some (Has fs (out ++ Leaf a ∷ []))
step n (Wants fs out) (Sign op) = signed n op fs out
step n (Wants fs out) Not = if nat_le (wanted_level fs) 3 then opened n Inverting fs out else None
step n (Wants fs out) Open = opened n Group fs out
step n (Wants fs out) Close = None
step n (Wants fs out) Bad = None
step n (Has fs out) (Operand a) = None
step n (Has fs out) (Sign op) = pending op (kept_frames (left_level op) fs) (out ++ closed_nodes (left_level op) fs)
step n (Has fs out) Not = None
step n (Has fs out) Open = None
step n (Has fs out) Close = grouped (kept_frames 1 fs) (out ++ closed_nodes 1 fs)
step n (Has fs out) Bad = None

-- a list of tokens, one after the other
abbrev pub run : ℕ → State → List Token → Option State
run n s [] = Some s
run n s (t ∷ ts) = option_and_then (λ next. run n next ts) (step n s t)

-- the nodes of the whole, where the tokens may end here
abbrev pub ended : List Frame → List Node → Option (List Node)
ended [] out = Some out
ended (f ∷ fs) out = None

abbrev pub accepted : State → Option (List Node)
accepted (Wants fs out) = None
accepted (Has fs out) = ended (kept_frames 1 fs) (out ++ closed_nodes 1 fs)

abbrev pub state_of : Bool → List Frame → List Node → State
state_of true fs out = Wants fs out
state_of false fs out = Has fs out

-- what the reader's answer to a token says
abbrev pub StepSays : State → Token → State → Step → Type 0
StepSays s tok new Taken = step 32 s tok ≡ Some new
StepSays s tok new Refused = (n : ℕ) → step n s tok ≡ None
StepSays s tok new TooDeep = (step 32 s tok ≡ None) × (n : ℕ) × (32 ≤ n) × (next : State) × (step n s tok ≡ Some next)

-- the same of a construct that is opened
abbrev pub OpenSays : Frame → List Frame → List Node → State → Step → Type 0
OpenSays f fs out new Taken = opened 32 f fs out ≡ Some new
OpenSays f fs out new Refused = ⊥
OpenSays f fs out new TooDeep = (opened 32 f fs out ≡ None) × (n : ℕ) × (32 ≤ n) × (opened n f fs out ≡ Some (Wants (f ∷ fs) out))

-- the nodes of the whole condition, where it may end here; no token is the empty condition
abbrev pub finished : State → Option (List Node)
finished (Wants [] []) = Some []
finished (Wants [] (n ∷ ns)) = None
finished (Wants (f ∷ fs) ns) = None
finished (Has fs ns) = accepted (Has fs ns)
