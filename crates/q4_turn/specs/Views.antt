-- What a pass knows, as plain data: what is counted of a view, and what each step makes of it.
use Rattle.std.specs.Prelude.{ℕ, ◌+◌, ◌-◌, ◌==◌, true, false, cond, List, [], ◌∷◌, ◌++◌, Some, None}
use Rattle.q4_turn.specs.declared.view.View.{View}
use Rattle.q4_turn.specs.declared.view.JoinedPass.{JoinedPass}
use Rattle.q4_turn.specs.Lists.{total, one_if, one_at, number_of_hand, longer, shorter}

module _ {E : Type 0} where
  -- a number with its entries
  abbrev pub old : ℕ → List E → JoinedPass E
  old n es = record { number = n; mine = es }

  -- the numbers that a view answers for, each with its entries: its own, then those of the passes that were joined into it
  abbrev pub claims : View E → List (JoinedPass E)
  claims v = old v.number v.mine ∷ v.olds

  -- how often a number is among them
  abbrev pub times : ℕ → List (JoinedPass E) → ℕ
  times n os = total (λ o. one_if (o.number == n)) os

  -- how often a live view answers for a number
  abbrev pub claimed : ℕ → View E → ℕ
  claimed n v = cond v.live (times n (claims v)) 0

  -- .. or has it in hand
  abbrev pub numbered : ℕ → View E → ℕ
  numbered n v = claimed n v + one_at n v.in_hand

  -- 1 where the view has this ticket
  abbrev pub ticketed : ℕ → View E → ℕ
  ticketed t v = one_at t v.ticket

  -- 1 where the view holds the turn
  abbrev pub held : View E → ℕ
  held v = one_if v.holding

  -- the parts of a live view
  abbrev pub live_parts : View E → ℕ
  live_parts v = cond v.live v.parts 0

  -- before the first entry: the one view of a table whose slot is still empty
  abbrev pub founding_view : ℕ → View E
  founding_view all = record { founding = true; live = false; holding = false; closing = false; ticket = None; in_hand = None; number = 0; parts = all; holds = 0; seen = []; mine = []; unmerged = []; olds = [] }

  -- .. once it has taken the slot
  abbrev pub founding_taken : ℕ → View E
  founding_taken all = record (founding_view all) { holding = true }

  -- the first pass: all parts, number 0, and these entries as all that was seen and as its own
  abbrev pub first_view : ℕ → List E → View E
  first_view all es = record { founding = false; live = true; holding = false; closing = false; ticket = None; in_hand = None; number = 0; parts = all; holds = 0; seen = es; mine = es; unmerged = []; olds = [] }

  -- a ticket was drawn, which counts as one more entering
  abbrev pub with_ticket : View E → ℕ → View E
  with_ticket v t = record v { ticket = Some t; holds = v.holds + 1 }

  -- the turn was taken, and this is the history
  abbrev pub with_turn : View E → List E → View E
  with_turn v es = record v { holding = true; seen = es }

  -- these entries were added
  abbrev pub extended : View E → List E → View E
  extended v es = record v { seen = v.seen ++ es; mine = v.mine ++ es }

  -- the turn was given up
  abbrev pub without_turn : View E → View E
  without_turn v = record v { holding = false; ticket = None }

  -- a number was drawn
  abbrev pub with_number : View E → ℕ → View E
  with_number v n = record v { in_hand = Some n }

  -- a pass that gave k of its parts to a new one
  abbrev pub after_split : ℕ → View E → View E
  after_split k v = record v { parts = v.parts - k; in_hand = None }

  -- the new pass: k parts, the number n, and what the other had seen
  abbrev pub split_off : ℕ → ℕ → View E → View E
  split_off k n v = record { founding = false; live = true; holding = false; closing = false; ticket = None; in_hand = None; number = n; parts = k; holds = 0; seen = v.seen; mine = []; unmerged = []; olds = [] }

  -- .. by the number in hand
  abbrev pub split_by_hand : ℕ → View E → View E
  split_by_hand k v = split_off k (number_of_hand v.in_hand) v

  -- two passes as one, which keeps the first one's number and holds. The shorter `seen` stays beside the longer until they are compared
  abbrev pub uncompared : View E → View E → View E
  uncompared v w = record v { parts = v.parts + w.parts; seen = longer v.seen w.seen; unmerged = shorter v.seen w.seen; olds = v.olds ++ claims w }

  -- .. once they were compared
  abbrev pub compared : View E → View E
  compared v = record v { unmerged = [] }

  -- two passes as one
  abbrev pub joined : View E → View E → View E
  joined v w = compared (uncompared v w)

  -- what is left of a view that was joined into another
  abbrev pub spent_view : View E
  spent_view = record { founding = false; live = false; holding = false; closing = false; ticket = None; in_hand = None; number = 0; parts = 0; holds = 0; seen = []; mine = []; unmerged = []; olds = [] }

  -- all parts are together, and the history has ended
  abbrev pub closed_view : View E → View E
  closed_view v = record v { closing = true }

  -- what is kept of a view after the end
  abbrev pub retired : View E → View E
  retired v = record v { live = false; closing = false; holding = false; ticket = None; in_hand = None }
