-- Each text is a condition or has a fault.
use Rattle.std.proofs.Common.{◌≡◌, ◌≢◌, ◌≤◌, ◌++◌, ◌∷◌, ◌∙◌, ◌⊎◌, [], List, ℕ, suc, Bool, true, false, Option, None, Some, length, refl, sym, ap, subst, arith, inl, inr, append_assoc, append-nil, if◌then◌else◌}
use Rattle.std.specs.Prelude.{nat_le, nat_lt}
use Rattle.std.proofs.lemmas.Bool.{cases_lt, cond-true, cond-false, lt-ltb, le-ltb}
use Rattle.std.proofs.lemmas.List.{map_push}
use Rattle.q4_value.specs.declared.column.Column.{Column}
use Rattle.q4_cond.specs.declared.fault.CondFault.{CondFault}
use Rattle.q4_cond.specs.declared.fault.CondFault.TheVariants.{Long, At, Deep, NoColumn, Kinds, Memory}
use Rattle.q4_cond.specs.declared.tree.Operator.TheVariants.{Subtract}
use Rattle.q4_cond.specs.declared.tree.Node.{Node}
use Rattle.q4_cond.specs.declared.tree.Token.{Token}
use Rattle.q4_cond.specs.declared.tree.Token.TheVariants.{Operand, Sign, Not, Open, Close, Bad}
use Rattle.q4_cond.specs.declared.tree.Frame.{Frame}
use Rattle.q4_cond.specs.declared.tree.Frame.TheVariants.{Inverting, Negating, Group}
use Rattle.q4_cond.specs.Tree.{Tree, left_level}
use Rattle.q4_cond.specs.Tokens.{Placed, bare, tokens_of, names_of}
use Rattle.q4_cond.specs.Grammar.{IsCondition, nothing, whole}
use Rattle.q4_cond.specs.Machine.{State, Wants, Has, wanted_level, open_count, kept_frames, closed_nodes, opened, pending, grouped, step, run, accepted}
use Rattle.q4_cond.specs.Reading.{StopsAt, DeepAt, first_unknown, kinds_of, first_marked, misplaced_in, atom_places, Spells, IsRead, IsFault}
use Rattle.q4_cond.proofs.ReaderSteps.{run_then, run_step}
use Rattle.q4_cond.proofs.Sound.{run_begins}
use Rattle.q4_cond.proofs.Verdicts.{refused_within, refused_all, taken_begins, unended, ended_condition, unbegun}

-- ## One token

-- The step goes on at depth 32, at no depth, or at a greater depth alone.
abbrev Judged : (ℕ → Option State) → Type 0
Judged f = ((next : State) × (f 32 ≡ Some next)) ⊎ (((n : ℕ) → f n ≡ None) ⊎ ((f 32 ≡ None) × ((n : ℕ) × (next : State) × (32 ≤ n) × (f n ≡ Some next))))

judged_fixed : (o : Option State) → Judged (λ n. o)
judged_fixed None = inr (inl (λ n. refl))
judged_fixed (Some next) = inl (next, refl)

judged_open : (f : Frame) (fs : List Frame) (out : List Node) → Judged (λ n. opened n f fs out)
judged_open f fs out = elim (cases_lt (open_count fs) 32) [
  | inl few ↦ inl (Wants (f ∷ fs) out, cond-true (nat_lt (open_count fs) 32) (Some (Wants (f ∷ fs) out)) None (lt-ltb (open_count fs) 32 few))
  | inr many ↦ inr (inr (
    cond-false (nat_lt (open_count fs) 32) (Some (Wants (f ∷ fs) out)) None (le-ltb (open_count fs) 32 many),
    (suc (open_count fs), Wants (f ∷ fs) out, omega (arith, many), cond-true (nat_lt (open_count fs) (suc (open_count fs))) (Some (Wants (f ∷ fs) out)) None (lt-ltb (open_count fs) (suc (open_count fs)) (omega arith))),
  ))
]

judged_if : (b : Bool) (fs : List Frame) (out : List Node) → Judged (λ n. if b then opened n Inverting fs out else None)
judged_if true fs out = judged_open Inverting fs out
judged_if false fs out = inr (inl (λ n. refl))

judged : (s : State) (token : Token) → Judged (λ n. step n s token)
judged (Wants fs out) (Operand a) = inl (_, refl)
judged (Wants fs out) (Sign Subtract) = judged_open Negating fs out
judged (Wants fs out) (Sign _) = inr (inl (λ n. refl))
judged (Wants fs out) Not = judged_if (nat_le (wanted_level fs) 3) fs out
judged (Wants fs out) Open = judged_open Group fs out
judged (Wants fs out) Close = inr (inl (λ n. refl))
judged (Wants fs out) Bad = inr (inl (λ n. refl))
judged (Has fs out) (Operand a) = inr (inl (λ n. refl))
judged (Has fs out) (Sign op) = judged_fixed (pending op (kept_frames (left_level op) fs) (out ++ closed_nodes (left_level op) fs))
judged (Has fs out) Not = inr (inl (λ n. refl))
judged (Has fs out) Open = inr (inl (λ n. refl))
judged (Has fs out) Close = judged_fixed (grouped (kept_frames 1 fs) (out ++ closed_nodes 1 fs))
judged (Has fs out) Bad = inr (inl (λ n. refl))

-- ## All tokens

-- The tokens go on to their end, or one of them stops or is too deep.
abbrev Scanned : List Placed → Type 0
Scanned ts = ((s : State) × (run 32 (Wants [] []) (bare ts) ≡ Some s)) ⊎ (((p : ℕ) × StopsAt ts p) ⊎ ((p : ℕ) × DeepAt ts p))

bare_push : (before : List Placed) (t : Placed) → bare (before ++ t ∷ []) ≡ bare before ++ t.token ∷ []
bare_push before t = map_push (λ (p : Placed). p.token) before t

scan_token : (before after : List Placed) (t : Placed) (s : State) → run 32 (Wants [] []) (bare before) ≡ Some s → ((next : State) → run 32 (Wants [] []) (bare (before ++ t ∷ [])) ≡ Some next → Scanned ((before ++ t ∷ []) ++ after))
    → Judged (λ n. step n s t.token) → Scanned (before ++ t ∷ after)
scan_token before after t s goes on (inl taken) = subst Scanned (append_assoc before (t ∷ []) after)
    (on taken.0 (ap (run 32 (Wants [] [])) (bare_push before t) ∙ run_then 32 (bare before) (t.token ∷ []) (Wants [] []) s (Some taken.0) goes (run_step 32 t.token [] s taken.0 (Some taken.0) taken.1 refl)))
scan_token before after t s goes on (inr (inl refused)) = inr (inl (
  t.place,
  record {
    before = before;
    token = t.token;
    after = after;
    split = refl;
    begins = run_begins 32 (bare before) s goes;
    stops = refused_all 32 (bare before) t.token s goes refused;
  },
))
scan_token before after t s goes on (inr (inr deep)) = inr (inr (
  t.place,
  record {
    before = before;
    token = t.token;
    after = after;
    split = refl;
    begins = run_begins 32 (bare before) s goes;
    goes_on = (deep.1.0, taken_begins 32 deep.1.0 (bare before) t.token s deep.1.1 deep.1.2 goes deep.1.3);
    too_deep = refused_within 32 32 (bare before) t.token s goes deep.0;
  },
))

scan : (before after : List Placed) (s : State) → run 32 (Wants [] []) (bare before) ≡ Some s → Scanned (before ++ after)
scan before [] s goes = inl (s, ap (λ ts. run 32 (Wants [] []) (bare ts)) (append-nil before) ∙ goes)
scan before (t ∷ after) s goes = scan_token before after t s goes (λ next runs. scan (before ++ t ∷ []) after next runs) (judged s t.token)

-- ## The whole text

abbrev pub Answer : List Column → List ℕ → Type 0
Answer columns text = ((tree : Option Tree) × IsRead columns text tree) ⊎ ((why : CondFault) × (why ≢ Memory) × IsFault columns text why)

-- the text is a condition of this tree, apart from its words and kinds
named : (columns : List Column) (text : List ℕ) (tree : Option Tree) → Spells columns text tree → Answer columns text
named columns text tree spells = by_word (first_unknown (length columns) (tokens_of (names_of columns) text)) refl where
  by_kind : (o : Option ℕ) → first_unknown (length columns) (tokens_of (names_of columns) text) ≡ None → first_marked (misplaced_in (kinds_of columns) tree) (atom_places (tokens_of (names_of columns) text)) ≡ o → Answer columns text
  by_kind None known is = inl (tree, record { spells = spells; known = known; kinds = is })
  by_kind (Some p) known is = inr (Kinds p, (λ e. cc), record { tree = tree; spells = spells; known = known; kinds = is })

  by_word : (o : Option ℕ) → first_unknown (length columns) (tokens_of (names_of columns) text) ≡ o → Answer columns text
  by_word None is = by_kind (first_marked (misplaced_in (kinds_of columns) tree) (atom_places (tokens_of (names_of columns) text))) is refl
  by_word (Some p) is = inr (NoColumn p, (λ e. cc), record { tree = tree; spells = spells; unknown = is })

-- whether the reader is where it began
begun : (s : State) → (s ≡ Wants [] []) ⊎ (s ≡ Wants [] [] → ⊥)
begun (Wants [] []) = inl refl
begun (Wants [] (n ∷ ns)) = inr (λ e. cc)
begun (Wants (f ∷ fs) ns) = inr (λ e. cc)
begun (Has fs ns) = inr (λ e. cc)

ended : (columns : List Column) (text : List ℕ) (s : State) → length text ≤ 1024 → run 32 (Wants [] []) (bare (tokens_of (names_of columns) text)) ≡ Some s → Answer columns text
ended columns text s short goes = by_nodes (accepted s) refl where
  by_start : accepted s ≡ None → (s ≡ Wants [] []) ⊎ (s ≡ Wants [] [] → ⊥) → Answer columns text
  by_start none (inl is) =
      let empty : bare (tokens_of (names_of columns) text) ≡ [] = unbegun 32 (bare (tokens_of (names_of columns) text)) (goes ∙ ap Some is) in
      named columns text None (record { short = short; condition = subst (λ xs. IsCondition 32 xs None) (sym empty) nothing })
  by_start none (inr more) = inr (
    At (length text),
    (λ e. cc),
    record {
      short = short;
      place = inr (refl, record { begins = run_begins 32 (bare (tokens_of (names_of columns) text)) s goes; is_none = unended 32 (bare (tokens_of (names_of columns) text)) s goes none more });
    },
  )

  by_nodes : (o : Option (List Node)) → accepted s ≡ o → Answer columns text
  by_nodes None is = by_start is (begun s)
  by_nodes (Some nodes) is =
      let accepts = ended_condition 32 (bare (tokens_of (names_of columns) text)) s nodes goes is in
      named columns text (Some accepts.tree) (record { short = short; condition = whole accepts.phrase })

pub cond_answer : (columns : List Column) (text : List ℕ) → Answer columns text
cond_answer columns text = elim (cases_lt 1024 (length text)) [
  | inl long ↦ inr (Long, (λ e. cc), long)
  | inr short ↦ elim (scan [] (tokens_of (names_of columns) text) (Wants [] []) refl) [
    | inl all ↦ ended columns text all.0 short all.1
    | inr (inl stops) ↦ inr (At stops.0, (λ e. cc), record { short = short; place = inl stops.1 })
    | inr (inr deep) ↦ inr (Deep deep.0, (λ e. cc), record { short = short; place = deep.1 })
  ]
]
