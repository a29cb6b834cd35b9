-- Conditions that are kept one after the other are all kept, as long as they are at most 64.
use Rattle.std.proofs.Common.{◌≡◌, ◌≤◌, ◌+◌, ◌∷◌, ◌∙◌, ◌||◌, [], List, ℕ, zero, suc, Bool, true, false, cond, Option, Some, All, find, length, take, is_some, refl, sym, ap, subst, arith}
use Rattle.std.specs.Option.{option_map}
use Rattle.std.proofs.lemmas.List.Elements.{All-nil, All-cons}
use Rattle.q4_cond.specs.Tree.{Tree}
use Rattle.q4_cond.specs.SameTree.{same_tree}
use Rattle.q4_cond.proofs.SameTrees.{same-refl, same-equal}
use Rattle.q4_table.specs.Cursors.{Cursor, kept_limit, is_for, is_kept, begin_of, without_tree, with_kept, with_each_kept}

-- whether the condition is among the first cursors
abbrev pub among : ℕ → Option Tree → List Cursor → Bool
among n tree [] = false
among zero tree (c ∷ cs) = false
among (suc n) tree (c ∷ cs) = is_for tree c || among n tree cs

kept_step : (tree : Option Tree) (c : Cursor) (cs : List Cursor) (b : Bool) → is_kept (c ∷ cs) tree ≡ is_some (option_map (λ (d : Cursor). d.from) (cond b (Some c) (find (is_for tree) cs)))
    → is_some (option_map (λ (d : Cursor). d.from) (cond b (Some c) (find (is_for tree) cs))) ≡ (b || is_kept cs tree)
kept_step tree c cs true is = refl
kept_step tree c cs false is = refl

or_true : (a b c : Bool) → (b ≡ true → c ≡ true) → (a || b) ≡ true → (a || c) ≡ true
or_true true b c later is = refl
or_true false b c later is = later is

-- what is among the first cursors is kept
pub among_kept : (n : ℕ) (tree : Option Tree) (kept : List Cursor) → among n tree kept ≡ true → is_kept kept tree ≡ true
among_kept n tree [] is = cc is
among_kept zero tree (c ∷ cs) is = cc is
among_kept (suc n) tree (c ∷ cs) is = kept_step tree c cs (is_for tree c) refl ∙ or_true (is_for tree c) (among n tree cs) (is_kept cs tree) (among_kept n tree cs) is

among_more : (n : ℕ) (tree : Option Tree) (kept : List Cursor) → among n tree kept ≡ true → among (suc n) tree kept ≡ true
among_more n tree [] is = cc is
among_more zero tree (c ∷ cs) is = cc is
among_more (suc n) tree (c ∷ cs) is = or_true (is_for tree c) (among n tree cs) (among (suc n) tree cs) (among_more n tree cs) is

among_take : (n m : ℕ) (tree : Option Tree) (kept : List Cursor) → n ≤ m → among n tree kept ≡ true → among n tree (take m kept) ≡ true
among_take n m tree [] few is = cc is
among_take zero m tree (c ∷ cs) few is = cc is
among_take (suc n) zero tree (c ∷ cs) few is = absurd (omega (arith, few))
among_take (suc n) (suc m) tree (c ∷ cs) few is = or_true (is_for tree c) (among n tree cs) (among n tree (take m cs)) (among_take n m tree cs (omega (arith, few))) is

-- a cursor that is taken away for another tree
out_cases : (n : ℕ) (tree other : Option Tree) (c : Cursor) (cs : List Cursor) (here out : Bool) → is_for tree c ≡ here → is_for other c ≡ out → same_tree other tree ≡ false
    → (here || among n tree cs) ≡ true → (among n tree cs ≡ true → among n tree (without_tree other cs) ≡ true)
    → among (suc n) tree (cond out cs (c ∷ without_tree other cs)) ≡ true
out_cases n tree other c cs true true test gone apart is later =
    let same : same_tree other tree ≡ true = ap (λ (t : Option Tree). same_tree t tree) (sym (same-equal c.tree other gone)) ∙ test in
    let clash : false ≡ true = sym apart ∙ same in
    cc clash
out_cases n tree other c cs false true test gone apart is later = among_more n tree cs is
out_cases n tree other c cs true false test gone apart is later = ap (λ (b : Bool). b || among n tree (without_tree other cs)) test
out_cases n tree other c cs false false test gone apart is later = ap (λ (b : Bool). b || among n tree (without_tree other cs)) test ∙ later is

among_without : (n : ℕ) (tree other : Option Tree) (kept : List Cursor) → same_tree other tree ≡ false → among n tree kept ≡ true → among n tree (without_tree other kept) ≡ true
among_without n tree other [] apart is = cc is
among_without zero tree other (c ∷ cs) apart is = cc is
among_without (suc n) tree other (c ∷ cs) apart is = out_cases n tree other c cs (is_for tree c) (is_for other c) refl refl apart is (among_without n tree other cs apart)

front_cases : (n : ℕ) (tree other : Option Tree) (kept : List Cursor) (b : Bool) → same_tree other tree ≡ b → among n tree kept ≡ true → (b || among n tree (without_tree other kept)) ≡ true
front_cases n tree other kept true same is = refl
front_cases n tree other kept false same is = among_without n tree other kept same is

-- Keeping another condition moves one that is kept back by one place at most.
pub among-with : (n : ℕ) (tree other : Option Tree) (kept : List Cursor) → suc n ≤ kept_limit → among n tree kept ≡ true → among (suc n) tree (with_kept other kept) ≡ true
among-with n tree other kept few is =
    let front : Cursor = record { tree = other; from = begin_of kept other } in
    among_take (suc n) kept_limit tree (front ∷ without_tree other kept) few (front_cases n tree other kept (same_tree other tree) refl is)

-- and the condition itself comes to the front
pub among-first : (tree : Option Tree) (kept : List Cursor) → among 1 tree (with_kept tree kept) ≡ true
among-first tree kept =
    let front : Cursor = record { tree = tree; from = begin_of kept tree } in
    among_take 1 kept_limit tree (front ∷ without_tree tree kept) (omega arith) (ap (λ (b : Bool). b || among 0 tree (without_tree tree kept)) (same-refl tree))

pub among-each : (n : ℕ) (tree : Option Tree) (trees : List (Option Tree)) (kept : List Cursor) → n + length trees ≤ kept_limit → among n tree kept ≡ true → among (n + length trees) tree (with_each_kept trees kept) ≡ true
among-each n tree [] kept few is = subst (λ (m : ℕ). among m tree kept ≡ true) (omega arith) is
among-each n tree (t ∷ ts) kept few is =
    subst (λ (m : ℕ). among m tree (with_each_kept ts (with_kept t kept)) ≡ true) (omega arith)
    (among-each (suc n) tree ts (with_kept t kept) (omega (arith, few)) (among-with n tree t kept (omega (arith, few)) is))

pub kept-each : (trees : List (Option Tree)) (kept : List Cursor) → length trees ≤ kept_limit → All (λ tree. is_kept (with_each_kept trees kept) tree ≡ true) trees
kept-each [] kept few = All-nil (λ (tree : Option Tree). is_kept kept tree ≡ true)
kept-each (t ∷ ts) kept few =
    All-cons (λ (tree : Option Tree). is_kept (with_each_kept ts (with_kept t kept)) tree ≡ true) t ts
    (among_kept (1 + length ts) t (with_each_kept ts (with_kept t kept)) (among-each 1 t ts (with_kept t kept) (omega (arith, few)) (among-first t kept)))
    (kept-each ts (with_kept t kept) (omega (arith, few)))
