-- What columns take, wider ones take too.
use Rattle.std.proofs.Common.{◌≡◌, ◌≢◌, ℕ, zero, suc, ◌⊎◌, Bool, true, false, List, [], ◌∷◌, ◌++◌, Some, length, get_or, inl, inr, refl, sym, ap, subst, ◌∙◌, arith}
use Rattle.std.specs.List.{All, slice_get, slice_set}
use Rattle.q4_value.specs.declared.column.Column.{Column}
use Rattle.q4_value.specs.declared.row.Value.{Value}
use Rattle.q4_value.specs.declared.row.Value.TheVariants.{Int, Word, Null}
use Rattle.q4_value.specs.Row.{Takes, TakeEach, IsRowOf, IsWider, AreWider, Fits}
use Rattle.q4_value.specs.Names.{IsColumnName, AreColumns}

pub is_wider-refl : (c : Column) → IsWider c c
is_wider-refl c = record { name = refl; kind = refl; optional = λ is. is }

-- columns are as wide as themselves
pub wider-refl : (columns : List Column) → AreWider columns columns
wider-refl [] = tt
wider-refl (c ∷ cs) = (is_wider-refl c, wider-refl cs)

-- a column that takes no null any more takes less
pub wider-set : (columns : List Column) (i : ℕ) (c : Column) → slice_get columns i ≡ Some c → AreWider columns (slice_set columns i (record c { optional = false }))
wider-set [] i c at = tt
wider-set (d ∷ ds) zero c at =
    let same : d ≡ c = cc in
    (record { name = ap (λ (x : Column). x.name) same; kind = ap (λ (x : Column). x.kind) same; optional = λ is. absurd cc }, wider-refl ds)
wider-set (d ∷ ds) (suc i) c at = (is_wider-refl d, wider-set ds i c at)

-- there are as many
pub length-wider : (wide narrow : List Column) → AreWider wide narrow → length wide ≡ length narrow
length-wider [] [] w = refl
length-wider [] (d ∷ ds) w = absurd w
length-wider (c ∷ cs) [] w = absurd w
length-wider (c ∷ cs) (d ∷ ds) w = ap suc (length-wider cs ds w.1)

pub wider-push : (wide narrow : List Column) (c d : Column) → AreWider wide narrow → IsWider c d → AreWider (wide ++ c ∷ []) (narrow ++ d ∷ [])
wider-push [] [] c d w is = (is, tt)
wider-push [] (e ∷ es) c d w is = absurd w
wider-push (x ∷ xs) [] c d w is = absurd w
wider-push (x ∷ xs) (e ∷ es) c d w is = (w.0, wider-push xs es c d w.1 is)

-- behind columns and wider ones the same ones may stand
pub wider_join : (wide narrow rest : List Column) → AreWider wide narrow → AreWider (wide ++ rest) (narrow ++ rest)
wider_join [] [] rest w = wider-refl rest
wider_join [] (d ∷ ds) rest w = absurd w
wider_join (c ∷ cs) [] rest w = absurd w
wider_join (c ∷ cs) (d ∷ ds) rest w = (w.0, wider_join cs ds rest w.1)

-- columns and wider ones front by front
pub wider_apart : (wide narrow rest other : List Column) → length wide ≡ length narrow → AreWider (wide ++ rest) (narrow ++ other) → AreWider wide narrow × AreWider rest other
wider_apart [] [] rest other len w = (tt, w)
wider_apart [] (d ∷ ds) rest other len w = let none : ⊥ = omega (arith, len) in absurd none
wider_apart (c ∷ cs) [] rest other len w = let none : ⊥ = omega (arith, len) in absurd none
wider_apart (c ∷ cs) (d ∷ ds) rest other len w =
    let shorter : length cs ≡ length ds = omega (arith, len) in
    let deeper = wider_apart cs ds rest other shorter w.1 in ((w.0, deeper.0), deeper.1)

takes-wider : (wide narrow : Column) (v : Value) → IsWider wide narrow → Takes narrow v → Takes wide v
takes-wider wide narrow (Int number) w takes = w.kind ∙ takes
takes-wider wide narrow (Word text) w takes = w.kind ∙ takes
takes-wider wide narrow Null w takes = w.optional takes

take_each-wider : (wide narrow : List Column) (row : List Value) → AreWider wide narrow → TakeEach narrow row → TakeEach wide row
take_each-wider [] [] row w each = each
take_each-wider [] (d ∷ ds) row w each = absurd w
take_each-wider (c ∷ cs) [] row w each = absurd w
take_each-wider (c ∷ cs) (d ∷ ds) [] w each = absurd each
take_each-wider (c ∷ cs) (d ∷ ds) (v ∷ vs) w each = (takes-wider c d v w.0 each.0, take_each-wider cs ds vs w.1 each.1)

-- a row of columns is a row of wider ones
pub row-wider : (wide narrow : List Column) (row : List Value) → AreWider wide narrow → IsRowOf narrow row → IsRowOf wide row
row-wider wide narrow row w is = record { taken = take_each-wider wide narrow row w is.taken; values = is.values }

pub fits-wider : (wide narrow : List Column) (row : List Value) → AreWider wide narrow → Fits narrow row → Fits wide row
fits-wider wide narrow row w fits = record { row_of = row-wider wide narrow row w fits.row_of; size = fits.size }

-- the columns of one place have one name
name-wider : (wide narrow : List Column) (i : ℕ) (d : Column) → AreWider wide narrow → (get_or wide i d).name ≡ (get_or narrow i d).name
name-wider [] [] i d w = refl
name-wider [] (e ∷ es) i d w = absurd w
name-wider (c ∷ cs) [] i d w = absurd w
name-wider (c ∷ cs) (e ∷ es) zero d w = w.0.name
name-wider (c ∷ cs) (e ∷ es) (suc i) d w = name-wider cs es i d w.1

-- what holds of each name of wide columns holds of those of narrower ones
pub names-narrower : (P : List ℕ → Type 0) (wide narrow : List Column) → AreWider wide narrow → All (λ column. P column.name) wide → All (λ column. P column.name) narrow
names-narrower P wide narrow w all i d lt = subst P (name-wider wide narrow i d w) (all i d (omega (arith, lt, length-wider wide narrow w)))

-- narrower columns are named as the wide ones
pub columns-narrower : (wide narrow : List Column) → AreWider wide narrow → AreColumns wide → AreColumns narrow
columns-narrower wide narrow w is =
    let len = length-wider wide narrow w in
    record {
      named = record {
        names = names-narrower IsColumnName wide narrow w is.named.names;
        once = λ i j d lt within same. is.named.once i j d lt (omega (arith, within, len)) (name-wider wide narrow i d w ∙ same ∙ sym (name-wider wide narrow j d w));
      };
      some = omega (arith, is.some, len);
      few = omega (arith, is.few, len);
    }

column_same_or_not : (c d : Column) → IsWider c d → (d ≡ c) ⊎ (d ≢ c)
column_same_or_not c d w = go c.optional d.optional refl refl
  where
    go : (p q : Bool) → c.optional ≡ p → d.optional ≡ q → (d ≡ c) ⊎ (d ≢ c)
    go false false e f = inl (λ i. record { name = sym w.name i; kind = sym w.kind i; optional = (f ∙ sym e) i })
    go false true e f = inr (λ same. let optional : d.optional ≡ c.optional = ap (λ (x : Column). x.optional) same in absurd cc)
    go true false e f = inr (λ same. let optional : d.optional ≡ c.optional = ap (λ (x : Column). x.optional) same in absurd cc)
    go true true e f = inl (λ i. record { name = sym w.name i; kind = sym w.kind i; optional = (f ∙ sym e) i })

-- columns are the wide ones, or others
pub same_or_not : (wide narrow : List Column) → AreWider wide narrow → (narrow ≡ wide) ⊎ (narrow ≢ wide)
same_or_not [] [] w = inl refl
same_or_not [] (d ∷ ds) w = absurd w
same_or_not (c ∷ cs) [] w = absurd w
same_or_not (c ∷ cs) (d ∷ ds) w = elim (column_same_or_not c d w.0) [
  | inr other ↦ inr (λ same. other cc)
  | inl here ↦ elim (same_or_not cs ds w.1) [
    | inr others ↦ inr (λ same. others cc)
    | inl rest ↦ inl (λ i. here i ∷ rest i)
  ]
]
