-- What a condition means for a row.
use Rattle.std.specs.Prelude.{ℕ, ◌^◌, List, Bool, true, false, not, ◌||◌, nat_lt, if◌then◌else◌, Option, Some, None, ℤ, pos, negsuc, ◌+ℤ◌, ◌-ℤ◌, ◌*ℤ◌, neg_ℤ, int_div, int_rem, int_lt, int_le, slice_get}
use Rattle.std.specs.Ordering.{int_eq}
use Rattle.std.specs.Str.{bytes_eq}
use Rattle.q4_value.specs.declared.row.Value.{Value}
use Rattle.q4_value.specs.declared.row.Value.TheVariants.{Int, Word, Null}
use Rattle.q4_cond.specs.declared.tree.Operator.{Operator}
use Rattle.q4_cond.specs.declared.tree.Operator.TheVariants.{Or, And, Equal, Unequal, Below, AtMost, Above, AtLeast, Add, Subtract, Multiply, Divide, Remainder}
use Rattle.q4_cond.specs.declared.tree.Atom.{Atom}
use Rattle.q4_cond.specs.declared.tree.Atom.TheVariants.{Column as named, Number, Text}
use Rattle.q4_cond.specs.Tree.{Tree, Simple, Two, NotOf, MinusOf}

-- a whole number, or absent, as a null is; or the bytes of a text atom, which only `=` and `<>` look at
pub data Meaning : Type 0 where
  Absent : Meaning
  Whole : ℤ → Meaning
  Words : List ℕ → Meaning

-- at least -2^127 and less than 2^127
abbrev pub fits_128 : ℤ → Bool
fits_128 (pos n) = nat_lt n (2 ^ 127)
fits_128 (negsuc n) = nat_lt n (2 ^ 127)

-- the exact result, or absent where it has more than 128 bits
abbrev pub in_range : ℤ → Option ℤ
in_range z = if fits_128 z then Some z else None

-- division truncates toward zero
abbrev pub quotient : ℤ → ℤ → Option ℤ
quotient x y = if int_eq y (pos 0) then None else in_range (int_div x y)

-- the remainder has the sign of the left operand
abbrev pub remainder : ℤ → ℤ → Option ℤ
remainder x y = if int_eq y (pos 0) then None else in_range (int_rem x y)

abbrev pub number : Option ℤ → Meaning
number None = Absent
number (Some z) = Whole z

abbrev pub truth : Bool → Meaning
truth true = Whole (pos 1)
truth false = Whole (pos 0)

-- absent where an operand is
abbrev pub numbers : (ℤ → ℤ → Meaning) → Meaning → Meaning → Meaning
numbers f (Whole x) (Whole y) = f x y
numbers f (Whole x) Absent = Absent
numbers f (Whole x) (Words t) = Absent
numbers f Absent b = Absent
numbers f (Words s) b = Absent

-- texts compare by their bytes, and numbers by their values; a side that is absent, as a null text is, makes it absent
abbrev pub equal : (Bool → Bool) → Meaning → Meaning → Meaning
equal f (Whole x) (Whole y) = truth (f (int_eq x y))
equal f (Whole x) Absent = Absent
equal f (Whole x) (Words t) = Absent
equal f Absent b = Absent
equal f (Words s) (Words t) = truth (f (bytes_eq s t))
equal f (Words s) (Whole y) = Absent
equal f (Words s) Absent = Absent

-- present and 0
abbrev pub is_zero : Meaning → Bool
is_zero Absent = false
is_zero (Whole z) = int_eq z (pos 0)
is_zero (Words s) = false

-- present and not 0
abbrev pub is_true : Meaning → Bool
is_true Absent = false
is_true (Whole z) = not (int_eq z (pos 0))
is_true (Words s) = false

abbrev pub is_absent : Meaning → Bool
is_absent Absent = true
is_absent (Whole z) = false
is_absent (Words s) = true

-- 0 if a side is present and 0; else absent if a side is absent; else 1
abbrev pub and_of : Meaning → Meaning → Meaning
and_of a b = if is_zero a || is_zero b then Whole (pos 0) else (if is_absent a || is_absent b then Absent else Whole (pos 1))

-- 1 if a side is present and not 0; else absent if a side is absent; else 0
abbrev pub or_of : Meaning → Meaning → Meaning
or_of a b = if is_true a || is_true b then Whole (pos 1) else (if is_absent a || is_absent b then Absent else Whole (pos 0))

-- absent of absent, 1 of 0, 0 of any other
abbrev pub not_of : Meaning → Meaning
not_of a = if is_absent a then Absent else truth (is_zero a)

abbrev pub minus_of : Meaning → Meaning
minus_of Absent = Absent
minus_of (Whole z) = number (in_range (neg_ℤ z))
minus_of (Words s) = Absent

abbrev pub two_of : Operator → Meaning → Meaning → Meaning
two_of Or = or_of
two_of And = and_of
two_of Equal = equal (λ b. b)
two_of Unequal = equal not
two_of Below = numbers (λ x y. truth (int_lt x y))
two_of AtMost = numbers (λ x y. truth (int_le x y))
two_of Above = numbers (λ x y. truth (int_lt y x))
two_of AtLeast = numbers (λ x y. truth (int_le y x))
two_of Add = numbers (λ x y. number (in_range (x +ℤ y)))
two_of Subtract = numbers (λ x y. number (in_range (x -ℤ y)))
two_of Multiply = numbers (λ x y. number (in_range (x *ℤ y)))
two_of Divide = numbers (λ x y. number (quotient x y))
two_of Remainder = numbers (λ x y. number (remainder x y))

-- the value of a column: of numbers and of texts a null is absent
abbrev pub cell : Option Value → Meaning
cell None = Absent
cell (Some (Int n)) = Whole n
cell (Some (Word w)) = Words w
cell (Some Null) = Absent

abbrev pub atom_of : List Value → Atom → Meaning
atom_of row (named c) = cell (slice_get row c)
atom_of row (Number n) = Whole n
atom_of row (Text s) = Words s

abbrev pub value_of : List Value → Tree → Meaning
value_of row (Simple a) = atom_of row a
value_of row (Two op t u) = two_of op (value_of row t) (value_of row u)
value_of row (NotOf t) = not_of (value_of row t)
value_of row (MinusOf t) = minus_of (value_of row t)

-- a row meets a condition whose value is present and not 0; every row meets the empty one
abbrev pub meets : List Value → Option Tree → Bool
meets row None = true
meets row (Some t) = is_true (value_of row t)
