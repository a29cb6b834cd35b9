-- The tokens of a text.
use Rattle.std.specs.Prelude.{ℕ, zero, suc, ◌+◌, ◌-◌, ◌*◌, ◌^◌, List, [], ◌∷◌, ◌++◌, length, map, Bool, true, false, ◌&&◌, ◌||◌, ◌==◌, nat_lt, nat_le, if◌then◌else◌, Option, Some, None, pos, slice_index}
use Rattle.std.specs.Str.{bytes_eq}
use Rattle.q4_value.specs.declared.column.Column.{Column}
use Rattle.q4_cond.specs.declared.tree.Operator.TheVariants.{Or, And, Equal, Unequal, Below, AtMost, Above, AtLeast, Add, Subtract, Multiply, Divide, Remainder}
use Rattle.q4_cond.specs.declared.tree.Atom.TheVariants.{Column as named, Number, Text}
use Rattle.q4_cond.specs.declared.tree.Front.{Front}
use Rattle.q4_cond.specs.declared.tree.Token.{Token}
use Rattle.q4_cond.specs.declared.tree.Token.TheVariants.{Operand, Sign, Not, Open, Close, Bad}

-- a letter from a to z
abbrev pub is_letter : ℕ → Bool
is_letter b = nat_le 97 b && nat_le b 122

abbrev pub is_digit : ℕ → Bool
is_digit b = nat_le 48 b && nat_le b 57

-- a letter, a digit or `_`
abbrev pub is_word_byte : ℕ → Bool
is_word_byte b = is_letter b || (is_digit b || b == 95)

-- the longest run of letters, digits and `_` at the front
abbrev pub word_run : List ℕ → List ℕ
word_run [] = []
word_run (b ∷ bs) = if is_word_byte b then b ∷ word_run bs else []

-- the place of the first column of this name, or the number of columns where none has it
abbrev pub place_of : List (List ℕ) → List ℕ → ℕ
place_of [] w = 0
place_of (n ∷ ns) w = if bytes_eq n w then 0 else suc (place_of ns w)

-- a word: `or`, `and` and `not` are no columns
abbrev pub word_token : List (List ℕ) → List ℕ → Token
word_token names w =
    if bytes_eq w (111 ∷ 114 ∷ []) then Sign Or
    else (if bytes_eq w (97 ∷ 110 ∷ 100 ∷ []) then Sign And
    else (if bytes_eq w (110 ∷ 111 ∷ 116 ∷ []) then Not
    else Operand (named (place_of names w))))

-- the number that the digits make behind n, or none where a byte is no digit
abbrev pub digits_from : ℕ → List ℕ → Option ℕ
digits_from n [] = Some n
digits_from n (b ∷ bs) = if is_digit b then digits_from (10 * n + (b - 48)) bs else None

-- a number has at most 127 bits
abbrev pub numeral : Option ℕ → Token
numeral None = Bad
numeral (Some n) = if nat_lt n (2 ^ 127) then Operand (Number (pos n)) else Bad

-- a run that begins with a digit: a canonical number, or no token. `0` begins no other number
abbrev pub number_token : List ℕ → Token
number_token w = if slice_index w 0 == 48 && nat_lt 1 (length w) then Bad else numeral (digits_from 0 w)

-- what follows a text's first quote: the text, and the bytes up to and with its last quote
pub record Quoted : Type 0 where
  pub text : List ℕ
  pub size : ℕ

abbrev pub longer : Option Quoted → Option Quoted
longer None = None
longer (Some q) = Some (record { text = q.text; size = suc q.size })

abbrev pub with_byte : ℕ → Option Quoted → Option Quoted
with_byte b None = None
with_byte b (Some q) = Some (record { text = b ∷ q.text; size = suc q.size })

-- one byte of a text; `open` says that it stands behind a quote that ends the text, unless this byte is a quote too
abbrev pub quoted_byte : Bool → ℕ → Option Quoted → Option Quoted
quoted_byte false b rest = if b == 39 then longer rest else with_byte b rest
quoted_byte true b rest = if b == 39 then with_byte 39 rest else Some (record { text = []; size = 0 })

-- two quotes side by side are one quote of the text
abbrev pub quoted : Bool → List ℕ → Option Quoted
quoted false [] = None
quoted true [] = Some (record { text = []; size = 0 })
quoted false (b ∷ bs) = quoted_byte false b (quoted (b == 39) bs)
quoted true (b ∷ bs) = quoted_byte true b (quoted false bs)

-- a text without its end is no token, and takes all that follows
abbrev pub text_front : List ℕ → Option Quoted → Front
text_front bs None = record { token = Bad; size = suc (length bs) }
text_front bs (Some q) = record { token = Operand (Text q.text); size = suc q.size }

abbrev pub one_byte : Token → Front
one_byte t = record { token = t; size = 1 }

abbrev pub two_bytes : Token → Front
two_bytes t = record { token = t; size = 2 }

-- a sign of one byte or two, by its first byte and the next; any other byte is no token
abbrev pub sign_front : ℕ → ℕ → Front
sign_front b next =
    if b == 61 then one_byte (Sign Equal)
    else (if b == 60 then (if next == 62 then two_bytes (Sign Unequal) else (if next == 61 then two_bytes (Sign AtMost) else one_byte (Sign Below)))
    else (if b == 62 then (if next == 61 then two_bytes (Sign AtLeast) else one_byte (Sign Above))
    else (if b == 43 then one_byte (Sign Add)
    else (if b == 45 then one_byte (Sign Subtract)
    else (if b == 42 then one_byte (Sign Multiply)
    else (if b == 47 then one_byte (Sign Divide)
    else (if b == 37 then one_byte (Sign Remainder)
    else (if b == 40 then one_byte Open
    else (if b == 41 then one_byte Close
    else one_byte Bad)))))))))

abbrev pub run_front : Token → List ℕ → Front
run_front t run = record { token = t; size = length run }

-- the longest token at the front of a text that begins with no space
abbrev pub front_of : List (List ℕ) → List ℕ → Front
front_of names [] = one_byte Bad
front_of names (b ∷ bs) =
    if is_letter b then run_front (word_token names (word_run (b ∷ bs))) (word_run (b ∷ bs))
    else (if is_digit b then run_front (number_token (word_run (b ∷ bs))) (word_run (b ∷ bs))
    else (if b == 39 then text_front bs (quoted false bs)
    else sign_front b (slice_index bs 0)))

-- a token, and its place in the text
pub record Placed : Type 0 where
  pub place : ℕ
  pub token : Token

-- the token that begins here, unless a space stands here
abbrev pub token_here : List (List ℕ) → ℕ → List ℕ → List Placed
token_here names place [] = []
token_here names place (b ∷ bs) = if b == 32 then [] else record { place = place; token = (front_of names (b ∷ bs)).token } ∷ []

-- how many bytes behind this one belong to what begins here
abbrev pub bytes_behind : List (List ℕ) → List ℕ → ℕ
bytes_behind names [] = 0
bytes_behind names (b ∷ bs) = if b == 32 then 0 else (front_of names (b ∷ bs)).size - 1

-- the tokens behind the first `inside` bytes, which belong to an earlier one
abbrev pub tokens_from : List (List ℕ) → ℕ → ℕ → List ℕ → List Placed
tokens_from names inside place [] = []
tokens_from names zero place (b ∷ bs) = token_here names place (b ∷ bs) ++ tokens_from names (bytes_behind names (b ∷ bs)) (suc place) bs
tokens_from names (suc inside) place (b ∷ bs) = tokens_from names inside (suc place) bs

-- the tokens of a text, from left to right
abbrev pub tokens_of : List (List ℕ) → List ℕ → List Placed
tokens_of names text = tokens_from names 0 0 text

abbrev pub bare : List Placed → List Token
bare ps = map (λ p. p.token) ps

abbrev pub names_of : List Column → List (List ℕ)
names_of columns = map (λ c. c.name) columns
