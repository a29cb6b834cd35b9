-- How a text is read token by token.
use Rattle.std.proofs.Common.{◌≡◌, ℕ, zero, suc, ◌+◌, ◌-◌, ◌<◌, ◌≤◌, List, [], ◌∷◌, ◌++◌, Bool, true, false, Option, Some, None, length, get_or, drop, refl, sym, ap, ap₂, ◌∙◌, subst, cond, arith, append_assoc, append-nil, add-one, eqb, eq-eqb, ne_eqb, inl, drop-drop}
use Rattle.std.specs.Prelude.{nat_lt}
use Rattle.std.proofs.lemmas.List.{drop_more, map-append}
use Rattle.std.proofs.lemmas.Bool.{cond-true, cond-false}
use Rattle.q4_value.specs.declared.column.Column.{Column}
use Rattle.q4_cond.specs.declared.tree.Atom.TheVariants.{Column as named, Number, Text}
use Rattle.q4_cond.specs.declared.tree.Front.{Front}
use Rattle.q4_cond.specs.declared.tree.Token.{Token}
use Rattle.q4_cond.specs.declared.tree.Token.TheVariants.{Operand, Sign, Not, Open, Close, Bad}
use Rattle.q4_cond.specs.declared.reader.Step.{Step}
use Rattle.q4_cond.specs.declared.reader.Step.TheVariants.{Taken, Refused, TooDeep}
use Rattle.q4_cond.specs.Machine.{State, Wants, step, run, StepSays}
use Rattle.q4_cond.specs.Tokens.{Placed, bare, tokens_from, token_here, bytes_behind, front_of, names_of}
use Rattle.q4_cond.specs.Reading.{atom_here, atom_places, unknown_here, first_unknown, IsAt, IsDeep}
use Rattle.q4_cond.specs.Scanned.{Scanned, first_of}
use Rattle.q4_cond.proofs.ReaderSteps.{run_then, run_step}
use Rattle.q4_cond.proofs.Sound.{run_begins}
use Rattle.q4_cond.proofs.Verdicts.{refused_within, refused_all, taken_begins}

pub tokens_skip : (names : List (List ℕ)) (k p : ℕ) (s : List ℕ) → tokens_from names k p s ≡ tokens_from names 0 (p + k) (drop k s)
tokens_skip names zero p s = let e : p ≡ p + 0 = omega arith in ap (λ q. tokens_from names 0 q s) e
tokens_skip names (suc k) p [] = refl
tokens_skip names (suc k) p (b ∷ s) =
    let e : suc p + k ≡ p + suc k = omega arith in
    tokens_skip names k (suc p) s ∙ ap (λ q. tokens_from names 0 q (drop k s)) e

pub space_first : (names : List (List ℕ)) (p b : ℕ) (s : List ℕ) → b ≡ 32 → tokens_from names 0 p (b ∷ s) ≡ tokens_from names 0 (p + 1) s
space_first names p b s e =
    ap₂ (λ h k. h ++ tokens_from names k (suc p) s) (cond-true (eqb b 32) [] _ (eq-eqb b 32 e)) (cond-true (eqb b 32) 0 _ (eq-eqb b 32 e))
    ∙ ap (λ q. tokens_from names 0 q s) (sym (rw add-one refl))

skipped : (names : List (List ℕ)) (p b : ℕ) (s : List ℕ) (n : ℕ) → 0 < n → tokens_from names 0 (suc p + (n - 1)) (drop (n - 1) s) ≡ tokens_from names 0 (p + n) (drop n (b ∷ s))
skipped names p b s zero some = absurd (omega arith)
skipped names p b s (suc n) some =
    let e : suc p + (suc n - 1) ≡ p + suc n = omega arith in
    let f : suc n - 1 ≡ n = omega arith in
    ap₂ (λ q k. tokens_from names 0 q (drop k s)) e f

pub token_first : (names : List (List ℕ)) (p b : ℕ) (s : List ℕ) (f : Front) → (b ≡ 32 → ⊥) → f ≡ front_of names (b ∷ s) → 0 < f.size → tokens_from names 0 p (b ∷ s) ≡ record { place = p; token = f.token } ∷ tokens_from names 0 (p + f.size) (drop f.size (b ∷ s))
token_first names p b s f ne e some =
    let head : token_here names p (b ∷ s) ≡ record { place = p; token = f.token } ∷ [] =
    cond-false (eqb b 32) [] _ (ne_eqb b 32 ne) ∙ ap (λ g. record { place = p; token = g.token } ∷ []) (sym e) in
    let behind : bytes_behind names (b ∷ s) ≡ f.size - 1 = cond-false (eqb b 32) 0 _ (ne_eqb b 32 ne) ∙ ap (λ g. g.size - 1) (sym e) in
    ap₂ (λ h k. h ++ tokens_from names k (suc p) s) head behind
    ∙ ap (λ r. record { place = p; token = f.token } ∷ r) (tokens_skip names (f.size - 1) (suc p) s ∙ skipped names p b s f.size some)

-- the tokens from a place on
abbrev pub rest_from : List Column → List ℕ → ℕ → List Placed
rest_from columns text p = tokens_from (names_of columns) 0 p (drop p text)

rest_space : (columns : List Column) (text : List ℕ) (p : ℕ) → p < length text → get_or text p 0 ≡ 32 → rest_from columns text p ≡ rest_from columns text (p + 1)
rest_space columns text p h e = ap (λ s. tokens_from (names_of columns) 0 p s) (drop_more text p 0 h) ∙ space_first (names_of columns) p (get_or text p 0) (drop (p + 1) text) e

rest_token : (columns : List Column) (text : List ℕ) (p : ℕ) (f : Front) → p < length text → (get_or text p 0 ≡ 32 → ⊥) → f ≡ front_of (names_of columns) (drop p text) → 0 < f.size → rest_from columns text p ≡ record { place = p; token = f.token } ∷ rest_from columns text (p + f.size)
rest_token columns text p f h ne e some =
    let d = drop_more text p 0 h in
    let names = names_of columns in
    ap (λ s. tokens_from names 0 p s) d
    ∙ (token_first names p (get_or text p 0) (drop (p + 1) text) f ne (e ∙ ap (front_of names) d) some
    ∙ ap (λ s. record { place = p; token = f.token } ∷ tokens_from names 0 (p + f.size) s) (ap (drop f.size) (sym d) ∙ drop-drop f.size p text))

pub scanned_space : (columns : List Column) (text : List ℕ) (p : ℕ) (s : State) (atoms : List ℕ) (unknown : Option ℕ) → p < length text → get_or text p 0 ≡ 32 → Scanned columns text p s atoms unknown → Scanned columns text (p + 1) s atoms unknown
scanned_space columns text p s atoms unknown h e r =
    record { seen = r.seen; split = r.split ∙ ap (λ l. r.seen ++ l) (rest_space columns text p h e); read = r.read; places = r.places; unnamed = r.unnamed }

places-append : (xs ys : List Placed) → atom_places (xs ++ ys) ≡ atom_places xs ++ atom_places ys
places-append [] ys = refl
places-append (x ∷ xs) ys = ap (λ l. atom_here x.place x.token ++ l) (places-append xs ys) ∙ sym (append_assoc (atom_here x.place x.token) (atom_places xs) (atom_places ys))

cond_first : (b : Bool) (p : ℕ) (r o : Option ℕ) → cond b (first_of r o) (Some p) ≡ first_of (cond b r (Some p)) o
cond_first true p r o = refl
cond_first false p r o = refl

unknown_first : (count p : ℕ) (t : Token) (r o : Option ℕ) → unknown_here count p t (first_of r o) ≡ first_of (unknown_here count p t r) o
unknown_first count p (Operand (named c)) r o = cond_first (nat_lt c count) p r o
unknown_first count p (Operand (Number n)) r o = refl
unknown_first count p (Operand (Text s)) r o = refl
unknown_first count p (Sign op) r o = refl
unknown_first count p Not r o = refl
unknown_first count p Open r o = refl
unknown_first count p Close r o = refl
unknown_first count p Bad r o = refl

unknown-append : (count : ℕ) (xs ys : List Placed) → first_unknown count (xs ++ ys) ≡ first_of (first_unknown count xs) (first_unknown count ys)
unknown-append count [] ys = refl
unknown-append count (x ∷ xs) ys = ap (unknown_here count x.place x.token) (unknown-append count xs ys) ∙ unknown_first count x.place x.token (first_unknown count xs) (first_unknown count ys)

bare_push : (seen : List Placed) (p : ℕ) (t : Token) → bare (seen ++ record { place = p; token = t } ∷ []) ≡ bare seen ++ t ∷ []
bare_push seen p t = map-append (λ x. x.token) seen (record { place = p; token = t } ∷ [])

taken_step : (s new : State) (tok : Token) (says : Step) → says ≡ Taken → StepSays s tok new says → step 32 s tok ≡ Some new
taken_step s new tok says e h = subst (λ x. StepSays s tok new x) e h

pub scanned_token : (columns : List Column) (text : List ℕ) (p : ℕ) (s s0 new : State) (atoms atoms' : List ℕ) (unknown unknown' : Option ℕ) (f : Front) (says : Step) → p < length text → (get_or text p 0 ≡ 32 → ⊥) → f ≡ front_of (names_of columns) (drop p text) → 0 < f.size → s0 ≡ s → says ≡ Taken → StepSays s0 f.token new says → atoms' ≡ atoms ++ atom_here p f.token → unknown' ≡ first_of unknown (unknown_here (length columns) p f.token None) → Scanned columns text p s atoms unknown → Scanned columns text (p + f.size) new atoms' unknown'
scanned_token columns text p s s0 new atoms atoms' unknown unknown' f says h ne e some same taken st ea eu r =
    let here : Placed = record { place = p; token = f.token } in
    let goes : step 32 s f.token ≡ Some new = ap (λ x. step 32 x f.token) (sym same) ∙ taken_step s0 new f.token says taken st in
    record {
      seen = r.seen ++ here ∷ [];
      split = r.split ∙ (ap (λ l. r.seen ++ l) (rest_token columns text p f h ne e some) ∙ sym (append_assoc r.seen (here ∷ []) (rest_from columns text (p + f.size))));
      read = ap (λ l. run 32 (Wants [] []) l) (bare_push r.seen p f.token) ∙ run_then 32 (bare r.seen) (f.token ∷ []) (Wants [] []) s _ r.read (run_step 32 f.token [] s new _ goes refl);
      places = ea ∙ (ap (λ l. l ++ atom_here p f.token) r.places ∙ (ap (λ l. atom_places r.seen ++ l) (sym (append-nil _)) ∙ sym (places-append r.seen (here ∷ []))));
      unnamed = eu ∙ (ap (λ o. first_of o (unknown_here (length columns) p f.token None)) r.unnamed ∙ sym (unknown-append (length columns) r.seen (here ∷ [])));
    }

pub scanned_at : (columns : List Column) (text : List ℕ) (p : ℕ) (s s0 new : State) (atoms : List ℕ) (unknown : Option ℕ) (f : Front) (says : Step) → length text ≤ 1024 → p < length text → (get_or text p 0 ≡ 32 → ⊥) → f ≡ front_of (names_of columns) (drop p text) → 0 < f.size → s0 ≡ s → says ≡ Refused → StepSays s0 f.token new says → Scanned columns text p s atoms unknown → IsAt columns text p
scanned_at columns text p s s0 new atoms unknown f says short h ne e some same refused st r =
    let stop : (n : ℕ) → step n s f.token ≡ None = λ n. ap (λ x. step n x f.token) (sym same) ∙ subst (λ x. StepSays s0 f.token new x) refused st n in
    record {
      short = short;
      place = inl (record {
        before = r.seen;
        token = f.token;
        after = rest_from columns text (p + f.size);
        split = r.split ∙ ap (λ l. r.seen ++ l) (rest_token columns text p f h ne e some);
        begins = run_begins 32 (bare r.seen) s r.read;
        stops = refused_all 32 (bare r.seen) f.token s r.read stop;
      });
    }

pub scanned_deep : (columns : List Column) (text : List ℕ) (p : ℕ) (s s0 new : State) (atoms : List ℕ) (unknown : Option ℕ) (f : Front) (says : Step) → length text ≤ 1024 → p < length text → (get_or text p 0 ≡ 32 → ⊥) → f ≡ front_of (names_of columns) (drop p text) → 0 < f.size → s0 ≡ s → says ≡ TooDeep → StepSays s0 f.token new says → Scanned columns text p s atoms unknown → IsDeep columns text p
scanned_deep columns text p s s0 new atoms unknown f says short h ne e some same deep st r =
    let t = subst (λ x. StepSays s0 f.token new x) deep st in
    let stop : step 32 s f.token ≡ None = ap (λ x. step 32 x f.token) (sym same) ∙ t.0 in
    let goes : step t.1 s f.token ≡ Some t.3 = ap (λ x. step t.1 x f.token) (sym same) ∙ t.4 in
    record {
      short = short;
      place = record {
        before = r.seen;
        token = f.token;
        after = rest_from columns text (p + f.size);
        split = r.split ∙ ap (λ l. r.seen ++ l) (rest_token columns text p f h ne e some);
        begins = run_begins 32 (bare r.seen) s r.read;
        goes_on = (t.1, taken_begins 32 t.1 (bare r.seen) f.token s t.3 t.2 r.read goes);
        too_deep = refused_within 32 32 (bare r.seen) f.token s r.read stop;
      };
    }
