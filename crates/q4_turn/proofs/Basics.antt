-- Totals over views, and lists that begin with others.
use Rattle.std.proofs.Common.{◌≡◌, ◌≢◌, ℕ, zero, suc, ◌+◌, ◌<◌, ◌≤◌, eq-eqb, ne_eqb, Bool, true, false, cond, List, [], ◌∷◌, ◌++◌, length, get_or, set, refl, sym, ap, ap₂, ◌∙◌, subst, ⊎_elim, arith, length-append, append_assoc, append-nil}
use Rattle.std.specs.Prelude.{Option, Some}
use mathlib.Core.Option.{some, some-ne-none, some-injective}
use mathlib.Core.Logic.{dite}
use native.Mathlib.Decide.{ℕ_discrete, dec_lt}
use lib.ListN.{get_elem?}
use Rattle.atomic_table.specs.Table.{rest}
use Rattle.atomic_table.proofs.Lists.{at_set, at_snoc}
use Rattle.std.specs.Prelude.{◌==◌}
use Rattle.std.proofs.Math.Dec.{leb}
use Rattle.std.proofs.lemmas.Bool.Decides.{leb_tells}
use Rattle.std.proofs.lemmas.List.Elements.{filter-append}
use Rattle.q4_turn.specs.declared.view.JoinedPass.{JoinedPass}
use Rattle.q4_turn.specs.Lists.{total, Every, StartsWith, one_if, one_at, marked, longer, shorter}
use Rattle.q4_turn.specs.Views.{times}
use Rattle.q4_turn.specs.Rules.{IsClaim}

module _ {A : Type 0} where
  pub total_set : (f : A → ℕ) (l : List A) (i : ℕ) (a b : A) → get_elem? l i ≡ some a → total f (set l i b) + f a ≡ total f l + f b
  total_set f [] i a b e = absurd (some-ne-none a (sym e))
  total_set f (x ∷ xs) zero a b e = let is : f x ≡ f a = ap f (some-injective x a e) in omega arith
  total_set f (x ∷ xs) (suc i) a b e = let r = total_set f xs i a b e in omega arith

  -- where the change keeps f, it keeps the total
  pub total_kept : (f : A → ℕ) (l : List A) (i : ℕ) (a b : A) → get_elem? l i ≡ some a → f b ≡ f a → total f (set l i b) ≡ total f l
  total_kept f l i a b e same = let r = total_set f l i a b e in omega arith

  pub total_one : (f : A → ℕ) (l : List A) (i : ℕ) (a : A) → get_elem? l i ≡ some a → f a ≤ total f l
  total_one f [] i a e = absurd (some-ne-none a (sym e))
  total_one f (x ∷ xs) zero a e = let is : f x ≡ f a = ap f (some-injective x a e) in omega arith
  total_one f (x ∷ xs) (suc i) a e = let r = total_one f xs i a e in omega arith

  pub total_two : (f : A → ℕ) (l : List A) (i j : ℕ) (a b : A) → i ≢ j → get_elem? l i ≡ some a → get_elem? l j ≡ some b → f a + f b ≤ total f l
  total_two f [] i j a b n e h = absurd (some-ne-none a (sym e))
  total_two f (x ∷ xs) zero zero a b n e h = absurd (n refl)
  total_two f (x ∷ xs) zero (suc j) a b n e h = let is : f x ≡ f a = ap f (some-injective x a e) in let r = total_one f xs j b h in omega arith
  total_two f (x ∷ xs) (suc i) zero a b n e h = let is : f x ≡ f b = ap f (some-injective x b h) in let r = total_one f xs i a e in omega arith
  total_two f (x ∷ xs) (suc i) (suc j) a b n e h = let r = total_two f xs i j a b (λ s. n (ap suc s)) e h in omega arith

  -- where the total isn't 0, there is one that isn't
  pub total_some : (f : A → ℕ) (l : List A) → 0 < total f l → (i : ℕ) × (a : A) × (get_elem? l i ≡ some a) × (0 < f a)
  total_some f [] h = absurd (omega arith)
  total_some f (x ∷ xs) h = dite (dec_lt 0 (f x)) (λ (y : 0 < f x). (zero, x, refl, y)) (λ n. let r = total_some f xs (omega arith) in (suc r.0, r.1, r.2, r.3))

  pub set_same : (l : List A) (i : ℕ) (d : A) → set l i (get_or l i d) ≡ l
  set_same [] i d = refl
  set_same (x ∷ xs) zero d = refl
  set_same (x ∷ xs) (suc i) d = ap (λ (l : List A). x ∷ l) (set_same xs i d)

  pub total_none : (f : A → ℕ) (l : List A) → ((j : ℕ) (u : A) → get_elem? l j ≡ some u → f u ≡ 0) → total f l ≡ 0
  total_none f [] h = refl
  total_none f (x ∷ xs) h = let a = h zero x refl in let r = total_none f xs (λ j u e. h (suc j) u e) in omega arith

  -- where no other counts, the total is that of the one
  pub total_only : (f : A → ℕ) (l : List A) (i : ℕ) (a : A) → get_elem? l i ≡ some a → ((j : ℕ) (u : A) → j ≢ i → get_elem? l j ≡ some u → f u ≡ 0) → total f l ≡ f a
  total_only f [] i a e h = absurd (some-ne-none a (sym e))
  total_only f (x ∷ xs) zero a e h = let is : f x ≡ f a = ap f (some-injective x a e) in let r = total_none f xs (λ j u g. h (suc j) u (λ z. omega arith) g) in omega arith
  total_only f (x ∷ xs) (suc i) a e h = let z = h zero x (λ n. omega arith) refl in let r = total_only f xs i a e (λ j u ne g. h (suc j) u (λ n. ne (omega arith)) g) in omega arith

  pub total-append : (f : A → ℕ) (l m : List A) → total f (l ++ m) ≡ total f l + total f m
  total-append f [] m = omega arith
  total-append f (x ∷ xs) m = let r = total-append f xs m in omega arith

  pub total-plus : (f g : A → ℕ) (l : List A) → total (λ x. f x + g x) l ≡ total f l + total g l
  total-plus f g [] = refl
  total-plus f g (x ∷ xs) = let r = total-plus f g xs in omega arith

  -- a total after one change and one more
  pub total_split : (f : A → ℕ) (l : List A) (i : ℕ) (a b c : A) → get_elem? l i ≡ some a → total f (set l i b ++ c ∷ []) + f a ≡ total f l + (f b + f c)
  total_split f l i a b c e = let r = total_set f l i a b e in let m = total-append f (set l i b) (c ∷ []) in omega arith

  -- a fact of each view, after a change of one
  pub each_set : (P : A → Type 0) (l : List A) (i : ℕ) (w : A) → ((j : ℕ) (u : A) → j ≢ i → get_elem? l j ≡ some u → P u) → P w → (j : ℕ) (u : A) → get_elem? (set l i w) j ≡ some u → P u
  each_set P l i w others mine j u e =
      ⊎_elim
      (λ (x : (j ≡ i) × (w ≡ u)). subst P x.1 mine)
      (λ (x : (j ≢ i) × (get_elem? l j ≡ some u)). others j u x.0 x.1)
      (at_set l i j w u e)

  pub each_split : (P : A → Type 0) (l : List A) (i : ℕ) (b c : A) → ((j : ℕ) (u : A) → j ≢ i → get_elem? l j ≡ some u → P u) → P b → P c → (j : ℕ) (u : A) → get_elem? (set l i b ++ c ∷ []) j ≡ some u → P u
  each_split P l i b c others left right j u e =
      ⊎_elim (λ (h : get_elem? (set l i b) j ≡ some u). each_set P l i b others left j u h) (λ (h : c ≡ u). subst P h right) (at_snoc (set l i b) c u j e)

  pub starts_self : (l : List A) → StartsWith l l
  starts_self l = ([], sym (append-nil l))

  pub each_gone : (P : A → Type 0) (l : List A) (i k : ℕ) (b c : A) → ((j : ℕ) (u : A) → get_elem? l j ≡ some u → P u) → P b → P c → (j : ℕ) (u : A) → get_elem? (set (set l i b) k c) j ≡ some u → P u
  each_gone P l i k b c others left right = each_set P (set l i b) k c (λ j u _ h. each_set P l i b (λ j' u' _ h'. others j' u' h') left j u h) right

  -- of two beginnings of one list the shorter begins the longer
  pub starts_both : (whole xs ys : List A) → StartsWith whole xs → StartsWith whole ys → length xs ≤ length ys → StartsWith ys xs
  starts_both whole [] ys a b le = (ys, refl)
  starts_both whole (x ∷ xs) [] a b le = absurd (omega arith)
  starts_both [] (x ∷ xs) (y ∷ ys) a b le = let e = a.1 in absurd (cc)
  starts_both (z ∷ zs) (x ∷ xs) (y ∷ ys) a b le =
      let e = a.1 in
      let e' = b.1 in
      let tail : zs ≡ xs ++ a.0 = cc in
      let tail' : zs ≡ ys ++ b.0 = cc in
      let same : y ≡ x = cc in
      let r = starts_both zs xs ys (a.0, tail) (b.0, tail') (omega arith) in
      (r.0, ap₂ (λ (h : A) (t : List A). h ∷ t) same r.1)

  longer_is : (xs ys : List A) (P : List A → Type 0) → (length xs ≤ length ys → P ys) → (length ys ≤ length xs → P xs) → P (longer xs ys)
  longer_is xs ys P le ge =
      ⊎_elim
      (λ (h : (leb (length xs) (length ys) ≡ true) × (length xs ≤ length ys)). subst (λ (b : Bool). P (cond b ys xs)) (sym h.0) (le h.1))
      (λ (h : (leb (length xs) (length ys) ≡ false) × (length ys < length xs)). subst (λ (b : Bool). P (cond b ys xs)) (sym h.0) (ge (let x = h.1 in omega arith)))
      (leb_tells (length xs) (length ys))

  shorter_is : (xs ys : List A) (P : List A → Type 0) → P xs → P ys → P (shorter xs ys)
  shorter_is xs ys P a b = elim (leb (length xs) (length ys)) as (λ t. P (cond t xs ys)) [ true ↦ a | false ↦ b ]

  pub starts_shorter : (whole xs ys : List A) → StartsWith whole xs → StartsWith whole ys → StartsWith whole (shorter xs ys)
  starts_shorter whole xs ys a b = shorter_is xs ys (λ l. StartsWith whole l) a b

  -- where the longer of two begins with the shorter, it begins with both
  pub begins_both : (xs ys : List A) → (length (shorter xs ys) ≤ length (longer xs ys) → StartsWith (longer xs ys) (shorter xs ys)) → StartsWith (longer xs ys) xs × StartsWith (longer xs ys) ys
  begins_both xs ys h =
      ⊎_elim
      (λ (t : (leb (length xs) (length ys) ≡ true) × (length xs ≤ length ys)).
      let Q : Bool → Type 0 = λ b. (length (cond b xs ys) ≤ length (cond b ys xs) → StartsWith (cond b ys xs) (cond b xs ys)) → StartsWith (cond b ys xs) xs × StartsWith (cond b ys xs) ys in
      subst Q (sym t.0) (λ k. (k t.1, starts_self ys)) h)
      (λ (t : (leb (length xs) (length ys) ≡ false) × (length ys < length xs)).
      let Q : Bool → Type 0 = λ b. (length (cond b xs ys) ≤ length (cond b ys xs) → StartsWith (cond b ys xs) (cond b xs ys)) → StartsWith (cond b ys xs) xs × StartsWith (cond b ys xs) ys in
      subst Q (sym t.0) (λ k. (starts_self xs, k (let x = t.1 in omega arith))) h)
      (leb_tells (length xs) (length ys))

  pub starts_longer : (whole xs ys : List A) → StartsWith whole xs → StartsWith whole ys → StartsWith whole (longer xs ys)
  starts_longer whole xs ys a b = longer_is xs ys (λ l. StartsWith whole l) (λ _. b) (λ _. a)

  pub longer_first : (whole xs ys : List A) → StartsWith whole xs → StartsWith whole ys → StartsWith (longer xs ys) xs
  longer_first whole xs ys a b = longer_is xs ys (λ l. StartsWith l xs) (λ le. starts_both whole xs ys a b le) (λ _. starts_self xs)

  pub longer_second : (whole xs ys : List A) → StartsWith whole xs → StartsWith whole ys → StartsWith (longer xs ys) ys
  longer_second whole xs ys a b = longer_is xs ys (λ l. StartsWith l ys) (λ _. starts_self ys) (λ le. starts_both whole ys xs b a le)

  pub Every-weaker : (P Q : A → Type 0) → ((x : A) → P x → Q x) → (l : List A) → Every P l → Every Q l
  Every-weaker P Q f [] h = tt
  Every-weaker P Q f (x ∷ xs) h = (f x h.0, Every-weaker P Q f xs h.1)

  pub Every-after : (P : A → Type 0) (l m : List A) → Every P (l ++ m) → Every P m
  Every-after P [] m h = h
  Every-after P (x ∷ xs) m h = Every-after P xs m h.1

  pub Every-append : (P : A → Type 0) (l m : List A) → Every P l → Every P m → Every P (l ++ m)
  Every-append P [] m h k = k
  Every-append P (x ∷ xs) m h k = (h.0, Every-append P xs m h.1 k)

  pub starts_then : (l m n : List A) → StartsWith l m → StartsWith m n → StartsWith l n
  starts_then l m n a b = (b.0 ++ a.0, a.1 ∙ (ap (λ x. x ++ a.0) b.1 ∙ append_assoc n b.0 a.0))

  pub starts_more : (l m more : List A) → StartsWith l m → StartsWith (l ++ more) m
  starts_more l m more a = (a.0 ++ more, ap (λ x. x ++ more) a.1 ∙ append_assoc m a.0 more)

pub one_same : (n : ℕ) → one_at n (Some n) ≡ 1
one_same n = ap one_if (eq-eqb n n refl)

pub one_other : (n m : ℕ) → m ≢ n → one_at n (Some m) ≡ 0
one_other n m ne = ap one_if (ne_eqb m n ne)

module _ {E : Type 0} (mark : E → ℕ) where
  pub marked-append : (n : ℕ) (l m : List E) → marked mark n (l ++ m) ≡ marked mark n l ++ marked mark n m
  marked-append n l m = filter-append (λ e. mark e == n) l m

  pub marked_all : (n : ℕ) (es : List E) → Every (λ e. mark e ≡ n) es → marked mark n es ≡ es
  marked_all n [] h = refl
  marked_all n (e ∷ es) h = ap (λ (b : Bool). cond b (e ∷ marked mark n es) (marked mark n es)) (eq-eqb (mark e) n h.0) ∙ ap (λ (l : List E). e ∷ l) (marked_all n es h.1)

  pub marked_none : (n m : ℕ) (es : List E) → Every (λ e. mark e ≡ n) es → m ≢ n → marked mark m es ≡ []
  marked_none n m [] h ne = refl
  marked_none n m (e ∷ es) h ne = ap (λ (b : Bool). cond b (e ∷ marked mark m es) (marked mark m es)) (ne_eqb (mark e) m (λ is. ne (sym is ∙ h.0))) ∙ marked_none n m es h.1 ne

  -- entries with another number change nothing
  pub marked_apart : (n m : ℕ) (l es : List E) → Every (λ e. mark e ≡ n) es → m ≢ n → marked mark m (l ++ es) ≡ marked mark m l
  marked_apart n m l es h ne = marked-append m l es ∙ (ap (λ (x : List E). marked mark m l ++ x) (marked_none n m es h ne) ∙ append-nil (marked mark m l))

  pub marked_more : (n : ℕ) (l es : List E) → Every (λ e. mark e ≡ n) es → marked mark n (l ++ es) ≡ marked mark n l ++ es
  marked_more n l es h = marked-append n l es ∙ ap (λ (x : List E). marked mark n l ++ x) (marked_all n es h)

module _ {E : Type 0} (mark : E → ℕ) where
  -- no entry has a number that no view answers for
  pub marked_nowhere : (n : ℕ) (es : List E) → Every (λ e. mark e ≢ n) es → marked mark n es ≡ []
  marked_nowhere n [] h = refl
  marked_nowhere n (e ∷ es) h = ap (λ (b : Bool). cond b (e ∷ marked mark n es) (marked mark n es)) (ne_eqb (mark e) n h.0) ∙ marked_nowhere n es h.1

  nothing_left : (l m : List E) → l ++ m ≡ [] → l ≡ []
  nothing_left [] m e = refl
  nothing_left (x ∷ xs) m e = cc

  -- nor has a beginning
  pub marked_before : (n : ℕ) (es whole : List E) → StartsWith whole es → marked mark n whole ≡ [] → marked mark n es ≡ []
  marked_before n es whole s h = nothing_left (marked mark n es) (marked mark n s.0) (sym (marked-append mark n es s.0) ∙ (ap (λ (l : List E). marked mark n l) (sym s.1) ∙ h))

module _ {E : Type 0} (mark : E → ℕ) where
  nothing_more : (l m n : List E) → l ++ (m ++ n) ≡ l → m ≡ []
  nothing_more l [] n e = refl
  nothing_more l (x ∷ xs) n e = let a = ap (λ (k : List E). length k) e in absurd (omega (arith, length-append l ((x ∷ xs) ++ n), length-append (x ∷ xs) n))

  nothing_after : (l m : List E) → l ++ m ≡ l → m ≡ []
  nothing_after l m e = nothing_more l m [] (ap (λ (k : List E). l ++ k) (append-nil m) ∙ e)

  -- what follows a beginning that has all entries with this number has none of them
  pub marked_after : (n : ℕ) (whole part es : List E) (begins : StartsWith whole part) → marked mark n part ≡ es → marked mark n whole ≡ es → marked mark n begins.0 ≡ []
  marked_after n whole part es begins h k =
      let m = λ (l : List E). marked mark n l in
      let p : m whole ≡ es ++ m begins.0 = ap m begins.1 ∙ (marked-append mark n part begins.0 ∙ ap (λ (l : List E). l ++ m begins.0) h) in
      nothing_after es (m begins.0) (sym p ∙ k)

  mark_there : (e : E) (es : List E) (n : ℕ) → mark e ≡ n → marked mark n (e ∷ es) ≡ [] → ⊥
  mark_there e es n is none =
      let here : marked mark n (e ∷ es) ≡ e ∷ marked mark n es = ap (λ (b : Bool). cond b (e ∷ marked mark n es) (marked mark n es)) (eq-eqb (mark e) n is) in
      let both : e ∷ marked mark n es ≡ [] = sym here ∙ none in
      cc

  mark_nowhere : (e : E) (es : List E) (os : List (JoinedPass E)) → Every (λ o. marked mark o.number (e ∷ es) ≡ []) os → times (mark e) os ≡ 0
  mark_nowhere e es [] h = refl
  mark_nowhere e es (o ∷ os) h =
      let r = mark_nowhere e es os h.1 in
      let z : one_if (o.number == mark e) ≡ 0 = dite (ℕ_discrete o.number (mark e)) (λ is. absurd (mark_there e es o.number (sym is) h.0)) (λ ne. ap one_if (ne_eqb o.number (mark e) ne)) in
      omega arith

  -- entries that are all of these numbers, and none of which is, are none
  pub none_of_these : (os : List (JoinedPass E)) (es : List E) → Every (λ o. marked mark o.number es ≡ []) os → Every (λ e. 0 < times (mark e) os) es → es ≡ []
  none_of_these os [] h k = refl
  none_of_these os (e ∷ es) h k = let z = mark_nowhere e es os h in let p = k.0 in absurd (omega arith)

  -- what stands between two beginnings that have the same entries with this number has them too
  pub marked_between : (n : ℕ) (low mid high es : List E) → StartsWith mid low → StartsWith high mid → marked mark n low ≡ es → marked mark n high ≡ es → marked mark n mid ≡ es
  marked_between n low mid high es a b h k =
      let m = λ (l : List E). marked mark n l in
      let p : m mid ≡ es ++ m a.0 = ap m a.1 ∙ (marked-append mark n low a.0 ∙ ap (λ (l : List E). l ++ m a.0) h) in
      let q : m high ≡ m mid ++ m b.0 = ap m b.1 ∙ marked-append mark n mid b.0 in
      let e : es ++ (m a.0 ++ m b.0) ≡ es = sym (append_assoc es (m a.0) (m b.0)) ∙ (ap (λ (l : List E). l ++ m b.0) (sym p) ∙ (sym q ∙ k)) in
      p ∙ (ap (λ (l : List E). es ++ l) (nothing_more es (m a.0) (m b.0) e) ∙ append-nil es)

pub times-append : {E : Type 0} (n : ℕ) (os ps : List (JoinedPass E)) → times n (os ++ ps) ≡ times n os + times n ps
times-append n os ps = total-append (λ o. one_if (o.number == n)) os ps

pub Every-apart : {E : Type 0} (P Q : JoinedPass E → Type 0) (n : ℕ) → ((o : JoinedPass E) → o.number ≢ n → P o → Q o) → (os : List (JoinedPass E)) → times n os ≡ 0 → Every P os → Every Q os
Every-apart P Q n f [] none h = tt
Every-apart P Q n f (o ∷ os) none h =
    (f o (λ is. let one : one_if (o.number == n) ≡ 1 = ap one_if (eq-eqb o.number n is) in absurd (omega arith)) h.0, Every-apart P Q n f os (omega arith) h.1)

-- the one slot that was taken, as an exchange asks for it
pub the_first : {S : Type 0} (l : List (ℕ × S)) (x : ℕ × S) → l ≡ x ∷ [] → l ≡ x ∷ rest l
the_first l x e = e ∙ ap (λ r. x ∷ r) (sym (ap (λ r. rest r) e))

-- what follows a beginning has no entries of the numbers whose lists are exact in it and in the whole
pub after_seen : {E : Type 0} (mark : E → ℕ) (seen history : List E) (os : List (JoinedPass E)) (begins : StartsWith history seen) → Every (IsClaim mark seen history) os → Every (λ o. marked mark o.number begins.0 ≡ []) os
after_seen mark seen history os begins h = Every-weaker (IsClaim mark seen history) (λ o. marked mark o.number begins.0 ≡ []) (λ o c. marked_after mark o.number history seen o.mine begins c.0 c.1) os h

-- what an exchange found is what the slot had
pub slot_had : {S : Type 0} (l m n : List (ℕ × Option S)) (x : Option S) (y z : S) → l ≡ (0, x) ∷ m → l ≡ (0, Some y) ∷ n → x ≡ Some z → z ≡ y
slot_had {S} l m n x y z found had is =
    let both : (0, x) ∷ m ≡ (0, Some y) ∷ n = sym found ∙ had in
    let one : ℕ × Option S = (0, x) in
    let other : ℕ × Option S = (0, Some y) in
    let pair : one ≡ other = cc in
    let same : x ≡ Some y = ap (λ (p : ℕ × Option S). p.1) pair in
    let somes : Some z ≡ Some y = sym is ∙ same in
    cc
