-- The sessions of the labels stay open, and labels change their sessions.
use Rattle.std.proofs.Common.{◌≡◌, ◌≤◌, ◌<◌, ◌+◌, ◌-◌, ◌++◌, ◌∷◌, ◌∙◌, ◌⊎◌, [], List, ℕ, Option, Some, None, Ok, Err, All, length, get_or, set, refl, sym, ap, subst, arith, inl, inr}
use Rattle.std.proofs.lemmas.Bool.{cases_eq, cases_lt}
use Rattle.std.proofs.lemmas.List.{get_or-set_same, get_or-set_other, get_or-replicate, get_or_past, length-set, length-replicate}
use Rattle.std.proofs.lemmas.List.Elements.{All-weaker, All-append, All-cons}
use Rattle.q4_machine.specs.declared.entry.Entry.{Entry}
use Rattle.q4_machine.specs.declared.entry.Call.TheVariants.{Open, Close}
use Rattle.q4_machine.specs.declared.entry.Reply.TheVariants as reply
use Rattle.q4_machine.specs.History.{IsLegal, IsOpenFor}
use Rattle.q4_machine.specs.declared.desk.DeskFault.{DeskFault}
use Rattle.q4_machine.specs.declared.desk.DeskFault.TheVariants as fault
use Rattle.q4_machine.specs.Parts.{Grows, of_caller, OpensAt, IsOpened, IsClosed}
use Rattle.q4_play.specs.Labels.{IsLabel, last_label, nobody, session_at, with_seat}
use Rattle.q4_play.specs.Seated.{IsSeated}
use Rattle.q4_play.proofs.Staying.{IsUnclosed, of_all, stays_open, unclosed_none, unclosed_one, other_session}

pub none_some : (x : ℕ) → None ≡ Some x → ⊥
none_some x is = cc is

pub some_is : (x y : ℕ) → Some x ≡ Some y → x ≡ y
some_is x y is = cc is

pub nobody_at : (place : ℕ) → get_or nobody place None ≡ None
nobody_at place = elim (cases_lt place last_label) [
  | inl inside ↦ get_or-replicate last_label place None None inside
  | inr outside ↦ get_or_past nobody place None (let size = length-replicate {A = Option ℕ} last_label None in omega (arith, size, outside))
]

-- nobody is seated at first
pub seated_nobody : (seen : List Entry) (caller : ℕ) → IsSeated seen caller nobody
seated_nobody seen caller = record {
  size = length-replicate {A = Option ℕ} last_label None;
  are_open = λ place session is. absurd (none_some session (sym (nobody_at place) ∙ is));
  apart = λ place other session is also. absurd (none_some session (sym (nobody_at place) ∙ is));
}

-- ## While the history grows

-- the sessions stay that stay open
seated_stays : (seen seen' : List Entry) (caller : ℕ) (seating : List (Option ℕ)) → IsSeated seen caller seating
    → ((place k : ℕ) → get_or seating place None ≡ Some k → IsOpenFor seen caller k → IsOpenFor seen' caller k) → IsSeated seen' caller seating
seated_stays seen seen' caller seating seated stay = record {
  size = seated.size;
  are_open = λ place k is. stay place k is (seated.are_open place k is);
  apart = seated.apart;
}

stays_as : (seen grown seen' : List Entry) (caller k : ℕ) → seen' ≡ seen ++ grown → IsLegal seen' → IsOpenFor seen caller k → IsUnclosed caller k grown → IsOpenFor seen' caller k
stays_as seen grown seen' caller k history legal was unclosed =
    subst (λ (h : List Entry). IsOpenFor h caller k) (sym history) (stays_open seen grown caller k (subst IsLegal history legal) was unclosed)

unclosed_other : (caller s k : ℕ) (grown : List Entry) → (k ≡ s → ⊥) → All (λ (e : Entry). e.session ≡ s) (of_caller caller grown) → IsUnclosed caller k grown
unclosed_other caller s k grown other of_session =
    of_all (λ (e : Entry). e.session ≡ k → e.call ≡ Close → ⊥) caller grown
    (All-weaker (λ (e : Entry). e.session ≡ s) (λ (e : Entry). e.session ≡ k → e.call ≡ Close → ⊥) (λ e is same closes. other (sym same ∙ is)) (of_caller caller grown) of_session)

-- the caller's entries were of one session, which is still open
pub seated_part : (seen grown seen' : List Entry) (caller s : ℕ) (seating : List (Option ℕ)) → seen' ≡ seen ++ grown → IsLegal seen' → IsOpenFor seen' caller s
    → All (λ (e : Entry). e.session ≡ s) (of_caller caller grown) → IsSeated seen caller seating → IsSeated seen' caller seating
seated_part seen grown seen' caller s seating history legal still of_session seated =
    seated_stays seen seen' caller seating seated (λ place k is was. elim (cases_eq k s) [
      | inl same ↦ subst (λ (x : ℕ). IsOpenFor seen' caller x) (sym same) still
      | inr other ↦ stays_as seen grown seen' caller k history legal was (unclosed_other caller s k grown other of_session)
    ])

-- the caller made no entry
pub seated_none : (seen grown seen' : List Entry) (caller : ℕ) (seating : List (Option ℕ)) → seen' ≡ seen ++ grown → IsLegal seen' → of_caller caller grown ≡ [] → IsSeated seen caller seating → IsSeated seen' caller seating
seated_none seen grown seen' caller seating history legal none seated =
    seated_stays seen seen' caller seating seated (λ place k is was. stays_as seen grown seen' caller k history legal was (unclosed_none caller k grown none))

-- ## Seats that change

-- what stands at a place after one was set
pub read_set : (seating : List (Option ℕ)) (at place k : ℕ) (new : Option ℕ) → at < length seating → get_or (set seating at new) place None ≡ Some k
    → ((place ≡ at) × (new ≡ Some k)) ⊎ ((place ≡ at → ⊥) × (get_or seating place None ≡ Some k))
read_set seating at place k new inside is = elim (cases_eq place at) [
  | inl same ↦ inl (same, sym (get_or-set_same seating at new None inside) ∙ ap (λ (p : ℕ). get_or (set seating at new) p None) (sym same) ∙ is)
  | inr other ↦ inr (other, sym (get_or-set_other seating at place new None other) ∙ is)
]

pub inside_seats : (seating : List (Option ℕ)) (label : ℕ) → length seating ≡ last_label → IsLabel label → label - 1 < length seating
inside_seats seating label size is = omega (arith, size, is)

-- a label gets a session that is open, and that no other label has
pub seated_set : (h : List Entry) (caller s label : ℕ) (seating : List (Option ℕ)) → IsLabel label → IsSeated h caller seating → IsOpenFor h caller s
    → ((place : ℕ) → get_or seating place None ≡ Some s → place ≡ label - 1) → IsSeated h caller (with_seat seating label (Some s))
seated_set h caller s label seating is_label seated open_now only =
    let at = label - 1 in
    let inside : at < length seating = inside_seats seating label seated.size is_label in
    record {
      size = length-set seating at (Some s) ∙ seated.size;
      are_open = λ place k is. elim (read_set seating at place k (Some s) inside is) [
        | inl here ↦ subst (λ (x : ℕ). IsOpenFor h caller x) (some_is s k here.1) open_now
        | inr other ↦ seated.are_open place k other.1
      ];
      apart = λ place other k is also. elim (read_set seating at place k (Some s) inside is) [
        | inl here ↦ elim (read_set seating at other k (Some s) inside also) [
          | inl there ↦ here.0 ∙ sym there.0
          | inr there ↦ absurd (there.0 (only other (there.1 ∙ sym here.1)))
        ]
        | inr here ↦ elim (read_set seating at other k (Some s) inside also) [
          | inl there ↦ absurd (here.0 (only place (here.1 ∙ sym there.1)))
          | inr there ↦ seated.apart place other k here.1 there.1
        ]
      ];
    }

-- a label loses its session
pub seated_unset : (h : List Entry) (caller label : ℕ) (seating : List (Option ℕ)) → IsLabel label → IsSeated h caller seating → IsSeated h caller (with_seat seating label None)
seated_unset h caller label seating is_label seated =
    let at = label - 1 in
    let inside : at < length seating = inside_seats seating label seated.size is_label in
    let before = λ (place k : ℕ) (is : get_or (set seating at None) place None ≡ Some k). kept seating at place k inside is in
    record {
      size = length-set seating at None ∙ seated.size;
      are_open = λ place k is. seated.are_open place k (before place k is);
      apart = λ place other k is also. seated.apart place other k (before place k is) (before other k also);
    } where
      kept : (seating : List (Option ℕ)) (at place k : ℕ) → at < length seating → get_or (set seating at None) place None ≡ Some k → get_or seating place None ≡ Some k
      kept seating at place k inside is = elim (read_set seating at place k None inside is) [
        | inl here ↦ absurd (none_some k here.1)
        | inr other ↦ other.1
      ]

-- the label's session closed
pub seated_left : (seen grown seen' : List Entry) (caller s label : ℕ) (seating : List (Option ℕ)) → seen' ≡ seen ++ grown → IsLegal seen' → IsClosed caller s grown → session_at seating label ≡ Some s
    → IsLabel label → IsSeated seen caller seating → IsSeated seen' caller (with_seat seating label None)
seated_left seen grown seen' caller s label seating history legal closed at_label is_label seated =
    let at = label - 1 in
    let inside : at < length seating = inside_seats seating label seated.size is_label in
    let e : Entry = record { caller = caller; session = s; call = Close; reply = reply.Done } in
    seated_stays seen seen' caller (with_seat seating label None) (seated_unset seen caller label seating is_label seated) (λ place k is was. elim (read_set seating at place k None inside is) [
      | inl here ↦ absurd (none_some k here.1)
      | inr other ↦ stays_as seen grown seen' caller k history legal was
          (unclosed_one caller k grown e closed (λ same closes. other.0 (seated.apart place at k other.1 (at_label ∙ ap Some same))))
    ])

unclosed_opening : (limit caller s k : ℕ) (seen grown : List Entry) → OpensAt limit seen grown caller s → IsUnclosed caller k grown
unclosed_opening limit caller s k seen grown opens =
    let P = λ (e : Entry). e.caller ≡ caller → e.session ≡ k → e.call ≡ Close → ⊥ in
    let e : Entry = record { caller = caller; session = s; call = Open; reply = reply.Session s } in
    subst (All P) (sym opens.cut)
    (All-append P opens.front (e ∷ opens.back) (unclosed_none caller k opens.front opens.none_front)
    (All-cons P e opens.back (λ by same closes. cc closes) (unclosed_none caller k opens.back opens.none_back)))

-- a session was opened for the label
pub seated_opened : (limit : ℕ) (seen grown seen' : List Entry) (caller s label : ℕ) (seating : List (Option ℕ)) → seen' ≡ seen ++ grown → IsLegal seen' → OpensAt limit seen grown caller s → IsOpenFor seen' caller s
    → IsLabel label → IsSeated seen caller seating → IsSeated seen' caller (with_seat seating label (Some s))
seated_opened limit seen grown seen' caller s label seating history legal opens open_now is_label seated =
    let stayed : IsSeated seen' caller seating = seated_stays seen seen' caller seating seated
    (λ place k is was. stays_as seen grown seen' caller k history legal was (unclosed_opening limit caller s k seen grown opens)) in
    seated_set seen' caller s label seating is_label stayed open_now
    (λ place is. absurd (other_session limit caller s s seen grown (subst IsLegal history legal) opens (seated.are_open place s is) refl))

-- ## What calls of a desk leave

seated_as : (seen : List Entry) (caller caller' : ℕ) (seating seating' : List (Option ℕ)) → caller' ≡ caller → seating' ≡ seating → IsSeated seen caller seating → IsSeated seen caller' seating'
seated_as seen caller caller' seating seating' by seats seated = subst (λ (c : ℕ). IsSeated seen c seating') (sym by) (subst (λ (x : List (Option ℕ)). IsSeated seen caller x) (sym seats) seated)

session_there : (seating : List (Option ℕ)) (label s : ℕ) → length seating ≡ last_label → IsLabel label → session_at (with_seat seating label (Some s)) label ≡ Some s
session_there seating label s size is_label = get_or-set_same seating (label - 1) (Some s) None (inside_seats seating label size is_label)

-- the session that the label took closed
pub left_seat : (seen seen' : List Entry) (caller caller' s label : ℕ) (before seating seating' : List (Option ℕ)) → caller' ≡ caller → Grows seen seen' (λ grown. IsClosed caller s grown) → IsLegal seen'
    → seating ≡ with_seat before label (Some s) → IsLabel label → length before ≡ last_label → seating' ≡ with_seat seating label None → IsSeated seen caller seating → IsSeated seen' caller' seating'
left_seat seen seen' caller caller' s label before seating seating' by grows legal took is_label size seats seated =
    seated_as seen' caller caller' (with_seat seating label None) seating' by seats
    (seated_left seen grows.0 seen' caller s label seating grows.1 legal grows.2 (ap (λ (x : List (Option ℕ)). session_at x label) took ∙ session_there before label s size is_label) is_label seated)

pub none_opened : (limit caller : ℕ) (seen grown : List Entry) (f : DeskFault) → IsOpened limit seen grown caller (Err f) → of_caller caller grown ≡ []
none_opened limit caller seen grown fault.Memory refused = refused
none_opened limit caller seen grown (fault.Worn count) refused = refused.0

-- no session was opened
pub refused_seat : (limit : ℕ) (seen seen1 seen' : List Entry) (caller caller1 caller' : ℕ) (f : DeskFault) (seating : List (Option ℕ)) → seen1 ≡ seen → caller1 ≡ caller → caller' ≡ caller1
    → Grows seen1 seen' (λ grown. IsOpened limit seen1 grown caller1 (Err f)) → IsLegal seen' → IsSeated seen caller seating → IsSeated seen' caller' seating
refused_seat limit seen seen1 seen' caller caller1 caller' f seating same by by' grows legal seated =
    seated_as seen' caller caller' seating seating (by' ∙ by) refl
    (seated_none seen grows.0 seen' caller seating (grows.1 ∙ ap (λ (h : List Entry). h ++ grows.0) same) legal (subst (λ (c : ℕ). of_caller c grows.0 ≡ []) by (none_opened limit caller1 seen1 grows.0 f grows.2)) seated)

-- one was opened
pub opened_seat : (limit : ℕ) (seen seen1 seen' : List Entry) (caller caller1 caller' s label : ℕ) (seating seating' : List (Option ℕ)) → seen1 ≡ seen → caller1 ≡ caller → caller' ≡ caller1
    → Grows seen1 seen' (λ grown. IsOpened limit seen1 grown caller1 (Ok s)) → IsLegal seen' → IsOpenFor seen' caller' s → IsLabel label → seating' ≡ with_seat seating label (Some s)
    → IsSeated seen caller seating → IsSeated seen' caller' seating'
opened_seat limit seen seen1 seen' caller caller1 caller' s label seating seating' same by by' grows legal open_now is_label seats seated =
    seated_as seen' caller caller' (with_seat seating label (Some s)) seating' (by' ∙ by) seats
    (seated_opened limit seen grows.0 seen' caller s label seating (grows.1 ∙ ap (λ (h : List Entry). h ++ grows.0) same) legal
    (subst (λ (h : List Entry). OpensAt limit h grows.0 caller s) same (subst (λ (c : ℕ). OpensAt limit seen1 grows.0 c s) by grows.2))
    (subst (λ (c : ℕ). IsOpenFor seen' c s) (by' ∙ by) open_now) is_label seated)

-- the label's session was there, and was chosen
pub chosen_seat : (seen seen' : List Entry) (caller caller' s label : ℕ) (seating seating' : List (Option ℕ)) → seen' ≡ seen → caller' ≡ caller → Some s ≡ session_at seating label → IsLabel label
    → seating' ≡ with_seat seating label (Some s) → IsSeated seen caller seating → IsSeated seen' caller' seating'
chosen_seat seen seen' caller caller' s label seating seating' same by at_label is_label seats seated =
    seated_as seen' caller caller' (with_seat seating label (Some s)) seating' by seats
    (subst (λ (h : List Entry). IsSeated h caller (with_seat seating label (Some s))) (sym same)
    (seated_set seen caller s label seating is_label seated (seated.are_open (label - 1) s (sym at_label)) (λ place is. seated.apart place (label - 1) s is (sym at_label))))

-- ## The sessions that are still to close

-- the sessions of the labels from this place on are open
abbrev pub AreLeft : List Entry → ℕ → List (Option ℕ) → ℕ → Type 0
AreLeft seen caller seating from = (place k : ℕ) → from ≤ place → get_or seating place None ≡ Some k → IsOpenFor seen caller k

pub left_closed : (seen grown seen' : List Entry) (caller s at : ℕ) (seating : List (Option ℕ)) (h : List Entry) → seen' ≡ seen ++ grown → IsLegal seen' → IsClosed caller s grown → get_or seating at None ≡ Some s
    → IsSeated h caller seating → AreLeft seen caller seating at → AreLeft seen' caller seating (at + 1)
left_closed seen grown seen' caller s at seating h history legal closed here seated left place k later is =
    let e : Entry = record { caller = caller; session = s; call = Close; reply = reply.Done } in
    stays_as seen grown seen' caller k history legal (left place k (omega (arith, later)) is)
    (unclosed_one caller k grown e closed (λ same closes. let wrong : place ≡ at = seated.apart place at k is (here ∙ ap Some same) in omega (arith, wrong, later)))
