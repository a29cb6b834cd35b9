-- A conversation that goes on by a line, and that ends.
use Rattle.std.proofs.Common.{◌≡◌, ◌≢◌, ◌++◌, ◌∷◌, ◌∙◌, [], List, ℕ, Option, None, All, refl, sym, ap, subst, inl, inr, append_assoc, append-nil}
use Rattle.std.specs.List.{flat_map}
use Rattle.std.proofs.lemmas.List.Elements.{All-push, All-nil}
use Rattle.q4_flow.specs.declared.lines.LineEnd.{LineEnd}
use Rattle.q4_flow.specs.declared.lines.LineEnd.TheVariants as found
use Rattle.q4_flow.specs.Flow.{Gave, Took, TookFront}
use Rattle.q4_flow.specs.Lines.{Cuts, Takes, Next, NextFrom, IsOpenLine}
use Rattle.q4_flow.specs.Reading.{Reading}
use Rattle.q4_flow.proofs.Known.{gave_nothing, gave_more, took_nothing, took_more}
use Rattle.q4_def.specs.declared.table_def.TableDef.{TableDef}
use Rattle.q4_machine.specs.declared.entry.Entry.{Entry}
use Rattle.q4_machine.specs.Patience.{PatienceState}
use Rattle.q4_proto.specs.Told as told
use Rattle.q4_proto.specs.Told.{Told, Bye}
use Rattle.q4_proto.specs.Text.{text, text_behind}
use Rattle.q4_session.specs.declared.answering.Answered.{Answered}
use Rattle.q4_session.specs.declared.answering.Answered.TheVariants as answered
use Rattle.q4_session.specs.declared.sessions.SessionEnd.{SessionEnd}
use Rattle.q4_session.specs.declared.sessions.SessionEnd.TheVariants as end
use Rattle.q4_session.specs.Exchanges.{Client, Exchange, IsExchange, AreExchanges, grown_by, lines_of, texts_of, patience_after, GoesOn}
use Rattle.q4_session.specs.Sessions.{Around, InputEnds, last_words, WroteFront, Concludes, Conversation}
use Rattle.q4_session.specs.Answering.{Answering, LastReply}

-- The lines so far, none of them `bye`, and the bytes that are pending.
pub record Conversing (client : Client) (old now : Around) (pending : List ℕ) : Type 0 where
  pub exchanges : List Exchange
  pub lines : All (λ e. IsOpenLine e.line) exchanges
  pub answered : AreExchanges client old.seen old.patience exchanges
  pub history : now.seen ≡ old.seen ++ grown_by exchanges
  pub patience : now.patience ≡ patience_after old.patience exchanges
  pub read : Gave old.left now.left (lines_of exchanges ++ pending)
  pub goes_on : GoesOn exchanges
  pub wrote : Took old.written now.written (texts_of exchanges)

-- no line yet
pub no_line : (client : Client) (old : Around) → Conversing client old old []
no_line client old = record {
  exchanges = [];
  lines = All-nil (λ (e : Exchange). IsOpenLine e.line);
  answered = tt;
  history = sym (append-nil old.seen);
  patience = refl;
  read = gave_nothing old.left;
  goes_on = All-nil (λ (e : Exchange). e.outcome ≢ Bye);
  wrote = took_nothing old.written;
}

flat_map_push : {X Y : Type 0} (f : X → List Y) (xs : List X) (x : X) → flat_map f (xs ++ x ∷ []) ≡ flat_map f xs ++ f x
flat_map_push f [] x = append-nil (f x)
flat_map_push f (y ∷ ys) x = ap (λ zs. f y ++ zs) (flat_map_push f ys x) ∙ sym (append_assoc (f y) (flat_map f ys) (f x))

patience_push : (patience : PatienceState) (exchanges : List Exchange) (e : Exchange) → patience_after patience (exchanges ++ e ∷ []) ≡ e.patience
patience_push patience [] e = refl
patience_push patience (x ∷ xs) e = patience_push x.patience xs e

exchanges_push : (client : Client) (seen : List Entry) (patience : PatienceState) (exchanges : List Exchange) (e : Exchange)
    → AreExchanges client seen patience exchanges → IsExchange client (seen ++ grown_by exchanges) (patience_after patience exchanges) e → AreExchanges client seen patience (exchanges ++ e ∷ [])
exchanges_push client seen patience [] e are next = (subst (λ (h : List Entry). IsExchange client h patience e) (append-nil seen) next, tt)
exchanges_push client seen patience (x ∷ xs) e are next =
    (are.0, exchanges_push client (seen ++ x.grown) x.patience xs e are.1 (subst (λ (h : List Entry). IsExchange client h (patience_after x.patience xs) e) (sym (append_assoc seen x.grown (grown_by xs))) next))

-- what a call of `next` took, where nothing had stopped
pub takes_of : (old new : Reading) (left left' : Option (List ℕ)) (ended : Type 0) (how : LineEnd) → Next old new left left' ended how → old.stopped ≡ None → Takes left left' (λ taken. Cuts (old.pending ++ taken) ended new how)
takes_of old new left left' ended how next going = subst (λ o. NextFrom o old new left left' ended how) going next

-- ## One more line

line_moves : (lines pending taken line rest : List ℕ) → pending ++ taken ≡ line ++ 10 ∷ rest → (lines ++ pending) ++ taken ≡ (lines ++ (line ++ 10 ∷ [])) ++ rest
line_moves lines pending taken line rest is =
    append_assoc lines pending taken ∙ ap (λ xs. lines ++ xs) (is ∙ sym (append_assoc line (10 ∷ []) rest)) ∙ sym (append_assoc lines (line ++ 10 ∷ []) rest)

-- One more line, whatever it was answered.
record Pushed (client : Client) (old now : Around) (pending : List ℕ) (exchanges : List Exchange) : Type 0 where
  lines : All (λ e. IsOpenLine e.line) exchanges
  answered : AreExchanges client old.seen old.patience exchanges
  history : now.seen ≡ old.seen ++ grown_by exchanges
  patience : now.patience ≡ patience_after old.patience exchanges
  read : Gave old.left now.left (lines_of exchanges ++ pending)

pushed : (client : Client) (old here now : Around) (pending rest taken : List ℕ) (e : Exchange)
    → (so_far : Conversing client old here pending) → Gave here.left now.left taken → pending ++ taken ≡ e.line ++ 10 ∷ rest → IsOpenLine e.line
    → now.seen ≡ here.seen ++ e.grown → now.patience ≡ e.patience → IsExchange client here.seen here.patience e → Pushed client old now rest (so_far.exchanges ++ e ∷ [])
pushed client old here now pending rest taken e so_far gave cut open_line grew kept next =
    let xs = so_far.exchanges in
    let placed = subst (λ (p : PatienceState). IsExchange client (old.seen ++ grown_by xs) p e) so_far.patience (subst (λ (h : List Entry). IsExchange client h here.patience e) so_far.history next) in
    record {
      lines = All-push (λ (x : Exchange). IsOpenLine x.line) xs e so_far.lines open_line;
      answered = exchanges_push client old.seen old.patience xs e so_far.answered placed;
      history = grew ∙ ap (λ (h : List Entry). h ++ e.grown) so_far.history ∙ append_assoc old.seen (grown_by xs) e.grown ∙ sym (ap (λ (h : List Entry). old.seen ++ h) (flat_map_push (λ (x : Exchange). x.grown) xs e));
      patience = kept ∙ sym (patience_push old.patience xs e);
      read = subst (λ (bytes : List ℕ). Gave old.left now.left bytes) (line_moves (lines_of xs) pending taken e.line rest cut ∙ sym (ap (λ (b : List ℕ). b ++ rest) (flat_map_push (λ (x : Exchange). x.line ++ 10 ∷ []) xs e)))
          (gave_more old.left here.left now.left (lines_of xs ++ pending) taken so_far.read gave);
    }

texts_push : (exchanges : List Exchange) (e : Exchange) → texts_of (exchanges ++ e ∷ []) ≡ texts_of exchanges ++ text e.outcome
texts_push exchanges e = flat_map_push (λ (x : Exchange). text x.outcome) exchanges e

wrote_push : (old here now : Option (List ℕ)) (exchanges : List Exchange) (e : Exchange) → Took old here (texts_of exchanges) → Took here now (text e.outcome) → Took old now (texts_of (exchanges ++ e ∷ []))
wrote_push old here now exchanges e wrote more = subst (Took old now) (sym (texts_push exchanges e)) (took_more old here now (texts_of exchanges) (text e.outcome) wrote more)

-- the line, what came of it, and that it was read there
pub record Lined (client : Client) (here now : Around) (pending rest line : List ℕ) (how : Answered) : Type 0 where
  pub taken : List ℕ
  pub gave : Gave here.left now.left taken
  pub cut : pending ++ taken ≡ line ++ 10 ∷ rest
  pub open_line : IsOpenLine line
  pub answering : Answering client None here.seen now.seen here.patience now.patience line here.written now.written how

-- behind no label the text is the outcome's own
plain_text : (outcome : Told) → text_behind None outcome ≡ text outcome
plain_text told.Ok = refl
plain_text (told.Number number) = refl
plain_text (told.Seen mark) = refl
plain_text (told.Rows rows) = refl
plain_text told.Bye = refl
plain_text (told.Refused code) = refl

plain_took : (old now : Option (List ℕ)) (outcome : Told) → Took old now (text_behind None outcome) → Took old now (text outcome)
plain_took old now outcome took = subst (Took old now) (plain_text outcome) took

plain_front : (old now : Option (List ℕ)) (outcome : Told) → TookFront old now (text_behind None outcome) → TookFront old now (text outcome)
plain_front old now outcome took = subst (TookFront old now) (plain_text outcome) took

-- a line after which the session goes on
pub goes_on_more : (client : Client) (old here now : Around) (pending rest line : List ℕ) → Conversing client old here pending → Lined client here now pending rest line answered.Next → Conversing client old now rest
goes_on_more client old here now pending rest line so_far lined =
    let answering = lined.answering in
    let e : Exchange = record { line = line; grown = answering.grown; outcome = answering.outcome; patience = now.patience } in
    let more = pushed client old here now pending rest lined.taken e so_far lined.gave lined.cut lined.open_line answering.history refl answering.exchange in
    record {
      exchanges = so_far.exchanges ++ e ∷ [];
      lines = more.lines;
      answered = more.answered;
      history = more.history;
      patience = more.patience;
      read = more.read;
      goes_on = All-push (λ (x : Exchange). x.outcome ≢ Bye) so_far.exchanges e so_far.goes_on answering.writes.1;
      wrote = wrote_push old.written here.written now.written so_far.exchanges e so_far.wrote (plain_took here.written now.written answering.outcome answering.writes.0);
    }

-- a line that was answered `bye`
pub ends_by_quit : (client : Client) (old here now : Around) (pending rest line : List ℕ) (ended : Type 0) → Conversing client old here pending → Lined client here now pending rest line answered.Quit → Conversation client old now ended end.Quit
ends_by_quit client old here now pending rest line ended so_far lined =
    let answering = lined.answering in
    let e : Exchange = record { line = line; grown = answering.grown; outcome = answering.outcome; patience = now.patience } in
    let more = pushed client old here now pending rest lined.taken e so_far lined.gave lined.cut lined.open_line answering.history refl answering.exchange in
    let wrote = wrote_push old.written here.written now.written so_far.exchanges e so_far.wrote (plain_took here.written now.written answering.outcome answering.writes.0) in
    record {
      exchanges = so_far.exchanges ++ e ∷ [];
      rest = rest;
      lines = more.lines;
      answered = more.answered;
      history = more.history;
      patience = more.patience;
      read = more.read;
      concludes = ((so_far.exchanges, e, refl, so_far.goes_on, answering.writes.1), subst (Took old.written now.written) (sym (append-nil (texts_of (so_far.exchanges ++ e ∷ [])))) wrote);
    }

wrote_front : (a b c : Option (List ℕ)) (texts words : List ℕ) → Took a b texts → TookFront b c words → WroteFront a c texts words
wrote_front a b c texts words took front = record { front = front.front; is_front = front.is_front; took = took_more a b c texts front.front took front.took }

-- a line at whose reply the sink failed
pub ends_by_fault : (client : Client) (old here now : Around) (pending rest line : List ℕ) (ended : Type 0) → Conversing client old here pending → Lined client here now pending rest line answered.WriteFault → Conversation client old now ended end.WriteFault
ends_by_fault client old here now pending rest line ended so_far lined =
    let answering = lined.answering in
    let e : Exchange = record { line = line; grown = answering.grown; outcome = answering.outcome; patience = now.patience } in
    let more = pushed client old here now pending rest lined.taken e so_far lined.gave lined.cut lined.open_line answering.history refl answering.exchange in
    record {
      exchanges = so_far.exchanges ++ e ∷ [];
      rest = rest;
      lines = more.lines;
      answered = more.answered;
      history = more.history;
      patience = more.patience;
      read = more.read;
      concludes = inl (record { front = so_far.exchanges; last = e; cut = refl; goes_on = so_far.goes_on; wrote = wrote_front old.written here.written now.written (texts_of so_far.exchanges) (text answering.outcome) so_far.wrote (plain_front here.written now.written answering.outcome answering.writes) });
    }

-- ## The end of the input

read_more : (left left1 left2 : Option (List ℕ)) (lines pending taken : List ℕ) → Gave left left1 (lines ++ pending) → Gave left1 left2 taken → Gave left left2 (lines ++ (pending ++ taken))
read_more left left1 left2 lines pending taken first second = subst (Gave left left2) (append_assoc lines pending taken) (gave_more left left1 left2 (lines ++ pending) taken first second)

concludes_took : (how : SessionEnd) (old new : Option (List ℕ)) (exchanges : List Exchange) (rest : List ℕ) (ended : Type 0) → InputEnds how exchanges rest ended → Took old new (texts_of exchanges ++ last_words how) → Concludes how old new exchanges rest ended
concludes_took end.WriteFault old new exchanges rest ended ends took = absurd ends
concludes_took how old new exchanges rest ended ends took = (ends, took)

-- what came behind the lines, where the history and the patience stayed
pub record Stopped (here now : Around) (pending rest : List ℕ) : Type 0 where
  pub taken : List ℕ
  pub gave : Gave here.left now.left taken
  pub rest_is : rest ≡ pending ++ taken
  pub seen : now.seen ≡ here.seen
  pub patience : now.patience ≡ here.patience

concluded : (client : Client) (old here now : Around) (pending rest : List ℕ) (ended : Type 0) (how : SessionEnd) (so_far : Conversing client old here pending) → Stopped here now pending rest
    → Concludes how old.written now.written so_far.exchanges rest ended → Conversation client old now ended how
concluded client old here now pending rest ended how so_far stopped concludes = record {
  exchanges = so_far.exchanges;
  rest = rest;
  lines = so_far.lines;
  answered = so_far.answered;
  history = stopped.seen ∙ so_far.history;
  patience = stopped.patience ∙ so_far.patience;
  read = subst (λ (bytes : List ℕ). Gave old.left now.left (lines_of so_far.exchanges ++ bytes)) (sym stopped.rest_is) (read_more old.left here.left now.left (lines_of so_far.exchanges) pending stopped.taken so_far.read stopped.gave);
  concludes = concludes;
}

-- the input ended, and nothing more was owed
pub ends_silently : (client : Client) (old here now : Around) (pending rest : List ℕ) (ended : Type 0) (how : SessionEnd) (so_far : Conversing client old here pending) → Stopped here now pending rest → now.written ≡ here.written
    → InputEnds how so_far.exchanges rest ended → last_words how ≡ [] → Conversation client old now ended how
ends_silently client old here now pending rest ended how so_far stopped kept ends silent =
    let texts = texts_of so_far.exchanges in
    let took : Took old.written now.written texts = subst (λ (w : Option (List ℕ)). Took old.written w texts) (sym kept) so_far.wrote in
    concluded client old here now pending rest ended how so_far stopped
    (concludes_took how old.written now.written so_far.exchanges rest ended ends (subst (Took old.written now.written) (sym (ap (λ (words : List ℕ). texts ++ words) silent ∙ append-nil texts)) took))

words_end : (client : Client) (old here now : Around) (pending rest : List ℕ) (ended : Type 0) (how result : SessionEnd) (so_far : Conversing client old here pending) → Stopped here now pending rest
    → InputEnds how so_far.exchanges rest ended → last_words how ≢ [] → LastReply here.written now.written (last_words how) how result → Conversation client old now ended result
words_end client old here now pending rest ended how result so_far stopped ends owed (inl wrote) =
    subst (λ (r : SessionEnd). Conversation client old now ended r) (sym wrote.0)
    (concluded client old here now pending rest ended how so_far stopped
    (concludes_took how old.written now.written so_far.exchanges rest ended ends (took_more old.written here.written now.written (texts_of so_far.exchanges) (last_words how) so_far.wrote wrote.1)))
words_end client old here now pending rest ended how result so_far stopped ends owed (inr cut) =
    subst (λ (r : SessionEnd). Conversation client old now ended r) (sym cut.0)
    (concluded client old here now pending rest ended end.WriteFault so_far stopped
    (inr (record { how = how; ends = ends; owed = owed; wrote = wrote_front old.written here.written now.written (texts_of so_far.exchanges) (last_words how) so_far.wrote cut.1 })))

-- the input ended, and the last words were written, or a front of them
pub ends_by_words : (client : Client) (old here now : Around) (pending rest : List ℕ) (ended : Type 0) (how result : SessionEnd) (outcome : Told) (so_far : Conversing client old here pending) → Stopped here now pending rest
    → InputEnds how so_far.exchanges rest ended → last_words how ≢ [] → text outcome ≡ last_words how → LastReply here.written now.written (text outcome) how result → Conversation client old now ended result
ends_by_words client old here now pending rest ended how result outcome so_far stopped ends owed words_are reply =
    words_end client old here now pending rest ended how result so_far stopped ends owed (subst (λ (words : List ℕ). LastReply here.written now.written words how result) words_are reply)

-- the definitions, the limit and the caller of a desk don't change
pub answering_as : (d e : List TableDef) (l m a b s : ℕ) (seen seen' : List Entry) (patience patience' : PatienceState) (line : List ℕ) (written written' : Option (List ℕ)) (how : Answered) → d ≡ e → l ≡ m → a ≡ b
    → Answering (record { defs = d; limit = l; caller = a; session = s }) None seen seen' patience patience' line written written' how → Answering (record { defs = e; limit = m; caller = b; session = s }) None seen seen' patience patience' line written written' how
answering_as d e l m a b s seen seen' patience patience' line written written' how defined limit caller answering =
    subst (λ (k : ℕ). Answering (record { defs = e; limit = m; caller = k; session = s }) None seen seen' patience patience' line written written' how) caller
    (subst (λ (n : ℕ). Answering (record { defs = e; limit = n; caller = a; session = s }) None seen seen' patience patience' line written written' how) limit
    (subst (λ (ds : List TableDef). Answering (record { defs = ds; limit = l; caller = a; session = s }) None seen seen' patience patience' line written written' how) defined answering))

-- a line that `next` gave, from the reader's fields
pub lined : (client : Client) (here now : Around) (reading reading' : Reading) (ended : Type 0) (line : List ℕ) (how : Answered) → reading.stopped ≡ None → Next reading reading' here.left now.left ended found.Line → line ≡ reading'.line
    → Answering client None here.seen now.seen here.patience now.patience line here.written now.written how → Lined client here now reading.pending reading'.pending line how
lined client here now reading reading' ended line how going next same answering =
    let takes = takes_of reading reading' here.left now.left ended found.Line next going in
    record {
      taken = takes.0;
      gave = takes.1;
      cut = takes.2.0 ∙ ap (λ (l : List ℕ). l ++ 10 ∷ reading'.pending) (sym same);
      open_line = subst IsOpenLine (sym same) takes.2.1;
      answering = answering;
    }

-- what `next` took where it gave no line, and how it stopped
pub stopped_at : (here now : Around) (reading reading' : Reading) (ended : Type 0) (how : LineEnd) (going : reading.stopped ≡ None) (next : Next reading reading' here.left now.left ended how)
    → now.seen ≡ here.seen → now.patience ≡ here.patience → Stopped here now reading.pending (reading.pending ++ (takes_of reading reading' here.left now.left ended how next going).0)
stopped_at here now reading reading' ended how going next seen patience =
    let takes = takes_of reading reading' here.left now.left ended how next going in
    record { taken = takes.0; gave = takes.1; rest_is = refl; seen = seen; patience = patience }
