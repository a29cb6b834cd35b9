-- Lines that are taken one after the other, and how that ends.
use Rattle.std.proofs.Common.{◌≡◌, ◌≢◌, ◌++◌, ◌∷◌, ◌∙◌, [], List, ℕ, Option, None, Some, All, IfSome, refl, sym, ap, subst, inl, inr, append_assoc, append-nil}
use Rattle.std.specs.List.{flat_map}
use Rattle.std.proofs.lemmas.List.Elements.{All-push, All-nil}
use Rattle.q4_flow.specs.declared.lines.LineEnd.{LineEnd}
use Rattle.q4_flow.specs.declared.lines.LineEnd.TheVariants as found
use Rattle.q4_flow.specs.Flow.{Gave, Took}
use Rattle.q4_flow.specs.Lines.{Cuts, Takes, Next, NextFrom, IsOpenLine}
use Rattle.q4_flow.specs.Reading.{Reading}
use Rattle.q4_flow.proofs.Known.{gave_nothing, gave_more, took_nothing, took_more}
use Rattle.q4_def.specs.declared.table_def.TableDef.{TableDef}
use Rattle.q4_machine.specs.declared.entry.Entry.{Entry}
use Rattle.q4_machine.specs.Patience.{PatienceState}
use Rattle.q4_session.specs.Sessions.{Around}
use Rattle.q4_play.specs.declared.plays.PlayEnd.{PlayEnd}
use Rattle.q4_play.specs.declared.plays.PlayEnd.TheVariants.{WriteFault}
use Rattle.q4_play.specs.declared.turns.Turned.{Turned}
use Rattle.q4_play.specs.Labels.{nobody}
use Rattle.q4_play.specs.Turns.{Host, Turn, IsTurn, AreTurns, line_of, grown_of, text_of, seating_behind, patience_behind, grown_by, lines_of, texts_of, seating_after, patience_after}
use Rattle.q4_play.specs.Plays.{Stop, Input, Refuses, CutUnlabelled, CutSpoken, IsLineStop, IsStop, InputEnds, WroteAll, Concludes, Lined, with_newline, stop_text, stop_end, stop_seating, stop_patience, stop_grown, last_words}
use Rattle.q4_play.specs.Playing.{Scene, Turning, Stopping, TurnsTo, Says}

-- what a line finds and leaves, of all that a play changes
abbrev pub scene : Around → List (Option ℕ) → Scene
scene around seating = record { seen = around.seen; seating = seating; patience = around.patience; written = around.written }

-- The lines so far, and the bytes that are pending.
pub record Taken (host : Host) (old now : Around) (seating : List (Option ℕ)) (pending : List ℕ) : Type 0 where
  pub turns : List Turn
  pub lines : All (λ turn. IsOpenLine (line_of turn)) turns
  pub are : AreTurns host old.seen nobody old.patience turns
  pub seating_is : seating ≡ seating_after nobody turns
  pub history : now.seen ≡ old.seen ++ grown_by turns
  pub patience : now.patience ≡ patience_after old.patience turns
  pub read : Gave old.left now.left (lines_of turns ++ pending)
  pub wrote : Took old.written now.written (texts_of turns)

-- no line yet
pub no_line : (host : Host) (old : Around) → Taken host old old nobody []
no_line host old = record {
  turns = [];
  lines = All-nil (λ (turn : Turn). IsOpenLine (line_of turn));
  are = tt;
  seating_is = refl;
  history = sym (append-nil old.seen);
  patience = refl;
  read = gave_nothing old.left;
  wrote = took_nothing old.written;
}

flat_map_push : {X Y : Type 0} (f : X → List Y) (xs : List X) (x : X) → flat_map f (xs ++ x ∷ []) ≡ flat_map f xs ++ f x
flat_map_push f [] x = append-nil (f x)
flat_map_push f (y ∷ ys) x = ap (λ zs. f y ++ zs) (flat_map_push f ys x) ∙ sym (append_assoc (f y) (flat_map f ys) (f x))

pub seating_push : (seating : List (Option ℕ)) (turns : List Turn) (turn : Turn) → seating_after seating (turns ++ turn ∷ []) ≡ seating_behind (seating_after seating turns) turn
seating_push seating [] turn = refl
seating_push seating (t ∷ ts) turn = seating_push (seating_behind seating t) ts turn

patience_push : (patience : PatienceState) (turns : List Turn) (turn : Turn) → patience_after patience (turns ++ turn ∷ []) ≡ patience_behind (patience_after patience turns) turn
patience_push patience [] turn = refl
patience_push patience (t ∷ ts) turn = patience_push (patience_behind patience t) ts turn

turns_push : (host : Host) (seen : List Entry) (seating : List (Option ℕ)) (patience : PatienceState) (turns : List Turn) (turn : Turn)
    → AreTurns host seen seating patience turns → IsTurn host (seen ++ grown_by turns) (seating_after seating turns) (patience_after patience turns) turn → AreTurns host seen seating patience (turns ++ turn ∷ [])
turns_push host seen seating patience [] turn are next = (subst (λ (h : List Entry). IsTurn host h seating patience turn) (append-nil seen) next, tt)
turns_push host seen seating patience (t ∷ ts) turn are next = (
  are.0,
  turns_push host (seen ++ grown_of t) (seating_behind seating t) (patience_behind patience t) ts turn are.1
      (subst (λ (h : List Entry). IsTurn host h (seating_after (seating_behind seating t) ts) (patience_after (patience_behind patience t) ts) turn) (sym (append_assoc seen (grown_of t) (grown_by ts))) next),
)

-- what a call of `next` took, where nothing had stopped
pub takes_of : (old new : Reading) (left left' : Option (List ℕ)) (ended : Type 0) (how : LineEnd) → Next old new left left' ended how → old.stopped ≡ None → Takes left left' (λ taken. Cuts (old.pending ++ taken) ended new how)
takes_of old new left left' ended how next going = subst (λ o. NextFrom o old new left left' ended how) going next

-- a line that was found
pub record Found (here now : Around) (pending rest line : List ℕ) : Type 0 where
  pub taken : List ℕ
  pub gave : Gave here.left now.left taken
  pub cut : pending ++ taken ≡ line ++ 10 ∷ rest
  pub open_line : IsOpenLine line

line_moves : (lines pending taken line rest : List ℕ) → pending ++ taken ≡ line ++ 10 ∷ rest → (lines ++ pending) ++ taken ≡ (lines ++ (line ++ 10 ∷ [])) ++ rest
line_moves lines pending taken line rest is =
    append_assoc lines pending taken ∙ ap (λ xs. lines ++ xs) (is ∙ sym (append_assoc line (10 ∷ []) rest)) ∙ sym (append_assoc lines (line ++ 10 ∷ []) rest)

read_line : (left left1 left2 : Option (List ℕ)) (lines pending taken line rest : List ℕ) → Gave left left1 (lines ++ pending) → Gave left1 left2 taken → pending ++ taken ≡ line ++ 10 ∷ rest → Gave left left2 ((lines ++ (line ++ 10 ∷ [])) ++ rest)
read_line left left1 left2 lines pending taken line rest first second cut = subst (Gave left left2) (line_moves lines pending taken line rest cut) (gave_more left left1 left2 (lines ++ pending) taken first second)

turn_as : (host : Host) (seen seen' : List Entry) (seating seating' : List (Option ℕ)) (patience patience' : PatienceState) (turn : Turn) → seen ≡ seen' → seating ≡ seating' → patience ≡ patience' → IsTurn host seen seating patience turn → IsTurn host seen' seating' patience' turn
turn_as host seen seen' seating seating' patience patience' turn same seats kept is =
    subst (λ (p : PatienceState). IsTurn host seen' seating' p turn) kept (subst (λ (x : List (Option ℕ)). IsTurn host seen' x patience turn) seats (subst (λ (h : List Entry). IsTurn host h seating patience turn) same is))

-- one more line
pub one_more : (host : Host) (old here now : Around) (seating seating' : List (Option ℕ)) (pending rest line : List ℕ) → Taken host old here seating pending → Found here now pending rest line
    → Turning host (scene here seating) (scene now seating') line → Taken host old now seating' rest
one_more host old here now seating seating' pending rest line so_far found turning =
    let xs = so_far.turns in
    let t = turning.turn in
    record {
      turns = xs ++ t ∷ [];
      lines = All-push (λ (x : Turn). IsOpenLine (line_of x)) xs t so_far.lines (subst IsOpenLine (sym turning.line_is) found.open_line);
      are = turns_push host old.seen nobody old.patience xs t so_far.are
          (turn_as host here.seen (old.seen ++ grown_by xs) seating (seating_after nobody xs) here.patience (patience_after old.patience xs) t so_far.history so_far.seating_is so_far.patience turning.is);
      seating_is = turning.seating ∙ ap (λ (x : List (Option ℕ)). seating_behind x t) so_far.seating_is ∙ sym (seating_push nobody xs t);
      history = turning.history ∙ ap (λ (h : List Entry). h ++ grown_of t) so_far.history ∙ append_assoc old.seen (grown_by xs) (grown_of t) ∙ ap (λ (h : List Entry). old.seen ++ h) (sym (flat_map_push grown_of xs t));
      patience = turning.patience ∙ ap (λ (p : PatienceState). patience_behind p t) so_far.patience ∙ sym (patience_push old.patience xs t);
      read = subst (λ (bytes : List ℕ). Gave old.left now.left (bytes ++ rest)) (ap (λ (l : List ℕ). lines_of xs ++ (l ++ 10 ∷ [])) (sym turning.line_is) ∙ sym (flat_map_push (λ (x : Turn). line_of x ++ 10 ∷ []) xs t))
          (read_line old.left here.left now.left (lines_of xs) pending found.taken line rest so_far.read found.gave found.cut);
      wrote = subst (Took old.written now.written) (sym (flat_map_push text_of xs t)) (took_more old.written here.written now.written (texts_of xs) (text_of t) so_far.wrote turning.wrote);
    }

-- ## What is written at the end

all_more : (a b c : Option (List ℕ)) (texts owed : List ℕ) (wanted : Option PlayEnd) (how : PlayEnd) → Took a b texts → WroteAll wanted b c owed how → WroteAll wanted a c (texts ++ owed) how
all_more a b c texts owed None how took none = none
all_more a b c texts owed (Some wanted) how took wrote = (wrote.0, took_more a b c texts owed took wrote.1)

concludes_more : (a b c : Option (List ℕ)) (texts : List ℕ) (stop : Stop) (how : PlayEnd) → Took a b texts → Concludes stop b c [] how → Concludes stop a c texts how
concludes_more a b c texts stop how took (inl wrote) = inl (all_more a b c texts (stop_text stop) (stop_end stop) how took wrote)
concludes_more a b c texts stop how took (inr cut) =
    inr (record { end = cut.end; some = cut.some; wrote = record { front = cut.wrote.front; is_front = cut.wrote.is_front; took = took_more a b c texts cut.wrote.front took cut.wrote.took } })

-- ## A stop at a line

line_stop : (host : Host) (before : List Entry) (seating : List (Option ℕ)) (patience : PatienceState) (rest : List ℕ) (ended : Type 0) (stop : Stop) → IsLineStop host before seating patience stop → IsStop host before seating patience rest ended stop
line_stop host before seating patience rest ended (Input how) is = absurd is
line_stop host before seating patience rest ended (Refuses refused) is = is
line_stop host before seating patience rest ended (CutUnlabelled line) is = is
line_stop host before seating patience rest ended (CutSpoken spoken) is = is

stop_as : (host : Host) (seen seen' : List Entry) (seating seating' : List (Option ℕ)) (patience patience' : PatienceState) (stop : Stop) → seen ≡ seen' → seating ≡ seating' → patience ≡ patience' → IsLineStop host seen seating patience stop → IsLineStop host seen' seating' patience' stop
stop_as host seen seen' seating seating' patience patience' stop same seats kept is =
    subst (λ (p : PatienceState). IsLineStop host seen' seating' p stop) kept (subst (λ (x : List (Option ℕ)). IsLineStop host seen' x patience stop) seats (subst (λ (h : List Entry). IsLineStop host h seating patience stop) same is))

pub stops_at : (host : Host) (old here now : Around) (seating seating' : List (Option ℕ)) (pending rest line : List ℕ) (ended : Type 0) (how : PlayEnd) → Taken host old here seating pending → Found here now pending rest line
    → Stopping host (scene here seating) (scene now seating') line how → Lined host old now seating' ended how
stops_at host old here now seating seating' pending rest line ended how so_far found stopping =
    let xs = so_far.turns in
    let s = stopping.stop in
    record {
      turns = xs;
      stop = s;
      rest = rest;
      lines = so_far.lines;
      last_line = subst (λ (o : Option (List ℕ)). IfSome o IsOpenLine) (sym stopping.line_is) found.open_line;
      are = so_far.are;
      stops = line_stop host (old.seen ++ grown_by xs) (seating_after nobody xs) (patience_after old.patience xs) rest ended s
          (stop_as host here.seen (old.seen ++ grown_by xs) seating (seating_after nobody xs) here.patience (patience_after old.patience xs) s so_far.history so_far.seating_is so_far.patience stopping.is);
      seating = stopping.seating ∙ ap (λ (x : List (Option ℕ)). stop_seating x s) so_far.seating_is;
      history = stopping.history ∙ ap (λ (h : List Entry). h ++ stop_grown s) so_far.history;
      patience = stopping.patience ∙ ap (λ (p : PatienceState). stop_patience p s) so_far.patience;
      read = subst (λ (o : Option (List ℕ)). Gave old.left now.left ((lines_of xs ++ with_newline o) ++ rest)) (sym stopping.line_is) (read_line old.left here.left now.left (lines_of xs) pending found.taken line rest so_far.read found.gave found.cut);
      wrote = concludes_more old.written here.written now.written (texts_of xs) s how so_far.wrote stopping.wrote;
    }

-- ## The end of the input

-- what came behind the lines, where the history and the patience stayed
pub record Stopped (here now : Around) (pending rest : List ℕ) : Type 0 where
  pub taken : List ℕ
  pub gave : Gave here.left now.left taken
  pub rest_is : rest ≡ pending ++ taken
  pub seen : now.seen ≡ here.seen
  pub patience : now.patience ≡ here.patience

ends_so : (host : Host) (old here now : Around) (seating : List (Option ℕ)) (pending rest : List ℕ) (ended : Type 0) (how result : PlayEnd) → Taken host old here seating pending → Stopped here now pending rest
    → InputEnds how rest ended → Concludes (Input how) here.written now.written [] result → Lined host old now seating ended result
ends_so host old here now seating pending rest ended how result so_far stopped ends concludes =
    let xs = so_far.turns in
    record {
      turns = xs;
      stop = Input how;
      rest = rest;
      lines = so_far.lines;
      last_line = tt;
      are = so_far.are;
      stops = ends;
      seating = so_far.seating_is;
      history = stopped.seen ∙ so_far.history ∙ sym (append-nil (old.seen ++ grown_by xs));
      patience = stopped.patience ∙ so_far.patience;
      read = subst (Gave old.left now.left) (append_assoc (lines_of xs) pending stopped.taken ∙ ap (λ (bytes : List ℕ). lines_of xs ++ bytes) (sym stopped.rest_is) ∙ ap (λ (bytes : List ℕ). bytes ++ rest) (sym (append-nil (lines_of xs))))
          (gave_more old.left here.left now.left (lines_of xs ++ pending) stopped.taken so_far.read stopped.gave);
      wrote = concludes_more old.written here.written now.written (texts_of xs) (Input how) result so_far.wrote concludes;
    }

-- nothing more was owed
pub ends_silently : (host : Host) (old here now : Around) (seating : List (Option ℕ)) (pending rest : List ℕ) (ended : Type 0) (how : PlayEnd) → Taken host old here seating pending → Stopped here now pending rest
    → InputEnds how rest ended → now.written ≡ here.written → last_words how ≡ [] → Lined host old now seating ended how
ends_silently host old here now seating pending rest ended how so_far stopped ends kept silent =
    ends_so host old here now seating pending rest ended how how so_far stopped ends
    (inl (refl, subst (Took here.written now.written) (sym silent) (subst (λ (w : Option (List ℕ)). Took here.written w []) (sym kept) (took_nothing here.written))))

words_said : (how result : PlayEnd) (old new : Option (List ℕ)) → last_words how ≢ [] → Says old new (last_words how) how WriteFault result → Concludes (Input how) old new [] result
words_said how result old new owed (inl said) = inl said
words_said how result old new owed (inr cut) = inr (record { end = cut.0; some = owed; wrote = record { front = cut.1.front; is_front = cut.1.is_front; took = cut.1.took } })

-- the last words were written, or a front of them
pub ends_by_words : (host : Host) (old here now : Around) (seating : List (Option ℕ)) (pending rest words : List ℕ) (ended : Type 0) (how result : PlayEnd) → Taken host old here seating pending → Stopped here now pending rest
    → InputEnds how rest ended → last_words how ≢ [] → words ≡ last_words how → Says here.written now.written words how WriteFault result → Lined host old now seating ended result
ends_by_words host old here now seating pending rest words ended how result so_far stopped ends owed words_are says =
    ends_so host old here now seating pending rest ended how result so_far stopped ends
    (words_said how result here.written now.written owed (subst (λ (w : List ℕ). Says here.written now.written w how WriteFault result) words_are says))

-- ## From the reader's fields

pub found_line : (here now : Around) (reading reading' : Reading) (ended : Type 0) (line : List ℕ) → reading.stopped ≡ None → Next reading reading' here.left now.left ended found.Line → line ≡ reading'.line → Found here now reading.pending reading'.pending line
found_line here now reading reading' ended line going next same =
    let takes = takes_of reading reading' here.left now.left ended found.Line next going in
    record { taken = takes.0; gave = takes.1; cut = takes.2.0 ∙ ap (λ (l : List ℕ). l ++ 10 ∷ reading'.pending) (sym same); open_line = subst IsOpenLine (sym same) takes.2.1 }

pub stopped_at : (here now : Around) (reading reading' : Reading) (ended : Type 0) (how : LineEnd) (going : reading.stopped ≡ None) (next : Next reading reading' here.left now.left ended how)
    → now.seen ≡ here.seen → now.patience ≡ here.patience → Stopped here now reading.pending (reading.pending ++ (takes_of reading reading' here.left now.left ended how next going).0)
stopped_at here now reading reading' ended how going next seen patience =
    let takes = takes_of reading reading' here.left now.left ended how next going in
    record { taken = takes.0; gave = takes.1; rest_is = refl; seen = seen; patience = patience }

-- ## The definitions, the limit and the caller of a desk don't change

abbrev pub host_of : List TableDef → ℕ → ℕ → Host
host_of defs limit caller = record { defs = defs; limit = limit; caller = caller }

host_as : (d e : List TableDef) (l m a b : ℕ) → d ≡ e → l ≡ m → a ≡ b → host_of d l a ≡ host_of e m b
host_as d e l m a b defs limit caller = ap (λ (x : List TableDef). host_of x l a) defs ∙ ap (λ (x : ℕ). host_of e x a) limit ∙ ap (λ (x : ℕ). host_of e m x) caller

pub turns_as : (d e : List TableDef) (l m a b : ℕ) (old new : Scene) (line : List ℕ) (turned : Turned) → d ≡ e → l ≡ m → a ≡ b
    → TurnsTo (host_of d l a) old new line turned → TurnsTo (host_of e m b) old new line turned
turns_as d e l m a b old new line turned defs limit caller turns = subst (λ (host : Host). TurnsTo host old new line turned) (host_as d e l m a b defs limit caller) turns
