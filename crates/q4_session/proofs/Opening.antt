-- A session whose opening was refused, and one that was opened.
use Rattle.std.proofs.Common.{◌≡◌, ◌∙◌, List, ℕ, Err, refl, subst}
use Rattle.q4_machine.specs.declared.desk.DeskFault.{DeskFault}
use Rattle.q4_machine.specs.declared.desk.DeskFault.TheVariants as fault
use Rattle.q4_machine.specs.Parts.{Grows, IsOpened, fault_answer}
use Rattle.q4_proto.specs.Text.{text}
use Rattle.q4_session.specs.declared.sessions.SessionEnd.{SessionEnd}
use Rattle.q4_session.specs.Exchanges.{answer_outcome}
use Rattle.q4_session.specs.Sessions.{Around, RefusedSession, refused_end, refused_words}
use Rattle.q4_session.specs.Answering.{LastReply}

-- the words of a refused opening are the text of its outcome
words_are : (refused : DeskFault) → text (answer_outcome (fault_answer refused)) ≡ refused_words refused
words_are fault.Memory = refl
words_are (fault.Worn count) = refl

pub not_opened : (limit caller : ℕ) (old new : Around) (untouched : Type 0) (refused : DeskFault) (how result : SessionEnd) (words : List ℕ)
    → Grows old.seen new.seen (λ grown. IsOpened limit old.seen grown caller (Err refused)) → untouched → new.patience ≡ old.patience
    → how ≡ refused_end refused → words ≡ text (answer_outcome (fault_answer refused)) → LastReply old.written new.written words how result → RefusedSession limit caller old new untouched result
not_opened limit caller old new untouched refused how result words grows is_untouched patience how_is words_is reply = record {
  grown = grows.0;
  fault = refused;
  history = grows.1;
  refused = grows.2;
  unread = is_untouched;
  patience = patience;
  wrote = subst (λ (w : List ℕ). LastReply old.written new.written w (refused_end refused) result) (words_is ∙ words_are refused) (subst (λ (h : SessionEnd). LastReply old.written new.written words h result) how_is reply);
}
