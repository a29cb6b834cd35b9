use Rattle.q4_play.proofs.Wholes.{whole_session}
use Rattle.q4_play.proofs.Since.{every_command}
use Rattle.q4_play.proofs.Apart.{sessions_apart}
use Rattle.q4_play.proofs.Owned.{all_owned}
use Rattle.q4_play.proofs.laws.labels_have_whole_sessions.Goals as goal

pub returns-clause-whole : goal.returns-clause-whole
returns-clause-whole c = λ host old new ended how play front later first closing legal cut none. whole_session host old new ended how play front later first closing legal cut none

pub returns-clause-every : goal.returns-clause-every
returns-clause-every c = λ host old new ended how play front later spoken closing cut. every_command host old new ended how play front later spoken closing cut

pub returns-clause-apart : goal.returns-clause-apart
returns-clause-apart c = λ host old new ended how play front later other_front other_later first other closing other_closing legal cut none other_cut other_none same.
    sessions_apart host old new ended how play front later other_front other_later first other closing other_closing legal cut none other_cut other_none same

pub returns-clause-owned : goal.returns-clause-owned
returns-clause-owned c = λ host old new ended how play grown is. all_owned host old new ended how play grown is
