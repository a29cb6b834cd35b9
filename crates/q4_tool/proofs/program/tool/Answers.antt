use Rattle.std.proofs.Common.{refl}
use Rattle.q4_tool.proofs.Running.{done_defined, refused_defined, rose_unread}
use Rattle.q4_tool.proofs.program.tool.Goals as goal

pub returns-in-Run-clause-run : goal.returns-in-Run-clause-run
returns-in-Run-clause-run g c = λ are. done_defined _ _ _ _ _ _ _ _ _ _ c.in-Ok.defs c.in-Ok.ensures.comes c.in-Ok.ensures.stayed c.run.ensures.ran

pub returns-in-Play-clause-play : goal.returns-in-Play-clause-play
returns-in-Play-clause-play g c = λ are. done_defined _ _ _ _ _ _ _ _ _ _ c.in-Ok.defs c.in-Ok.ensures.comes c.in-Ok.ensures.stayed c.run_play.ensures.played

pub returns-in-Err-clause-run : goal.returns-in-Err-clause-run
returns-in-Err-clause-run g c = λ are. refused_defined _ _ _ _ _ _ _ _ _ _ c.in-Err.why c.in-Err.ensures.comes c.in-Err.ensures.stayed c.refuse.ensures.said refl

pub returns-in-Err-clause-play : goal.returns-in-Err-clause-play
returns-in-Err-clause-play g c = λ are. refused_defined _ _ _ _ _ _ _ _ _ _ c.in-Err.why c.in-Err.ensures.comes c.in-Err.ensures.stayed c.refuse.ensures.said refl

pub returns-in-Err-clause-definitions_faults : goal.returns-in-Err-clause-definitions_faults
returns-in-Err-clause-definitions_faults g c = λ rose. c.refuse.ensures.read_faults (rose_unread c.in-Err.why _ _ c.in-Err.ensures.stayed rose)
