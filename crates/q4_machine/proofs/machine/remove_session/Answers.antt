use Rattle.std.proofs.Common.{◌==◌, not, rules}
use Rattle.std.proofs.lemmas.Fn.{filter_same}
use Rattle.q4_machine.specs.declared.session.OpenSession.{OpenSession}
use Rattle.q4_machine.proofs.machine.remove_session.Goals as goal

pub returns : goal.returns
returns c = filter_same _ (λ (s : OpenSession). not (s.session == c.args.session)) _ (λ x b f' k. search rules) _ _ c.retain.ensures.filtered
