use Rattle.q4_value.proofs.EscapeLaws.{made_again}
use Rattle.q4_value.proofs.escaping.unescape.Goals as goal

pub returns-clause-spelled : goal.returns-clause-spelled
returns-clause-spelled c = made_again c.args.text.now c.unescape_first.result c.unescape_first.ensures.read c.unescape_first.ensures.fault
