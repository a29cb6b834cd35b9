use Rattle.std.proofs.Common.{sym, ap, ◌∙◌}
use Rattle.std.specs.Option.{option_copied}
use Rattle.q4_def.proofs.Forms.{not_strings}
use Rattle.q4_def.proofs.document.strings_of.Goals as goal

pub returns-in_default : goal.returns-in_default
returns-in_default c =
    not_strings c.args.values.now c.loop-value.value-index c.value-item.result c.loop-value-test.true c.value-item.is (sym c.as_str.ensures ∙ ap option_copied c.in_default.is)
