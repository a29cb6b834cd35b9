use Rattle.std.proofs.Common.{◌∙◌, List, ℕ, inl, sym, subst}
use Rattle.q4_tool.specs.declared.definitions.Undefined.{Undefined}
use Rattle.q4_tool.specs.Definitions.{undefined_line, undefined_status}
use Rattle.q4_tool.specs.Tool.{Prints}
use Rattle.q4_tool.proofs.program.refuse.Goals as goal

pub returns-in-Ok-clause-said : goal.returns-in-Ok-clause-said
returns-in-Ok-clause-said g c =
    let said = subst (λ (line : List ℕ). Prints line 3 (g.W.Sink.written c.args.output.now) (g.W.Sink.written c.say.new.output) c.say.result) (c.as_bytes.ensures.value ∙ c.in-Ok.ensures) c.say.ensures.said in
    inl (subst (λ (why : Undefined). Prints (undefined_line why) (undefined_status why) (g.W.Sink.written c.args.output.now) (g.W.Sink.written c.say.new.output) c.say.result) (sym c.in-Faulty.is) said)

pub returns-in-TooLong-clause-said : goal.returns-in-TooLong-clause-said
returns-in-TooLong-clause-said g c =
    inl (subst (λ (why : Undefined). Prints (undefined_line why) (undefined_status why) (g.W.Sink.written c.args.output.now) (g.W.Sink.written c.say-in-TooLong.new.output) c.say-in-TooLong.result) (sym c.in-TooLong.is) c.say-in-TooLong.ensures.said)

pub returns-in-ReadFault-clause-said : goal.returns-in-ReadFault-clause-said
returns-in-ReadFault-clause-said g c =
    inl (subst (λ (why : Undefined). Prints (undefined_line why) (undefined_status why) (g.W.Sink.written c.args.output.now) (g.W.Sink.written c.say-in-ReadFault.new.output) c.say-in-ReadFault.result) (sym c.in-ReadFault.is) c.say-in-ReadFault.ensures.said)
