use Rattle.std.proofs.Common.{◌++◌, List, ℕ, refl, sym, ap, subst, IsTrue}
use Rattle.q4_flow.specs.Lines.{Cuts}
use Rattle.q4_flow.specs.Reading.{Reading}
use Rattle.q4_flow.proofs.Cutting.{cuts_same}
use Rattle.q4_flow.proofs.lines.Lines.advance.Goals as goal

pub returns-clause-cut : goal.returns-clause-cut
returns-clause-cut g c =
    let takes = c.gather-end.ensures.cut in
    let ended = IsTrue (g.S.Source.ended c.gather-end.new.source) in
    let whole : Cuts (c.args.self.now.pending ++ takes.0) ended c.gather-end.new.self c.gather-end.result =
    subst (λ (pending : List ℕ). Cuts (pending ++ takes.0) ended c.gather-end.new.self c.gather-end.result) (c.if-cut.ensures.none refl) takes.2 in
    let line = ap (λ (r : Reading). r.line) c.stop.ensures in
    let pending = ap (λ (r : Reading). r.pending) c.stop.ensures in
    (takes.0, takes.1, cuts_same (c.args.self.now.pending ++ takes.0) ended c.gather-end.new.self c.stop.new.self c.gather-end.result (sym line) (sym pending) whole)
