use Rattle.std.proofs.Common.{ℕ, List, ◌≡◌, ◌≢◌, ◌∷◌, ◌∙◌, sym, subst, arith}
use Rattle.std.specs.Prelude.{MatchOption}
use Rattle.std.proofs.lemmas.Str.Pattern.{strip_prefix_char}
use Rattle.q4_proto.proofs.Waiting.{without_seconds}
use Rattle.q4_proto.proofs.wait.split_seconds.Goals as goal

pub returns-in-None-clause-entries : goal.returns-in-None-clause-entries
returns-in-None-clause-entries c =
    let none = subst (λ r. MatchOption r ((rest : List ℕ) → c.in-Some.last.now ≢ 61 ∷ rest) (λ x. c.in-Some.last.now ≡ 61 ∷ x.now)) c.in-None.is (strip_prefix_char 61 c.in-Some.last.now c.strip_prefix.result c.strip_prefix.ensures.cases (omega arith)) in
    c.again-in-None.ensures ∙ sym (without_seconds c.args.args.now c.in-Some.front c.in-Some.last.now c.in-Some.ensures.cut none).0

pub returns-in-None-clause-seconds : goal.returns-in-None-clause-seconds
returns-in-None-clause-seconds c =
    let none = subst (λ r. MatchOption r ((rest : List ℕ) → c.in-Some.last.now ≢ 61 ∷ rest) (λ x. c.in-Some.last.now ≡ 61 ∷ x.now)) c.in-None.is (strip_prefix_char 61 c.in-Some.last.now c.strip_prefix.result c.strip_prefix.ensures.cases (omega arith)) in
    sym (without_seconds c.args.args.now c.in-Some.front c.in-Some.last.now c.in-Some.ensures.cut none).1
