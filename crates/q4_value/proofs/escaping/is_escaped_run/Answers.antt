use Rattle.std.proofs.Common.{◌≡◌, ◌++◌, ◌-◌, ◌∷◌, [], ℕ, List, length, take, drop, refl, sym, ap, subst, ◌∙◌}
use Rattle.std.specs.List.{All}
use Rattle.std.proofs.lemmas.List.{take_rest, take-append-drop}
use Rattle.std.proofs.lemmas.List.Elements.{All-drop}
use Rattle.q4_value.specs.Escape.{escaped, escaped_byte, IsFieldByte, IsBadStart}
use Rattle.q4_value.proofs.EscapeLaws.{stands}
use Rattle.q4_value.proofs.Unescaped.{run_parts, last_run, made_more, made_all, bad_escape}
use Rattle.q4_value.proofs.escaping.is_escaped_run.Goals as goal

pub returns-in_default-escaped_character-clause-bad : goal.returns-in_default-escaped_character-clause-bad
returns-in_default-escaped_character-clause-bad c = λ words is.
    let inv = c.loop-at.invariant in
    let rest = c.loop-at.rest.now in
    let at = c.in-Some.at in
    let bad = subst IsBadStart (take_rest rest at) c.in_default-escaped_character.ensures.none in
    stands c.args.run.now words _ (bad_escape c.args.run.now inv.0 rest (take at rest) (drop at rest) _ inv.1 (sym (take-append-drop at rest)) (run_parts rest at inv.2 c.in-Some.ensures.0) refl bad) is

pub loop-at-preserved : goal.loop-at-preserved
loop-at-preserved c =
    let inv = c.loop-at.invariant in
    let rest = c.loop-at.rest.now in
    let at = c.in-Some.at in
    let read = c.in-Some-escaped_character.ensures.stands in
    let character = c.in-Some-escaped_character.«_character» in
    let escape = take (length rest - at) (drop at rest) in
    let left : take (length escape - 2) (drop 2 escape) ≡ drop 2 (drop at rest) = take_rest escape 2 ∙ ap (drop 2) (take_rest rest at) in
    let front : take 2 (drop at rest) ≡ escaped_byte character = ap (take 2) (sym (take_rest rest at)) ∙ read.1 in
    let parts : drop at rest ≡ escaped_byte character ++ drop 2 (drop at rest) = sym (take-append-drop 2 (drop at rest)) ∙ ap (λ x. x ++ drop 2 (drop at rest)) front in
    let made = (inv.0 ++ take at rest) ++ character ∷ [] in
    subst (λ r. (x : List ℕ) × (c.args.run.now ≡ escaped x ++ r) × All IsFieldByte r) (sym left)
    (made, made_more c.args.run.now inv.0 rest (take at rest) (drop at rest) (drop 2 (drop at rest)) made character inv.1 (sym (take-append-drop at rest)) (run_parts rest at inv.2 c.in-Some.ensures.0) parts refl, All-drop IsFieldByte 2 (drop at rest) (All-drop IsFieldByte at rest inv.2))

pub returns-clause-spelled : goal.returns-clause-spelled
returns-clause-spelled c =
    let inv = c.loop-at.invariant in
    let rest = c.loop-at.rest.now in
    (inv.0 ++ rest, made_all c.args.run.now inv.0 rest (inv.0 ++ rest) inv.1 (last_run rest rest refl inv.2 c.in_default.ensures) refl)
