use Rattle.std.proofs.Common.{◌≡◌, ◌≢◌, ◌<◌, ◌∙◌, length, get_or, sym, ap, subst, arith}
use Rattle.std.specs.List.{insert}
use Rattle.q4_table.specs.declared.marks.Mark.{Mark}
use Rattle.q4_table.specs.Marks.{with_mark}
use Rattle.q4_table.specs.Place.{IsPlace}
use Rattle.q4_table.proofs.Marking.{source, mark-replaced, mark-inserted, marks-with}
use Rattle.q4_table.proofs.Places.{same_there}
use Rattle.q4_table.proofs.marks.Marks.set.Goals.{else-place-len-via-then-place-len+else-index-mark, else-place-len-via-else-place-len, in-Ok, in-Err}
use Rattle.q4_table.proofs.marks.Marks.set.Goals as goal

pub invariant_of-self : goal.invariant_of-self
invariant_of-self c =
    let at = subst (λ ms. IsPlace source ms c.args.mark.source c.place_of-place.result) (sym c.self.view_is) c.place_of-place.ensures in
    rw (mark-replaced c.args.mark.source c.args.mark.number c.place_of-place.result c.self.inside.marks.items c.index.result.now c.self.invariant.rise at (omega (arith, c.if-place-len.true, c.len.ensures, c.self.inside.marks.ok.0)) c.index.ensures c.if-index-mark.true)
    (marks-with c.args.mark.source c.args.mark.number c.self.inside.marks.items c.requires c.self.invariant)

pub returns-then-index-mark-clause-set : goal.returns-then-index-mark-clause-set
returns-then-index-mark-clause-set c =
    let at = subst (λ ms. IsPlace source ms c.args.mark.source c.place_of-place.result) (sym c.self.view_is) c.place_of-place.ensures in
    rw (← c.self.view_is)
    (mark-replaced c.args.mark.source c.args.mark.number c.place_of-place.result c.self.inside.marks.items c.index.result.now c.self.invariant.rise at (omega (arith, c.if-place-len.true, c.len.ensures, c.self.inside.marks.ok.0)) c.index.ensures c.if-index-mark.true)

-- the source has no mark at its place
other : (c : goal.Joined-insert) (old : Mark) → c.place_of-place.result < length c.self.inside.marks.items → old ≡ get_or c.self.inside.marks.items c.place_of-place.result old → old.source ≢ c.args.mark.source
other c old inside is same = elim c.else-place-len.branch [
  | else-place-len-via-then-place-len+else-index-mark w ↦ w.if-index-mark.false (sym (ap source (same_there c.place_of-place.result c.self.inside.marks.items old w.index.result.now inside is w.index.ensures)) ∙ same)
  | else-place-len-via-else-place-len w ↦ omega (arith, w.if-place-len.false, c.len.ensures, c.self.inside.marks.ok.0, inside)
]

inserted : (c : goal.Joined-insert) → insert c.self.inside.marks.items c.place_of-place.result c.args.mark ≡ with_mark c.args.mark.source c.args.mark.number c.self.inside.marks.items
inserted c = mark-inserted c.args.mark.source c.args.mark.number c.place_of-place.result c.self.inside.marks.items c.self.invariant.rise (subst (λ ms. IsPlace source ms c.args.mark.source c.place_of-place.result) (sym c.self.view_is) c.place_of-place.ensures) (other c)

pub invariant_of-self-2 : goal.invariant_of-self-2
invariant_of-self-2 c = elim c.match-insert.branch [
  | in-Ok w ↦ rw (w.in-Ok.ensures.items, inserted c) (marks-with c.args.mark.source c.args.mark.number c.self.inside.marks.items c.requires c.self.invariant)
  | in-Err w ↦ rw w.in-Err.ensures.items c.self.invariant
]

pub returns-clause-set : goal.returns-clause-set
returns-clause-set c = elim c.match-insert.branch [
  | in-Ok w ↦ rw (w.result-is, ← c.self.view_is) (w.in-Ok.ensures.items ∙ inserted c)
  | in-Err w ↦ rw w.result-is tt
]
