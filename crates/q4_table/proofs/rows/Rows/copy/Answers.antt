use Rattle.std.proofs.Common.{◌≡◌, ◌<◌, ◌∙◌, ◌++◌, ◌∷◌, [], ap, sym, subst, append_assoc}
use Rattle.q4_table.specs.declared.rows.StoredRow.{StoredRow}
use Rattle.q4_table.specs.Adding.{number_limit}
use Rattle.q4_table.specs.Rows.{numbers_of}
use Rattle.q4_table.specs.Valid.{RiseBelow}
use Rattle.q4_table.proofs.Entries.{rise-middle}
use Rattle.q4_table.proofs.Marking.{on_ok}
use Rattle.q4_table.proofs.rows.Rows.copy.Goals as goal

-- the row that is copied comes behind those that were, and before those that are left
parts : (c : goal.After-rows-1) → c.loop-stored.rows ++ c.in_ok-stored.stored ∷ c.next.new.self ≡ c.args.self.now
parts c =
    ap (λ (r : StoredRow). c.loop-stored.rows ++ r ∷ c.next.new.self) c.in_ok-stored.ensures ∙ (ap (λ rs. c.loop-stored.rows ++ rs) (sym c.in-Some.ensures.steps) ∙ c.loop-stored.invariant)

-- so its number lies above theirs
above : (c : goal.After-rows-1)
    → (0 < c.in_ok-stored.stored.number) × (c.in_ok-stored.stored.number < number_limit) × RiseBelow 0 c.in_ok-stored.stored.number (numbers_of c.loop-stored.rows)
above c =
    rise-middle 0 number_limit c.loop-stored.rows c.next.new.self c.in_ok-stored.stored
    (subst (λ rs. RiseBelow 0 number_limit (numbers_of rs)) (c.self.view_is ∙ sym (parts c)) c.self.invariant.rise)

pub push-requires-clause-positive : goal.push-requires-clause-positive
push-requires-clause-positive c = (above c).0

pub push-requires-clause-limit : goal.push-requires-clause-limit
push-requires-clause-limit c = (above c).1

pub push-requires-clause-above : goal.push-requires-clause-above
push-requires-clause-above c = (above c).2

pub loop-stored-preserved : goal.loop-stored-preserved
loop-stored-preserved c =
    let pushed : c.push.new.self ≡ c.loop-stored.rows ++ c.in_ok-stored.stored ∷ [] = on_ok c.push.result (sym c.is_err.ensures.value ∙ c.if-is_err.false) c.push.ensures.pushed in
    rw (pushed, append_assoc)
    (ap (λ (r : StoredRow). c.loop-stored.rows ++ r ∷ c.next.new.self) c.in_ok-stored.ensures ∙ (ap (λ rs. c.loop-stored.rows ++ rs) (sym c.in-Some.ensures.steps) ∙ c.loop-stored.invariant))
