use Rattle.std.proofs.Common.{refl, sym, ◌∙◌, arith}
use Rattle.q4_store.proofs.Finding.{own_sound}
use Rattle.q4_store.proofs.Opened.{generation_within, opened_held, opened_stands}
use Rattle.q4_store.proofs.store.Store.open.Goals as goal

pub invariant_of-store : goal.invariant_of-store
invariant_of-store g c =
    let found = c.in-Ok.ensures.found in
    let held = c.in-Ok.ensures.held in
    opened_held g.D.Disk.told _ c.args.def.now.columns found.sound.0 c.in-Ok.found.table.state found.sound.1 (λ h. found.settled (sym c.find.ensures.honest ∙ h)) held.none c.count.ensures _ _ refl held.no_ends (omega (arith, held.room, c.count.ensures)) (omega (arith, held.copy_room, c.count.ensures))

pub returns-clause-stands : goal.returns-clause-stands
returns-clause-stands g c =
    let found = c.in-Ok.ensures.found in
    let held = c.in-Ok.ensures.held in
    opened_stands g.D.Disk.told _ c.args.def.now.columns found.sound.0 c.in-Ok.found.table.state found.sound.1 (λ h. found.settled (sym c.find.ensures.honest ∙ h)) held.none c.count.ensures c.requires held.columns_are refl (λ h. found.ready (sym c.find.ensures.honest ∙ h))

pub returns-clause-fresh : goal.returns-clause-fresh
returns-clause-fresh g c =
    let found = c.in-Ok.ensures.found in
    let held = c.in-Ok.ensures.held in
    (held.columns_are, refl, held.none, refl, refl, (own_sound _ found.sound.0 c.in-Ok.found.table.state c.in-Ok.found.generation c.in-Ok.found.end c.requires found.sound.1).columns_are)

pub returns-clause-generation : goal.returns-clause-generation
returns-clause-generation g c =
    let found = c.in-Ok.ensures.found in
    generation_within c.args.def.now.columns found.sound.0 c.in-Ok.found.table.state c.in-Ok.found.generation c.in-Ok.found.end found.sound.1
