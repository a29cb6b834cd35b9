use Rattle.std.proofs.Common.{◌<◌, refl, sym, ap, subst, ◌∙◌, arith}
use Rattle.std.proofs.lemmas.Result.{err_from_is_err_and}
use Rattle.q4_value.specs.Row.{AreWider}
use Rattle.q4_table.specs.Cursors.{TableView}
use Rattle.q4_table.specs.TableState.{TableState}
use Rattle.q4_record.specs.Side.{generation_limit, Side}
use Rattle.q4_record.specs.SideParts.{GivenWider}
use Rattle.q4_record.proofs.WideSides.{whole_columns, own_is_side, own_not_narrow}
use Rattle.q4_record.proofs.Sides.{own_read, lacks_room, is_own, is_narrow, narrow_read, spent, base_failed_side, batches_failed_side}
use Rattle.q4_record.proofs.side.read_parts.Goals as goal

pub returns-in_err-table-clause-fault : goal.returns-in_err-table-clause-fault
returns-in_err-table-clause-fault c =
    let p = err_from_is_err_and c.from_residual-in_err-table.result c.from_residual-in_err-table.ensures.1 in
    let h = c.in_ok-header.ensures in
    rw (p.1, p.2) (base_failed_side c.args.columns c.args.bytes.now c.in_ok-header.header.base.now c.in_ok-header.header.format h.begins h.parts.1 h.format c.in_err-table.field-0.0 c.in_err-table.ensures.fault)

pub returns-in_err-table-2-clause-fault : goal.returns-in_err-table-2-clause-fault
returns-in_err-table-2-clause-fault c =
    let p = err_from_is_err_and c.from_residual-in_err-table-2.result c.from_residual-in_err-table-2.ensures.1 in
    let h = c.in_ok-header.ensures in
    rw (p.1, p.2) (batches_failed_side c.args.columns c.args.bytes.now c.in_ok-header.header.base.now c.in_ok-header.header.behind.now c.in_ok-header.header.format c.in_ok-table.table.state c.in_ok-table.wider _ h.begins h.parts.1 h.parts.2 h.format c.in_ok-table.ensures.base refl c.in_err-table-2.field-0.0 c.in_err-table-2.ensures.fault)

pub returns-then-len-from-clause-fault : goal.returns-then-len-from-clause-fault
returns-then-len-from-clause-fault c =
    let h = c.in_ok-header.ensures in
    lacks_room c.args.columns c.args.bytes.now c.in_ok-header.header.base.now c.in_ok-header.header.behind.now c.in_ok-header.header.format c.in_ok-table.table.state c.in_ok-table-2.table.state c.in_ok-table.wider _ c.in_ok-header.header.generation c.in_ok-table-2.len h.begins h.parts.1 h.parts.2 h.parts.0 h.format c.in_ok-table.ensures.base refl c.in_ok-table-2.ensures.read
    (λ room. omega (arith, room, c.count.ensures, c.from.ensures, c.if-len-from.true))

pub returns-in_default-clause-own : goal.returns-in_default-clause-own
returns-in_default-clause-own c = λ same.
    let h = c.in_ok-header.ensures in
    let b = c.in_ok-table.ensures.base in
    let own = own_read c.args.columns c.args.bytes.now c.in_ok-header.header.base.now c.in_ok-header.header.behind.now c.in_ok-header.header.format c.in_ok-table.table.state c.in_ok-table-2.table.state c.in_ok-table.wider _ c.in_ok-header.header.generation c.in_ok-table-2.len h.begins h.parts.1 h.parts.2 h.parts.0 h.format b refl c.in_ok-table-2.ensures.read (omega (arith, c.count.ensures, c.from.ensures, c.if-len-from.false)) in
    is_own c.args.columns b.own c.args.bytes.now c.in_ok-table-2.table.state c.in_ok-header.header.generation c.in_ok-table-2.len (subst (GivenWider c.args.columns b.own) c.in_default.is b.given) own

pub returns-in_default-clause-side : goal.returns-in_default-clause-side
returns-in_default-clause-side c =
    own_is_side c.args.columns c.args.bytes.now c.in_ok-table-2.table.state c.in_ok-header.header.generation c.in_ok-table-2.len (returns-in_default-clause-own c refl)

pub returns-in_default-clause-narrow : goal.returns-in_default-clause-narrow
returns-in_default-clause-narrow c = (
  λ on. absurd cc,
  λ narrow. absurd (own_not_narrow c.args.columns c.args.bytes.now c.in_ok-table-2.table.state c.in_ok-header.header.generation c.in_ok-table-2.len (returns-in_default-clause-own c refl) narrow),
)

pub returns-then-header-eq-GENERATION_LIMIT-clause-fault : goal.returns-then-header-eq-GENERATION_LIMIT-clause-fault
returns-then-header-eq-GENERATION_LIMIT-clause-fault c =
    let h = c.in_ok-header.ensures in
    let b = c.in_ok-table.ensures.base in
    let own = own_read c.args.columns c.args.bytes.now c.in_ok-header.header.base.now c.in_ok-header.header.behind.now c.in_ok-header.header.format c.in_ok-table.table.state c.in_ok-table-2.table.state c.in_ok-table.wider _ c.in_ok-header.header.generation c.in_ok-table-2.len h.begins h.parts.1 h.parts.2 h.parts.0 h.format b refl c.in_ok-table-2.ensures.read (omega (arith, c.count.ensures, c.from.ensures, c.if-len-from.false)) in
    let given = subst (GivenWider c.args.columns b.own) c.in-Some.is b.given in
    spent c.args.columns b.own c.args.bytes.now c.in_ok-table-2.table.state c.in_ok-header.header.generation c.in_ok-table-2.len b.agree given.1 c.if-header-eq-GENERATION_LIMIT.true own

pub widen-requires : goal.widen-requires
widen-requires c =
    let h = c.in_ok-header.ensures in
    let b = c.in_ok-table.ensures.base in
    let own = own_read c.args.columns c.args.bytes.now c.in_ok-header.header.base.now c.in_ok-header.header.behind.now c.in_ok-header.header.format c.in_ok-table.table.state c.in_ok-table-2.table.state c.in_ok-table.wider _ c.in_ok-header.header.generation c.in_ok-table-2.len h.begins h.parts.1 h.parts.2 h.parts.0 h.format b refl c.in_ok-table-2.ensures.read (omega (arith, c.count.ensures, c.from.ensures, c.if-len-from.false)) in
    let given = subst (GivenWider c.args.columns b.own) c.in-Some.is b.given in
    let columns = whole_columns b.own c.args.bytes.now c.in_ok-table-2.table.state c.in_ok-header.header.generation c.in_ok-table-2.len own.stands in
    subst (AreWider c.in-Some.columns) (sym columns) (subst (λ cs. AreWider cs b.own) (sym given.0) b.agree)

pub returns-clause-side : goal.returns-clause-side
returns-clause-side c =
    let h = c.in_ok-header.ensures in
    let b = c.in_ok-table.ensures.base in
    let own = own_read c.args.columns c.args.bytes.now c.in_ok-header.header.base.now c.in_ok-header.header.behind.now c.in_ok-header.header.format c.in_ok-table.table.state c.in_ok-table-2.table.state c.in_ok-table.wider _ c.in_ok-header.header.generation c.in_ok-table-2.len h.begins h.parts.1 h.parts.2 h.parts.0 h.format b refl c.in_ok-table-2.ensures.read (omega (arith, c.count.ensures, c.from.ensures, c.if-len-from.false)) in
    let given = subst (GivenWider c.args.columns b.own) c.in-Some.is b.given in
    let begins = h.begins in
    let below : c.in_ok-header.header.generation < generation_limit = omega (arith, c.if-header-eq-GENERATION_LIMIT.false, h.parts.0, begins.generation) in
    let wide = narrow_read c.args.columns b.own c.args.bytes.now c.in_ok-table-2.table.state c.in_ok-header.header.generation c.in_ok-table-2.len b.agree below own in
    let is = ap (λ (v : TableView). v.state) c.widen.ensures ∙ ap (λ cs. record c.in_ok-table-2.table.state { columns = cs }) given.0 in
    subst (λ (t : TableState). Side c.args.columns c.args.bytes.now t c.in_ok-header.header.generation c.in_ok-table-2.len) (sym is) wide

pub returns-clause-narrow : goal.returns-clause-narrow
returns-clause-narrow c =
    let h = c.in_ok-header.ensures in
    let b = c.in_ok-table.ensures.base in
    let own = own_read c.args.columns c.args.bytes.now c.in_ok-header.header.base.now c.in_ok-header.header.behind.now c.in_ok-header.header.format c.in_ok-table.table.state c.in_ok-table-2.table.state c.in_ok-table.wider _ c.in_ok-header.header.generation c.in_ok-table-2.len h.begins h.parts.1 h.parts.2 h.parts.0 h.format b refl c.in_ok-table-2.ensures.read (omega (arith, c.count.ensures, c.from.ensures, c.if-len-from.false)) in
    let given = subst (GivenWider c.args.columns b.own) c.in-Some.is b.given in
    (λ on. is_narrow c.args.columns b.own c.args.bytes.now c.in_ok-table-2.table.state c.in_ok-header.header.generation c.in_ok-table-2.len b.agree given.1 own, λ narrow. refl)
