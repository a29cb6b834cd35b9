use Rattle.std.proofs.Common.{◌≡◌, ◌+◌, ◌++◌, ◌∷◌, [], Some, Result, Ok, Err, false, sym, ap, subst, ◌∙◌}
use Rattle.std.specs.Prelude.{OnOk}
use Rattle.std.specs.List.{slice_get, slice_set}
use Rattle.std.proofs.lemmas.Option.{slice_get_within}
use Rattle.q4_record.specs.SideParts.{Differed}
use Rattle.q4_record.proofs.Told.{none_of, still_differs, same_told, wider_told, other_told}
use Rattle.q4_record.proofs.schema.ToldColumns.tell.Goals as goal

-- of three facts that hold where all went well
on_all : {T E A B C Q : Type 0} (r : Result T E) → (A → B → C → Q) → OnOk r A → OnOk r B → OnOk r C → OnOk r Q
on_all (Ok x) f a b c = f a b c
on_all (Err e) f a b c = tt

pub returns-then-is_some : goal.returns-then-is_some
returns-then-is_some c = λ columns told len so. still_differs columns told c.args.self.now _ (sym c.is_some.ensures ∙ c.if-is_some.true) so

pub narrow-requires : goal.narrow-requires
narrow-requires c =
    let here = c.in-Wider.ensures in
    slice_get_within c.args.self.now.own c.args.place here.0 (sym c.at.ensures ∙ here.1)

pub returns-in-Same : goal.returns-in-Same
returns-in-Same c = λ columns told len so.
    same_told columns told c.args.self.now _ (none_of c.args.self.now.differs (sym c.is_some.ensures ∙ c.if-is_some.false)) (ap (slice_get c.args.self.now.own) len ∙ sym c.at.ensures ∙ c.in-Same.ensures) so

pub returns-in-Wider : goal.returns-in-Wider
returns-in-Wider c =
    let here = c.in-Wider.ensures in
    let now = c.args.self.now in
    let none = none_of now.differs (sym c.is_some.ensures ∙ c.if-is_some.false) in
    let at : slice_get now.own c.args.place ≡ Some here.0 = sym c.at.ensures ∙ here.1 in
    on_all c.narrow.result (λ own given differs. λ columns told len so.
    wider_told columns told now _ here.0 c.narrow.new.self none (ap (slice_get now.own) len ∙ at) here.2 here.3
    (own here.0 at ∙ ap (λ n. slice_set now.own n (record here.0 { optional = false })) (sym len)) given differs so)
    c.narrow.ensures.own c.narrow.ensures.given c.narrow.ensures.differs

pub returns-in-Other : goal.returns-in-Other
returns-in-Other c = λ columns told len so.
    let now = c.args.self.now in
    let none = none_of now.differs (sym c.is_some.ensures ∙ c.if-is_some.false) in
    subst (Differed columns (told ++ _ ∷ [])) (ap (λ n. n + 1) len)
    (other_told columns told now _ none (λ d here. c.in-Other.ensures d (c.at.ensures ∙ ap (slice_get now.own) (sym len) ∙ here)) so)
