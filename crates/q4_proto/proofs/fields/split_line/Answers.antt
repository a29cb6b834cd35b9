use Rattle.std.proofs.Common.{◌≤◌, ◌<◌, ℕ, length, subst}
use Rattle.std.specs.Str.{IsUtf8}
use Rattle.memchr.specs.Find.{Passes, is_byte}
use Rattle.q4_proto.proofs.Splitting.{IsFirstTab, first_cut, no_cut, after_tab}
use Rattle.q4_proto.proofs.fields.split_line.Goals as goal

pub split_at-requires-in-Some : goal.split_at-requires-in-Some
split_at-requires-in-Some c =
    let found = subst (λ xs. IsFirstTab xs c.in-Some.tab) c.as_bytes.ensures.value c.in-Some.ensures in
    after_tab c.args.line.now c.split_at.result.1.now c.in-Some.tab (subst IsUtf8 c.as_bytes.ensures.value c.as_bytes.ensures.utf8) found.0.high found.1 c.split_at.ensures.back

pub returns-in-Some : goal.returns-in-Some
returns-in-Some c =
    first_cut c.args.line.now c.split_at.result.0.now c.split_at.result.1.now c.split_at-in-Some.result.1.now c.in-Some.tab (subst (λ xs. IsFirstTab xs c.in-Some.tab) c.as_bytes.ensures.value c.in-Some.ensures) c.split_at.ensures.front c.split_at.ensures.back c.split_at-in-Some.ensures.back

pub returns-in-None : goal.returns-in-None
returns-in-None c = no_cut c.args.line.now (subst (λ xs. (k : ℕ) → 0 ≤ k → k < length xs → Passes (is_byte 9) xs k → ⊥) c.as_bytes.ensures.value c.in-None.ensures)
