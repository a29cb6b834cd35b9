use Rattle.std.proofs.Common.{◌<◌, ◌≤◌, length, get_or, refl, subst, ◌∙◌}
use Rattle.std.specs.Prelude.{string_bytes}
use Rattle.std.specs.Str.{IsCharBoundary}
use Rattle.q4_value.specs.Escape.{IsBadStart}
use Rattle.q4_value.proofs.Unescaped.{run_found, last_run, after_escape, escape_read, made_more, made_all, bad_escape}
use Rattle.q4_value.proofs.escaping.unescape_run.Goals as goal

pub returns-in_default-escaped_character-clause-fault :
    goal.returns-in_default-escaped_character-clause-fault
returns-in_default-escaped_character-clause-fault c =
    let inv = c.loop-at.invariant in
    let run = run_found c.loop-at.rest.now c.as_bytes.result.now c.split_at.result.0.now c.split_at.result.1.now c.in-Some.at c.as_bytes.ensures.value inv.2 inv.1 c.in-Some.ensures c.split_at.ensures.front c.split_at.ensures.back in
    bad_escape c.args.run.now (string_bytes c.loop-at.made) c.loop-at.rest.now c.split_at.result.0.now c.split_at.result.1.now _ inv.0 run.parts run.same refl
    (subst IsBadStart c.as_bytes-in-Some.ensures.value c.in_default-escaped_character.ensures.none)

pub split_at-requires-in-Some : goal.split_at-requires-in-Some
split_at-requires-in-Some c =
    let inv = c.loop-at.invariant in
    let run = run_found c.loop-at.rest.now c.as_bytes.result.now c.split_at.result.0.now c.split_at.result.1.now c.in-Some.at c.as_bytes.ensures.value inv.2 inv.1 c.in-Some.ensures c.split_at.ensures.front c.split_at.ensures.back in
    let bytes_are = c.as_bytes-in-Some.ensures.value in
    after_escape c.split_at.result.1.now run.is_text (subst (λ x. 2 ≤ length x) bytes_are c.in-Some-escaped_character.ensures.stands.0) (subst (λ x. get_or x 1 0 < 128) bytes_are c.in-Some-escaped_character.ensures.ascii.1)

pub loop-at-preserved : goal.loop-at-preserved
loop-at-preserved c =
    let inv = c.loop-at.invariant in
    let run = run_found c.loop-at.rest.now c.as_bytes.result.now c.split_at.result.0.now c.split_at.result.1.now c.in-Some.at c.as_bytes.ensures.value inv.2 inv.1 c.in-Some.ensures c.split_at.ensures.front c.split_at.ensures.back in
    let read = c.in-Some-escaped_character.ensures in
    let bytes_are = c.as_bytes-in-Some.ensures.value in
    let boundary : IsCharBoundary c.split_at.result.1.now 2 = after_escape c.split_at.result.1.now run.is_text (subst (λ x. 2 ≤ length x) bytes_are read.stands.0) (subst (λ x. get_or x 1 0 < 128) bytes_are read.ascii.1) in
    let e = escape_read c.split_at.result.1.now c.as_bytes-in-Some.result.now c.split_at-in-Some.result.1.now c.in-Some-escaped_character.character bytes_are run.is_text run.in_field boundary read.stands.1 c.split_at-in-Some.ensures.back in
    (made_more c.args.run.now (string_bytes c.loop-at.made) c.loop-at.rest.now c.split_at.result.0.now c.split_at.result.1.now c.split_at-in-Some.result.1.now (string_bytes c.put_character.new.made) c.in-Some-escaped_character.character inv.0 run.parts run.same e.parts c.in_ok-put_character.ensures.put, e.in_field, e.is_text)

pub returns-in-Ok-push_str-clause-read : goal.returns-in-Ok-push_str-clause-read
returns-in-Ok-push_str-clause-read c =
    let inv = c.loop-at.invariant in
    made_all c.args.run.now (string_bytes c.loop-at.made) c.loop-at.rest.now c.from_string.result inv.0 (last_run c.loop-at.rest.now c.as_bytes.result.now c.as_bytes.ensures.value inv.1 c.in_default-memchr.ensures) (c.from_string.ensures ∙ c.in-Ok-push_str.ensures.bytes)
