use Rattle.std.proofs.Common.{◌≡◌, ◌++◌, List, ℕ, length, take, drop, sym, ap, ◌∙◌}
use Rattle.std.specs.Int.{w32, to_be_bytes}
use Rattle.std.proofs.lemmas.List.{take-append-drop}
use Rattle.q4_value.proofs.reading.read_text.Goals as goal

-- the length that was read, the text and what follows
spelled : (bytes words rest behind : List ℕ) (len : ℕ) → bytes ≡ to_be_bytes w32 len ++ rest → words ≡ take len rest → behind ≡ drop len rest → length words ≡ len → bytes ≡ (to_be_bytes w32 (length words) ++ words) ++ behind
spelled bytes words rest behind len e words_are behind_is count =
    e ∙ ap (λ n. to_be_bytes w32 n ++ rest) (sym count) ∙ ap (λ bs. to_be_bytes w32 (length words) ++ bs) (sym (take-append-drop len rest))
    ∙ ap (λ bs. to_be_bytes w32 (length words) ++ (bs ++ drop len rest)) (sym words_are) ∙ ap (λ bs. to_be_bytes w32 (length words) ++ (words ++ bs)) (sym behind_is)

pub returns-in-Ok-new-clause-read : goal.returns-in-Ok-new-clause-read
returns-in-Ok-new-clause-read c =
    let text : c.in-Ok-new.words ≡ c.split_at.result.0.now = c.in-Ok-new.ensures ∙ c.in-Ok.ensures.cases.0 in
    spelled c.args.bytes.now c.in-Ok-new.words c.in-Some.rest.now c.split_at.result.1.now c.in-Some.len c.in-Some.ensures.spelled (text ∙ c.split_at.ensures.front) c.split_at.ensures.back (ap length text ∙ c.split_at.ensures.front_len)
