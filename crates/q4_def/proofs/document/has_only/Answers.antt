use Rattle.std.proofs.Common.{Bor, List, ℕ, string_bytes, rules, tests}
use Rattle.std.specs.List.{list_any}
use Rattle.std.specs.Map.{keys_of}
use Rattle.std.specs.Str.{bytes_eq}
use Rattle.std.proofs.lemmas.Iterator.Search.{all_from_yields_List}
use Rattle.std.proofs.lemmas.Iterator.Consumers.{YieldsList-from_rest}
use Rattle.q4_def.proofs.Forms.{says_only}
use Rattle.q4_def.proofs.document.has_only.Goals as goal

pub returns : goal.returns
returns c = says_only (λ (key : Bor (List ℕ)). key.now) c.args.keys.now c.args.table.now.entries c.all.result
    (all_from_yields_List (λ k. list_any (λ (key : Bor (List ℕ)). bytes_eq key.now (string_bytes k)) c.args.keys.now) _ _ _ c.all.ensures.ran (YieldsList-from_rest (keys_of c.args.table.now.entries) c.keys.ensures.rest) (λ x b q called. search (rules, tests)))
