-- A line that spells a command is not refused.
use Rattle.std.proofs.Common.{◌≡◌, ◌==◌, ◌<◌, ◌+◌, ◌*◌, ◌∷◌, ◌∙◌, [], List, ℕ, Option, None, Some, Ok, Err, All, map, length, get_or, refl, sym, ap, subst, arith, if◌then◌else◌, unwrap_or}
use Rattle.std.proofs.lemmas.List.{length-append, length-map}
use Rattle.std.proofs.lemmas.List.Elements.{All-cons, All-map, All-weaker}
use Rattle.q4_value.specs.declared.row.Value.{Value}
use Rattle.q4_value.specs.Escape.{escaped}
use Rattle.q4_value.specs.Row.{IsValue, IsRowOf, row_size}
use Rattle.q4_def.specs.declared.table_def.TableDef.{TableDef}
use Rattle.q4_def.specs.Tables.{AreDefs}
use Rattle.q4_machine.specs.declared.looks.Listed.{Listed}
use Rattle.q4_machine.specs.Definitions.{columns_at}
use Rattle.q4_machine.proofs.Histories.{cons_head, cons_tail}
use Rattle.q4_proto.specs.declared.command.Command.{Command}
use Rattle.q4_proto.specs.declared.command.Command.TheVariants as spelled
use Rattle.q4_proto.specs.declared.command.CommandFault.{CommandFault}
use Rattle.q4_proto.specs.declared.command.CommandFault.TheVariants.{NotText, Unknown, NotBuilt, Fields, Number, Escape, Entries, NoTable, Cond, Count, Value as BadValue, Long, Memory}
use Rattle.q4_proto.specs.declared.keyword.Keyword.{Keyword}
use Rattle.q4_proto.specs.declared.keyword.Keyword.TheVariants.{Insert, Source, Wait, RowId, End, Abort, Select, Compact, Quit}
use Rattle.q4_proto.specs.Fields.{IsSpelled, IsFirst}
use Rattle.q4_proto.specs.Commands.{word_of, spelled_value, text_of_value, insert_texts, SpellsInsert, entries_of, SpellsWait, Spells, IsOfNoTable, Stands, rank, IsRefused, Begins, ReadsLine, Reads}
use Rattle.q4_proto.proofs.Named.{escaped_name, found_name}
use Rattle.q4_proto.proofs.Entries.{entries_stand, none_fails}
use Rattle.q4_proto.proofs.Refusing.{Into, into_same, before_size}
use Rattle.q4_proto.proofs.Spellings.{value_text, row_once}
use Rattle.q4_proto.proofs.Values.{row_length}
use Rattle.q4_proto.proofs.Selecting.{select_apart}
use Rattle.q4_proto.proofs.Waiting.{passed_some, passed_number, passed_spelled, passed_few, passed_named, passed_all, none_before}

small_rank : (f : CommandFault) → rank f < 13
small_rank NotText = omega arith
small_rank Unknown = omega arith
small_rank NotBuilt = omega arith
small_rank Fields = omega arith
small_rank (Number k) = omega arith
small_rank (Escape k) = omega arith
small_rank Entries = omega arith
small_rank (NoTable k) = omega arith
small_rank (Cond at why) = omega arith
small_rank (Count n) = omega arith
small_rank (BadValue j) = omega arith
small_rank Long = omega arith
small_rank Memory = omega arith

-- ## Inserts

spelled_into : (defs : List TableDef) (args : List (List ℕ)) (place : ℕ) (row : List Value) → AreDefs defs → (s : SpellsInsert defs args place row) → Into defs args (map spelled_value row) s.name place
spelled_into defs args place row are s =
    let same : escaped s.name ≡ s.name = escaped_name s.name (found_name defs place s.name are s.is_table) in
    let texts = All-weaker IsValue (λ v. IsSpelled (text_of_value (spelled_value v))) value_text row s.row_is.fits.row_of.values in
    let values = All-map IsSpelled text_of_value (map spelled_value row) (All-map (λ f. IsSpelled (text_of_value f)) spelled_value row texts) in
    record {
      are = are;
      args_are = s.args_are ∙ ap (λ f. f ∷ map spelled_value row) same;
      spelled = subst (λ fs. All IsSpelled (insert_texts fs)) (sym s.args_are) (All-cons IsSpelled (escaped s.name) (map text_of_value (map spelled_value row)) (s.name, refl) values);
      is_table = s.is_table;
    }

not_long : (defs : List TableDef) (args : List (List ℕ)) (place : ℕ) (row : List Value) → AreDefs defs → SpellsInsert defs args place row → Stands defs Insert args Long → ⊥
not_long defs args place row are s (q, others, other, long) =
    let is = into_same defs args (map spelled_value row) s.name place (spelled_into defs args place row are s) q others other in
    let row_of = s.row_is.fits.row_of in
    let other_of = subst (λ p. IsRowOf (columns_at defs p) long.row) is.0 long.row_of in
    let same = row_once (columns_at defs place) long.row row other_of.taken row_of.taken other_of.values row_of.values (sym long.values_are ∙ is.1) in
    omega (arith, ap row_size same, long.long, s.row_is.fits.size)

before_spelled : (defs : List TableDef) (args : List (List ℕ)) (place : ℕ) (row : List Value) → AreDefs defs → SpellsInsert defs args place row → (f : CommandFault) → rank f < 11 → Stands defs Insert args f → ⊥
before_spelled defs args place row are s f lower stands =
    let row_of = s.row_is.fits.row_of in
    before_size defs args (map spelled_value row) s.name place row (spelled_into defs args place row are s) (length-map row spelled_value ∙ row_length (columns_at defs place) row row_of) refl row_of f lower stands

insert_apart : (defs : List TableDef) (args : List (List ℕ)) (place : ℕ) (row : List Value) → AreDefs defs → SpellsInsert defs args place row → (f : CommandFault) → Stands defs Insert args f → ⊥
insert_apart defs args place row are s NotText stands = before_spelled defs args place row are s NotText (omega arith) stands
insert_apart defs args place row are s Unknown stands = before_spelled defs args place row are s Unknown (omega arith) stands
insert_apart defs args place row are s NotBuilt stands = before_spelled defs args place row are s NotBuilt (omega arith) stands
insert_apart defs args place row are s Fields stands = before_spelled defs args place row are s Fields (omega arith) stands
insert_apart defs args place row are s (Number k) stands = before_spelled defs args place row are s (Number k) (omega arith) stands
insert_apart defs args place row are s (Escape k) stands = before_spelled defs args place row are s (Escape k) (omega arith) stands
insert_apart defs args place row are s Entries stands = before_spelled defs args place row are s Entries (omega arith) stands
insert_apart defs args place row are s (NoTable k) stands = before_spelled defs args place row are s (NoTable k) (omega arith) stands
insert_apart defs args place row are s (Cond at why) stands = before_spelled defs args place row are s (Cond at why) (omega arith) stands
insert_apart defs args place row are s (Count n) stands = before_spelled defs args place row are s (Count n) (omega arith) stands
insert_apart defs args place row are s (BadValue j) stands = before_spelled defs args place row are s (BadValue j) (omega arith) stands
insert_apart defs args place row are s Long stands = not_long defs args place row are s stands
insert_apart defs args place row are s Memory stands = stands

-- ## Waits

wait_apart : (defs : List TableDef) (args : List (List ℕ)) (list : List Listed) (seconds : ℕ) (f : CommandFault) → AreDefs defs → SpellsWait defs args list seconds → Stands defs Wait args f → ⊥
wait_apart defs args list seconds f are s stands =
    let stand = entries_stand defs (entries_of args) list are s.entries in
    let spelled = passed_spelled defs args (passed_number defs args seconds (passed_some defs args s.some) s.seconds_are) stand.spelled in
    let named = passed_named defs args (passed_few defs args spelled s.few) stand.named in
    none_before defs args 13 (passed_all defs args named (λ k why first. none_fails defs (entries_of args) k why stand first)) f (small_rank f) stands

-- ## Commands without fields

none_first : {X : Type 0} (P : X → Type 0) (k : ℕ) → IsFirst P [] k → ⊥
none_first P k first = omega (arith, ap length first.cut, length-append first.before (first.found ∷ first.after))

row_id_apart : (defs : List TableDef) (f : CommandFault) → Stands defs RowId [] f → ⊥
row_id_apart defs Fields stands = stands refl
row_id_apart defs (Escape k) stands = none_first (λ f. IsSpelled f → ⊥) k stands
row_id_apart defs (NoTable k) stands = none_first (IsOfNoTable defs RowId) k stands
row_id_apart defs _ stands = stands

end_apart : (defs : List TableDef) (f : CommandFault) → Stands defs End [] f → ⊥
end_apart defs Fields stands = stands refl
end_apart defs (Escape k) stands = none_first (λ f. IsSpelled f → ⊥) k stands
end_apart defs (NoTable k) stands = none_first (IsOfNoTable defs End) k stands
end_apart defs _ stands = stands

abort_apart : (defs : List TableDef) (f : CommandFault) → Stands defs Abort [] f → ⊥
abort_apart defs Fields stands = stands refl
abort_apart defs (Escape k) stands = none_first (λ f. IsSpelled f → ⊥) k stands
abort_apart defs (NoTable k) stands = none_first (IsOfNoTable defs Abort) k stands
abort_apart defs _ stands = stands

quit_apart : (defs : List TableDef) (f : CommandFault) → Stands defs Quit [] f → ⊥
quit_apart defs Fields stands = stands refl
quit_apart defs (Escape k) stands = none_first (λ f. IsSpelled f → ⊥) k stands
quit_apart defs (NoTable k) stands = none_first (IsOfNoTable defs Quit) k stands
quit_apart defs _ stands = stands

-- ## Any command

fields_apart : (defs : List TableDef) (keyword : Keyword) (args : List (List ℕ)) (command : Command) (f : CommandFault) → AreDefs defs → Spells defs keyword args command → Stands defs keyword args f → ⊥
fields_apart defs Insert args (spelled.Insert place row) f are s stands = insert_apart defs args place row are s f stands
fields_apart defs Wait args (spelled.Wait list seconds) f are s stands = wait_apart defs args list seconds f are s stands
fields_apart defs RowId args spelled.RowId f are s stands = row_id_apart defs f (subst (λ a. Stands defs RowId a f) s stands)
fields_apart defs End args spelled.End f are s stands = end_apart defs f (subst (λ a. Stands defs End a f) s stands)
fields_apart defs Abort args spelled.Abort f are s stands = abort_apart defs f (subst (λ a. Stands defs Abort a f) s stands)
fields_apart defs Select args (spelled.Select place most) f are s stands = select_apart defs args place most f (small_rank f) s stands
fields_apart defs Quit args spelled.Quit f are s stands = quit_apart defs f (subst (λ a. Stands defs Quit a f) s stands)
fields_apart defs _ args _ f are s stands = s

-- ## Lines

-- the command whose word has these first two letters
abbrev of_sign : ℕ → Option Keyword
of_sign sign = (if sign == 26990 then Some Insert else (if sign == 29554 then Some Source else (if sign == 30561 then Some Wait else (if sign == 29295 then Some RowId else (if sign == 25966 then Some End else (if sign == 24930 then Some Abort else (if sign == 29541 then Some Select else (if sign == 25455 then Some Compact else (if sign == 29045 then Some Quit else None)))))))))

sign_of : List ℕ → ℕ
sign_of word = get_or word 0 0 * 256 + get_or word 1 0

of_word : (k : Keyword) → of_sign (sign_of (word_of k)) ≡ Some k
unfolding sign_of
of_word Insert = refl
of_word Source = refl
of_word Wait = refl
of_word RowId = refl
of_word End = refl
of_word Abort = refl
of_word Select = refl
of_word Compact = refl
of_word Quit = refl

some_is : (k l : Keyword) → Some k ≡ Some l → k ≡ l
some_is k l is = ap (λ o. unwrap_or o k) is

pub word_once : (k l : Keyword) → word_of k ≡ word_of l → k ≡ l
word_once k l is = some_is k l (sym (of_word k) ∙ ap (λ w. of_sign (sign_of w)) is ∙ of_word l)

lines_apart : (defs : List TableDef) (line : List ℕ) (command : Command) (keyword : Keyword) (args : List (List ℕ)) (f : CommandFault) → AreDefs defs → ReadsLine defs line (Ok command) → Begins line keyword args → IsRefused defs keyword args f → ⊥
lines_apart defs line command keyword args f are reads begins refused =
    let lists = sym reads.begins ∙ begins in
    let same : reads.keyword ≡ keyword = word_once reads.keyword keyword (cons_head lists) in
    let spells = subst (λ a. Spells defs keyword a command) (cons_tail lists) (subst (λ k. Spells defs k reads.args command) same reads.fields) in
    fields_apart defs keyword args command f are spells refused.stands

-- a line that spells a command has no fault
pub spelled_not_refused : (defs : List TableDef) (line : List ℕ) (command : Command) (f : CommandFault) → AreDefs defs → Reads defs line (Ok command) → Reads defs line (Err f) → f ≡ Memory
spelled_not_refused defs line command NotText are reads fault = absurd (fault reads.text)
spelled_not_refused defs line command Unknown are reads fault = absurd (fault.1 reads.keyword reads.args reads.begins)
spelled_not_refused defs line command NotBuilt are reads fault = absurd (lines_apart defs line command fault.keyword fault.args NotBuilt are reads fault.begins fault.fields)
spelled_not_refused defs line command Fields are reads fault = absurd (lines_apart defs line command fault.keyword fault.args Fields are reads fault.begins fault.fields)
spelled_not_refused defs line command (Number k) are reads fault = absurd (lines_apart defs line command fault.keyword fault.args (Number k) are reads fault.begins fault.fields)
spelled_not_refused defs line command (Escape k) are reads fault = absurd (lines_apart defs line command fault.keyword fault.args (Escape k) are reads fault.begins fault.fields)
spelled_not_refused defs line command Entries are reads fault = absurd (lines_apart defs line command fault.keyword fault.args Entries are reads fault.begins fault.fields)
spelled_not_refused defs line command (NoTable k) are reads fault = absurd (lines_apart defs line command fault.keyword fault.args (NoTable k) are reads fault.begins fault.fields)
spelled_not_refused defs line command (Cond at why) are reads fault = absurd (lines_apart defs line command fault.keyword fault.args (Cond at why) are reads fault.begins fault.fields)
spelled_not_refused defs line command (Count n) are reads fault = absurd (lines_apart defs line command fault.keyword fault.args (Count n) are reads fault.begins fault.fields)
spelled_not_refused defs line command (BadValue j) are reads fault = absurd (lines_apart defs line command fault.keyword fault.args (BadValue j) are reads fault.begins fault.fields)
spelled_not_refused defs line command Long are reads fault = absurd (lines_apart defs line command fault.keyword fault.args Long are reads fault.begins fault.fields)
spelled_not_refused defs line command Memory are reads fault = refl
