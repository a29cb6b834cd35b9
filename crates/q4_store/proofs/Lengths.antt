-- How long changes make a side.
use Rattle.std.proofs.Common.{◌≡◌, ℕ, ◌+◌, List, [], ◌∷◌, ◌++◌, ◌↔◌, None, Some, length, refl, sym, ◌∙◌, ap, arith, length-append}
use Rattle.std.specs.List.{sum_by}
use Rattle.std.proofs.lemmas.List.Concat.{flat_map-cons}
use Rattle.std.proofs.lemmas.List.Sums.{sum_by-cons}
use Rattle.q4_value.specs.Spelling.{row_bytes}
use Rattle.q4_value.proofs.Spelled.{length-row_bytes}
use Rattle.q4_record.specs.declared.head.Head.{Head}
use Rattle.q4_record.specs.declared.head.Head.TheVariants.{Insert, End, Mark, Next}
use Rattle.q4_record.specs.Record.{Record, head_bytes, record_bytes, records_bytes}
use Rattle.q4_store.specs.Lengths.{head_size, change_size, waiting_size, change_cost}
use Rattle.q4_disk.specs.Told.{Told}
use Rattle.q4_store.specs.Content.{Content}
use Rattle.q4_store.specs.Store.{Stored, StandsFor, pending_length, batch_size, length_of}
use Rattle.q4_store.proofs.Commits.{some_bytes, no_change, some_wait}

head_length : (head : Head) → length (head_bytes head) ≡ head_size head
head_length (Insert number None) = refl
head_length (Insert number (Some origin)) = refl
head_length (End number) = refl
head_length (Mark source number) = refl
head_length (Next number) = refl

pub change_length : (change : Record) → length (record_bytes change) ≡ change_size change
change_length change =
    let whole = length-append (head_bytes change.head) (row_bytes change.columns change.row) in
    let head = head_length change.head in
    let row = length-row_bytes change.columns change.row in
    omega (arith, whole, head, row)

changes_length : (changes : List Record) → length (records_bytes changes) ≡ sum_by change_size changes
changes_length [] = refl
changes_length (change ∷ changes) =
    let whole = ap length (flat_map-cons record_bytes change changes) ∙ length-append (record_bytes change) (records_bytes changes) in
    let first = change_length change in
    let rest = changes_length changes in
    let sum = sum_by-cons change_size change changes in
    omega (arith, whole, first, rest, sum)

pub waiting_length : (changes : List Record) → pending_length (records_bytes changes) ≡ waiting_size changes
waiting_length [] = refl
waiting_length (change ∷ changes) =
    let all = changes_length (change ∷ changes) in
    let some = some_wait (records_bytes (change ∷ changes)) (λ none. let none_is = no_change (change ∷ changes) none in cc none_is) in
    omega (arith, all, some)

some_cost : (records : List ℕ) (size : ℕ) → (records ≡ [] → ⊥) → batch_size records size ≡ size
some_cost [] size some = absurd (some refl)
some_cost (b ∷ bs) size some = refl

pub cost_length : (changes : List Record) (size : ℕ) → batch_size (records_bytes changes) size ≡ change_cost changes size
cost_length [] size = refl
cost_length (change ∷ changes) size = some_cost (records_bytes (change ∷ changes)) size (λ none. let none_is = no_change (change ∷ changes) none in cc none_is)

-- ## Of a store

pub batch_size_more : (records : List ℕ) (size : ℕ) → batch_size records size ≡ size + batch_size records 0
batch_size_more [] size = omega arith
batch_size_more (b ∷ bs) size = omega arith

pub store_length : {D : Type 0} (told : D → Told) (store : Stored D) (content : Content) → StandsFor told store content → length_of store ≡ store.end + waiting_size content.pending
store_length told store content s = ap (λ (n : ℕ). store.end + n) (ap pending_length s.records ∙ waiting_length content.pending)

pub store_cost : {D : Type 0} (told : D → Told) (store : Stored D) (content : Content) (size : ℕ) → StandsFor told store content → size + batch_size store.records 0 ≡ change_cost content.pending size
store_cost told store content size s = sym (batch_size_more store.records size) ∙ ap (λ (records : List ℕ). batch_size records size) s.records ∙ cost_length content.pending size

pub pending_more : (records more : List ℕ) → (more ≡ [] → ⊥) → pending_length (records ++ more) ≡ pending_length records + batch_size records (length more)
pending_more [] more some = let whole = some_wait more some in omega (arith, whole)
pending_more (b ∷ bs) more some = let whole = length-append bs more in omega (arith, whole)

-- one change more makes the store longer by its cost
pub store_longer : {D : Type 0} (told : D → Told) (store now : Stored D) (content : Content) (change : Record) (records : List ℕ) → store ≡ now → StandsFor told now content → records ≡ store.records ++ record_bytes change
    → store.end + pending_length records ≡ length_of now + change_cost content.pending (change_size change)
store_longer told store now content change records is s more =
    let some : record_bytes change ≡ [] → ⊥ = some_bytes change.head (row_bytes change.columns change.row) in
    let longer = ap pending_length more ∙ pending_more store.records (record_bytes change) some in
    let here = ap (λ (x : Stored _). x.end + (pending_length x.records + batch_size x.records (length (record_bytes change)))) is in
    let cost = ap (λ (bytes : List ℕ). batch_size bytes (length (record_bytes change))) s.records ∙ cost_length content.pending (length (record_bytes change)) ∙ ap (change_cost content.pending) (change_length change) in
    omega (arith, longer, here, cost)

pub store_waits : {D : Type 0} (told : D → Told) (store : Stored D) (content : Content) → StandsFor told store content → store.records ≡ [] ↔ content.pending ≡ []
store_waits told store content s = (
  λ none. no_change content.pending (sym s.records ∙ none),
  λ none. s.records ∙ ap records_bytes none,
)

-- what the code adds up of a store, by its content
pub adds_up : {D : Type 0} (told : D → Told) (store now : Stored D) (content : Content) (size waiting more : ℕ) → store ≡ now → StandsFor told now content → waiting ≡ pending_length store.records → more ≡ batch_size store.records 0
    → (store.end + waiting ≡ now.end + waiting_size content.pending) × (size + more ≡ change_cost content.pending size)
adds_up told store now content size waiting more is s waiting_is more_is =
    let end = ap (λ (x : Stored _). x.end) is in
    let waits = waiting_is ∙ ap (λ (x : Stored _). pending_length x.records) is in
    let adds = more_is ∙ ap (λ (x : Stored _). batch_size x.records 0) is in
    let length = store_length told now content s in
    let cost = store_cost told now content size s in
    (omega (arith, end, waits, length), omega (arith, adds, cost))
