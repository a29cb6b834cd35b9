-- The sessions that labels have are open.
use Rattle.std.specs.Prelude.{◌≡◌, ℕ, List, Option, None, Some, length, slice_index_or}
use Rattle.q4_machine.specs.declared.entry.Entry.{Entry}
use Rattle.q4_machine.specs.History.{IsOpenFor}
use Rattle.q4_play.specs.Labels.{last_label}

-- Each label's session is open and the caller's, and no two labels have the same one.
pub record IsSeated (seen : List Entry) (caller : ℕ) (seating : List (Option ℕ)) : Type 0 where
  pub size : length seating ≡ last_label
  pub are_open : (place session : ℕ) → slice_index_or seating place None ≡ Some session → IsOpenFor seen caller session
  pub apart : (place other session : ℕ) → slice_index_or seating place None ≡ Some session → slice_index_or seating other None ≡ Some session → place ≡ other
