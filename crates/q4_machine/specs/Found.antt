-- What the search of a look found, as the pick that it is.
use Rattle.q4_machine.specs.declared.machine.Found.{Found}
use Rattle.q4_machine.specs.Pick.{Picked}

abbrev pub picked_of : Found → Picked
picked_of found = record { place = found.place; table = found.table; number = found.number }
