use Rattle.std.proofs.Common.{refl}
use Rattle.q4_store.proofs.CopyRecords.{copy_begun, copy_inserted, copy_ended_above, copy_ended_below, piece_copied, copy_finished}
use Rattle.q4_store.proofs.Finishing.{base_read}
use Rattle.q4_store.proofs.Owners.{piece_unowned, cursor_unowned, rest_unowned}
use Rattle.q4_store.proofs.Parting.{below_after}
use Rattle.q4_store.proofs.Pieces.{piece_is}
use Rattle.q4_store.proofs.laws.copy_laws.Goals as goal

pub returns-clause-begun : goal.returns-clause-begun
returns-clause-begun c = copy_begun

pub returns-clause-added : goal.returns-clause-added
returns-clause-added c = copy_inserted

pub returns-clause-ended_above : goal.returns-clause-ended_above
returns-clause-ended_above c = copy_ended_above

pub returns-clause-ended_below : goal.returns-clause-ended_below
returns-clause-ended_below c = copy_ended_below

pub returns-clause-piece : goal.returns-clause-piece
returns-clause-piece c = piece_copied

pub returns-clause-below : goal.returns-clause-below
returns-clause-below c = λ table cursor most valid. below_after 0 table.next cursor most table.rows valid.numbers

pub returns-clause-behind : goal.returns-clause-behind
returns-clause-behind c = λ columns had waiting rows at at_is first. piece_is columns had waiting rows at _ at_is first refl

pub returns-clause-finished : goal.returns-clause-finished
returns-clause-finished c = copy_finished

pub returns-clause-header : goal.returns-clause-header
returns-clause-header c = λ generation base behind. refl

pub returns-clause-read : goal.returns-clause-read
returns-clause-read c = base_read

pub returns-clause-owners_of_piece : goal.returns-clause-owners_of_piece
returns-clause-owners_of_piece c = λ table cursor most. piece_unowned most cursor table

pub returns-clause-owners_of_cursor : goal.returns-clause-owners_of_cursor
returns-clause-owners_of_cursor c = λ table cursor most. cursor_unowned most cursor table

pub returns-clause-owners : goal.returns-clause-owners
returns-clause-owners c = λ table cursor. rest_unowned cursor table
