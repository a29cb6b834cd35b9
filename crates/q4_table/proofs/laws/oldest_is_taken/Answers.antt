use Rattle.q4_table.proofs.Looks.{takes_oldest}
use Rattle.q4_table.proofs.laws.oldest_is_taken.Goals as goal

pub returns : goal.returns
returns c table tree valid = takes_oldest tree table.next table.rows valid.numbers
