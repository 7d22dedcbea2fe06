use Rattle.ns_table.proofs.Changing.{change_where_told}
use Rattle.ns_table.proofs.law.words_change_where_told.Goals as goal

pub returns : goal.returns
returns c = change_where_told
