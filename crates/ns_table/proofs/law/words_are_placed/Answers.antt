use Rattle.ns_table.proofs.Placed.{placed}
use Rattle.ns_table.proofs.law.words_are_placed.Goals as goal

pub returns : goal.returns
returns c = placed
