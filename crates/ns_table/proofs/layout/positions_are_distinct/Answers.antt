use Rattle.ns_table.proofs.Places.{distinct}
use Rattle.ns_table.proofs.layout.positions_are_distinct.Goals as goal

pub returns : goal.returns
returns c = distinct
