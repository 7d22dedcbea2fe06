use Rattle.ns_table.proofs.Places.{below}
use Rattle.ns_table.proofs.layout.positions_are_below.Goals as goal

pub returns : goal.returns
returns c = below
