use Rattle.ns_table.proofs.Places.{used}
use Rattle.ns_table.proofs.layout.positions_are_used.Goals as goal

pub returns : goal.returns
returns c = used
