use Rattle.disk_extents.proofs.Edges.{edges_by_number}
use Rattle.disk_extents.proofs.law.edges_are_by_number.Goals as goal

pub returns : goal.returns
returns c = edges_by_number
