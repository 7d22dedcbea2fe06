use Rattle.disk_extents.proofs.Edges.{extents_together}
use Rattle.disk_extents.proofs.law.extents_are_the_disk.Goals as goal

pub returns : goal.returns
returns c = extents_together
