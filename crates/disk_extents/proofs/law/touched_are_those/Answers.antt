use Rattle.disk_extents.proofs.Edges.{touched_those}
use Rattle.disk_extents.proofs.law.touched_are_those.Goals as goal

pub returns : goal.returns
returns c = touched_those
