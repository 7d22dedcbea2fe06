use Rattle.disk_extents.proofs.Jobs.{parts_together}
use Rattle.disk_extents.proofs.law.parts_are_the_job.Goals as goal

pub returns : goal.returns
returns c = parts_together
