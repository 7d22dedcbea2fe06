use Rattle.percpu_ref.proofs.Killing.{stays_killed}
use Rattle.percpu_ref.proofs.laws.killed_stays.Goals as goal

pub returns : goal.returns
returns c = stays_killed
