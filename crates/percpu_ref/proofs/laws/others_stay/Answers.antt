use Rattle.percpu_ref.proofs.Killing.{others_killed}
use Rattle.percpu_ref.proofs.laws.others_stay.Goals as goal

pub returns : goal.returns
returns c = others_killed
