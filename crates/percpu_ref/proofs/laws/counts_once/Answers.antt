use Rattle.percpu_ref.proofs.Holding.{once}
use Rattle.percpu_ref.proofs.laws.counts_once.Goals as goal

pub returns : goal.returns
returns c = once
