use Rattle.served_runs.proofs.Whole.{read_through}
use Rattle.served_runs.proofs.laws.served_runs_are_read.Goals as goal

pub returns : goal.returns
returns c = read_through
