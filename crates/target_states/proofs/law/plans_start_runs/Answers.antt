use Rattle.target_states.proofs.Starting.{loaded_starts, simple_starts}
use Rattle.target_states.proofs.law.plans_start_runs.Goals as goal

pub returns-clause-loaded : goal.returns-clause-loaded
returns-clause-loaded c = loaded_starts

pub returns-clause-simple : goal.returns-clause-simple
returns-clause-simple c = simple_starts
