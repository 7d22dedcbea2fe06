use Rattle.run_verdicts.proofs.Uniting.{no-fault}
use Rattle.run_verdicts.proofs.law.right_runs_have_no_fault.Goals as goal

pub returns : goal.returns
returns c = no-fault
