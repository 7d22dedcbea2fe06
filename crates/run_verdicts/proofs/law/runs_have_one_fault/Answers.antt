use Rattle.run_verdicts.proofs.Uniting.{one-fault}
use Rattle.run_verdicts.proofs.law.runs_have_one_fault.Goals as goal

pub returns : goal.returns
returns c = one-fault
