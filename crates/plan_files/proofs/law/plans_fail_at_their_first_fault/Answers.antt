use Rattle.plan_files.proofs.PlanFaulting.{fault_was, is_fault}
use Rattle.plan_files.proofs.law.plans_fail_at_their_first_fault.Goals as goal

pub returns : goal.returns
returns c = λ bytes e. (fault_was bytes e, is_fault bytes e)
