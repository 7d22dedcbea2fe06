use Rattle.target_states.proofs.Deciding.{ends_fixed, unpublished_fixed}
use Rattle.target_states.proofs.law.unpublished_leave_what_is_fixed.Goals as goal

pub returns-clause-unpublished : goal.returns-clause-unpublished
returns-clause-unpublished c = unpublished_fixed

pub returns-clause-ends : goal.returns-clause-ends
returns-clause-ends c = ends_fixed
