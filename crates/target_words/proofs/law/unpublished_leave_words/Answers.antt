use Rattle.target_words.proofs.Following.{ends_leave, unpublished_leave_all}
use Rattle.target_words.proofs.law.unpublished_leave_words.Goals as goal

pub returns-clause-unpublished : goal.returns-clause-unpublished
returns-clause-unpublished c = unpublished_leave_all

pub returns-clause-ends : goal.returns-clause-ends
returns-clause-ends c = ends_leave
