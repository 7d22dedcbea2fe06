use Rattle.tree_target.proofs.Changes.{queues_leave}
use Rattle.tree_target.proofs.law.queues_leave_desk.Goals as goal

pub returns : goal.returns
returns c = queues_leave
