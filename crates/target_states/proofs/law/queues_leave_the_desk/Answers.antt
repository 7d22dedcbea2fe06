use Rattle.target_states.proofs.Deciding.{queues_leave_desk}
use Rattle.target_states.proofs.law.queues_leave_the_desk.Goals as goal

pub returns : goal.returns
returns c = queues_leave_desk
