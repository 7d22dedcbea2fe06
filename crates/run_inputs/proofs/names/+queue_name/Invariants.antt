use Rattle.std.proofs.Common.{length}
use Rattle.run_inputs.proofs.names.+queue_name.Given as goal

abbrev pub decreases-queue_name : goal.decreases-queue_name
decreases-queue_name l = length l.queues.now
