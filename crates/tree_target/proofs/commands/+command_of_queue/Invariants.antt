use Rattle.std.proofs.Common.{length}
use Rattle.tree_target.proofs.commands.+command_of_queue.Given as goal

abbrev pub decreases-command_of_queue : goal.decreases-command_of_queue
decreases-command_of_queue l = length l.held.now
