use Rattle.std.proofs.Common.{length}
use Rattle.run_serving.proofs.rounds.+poll_all.Given as goal

abbrev pub decreases-poll_all : goal.decreases-poll_all
decreases-poll_all l = length l.files.now
