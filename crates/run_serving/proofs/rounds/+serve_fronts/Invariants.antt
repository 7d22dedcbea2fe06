use Rattle.std.proofs.Common.{length}
use Rattle.run_serving.proofs.rounds.+serve_fronts.Given as goal

abbrev pub decreases-serve_fronts : goal.decreases-serve_fronts
decreases-serve_fronts l = length l.files.now
