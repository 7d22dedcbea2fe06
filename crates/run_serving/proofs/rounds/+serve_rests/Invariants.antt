use Rattle.std.proofs.Common.{length}
use Rattle.run_serving.proofs.rounds.+serve_rests.Given as goal

abbrev pub decreases-serve_rests : goal.decreases-serve_rests
decreases-serve_rests l = length l.files.now
