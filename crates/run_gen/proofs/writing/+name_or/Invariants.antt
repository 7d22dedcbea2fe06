use Rattle.std.proofs.Common.{length}
use Rattle.run_gen.proofs.writing.+name_or.Given as goal

abbrev pub decreases-name_or : goal.decreases-name_or
decreases-name_or l = length l.made.now
