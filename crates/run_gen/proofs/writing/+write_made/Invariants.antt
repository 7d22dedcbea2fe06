use Rattle.std.proofs.Common.{length}
use Rattle.run_gen.proofs.writing.+write_made.Given as goal

abbrev pub decreases-write_made : goal.decreases-write_made
decreases-write_made g l = length l.made.now
