use Rattle.std.proofs.Common.{length}
use Rattle.connect_tests.proofs.calls.+run.Given as goal

abbrev pub decreases-run : goal.decreases-run
decreases-run g l = length l.rows.now
