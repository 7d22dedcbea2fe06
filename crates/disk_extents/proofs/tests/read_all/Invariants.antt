use Rattle.std.proofs.Common.{◌≡◌}
use Rattle.disk_extents.proofs.tests.read_all.Given as goal

abbrev pub invariant-loop-number : goal.invariant-loop-number
invariant-loop-number g l = l.to.room ≡ 131072
