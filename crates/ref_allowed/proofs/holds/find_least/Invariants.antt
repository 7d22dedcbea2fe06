use Rattle.std.proofs.Common.{◌≡◌, ◌≤◌, length, drop}
use Rattle.ref_allowed.specs.HoldTests.{passes}
use Rattle.ref_state.specs.Steps.{least_place}
use Rattle.ref_allowed.proofs.holds.find_least.Given as goal

abbrev pub invariant-loop-i : goal.invariant-loop-i
invariant-loop-i l = (l.i ≤ length l.holds)
    × (l.least ≡ least_place (passes l.test) (drop l.i l.holds))

abbrev pub decreases-loop-i : goal.decreases-loop-i
decreases-loop-i l = l.i
