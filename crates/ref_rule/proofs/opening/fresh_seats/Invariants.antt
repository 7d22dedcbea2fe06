use Rattle.std.proofs.Common.{◌≡◌, ◌≤◌, length, drop}
use Rattle.ref_state.specs.Soundness.{seats_from}
use Rattle.ref_rule.proofs.opening.fresh_seats.Given as goal

abbrev pub invariant-loop-i : goal.invariant-loop-i
invariant-loop-i l = (l.i ≤ length l.quotas) × (l.all ≡ seats_from l.i (drop l.i l.quotas))

abbrev pub decreases-loop-i : goal.decreases-loop-i
decreases-loop-i l = l.i
