use Rattle.std.proofs.Common.{◌≡◌, replicate}
use Rattle.ref_state.specs.Soundness.{live_disk}
use Rattle.ref_rule.proofs.opening.live_disks.Given as goal

abbrev pub invariant-loop-k : goal.invariant-loop-k
invariant-loop-k l = l.all ≡ replicate l._k (live_disk l.seats)
