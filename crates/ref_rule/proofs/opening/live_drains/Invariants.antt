use Rattle.std.proofs.Common.{◌≡◌, replicate}
use Rattle.ref_state.specs.Soundness.{live_drain}
use Rattle.ref_rule.proofs.opening.live_drains.Given as goal

abbrev pub invariant-loop-k : goal.invariant-loop-k
invariant-loop-k l = l.all ≡ replicate l._k (live_drain l.seats)
