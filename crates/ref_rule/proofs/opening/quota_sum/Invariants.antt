use Rattle.std.proofs.Common.{◌≡◌, ◌+◌, drop}
use Rattle.ref_state.specs.Soundness.{sum_of}
use Rattle.ref_rule.proofs.opening.quota_sum.Given as goal

abbrev pub invariant-loop-q : goal.invariant-loop-q
invariant-loop-q l = l.sum + sum_of (drop l.q-index l.quotas) ≡ sum_of l.quotas
