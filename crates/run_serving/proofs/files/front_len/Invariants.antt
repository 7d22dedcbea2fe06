use Rattle.std.proofs.Common.{◌≡◌, ◌<◌, ℕ}
use Rattle.run_serving.specs.Readiness.{opcode_at}
use Rattle.run_serving.proofs.files.front_len.Given as goal

abbrev pub invariant-loop-number : goal.invariant-loop-number
invariant-loop-number l = (k : ℕ) → k < l.number → opcode_at l.capsules k ≡ 127
