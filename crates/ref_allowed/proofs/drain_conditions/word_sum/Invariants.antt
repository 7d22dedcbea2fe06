use Rattle.std.proofs.Common.{◌≡◌, ◌+◌, ◌%◌, drop}
use Rattle.ref_state.specs.State.{total, word_of}
use Rattle.ref_allowed.proofs.drain_conditions.word_sum.Given as goal

abbrev pub invariant-loop-count : goal.invariant-loop-count
invariant-loop-count l = (l.sum + total word_of (drop l.count-index l.counts)) %
    18446744073709551616 ≡ total word_of l.counts % 18446744073709551616
