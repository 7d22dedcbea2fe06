use Rattle.std.proofs.Common.{◌≡◌, ◌+◌, ◌%◌, drop, map}
use Rattle.ref_state.specs.State.{total, word_of}
use Rattle.ref_state.specs.Steps.{count_or}
use Rattle.ref_allowed.proofs.drain_conditions.looked_sum.Given as goal

abbrev pub invariant-loop-found : goal.invariant-loop-found
invariant-loop-found l = (l.sum + total word_of (map count_or (drop l.found-index l.looked))) %
    18446744073709551616 ≡ total word_of (map count_or l.looked) % 18446744073709551616
