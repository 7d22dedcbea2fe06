use Rattle.std.proofs.Common.{drop}
use Rattle.run_check.proofs.Seating.{FrontSoFar}
use Rattle.run_check.proofs.first_seats.front_len.Given as goal

abbrev pub invariant-loop-number : goal.invariant-loop-number
invariant-loop-number l = FrontSoFar l.file.bytes.items l.file.capsules.items l.number
    (drop l.number l.file.capsules.items)
