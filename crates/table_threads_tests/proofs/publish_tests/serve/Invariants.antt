use Rattle.std.proofs.Common.{◌≡◌, ◌<◌, ◌≤◌, ◌+◌, ◌-◌, ℕ}
use Rattle.table_seats.specs.Resting.{Rests}
use Rattle.table_threads_tests.proofs.publish_tests.serve.Given as goal

abbrev pub invariant-loop-number : goal.invariant-loop-number
invariant-loop-number g l = record {
  own : l.seat.base.table_id ≡ l.table.table.shared.table_id;
  rests : Rests l.seat.number l.seat.base.me;
  left : 4000 ≤ l.seat.left + l.number;
}

abbrev pub decreases-loop-number : goal.decreases-loop-number
decreases-loop-number g l = 4000 - l.number
