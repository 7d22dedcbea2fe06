use Rattle.std.proofs.Common.{◌-◌, ◌≡◌, ◌+◌, ◌≤◌}
use Rattle.percpu_ref.specs.Counters.{Counting}
use Rattle.percpu_ref.proofs.counting.sum_counters.Given as goal

abbrev pub invariant-loop-other : goal.invariant-loop-other
invariant-loop-other g l = record {
  own : l.seat.base.table_id ≡ l.fn.seat.base.table_id;
  number : l.seat.number ≡ l.fn.seat.number;
  below : l.other ≤ l.fn.seats;
  counting : Counting l.fn.disk l.other l.sum l.fn.seat.base.me l.seat.base.me;
  ticks : l.steps ≡ record l.fn.steps { row = l.fn.steps.row + l.other };
}

abbrev pub decreases-loop-other : goal.decreases-loop-other
decreases-loop-other g l = l.fn.seats - l.other
