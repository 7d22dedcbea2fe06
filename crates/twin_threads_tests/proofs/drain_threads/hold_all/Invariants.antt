use Rattle.std.proofs.Common.{◌≡◌}
use Rattle.twin_tables.specs.Keeping.{Rests}
use Rattle.twin_threads_tests.proofs.drain_threads.hold_all.Given as goal

abbrev pub invariant-loop-number : goal.invariant-loop-number
invariant-loop-number g l = record {
  own : l.seat.base.table_id ≡ l.fn.seat.base.table_id;
  rests : Rests l.seat.number l.seat.base.me.0;
}
