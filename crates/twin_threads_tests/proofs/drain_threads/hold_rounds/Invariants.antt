use Rattle.std.proofs.Common.{◌≡◌}
use Rattle.twin_tables.specs.Keeping.{Rests}
use Rattle.twin_threads_tests.proofs.drain_threads.hold_rounds.Given as goal

abbrev pub invariant-loop-round : goal.invariant-loop-round
invariant-loop-round g l = record {
  own : l.seat.base.table_id ≡ l.table.table.shared.table_id;
  rests : Rests l.seat.number l.seat.base.me.0;
}
