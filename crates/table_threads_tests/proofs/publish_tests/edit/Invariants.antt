use Rattle.std.proofs.Common.{◌≡◌, ◌-◌, ℕ}
use Rattle.table_seats.specs.Publishing.{Publishes}
use Rattle.table_threads_tests.proofs.publish_tests.edit.Given as goal

abbrev pub invariant-loop-tries : goal.invariant-loop-tries
invariant-loop-tries g l = record {
  own : l.editor.base.table_id ≡ l.table.table.shared.table_id;
  edits : Publishes l.editor.base.me.0;
}

abbrev pub decreases-loop-tries : goal.decreases-loop-tries
decreases-loop-tries g l = 100000000 - l.tries
