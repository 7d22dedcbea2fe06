use Rattle.std.proofs.Common.{◌≡◌, ◌-◌, ℕ}
use Rattle.ref_state.specs.declared.state.Phase.TheVariants.{Live}
use Rattle.twin_tables.specs.Keeping.{Edits, IsIn}
use Rattle.twin_threads_tests.proofs.replay_threads.publish_all.Given as goal

abbrev pub invariant-loop-tries : goal.invariant-loop-tries
invariant-loop-tries g l = record {
  own : l.editor.seat.base.table_id ≡ l.table.table.shared.table_id;
  edits : (n : ℕ) × Edits n l.editor.seat.base.me.0;
  one : IsIn Live 0 l.editor.seat.base.me.0;
  two : IsIn Live 1 l.editor.seat.base.me.0;
}

abbrev pub decreases-loop-tries : goal.decreases-loop-tries
decreases-loop-tries g l = 100000000 - l.tries
