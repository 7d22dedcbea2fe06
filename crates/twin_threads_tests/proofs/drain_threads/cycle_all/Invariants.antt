use Rattle.std.proofs.Common.{◌≡◌, ℕ}
use Rattle.ref_state.specs.declared.state.Phase.TheVariants.{Live}
use Rattle.twin_tables.specs.Keeping.{Edits, IsIn}
use Rattle.twin_threads_tests.proofs.drain_threads.cycle_all.Given as goal

abbrev pub invariant-loop-round : goal.invariant-loop-round
invariant-loop-round g l = record {
  own : l.editor.seat.base.table_id ≡ l.table.table.shared.table_id;
  disks : l.editor.disks ≡ 2;
  edits : (n : ℕ) × Edits n l.editor.seat.base.me.0;
  one : IsIn Live 0 l.editor.seat.base.me.0;
  two : IsIn Live 1 l.editor.seat.base.me.0;
}
