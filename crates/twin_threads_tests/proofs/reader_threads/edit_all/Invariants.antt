use Rattle.std.proofs.Common.{◌≡◌, ◌≤◌, ◌+◌, ◌-◌, ℕ}
use Rattle.ref_state.specs.declared.state.Phase.TheVariants.{Live}
use Rattle.twin_tables.specs.Keeping.{Edits, IsIn}
use Rattle.twin_threads_tests.proofs.reader_threads.edit_all.Given as goal

abbrev pub invariant-loop-number : goal.invariant-loop-number
invariant-loop-number g l = record {
  own : l.editor.seat.base.table_id ≡ l.table.table.shared.table_id;
  edits : (n : ℕ) × Edits n l.editor.seat.base.me.0;
  one : IsIn Live 0 l.editor.seat.base.me.0;
  two : IsIn Live 1 l.editor.seat.base.me.0;
  left : 10000 ≤ l.editor.seat.left + l.number;
}

abbrev pub decreases-loop-number : goal.decreases-loop-number
decreases-loop-number g l = 10000 - l.number
