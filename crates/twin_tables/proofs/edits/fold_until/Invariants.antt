use Rattle.std.proofs.Common.{◌≡◌, ◌-◌}
use Rattle.percpu_ref.specs.Lives.{IsKilled}
use Rattle.twin_tables.specs.Keeping.{Edits, LeavesOthers}
use Rattle.twin_tables.proofs.edits.fold_until.Given as goal

abbrev pub invariant-loop-tries : goal.invariant-loop-tries
invariant-loop-tries g l = record {
  own : l.editor.seat.base.table_id ≡ l.fn.editor.seat.base.table_id;
  seats : l.editor.seats ≡ l.fn.editor.seats;
  disks : l.editor.disks ≡ l.fn.editor.disks;
  left : l.editor.seat.left ≡ l.fn.editor.seat.left;
  edits : Edits 0 l.editor.seat.base.me.0;
  disk : l.killed.disk ≡ l.fn.killed.disk;
  killed : IsKilled l.killed.disk l.killed.words l.editor.seat.base.me.0;
  others : LeavesOthers l.fn.killed.disk l.fn.editor.seat.base.me.0 l.editor.seat.base.me.0;
}

abbrev pub decreases-loop-tries : goal.decreases-loop-tries
decreases-loop-tries g l = 100000000 - l.tries
