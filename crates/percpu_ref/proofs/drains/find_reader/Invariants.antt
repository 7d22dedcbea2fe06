use Rattle.std.proofs.Common.{◌-◌, ◌≡◌, ◌+◌, ◌<◌, ◌≤◌, ℕ, List}
use Rattle.ref_state.specs.declared.state.Mark.TheVariants.{Passed}
use Rattle.ref_state.specs.State.{mark, drain}
use Rattle.rcu_sections.specs.Grace.{Look, after_looks}
use Rattle.percpu_ref.specs.Lives.{IsKilled}
use Rattle.percpu_ref.proofs.drains.find_reader.Given as goal

abbrev pub invariant-loop-other : goal.invariant-loop-other
invariant-loop-other g l = record {
  own : l.editor.seat.base.table_id ≡ l.fn.editor.seat.base.table_id;
  words : l.editor.words ≡ l.fn.editor.words;
  bases : l.editor.bases ≡ l.fn.editor.bases;
  same : l.editor.seats ≡ l.fn.editor.seats;
  disks : l.editor.disks ≡ l.fn.editor.disks;
  many : l.seats ≡ l.fn.editor.seats;
  below : l.other ≤ l.seats;
  told : (looks : List Look) × (l.editor.seat.base.me ≡ (after_looks looks l.fn.editor.seat.base.me.0, l.fn.editor.seat.base.me.1));
  killed : IsKilled l.killed.disk l.killed.words l.editor.seat.base.me.0;
  passed : (j : ℕ) → j < l.other → mark (drain l.editor.seat.base.me.0.notes l.killed.disk).marks j ≡ Passed;
  ticks : (n : ℕ) × (n ≤ l.other) × (l.steps ≡ record l.fn.steps { row = l.fn.steps.row + n });
}

abbrev pub decreases-loop-other : goal.decreases-loop-other
decreases-loop-other g l = l.seats - l.other
