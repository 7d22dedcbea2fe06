use Rattle.std.proofs.Common.{◌≡◌, ◌-◌, ◌+◌, ◌≤◌, length}
use Rattle.rcu_sections.specs.Grace.{after_looks, round}
use Rattle.rcu_sections.proofs.editor.look_round.Given as goal

abbrev pub invariant-loop-other : goal.invariant-loop-other
invariant-loop-other g l = record {
  own : l.seat.base.table_id ≡ l.fn.seat.base.table_id;
  number : l.seat.number ≡ 0;
  below : l.other ≤ l.seats;
  long : length l.words ≡ 32;
  told : l.seat.base.me ≡ (after_looks (round l.other l.words) l.fn.seat.base.me.0, l.fn.seat.base.me.1);
  ticks : l.steps ≡ record l.fn.steps { row = l.fn.steps.row + l.other };
}

abbrev pub decreases-loop-other : goal.decreases-loop-other
decreases-loop-other g l = l.seats - l.other
