use Rattle.std.proofs.Common.{Option, add-zero, arith, refl, ap, sym, ◌∙◌, ◌<◌, length}
use Rattle.atomic_table.specs.Table.{Me}
use Rattle.table_rule.specs.declared.rule.Told.{Told}
use Rattle.ref_state.specs.State.{drain}
use Rattle.rcu_sections.proofs.Looking.{rows_more}
use Rattle.percpu_ref.proofs.Adding.{counting_none, counting_next, killed_there}
use Rattle.percpu_ref.proofs.counting.sum_counters.Goals as goal

pub loop-other-init : goal.loop-other-init
loop-other-init g c = record { own = refl; number = refl; below = omega arith; counting = counting_none c.args.disk c.args.seat.now.base.me; ticks = λ i. record c.args.steps.now { row = sym (add-zero c.args.steps.now.row) i } }

pub loop-other-preserved : goal.loop-other-preserved
loop-other-preserved g c = let v = c.loop-other.invariant in let e = c.look_counter-found.ensures.view in let x = c.look_counter-found.new.seat in let y = c.loop-other.seat in let near : c.loop-other.other < c.args.seats = c.loop-other-test.true in let long = c.requires.long in record {
  own = c.look_counter-found.ensures.own ∙ v.own;
  number = x.number_is ∙ (ap (λ (z : Me (Option g.row.S.Denot) Told). z.0.view.number) e.2 ∙ (sym y.number_is ∙ v.number));
  below = omega arith;
  counting = counting_next c.args.disk c.loop-other.other c.loop-other.sum c.look_counter-found.result e.0 _ c.args.seat.now.base.me y.base.me x.base.me (killed_there c.args.seat.now.base.me.0.notes c.args.disk c.requires.killed) (let h : c.loop-other.other < length (drain c.args.seat.now.base.me.0.notes c.args.disk).looked = omega arith in h) e.1 v.counting e.2;
  ticks = rows_more c.loop-other.other 1 c.args.steps.now c.loop-other.steps c.look_counter-found.new.steps v.ticks c.look_counter-found.ensures.ticks;
}
