use Rattle.std.proofs.Common.{Option, ◌<◌, ◌+◌, ◌++◌, ◌∷◌, [], ◌∙◌, sym, refl, ap, arith, below_more, subst}
use Rattle.atomic_table.specs.Table.{Me}
use Rattle.ref_state.specs.State.{mark, drain}
use Rattle.table_rule.specs.declared.rule.Told.{Told}
use Rattle.rcu_sections.proofs.Looking.{told_more, rows_more}
use Rattle.percpu_ref.specs.Lives.{IsKilled}
use Rattle.percpu_ref.proofs.Killing.{stays_killed, passed_stays}
use Rattle.percpu_ref.proofs.drains.find_reader.Goals as goal

pub returns-in-Some-clause-told : goal.returns-in-Some-clause-told
returns-in-Some-clause-told g c = let v = c.loop-other.invariant.told in let t = c.still_counts.ensures.told in
    (t.0 ++ v.0, told_more t.0 v.0 c.args.editor.now.seat.base.me c.loop-other.editor.seat.base.me c.still_counts.new.editor.seat.base.me v.1 t.1)

pub returns-in-Some-clause-reading : goal.returns-in-Some-clause-reading
returns-in-Some-clause-reading g c = let v = c.loop-other.invariant.told in (
  let near : c.loop-other.other < c.args.editor.now.seats = omega arith in near,
  record {
    looks = v.0;
    told = ap (λ (z : Me (Option g.row.S.Denot) Told). z.0) (told_more ((c.loop-other.other, c.in-Some.count) ∷ []) v.0 c.args.editor.now.seat.base.me c.loop-other.editor.seat.base.me c.still_counts.new.editor.seat.base.me v.1 c.in-Some.ensures.reading.2);
    as_noted = c.in-Some.ensures.reading.1;
    odd = c.in-Some.ensures.reading.0;
  },
)

pub returns-in-Some-clause-ticks : goal.returns-in-Some-clause-ticks
returns-in-Some-clause-ticks g c = let v = c.loop-other.invariant.ticks in let t = c.still_counts.ensures.ticks in
    (v.0 + t.0, let a = v.1 in let b = t.1 in let near = c.loop-other-test.true in omega arith, rows_more v.0 t.0 c.args.steps.now c.loop-other.steps c.still_counts.new.steps v.2 t.2)

pub loop-other-preserved : goal.loop-other-preserved
loop-other-preserved g c = let v = c.loop-other.invariant in let e = c.still_counts.ensures in let t = e.told in let n = e.ticks in let near : c.loop-other.other < c.args.editor.now.seats = c.loop-other-test.true in record {
  own = e.own ∙ v.own;
  words = e.kept.0 ∙ v.words;
  bases = e.kept.1 ∙ v.bases;
  same = e.kept.2 ∙ v.same;
  disks = e.kept.3 ∙ v.disks;
  many = refl;
  below = omega arith;
  told = (t.0 ++ v.told.0, told_more t.0 v.told.0 c.args.editor.now.seat.base.me c.loop-other.editor.seat.base.me c.still_counts.new.editor.seat.base.me v.told.1 t.1);
  killed = subst (λ (z : Me (Option g.row.S.Denot) Told). IsKilled c.args.killed.now.disk c.args.killed.now.words z.0) (sym t.1) (stays_killed c.args.killed.now.disk c.args.killed.now.words t.0 c.loop-other.editor.seat.base.me.0 v.killed);
  passed = below_more _ _ (λ j h. ap (λ (z : Me (Option g.row.S.Denot) Told). mark (drain z.0.notes c.args.killed.now.disk).marks j) t.1 ∙ passed_stays c.args.killed.now.disk j t.0 c.loop-other.editor.seat.base.me.0 v.killed.phase_is (v.passed j h)) c.in_default.ensures.passed;
  ticks = (v.ticks.0 + n.0, let a = v.ticks.1 in let b = n.1 in omega arith, rows_more v.ticks.0 n.0 c.args.steps.now c.loop-other.steps c.still_counts.new.steps v.ticks.2 n.2);
}
