use Rattle.std.proofs.Common.{Option, ◌∙◌, ap, sym, subst}
use Rattle.atomic_table.specs.Table.{Me}
use Rattle.ref_state.specs.Steps.{is_on, may_put, Some_where, after_enter, after_put, after_leave}
use Rattle.table_rule.specs.declared.rule.Told.{Told}
use Rattle.percpu_ref.specs.Holds.{the_hold, words_found}
use Rattle.percpu_ref.proofs.Holding as holding
use Rattle.percpu_ref.proofs.references.put.Goals as goal

pub count_down-answer-requires-clause-held : goal.count_down-answer-requires-clause-held
count_down-answer-requires-clause-held g c = let q = c.args.hold in
    subst (λ (z : Me (Option g.row.S.Denot) Told). Some_where (is_on q.disk) z.0.view.holds) (sym (c.enter_section.ensures.view ∙ ap (λ (z : Me (Option g.row.S.Denot) Told). (record z.0 { view = after_enter z.0.view }, z.1)) c.join.ensures.view))
    (holding.held_there q.disk c.args.seat.now.base.me.0 q.part.base.me.0 (the_hold q.part.base.me.0.view.holds) q.one (sym q.disk_is) c.requires.may c.requires.free q.alone.1 (sym q.part.left_is ∙ q.alone.0) q.alone.2)

pub count_down-answer-requires-clause-may : goal.count_down-answer-requires-clause-may
count_down-answer-requires-clause-may g c = let q = c.args.hold in
    subst (λ (z : Me (Option g.row.S.Denot) Told). Some_where (may_put q.disk) z.0.view.holds) (sym (c.enter_section.ensures.view ∙ ap (λ (z : Me (Option g.row.S.Denot) Told). (record z.0 { view = after_enter z.0.view }, z.1)) c.join.ensures.view))
    (holding.may_there q.disk c.args.seat.now.base.me.0 q.part.base.me.0 (the_hold q.part.base.me.0.view.holds) q.one (sym q.disk_is) c.requires.may c.requires.free q.alone.1 (sym q.part.left_is ∙ q.alone.0) q.alone.2)

pub returns-clause-puts : goal.returns-clause-puts
returns-clause-puts g c = let q = c.args.hold in let x = c.count_down-answer.ensures.counted in record {
  mode = x.0;
  before = x.1;
  answer = x.2;
  told = ap (λ (z : Me (Option g.row.S.Denot) Told). z.0) c.leave_section.ensures.view
      ∙ (ap (λ (z : Me (Option g.row.S.Denot) Told). record z.0 { view = after_leave z.0.view }) x.3
      ∙ (ap (λ (z : Me (Option g.row.S.Denot) Told). let p : Told = record z.0 { view = after_put q.disk z.0.view; found = words_found q.disk x.0 x.1 z.0.found } in record p { view = after_leave p.view }) c.enter_section.ensures.view
      ∙ (ap (λ (z : Me (Option g.row.S.Denot) Told). holding.put_after q.disk x.0 x.1 z.0) c.join.ensures.view
      ∙ holding.put_told q.disk c.args.seat.now.base.me.0 q.part.base.me.0 (the_hold q.part.base.me.0.view.holds) q.one (sym q.disk_is) c.requires.may c.requires.free q.alone.1 (sym q.part.left_is ∙ q.alone.0) q.alone.2 x.0 x.1 c.requires.closed)));
  ticks = holding.put_ticks x.0 c.args.steps.now c.join.new.steps c.enter_section.new.steps c.count_down-answer.new.steps c.leave_section.new.steps c.join.ensures.ticks c.enter_section.ensures.ticks x.4 c.leave_section.ensures.ticks;
}
