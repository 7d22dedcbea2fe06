use Rattle.std.proofs.Common.{◌≡◌, [], sym, refl, ◌∙◌}
use Rattle.std.proofs.lemmas.Bool.{eqb-true}
use Rattle.std.proofs.lemmas.Result.{err_from_is_err_and}
use Rattle.std.proofs.lemmas.List.{nil_from_length}
use Rattle.text_lines.specs.Lines.{lines_of}
use Rattle.plan_files.specs.Plans.{no_plan}
use Rattle.plan_files.specs.PlanReading.{plan_from}
use Rattle.plan_files.proofs.Planning.{goes_on, ends, is_done, is_missing}
use Rattle.plan_files.proofs.plan.plan_after.Goals as goal

pub returns-in_err-total : goal.returns-in_err-total
returns-in_err-total c =
    let p = err_from_is_err_and c.from_residual.result c.from_residual.ensures.1 in
    rw (p.1, p.2) (ends c.in_err-total.field-0.0 c.loop-rest.number c.loop-rest.plan
    (lines_of c.loop-rest.rest.now) (lines_of c.cut_line.result.1.now) c.cut_line.result.0.now
    (plan_from 2 no_plan (lines_of c.args.lines.now)) c.cut_line.ensures.line
    c.in_err-total.ensures.exact c.loop-rest.invariant.so_far)

pub loop-rest-preserved : goal.loop-rest-preserved
loop-rest-preserved c = record {
  total = c.in_ok-total.ensures.total.0;
  small = c.in_ok-total.ensures.total.1;
  so_far = rw c.saturating_add-number.ensures (goes_on c.loop-rest.number c.loop-rest.plan
      c.take_line.new.plan (lines_of c.loop-rest.rest.now) (lines_of c.cut_line.result.1.now)
      c.cut_line.result.0.now (plan_from 2 no_plan (lines_of c.args.lines.now))
      c.cut_line.ensures.line c.in_ok-total.ensures.exact c.loop-rest.invariant.so_far);
}

pub returns-then-not-is_complete : goal.returns-then-not-is_complete
returns-then-not-is_complete c =
    let none : c.loop-rest.rest.now ≡ [] =
    nil_from_length _ (eqb-true _ _ (sym (c.loop-rest-test.ensures))) in
    rw c.bad_line.ensures (is_missing c.loop-rest.number c.loop-rest.plan
    (lines_of c.loop-rest.rest.now) _ (rw none refl) (sym c.is_complete.ensures
    ∙ c.if-not-is_complete.true) c.loop-rest.invariant.so_far)

pub returns : goal.returns
returns c =
    let none : c.loop-rest.rest.now ≡ [] =
    nil_from_length _ (eqb-true _ _ (sym (c.loop-rest-test.ensures))) in
    is_done c.loop-rest.number c.loop-rest.plan (lines_of c.loop-rest.rest.now) _ (rw none refl)
    (sym c.is_complete.ensures ∙ c.if-not-is_complete.false) c.loop-rest.invariant.so_far
