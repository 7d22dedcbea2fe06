use Rattle.std.proofs.Common.{◌≡◌, ◌+◌, ◌-◌, [], sym, refl, lit≤, arith}
use Rattle.std.proofs.lemmas.Bool.{eqb-true}
use Rattle.std.proofs.lemmas.List.{nil_from_length}
use Rattle.std.proofs.lemmas.Result.{err_from_is_err_and}
use Rattle.text_lines.specs.Lines.{lines_of}
use Rattle.script_edits.proofs.Unbroken.{unbroken}
use Rattle.script_edits.proofs.Whole.{whole, goes_on, ends, too_many, is_done}
use Rattle.script_edits.proofs.reading.read_script.Goals as goal

pub loop-rest-init : goal.loop-rest-init
loop-rest-init c = record {
  few = lit≤ tt;
  count = rw c.new-edits.ensures.items (lit≤ tt);
  so_far = rw c.new-edits.ensures.items
      (whole c.args.bytes.now);
  fitting = rw c.new-edits.ensures.items (λ k d h. absurd (omega (arith, h)));
}

pub returns-then-number-ge-MAX_LINES-clause-exact : goal.returns-then-number-ge-MAX_LINES-clause-exact
returns-then-number-ge-MAX_LINES-clause-exact c =
    rw c.from.ensures (too_many c.loop-rest.number c.loop-rest.edits.items
    c.cut_line.result.0.now (lines_of c.loop-rest.rest.now)
    (lines_of c.cut_line.result.1.now) _
    c.if-number-ge-MAX_LINES.true c.cut_line.ensures.line c.loop-rest.invariant.so_far)

pub take_line-requires-clause-unbroken : goal.take_line-requires-clause-unbroken
take_line-requires-clause-unbroken c =
    unbroken c.loop-rest.rest.now c.cut_line.result.0.now (lines_of c.cut_line.result.1.now)
    c.cut_line.ensures.line

pub returns-in_err-take_line-clause-exact : goal.returns-in_err-take_line-clause-exact
returns-in_err-take_line-clause-exact c =
    let p = err_from_is_err_and c.from_residual.result c.from_residual.ensures.1 in
    rw (p.1, p.2) (ends c.in_err-take_line.field-0.0 c.loop-rest.number
    c.loop-rest.edits.items c.cut_line.result.0.now (lines_of c.loop-rest.rest.now)
    (lines_of c.cut_line.result.1.now) _
    c.if-number-ge-MAX_LINES.false c.cut_line.ensures.line
    c.in_err-take_line.ensures.exact c.loop-rest.invariant.so_far)

pub loop-rest-preserved : goal.loop-rest-preserved
loop-rest-preserved c = record {
  few = omega (arith, c.if-number-ge-MAX_LINES.false);
  count = omega (arith, c.in_ok-take_line.ensures.one, c.loop-rest.invariant.count);
  so_far = goes_on c.loop-rest.number c.loop-rest.edits.items c.take_line.new.edits.items
      c.cut_line.result.0.now (lines_of c.loop-rest.rest.now) (lines_of c.cut_line.result.1.now) _
      c.if-number-ge-MAX_LINES.false c.cut_line.ensures.line c.in_ok-take_line.ensures.exact
      c.loop-rest.invariant.so_far;
  fitting = c.in_ok-take_line.ensures.fitting;
}

pub returns-clause-exact : goal.returns-clause-exact
returns-clause-exact c =
    let none : c.loop-rest.rest.now ≡ [] =
    nil_from_length _ (eqb-true _ _ (sym (c.loop-rest-test.ensures))) in
    is_done (65536 - c.loop-rest.number) (c.loop-rest.number + 1)
    c.loop-rest.edits.items (lines_of c.loop-rest.rest.now) _ (rw none refl)
    c.loop-rest.invariant.so_far
