use Rattle.std.proofs.Common.{◌≡◌, ◌+◌, ◌-◌, [], sym, refl, lit≤, arith}
use Rattle.std.proofs.lemmas.Bool.{eqb-true}
use Rattle.std.proofs.lemmas.List.{nil_from_length}
use Rattle.std.proofs.lemmas.Result.{err_from_is_err_and}
use Rattle.text_lines.specs.Lines.{lines_of}
use Rattle.script_lines.proofs.Whole.{whole, goes_on, ends, too_many, is_done}
use Rattle.script_lines.proofs.lines.read_lines.Goals as goal

pub loop-rest-init : goal.loop-rest-init
loop-rest-init c = record {
  few = lit≤ tt;
  so_far = rw c.new-lines.ensures.items
      (whole c.args.bytes.now);
}

pub returns-then-number-ge-MAX_LINES : goal.returns-then-number-ge-MAX_LINES
returns-then-number-ge-MAX_LINES c =
    rw c.from.ensures (record {
      exact = too_many c.loop-rest.number c.loop-rest.lines.items
          c.cut_line.result.0.now (lines_of c.loop-rest.rest.now)
          (lines_of c.cut_line.result.1.now) _
          c.if-number-ge-MAX_LINES.true c.cut_line.ensures.line c.loop-rest.invariant.so_far;
    })

pub returns-in_err-take_line : goal.returns-in_err-take_line
returns-in_err-take_line c =
    let p = err_from_is_err_and c.from_residual.result c.from_residual.ensures.1 in
    rw (p.1, p.2) (record {
      exact = ends c.in_err-take_line.field-0.0 c.loop-rest.number
          c.loop-rest.lines.items c.cut_line.result.0.now (lines_of c.loop-rest.rest.now)
          (lines_of c.cut_line.result.1.now) _
          c.if-number-ge-MAX_LINES.false c.cut_line.ensures.line
          c.in_err-take_line.ensures c.loop-rest.invariant.so_far;
    })

pub loop-rest-preserved : goal.loop-rest-preserved
loop-rest-preserved c = record {
  few = omega (arith, c.if-number-ge-MAX_LINES.false);
  so_far = goes_on c.loop-rest.number c.loop-rest.lines.items c.take_line.new.lines.items
      c.cut_line.result.0.now (lines_of c.loop-rest.rest.now) (lines_of c.cut_line.result.1.now) _
      c.if-number-ge-MAX_LINES.false c.cut_line.ensures.line c.in_ok-take_line.ensures
      c.loop-rest.invariant.so_far;
}

pub returns : goal.returns
returns c =
    let none : c.loop-rest.rest.now ≡ [] =
    nil_from_length _ (eqb-true _ _ (sym (c.loop-rest-test.ensures))) in
    record {
      exact = is_done (65536 - c.loop-rest.number) (c.loop-rest.number + 1)
          c.loop-rest.lines.items (lines_of c.loop-rest.rest.now) _ (rw none refl)
          c.loop-rest.invariant.so_far;
    }
