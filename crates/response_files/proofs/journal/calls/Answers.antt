use Rattle.std.proofs.Common.{◌≡◌, ◌+◌, [], sym, ◌∙◌, refl, arith}
use Rattle.std.proofs.lemmas.Bool.{eqb-true}
use Rattle.std.proofs.lemmas.List.{nil_from_length}
use Rattle.text_lines.specs.Lines.{lines_of}
use Rattle.response_files.proofs.Calling.{goes_on, ends, is_done}
use Rattle.response_files.proofs.journal.calls.Goals as goal

pub returns-in_default : goal.returns-in_default
returns-in_default c =
    rw c.bad_line.ensures (ends c.loop-rest.lines (c.loop-rest.number + 1)
    c.cut_line.result.0.now (lines_of c.loop-rest.rest.now) (lines_of c.cut_line.result.1.now) _
    c.cut_line.ensures.line (sym c.call.ensures ∙ c.in_default.is)
    c.loop-rest.invariant.so_far)

pub loop-rest-preserved : goal.loop-rest-preserved
loop-rest-preserved c = record {
  few = omega (arith, c.cut_line.ensures.shorter, c.loop-rest.invariant.few);
  so_far = rw c.in_ok-push.ensures.ok (goes_on c.loop-rest.lines (c.loop-rest.number + 1)
      c.cut_line.result.0.now (lines_of c.loop-rest.rest.now)
      (lines_of c.cut_line.result.1.now) c.in-Some.call _ c.cut_line.ensures.line
      (sym c.call.ensures ∙ c.in-Some.is) c.loop-rest.invariant.so_far);
}

pub returns : goal.returns
returns c =
    let none : c.loop-rest.rest.now ≡ [] =
    nil_from_length _ (eqb-true _ _ (sym (c.loop-rest-test.ensures))) in
    is_done c.loop-rest.lines (c.loop-rest.number + 1) (lines_of c.loop-rest.rest.now) _
    (rw none refl) c.loop-rest.invariant.so_far
