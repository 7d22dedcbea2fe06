use Rattle.std.proofs.Common.{length, drop, ◌≤◌, arith}
use Rattle.std.proofs.lemmas.List.{drop_all}
use Rattle.run_check.proofs.Bounding.{no_line, line_next, no_line_left}
use Rattle.run_check.proofs.bounds.bound_of_lines.Goals as goal

pub loop-line-init : goal.loop-line-init
loop-line-init c = no_line c.args.lines.now

pub loop-line-preserved : goal.loop-line-preserved
loop-line-preserved c =
    line_next c.args.lines.now c.loop-line.line-index _ c.loop-line.bound c.behind-bound.result
    c.place_of_line.result c.loop-line-test.true c.place_of_line.ensures c.behind-bound.ensures
    c.loop-line.invariant

pub returns : goal.returns
returns c =
    let ls = c.args.lines.now in
    let le : length ls ≤ c.loop-line.line-index = omega (arith, c.loop-line-test.false) in
    no_line_left ls (drop c.loop-line.line-index ls) c.loop-line.bound
    (drop_all c.loop-line.line-index ls le) c.loop-line.invariant
