use Rattle.std.proofs.Common.{drop}
use Rattle.run_check.proofs.Bounding.{LinesSoFar}
use Rattle.run_check.proofs.bounds.bound_of_lines.Given as goal

abbrev pub invariant-loop-line : goal.invariant-loop-line
invariant-loop-line l = LinesSoFar l.lines l.bound (drop l.line-index l.lines)
