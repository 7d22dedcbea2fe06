use Rattle.std.proofs.Common.{◌≡◌, ◌≤◌, length}
use Rattle.text_lines.specs.Lines.{lines_of}
use Rattle.plan_files.specs.Plans.{no_plan, total_of}
use Rattle.plan_files.specs.PlanReading.{plan_from}
use Rattle.plan_files.proofs.plan.plan_after.Given as goal

abbrev pub invariant-loop-rest : goal.invariant-loop-rest
invariant-loop-rest l = record {
  total : l.total ≡ total_of l.plan.disks;
  small : l.total ≤ 268435456;
  so_far : plan_from l.number l.plan (lines_of l.rest) ≡ plan_from 2 no_plan (lines_of l.lines);
}

abbrev pub decreases-loop-rest : goal.decreases-loop-rest
decreases-loop-rest l = length l.rest
