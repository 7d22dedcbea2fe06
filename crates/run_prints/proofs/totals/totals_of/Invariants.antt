use Rattle.std.proofs.Common.{◌*◌, ◌^◌, take}
use Rattle.run_prints.specs.Totals.{AreBelow, AreTotals}
use Rattle.run_prints.proofs.totals.totals_of.Given as goal

abbrev pub invariant-loop-output : goal.invariant-loop-output
invariant-loop-output l = AreTotals (take l.output-index l.outputs) l.totals
    × AreBelow l.totals (l.output-index * 2 ^ 64)
