use Rattle.std.proofs.Common.{◌*◌}
use Rattle.run_prints.proofs.Adding.{adds, below}
use Rattle.run_prints.proofs.totals.totals_of.Goals as goal

pub loop-output-preserved : goal.loop-output-preserved
loop-output-preserved c =
    let i = c.loop-output.output-index in (
      adds c.args.outputs.now i c.output-item.result c.loop-output.totals c.add-totals.result
          c.loop-output-test.true c.output-item.is c.loop-output.invariant.0
          c.add-totals.ensures.adds,
      below c.add-totals.result i (c.add-totals.ensures.below (i * 18446744073709551616)
          c.loop-output.invariant.1),
    )
