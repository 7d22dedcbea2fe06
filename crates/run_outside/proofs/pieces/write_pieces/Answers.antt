use Rattle.std.proofs.Common.{rules}
use Rattle.run_outside.proofs.Piecing.{appends_more, rest}
use Rattle.run_outside.proofs.pieces.write_pieces.Goals as goal

pub loop-done-preserved : goal.loop-done-preserved
loop-done-preserved g c =
    record {
      done = search rules;
      passed = appends_more _ _ _ c.args.bytes.now c.loop-done.done c.in-Ok.count
          c.loop-done.invariant.passed
          (rw (rest c.loop-done.done c.args.bytes.now) at c.in-Ok.ensures.bytes);
    }
