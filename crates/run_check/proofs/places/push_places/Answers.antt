use Rattle.std.proofs.Common.{◌∙◌}
use Rattle.run_check.proofs.Placing.{placed_next}
use Rattle.run_check.proofs.places.push_places.Goals as goal

pub loop-record-preserved : goal.loop-record-preserved
loop-record-preserved c =
    c.in_ok-push.ensures.items
    ∙ placed_next c.loop-record.places.items c.args.places.now.items c.args.records.now
    c.loop-record.record-index _ c.loop-record-test.true c.loop-record.invariant
