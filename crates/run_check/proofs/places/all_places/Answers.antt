use Rattle.run_check.specs.Pieces.{line_places}
use Rattle.run_check.proofs.Placing.{responses_more}
use Rattle.run_check.proofs.places.all_places.Goals as goal

pub loop-r-preserved : goal.loop-r-preserved
loop-r-preserved c =
    responses_more c.loop-r.places.items c.push_places.new.places.items
    (line_places c.args.lines.now) c.args.responses.now c.loop-r.r-index c.r-item.result
    c.loop-r-test.true c.r-item.is c.loop-r.invariant
    (rw c.deref.ensures.value at c.in_ok-push_places.ensures)
