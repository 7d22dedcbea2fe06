use Rattle.run_serving.proofs.Starting.{fresh_more}
use Rattle.run_serving.proofs.whole.new_outputs.Goals as goal

pub loop-file-preserved : goal.loop-file-preserved
loop-file-preserved c =
    rw c.in_ok-push.ensures.items (fresh_more c.args.files.now c.loop-file.file-index c.file-item.result _ _ c.loop-file-test.true
    c.file-item.is c.requires c.loop-file.invariant c.in_ok-new.ensures.prints
    c.in_ok-new.ensures.calls c.in_ok-new.ensures.room)
