use Rattle.std.proofs.Common.{[]}
use Rattle.gen_files.specs.Texts.{round_trip}
use Rattle.gen_files.proofs.Lists.{more_after}
use Rattle.gen_files.proofs.texts.script_text.Goals as goal

pub loop-n-preserved : goal.loop-n-preserved
loop-n-preserved c = more_after (λ n. round_trip) c.loop-n._n [] c.loop-n.text.items _
    c.loop-n.invariant (rw c.round_trip.ensures at c.in_ok-extend_from_slice.ensures.items)
