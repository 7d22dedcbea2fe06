use Rattle.gen_files.specs.Entries.{event_entry}
use Rattle.gen_files.proofs.Lists.{more_entries}
use Rattle.gen_files.proofs.commands.push_events.Goals as goal

pub loop-n-preserved : goal.loop-n-preserved
loop-n-preserved c = more_entries event_entry c.args.first c.loop-n.n _ _ _ c.loop-n.invariant
    (rw c.event_entry.ensures at c.in_ok-push_capsule.ensures)
