use Rattle.gen_files.specs.Entries.{log_entry}
use Rattle.gen_files.proofs.Lists.{more_entries}
use Rattle.gen_files.proofs.commands.push_logs.Goals as goal

pub loop-n-preserved : goal.loop-n-preserved
loop-n-preserved c = more_entries log_entry c.args.first c.loop-n.n _ _ _ c.loop-n.invariant
    (rw c.log_entry.ensures at c.in_ok-push_capsule.ensures)
