use Rattle.ns_table.proofs.Disks.{enabled_shown}
use Rattle.ns_table.proofs.law.enabled_is_shown.Goals as goal

pub returns : goal.returns
returns c = enabled_shown
