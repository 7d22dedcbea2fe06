use Rattle.ns_table.proofs.Disks.{shown_enabled}
use Rattle.ns_table.proofs.law.shown_is_enabled.Goals as goal

pub returns : goal.returns
returns c = shown_enabled
