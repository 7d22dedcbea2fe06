use Rattle.configfs_rows.proofs.Scans.{nth_shown}
use Rattle.configfs_rows.proofs.names.Names.nth.Goals as goal

pub returns : goal.returns
returns c = rw (← c.iter.ensures) (nth_shown _ _ _ _ c.nth.ensures.ran)
