use Rattle.configfs_rows.proofs.SortedRows.{nothing_seen}
use Rattle.configfs_rows.proofs.subsystems.Subsystems.new.Goals as goal

pub returns : goal.returns
returns c = nothing_seen c.new.result.items c.new.ensures.items
