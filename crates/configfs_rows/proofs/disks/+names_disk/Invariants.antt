use Rattle.std.proofs.Common.{length}
use Rattle.configfs_rows.proofs.disks.+names_disk.Given as goal

abbrev pub decreases-names_disk : goal.decreases-names_disk
decreases-names_disk l = length l.rows.now
