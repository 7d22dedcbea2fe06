use Rattle.std.proofs.Common.{length}
use Rattle.configfs_rows.proofs.disks.+find_number.Given as goal

abbrev pub decreases-find_number : goal.decreases-find_number
decreases-find_number l = length l.rows.now
