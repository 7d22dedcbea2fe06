use Rattle.plan_files.proofs.Planning.{is_shaped}
use Rattle.plan_files.proofs.plan.item_bytes.Goals as goal

pub disk_bytes-requires-clause-known : goal.disk_bytes-requires-clause-known
disk_bytes-requires-clause-known c = let fit = rw c.in-Disk.is at c.requires in
    (is_shaped c.in-Disk.d fit).known

pub disk_bytes-requires-clause-small : goal.disk_bytes-requires-clause-small
disk_bytes-requires-clause-small c = let fit = rw c.in-Disk.is at c.requires in
    (is_shaped c.in-Disk.d fit).small
