use Rattle.std.proofs.Common.{◌≡◌, take, drop, ◌++◌}
use Rattle.configfs_rows.specs.Holders.{hold}
use Rattle.configfs_rows.proofs.disks.put_holder.Given as goal

abbrev pub invariant-loop-i : goal.invariant-loop-i
invariant-loop-i l = record {
  same : l.rows ≡ l.initial.rows;
  so_far : hold l.path l.h l.rows ≡ take l.i l.rows ++ hold l.path l.h (drop l.i l.rows);
}
