use Rattle.std.proofs.Common.{◌≡◌, map, take}
use Rattle.configfs_rows.specs.Holders.{paths_of}
use Rattle.configfs_tree.specs.Start.{line_path}
use Rattle.json_round_trip.proofs.reload.has_disks_of.Given as goal

abbrev pub invariant-loop-i : goal.invariant-loop-i
invariant-loop-i l = take l.i (paths_of l.fn.t.disks) ≡ take l.i (map line_path l.lines)
