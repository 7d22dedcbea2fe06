-- The empty tree over the disks of a plan.
use Rattle.std.specs.Prelude.{ℕ, ◌&&◌, nat_le, Bool, List, None, length, map, replicate}
use Rattle.std.specs.FinMap as maps
use Rattle.mem_bdev.specs.declared.disk.DiskLine.{DiskLine}
use Rattle.configfs_rows.specs.declared.limits.TheConstants.{MAX_DISKS, MAX_SUBSYSTEMS, MAX_PORTS}
use Rattle.configfs_rows.specs.Holders.{are_apart}
use Rattle.configfs_rows.specs.declared.disks.DiskRow.{DiskRow}
use Rattle.configfs_tree.specs.declared.configuration.Settings.{Settings}
use Rattle.configfs_tree.specs.declared.configuration.Configuration.{Configuration}

abbrev pub line_path : DiskLine → List ℕ
line_path line = line.path

-- the disks that a tree may have: at most 64, whose paths differ
abbrev pub are_disks : List DiskLine → Bool
are_disks lines = nat_le (length lines) MAX_DISKS && are_apart (map line_path lines)

abbrev pub free_disk : DiskLine → DiskRow
free_disk line = record { path = line.path; holder = None }

abbrev pub empty_settings : Settings
empty_settings = record {
  hosts = maps.empty;
  subsystems = maps.empty;
  ports = maps.empty;
  attached = record { subsystems = replicate MAX_SUBSYSTEMS 0; ports = replicate MAX_PORTS 0 };
  ana_count = 0;
}

abbrev pub empty_tree : List DiskLine → Configuration
empty_tree lines = record { settings = empty_settings; disks = map free_disk lines }
