-- The start that a simple plan stands for, as a tree.
use Rattle.std.specs.Prelude.{ℕ, true, List, [], ◌∷◌, codes, replicate, Some}
use Rattle.std.specs.FinMap as map
use Rattle.mem_bdev.specs.Blocks.{blank}
use Rattle.mem_bdev.specs.declared.disk.DiskLine.{DiskLine}
use Rattle.sqe_cqe.specs.Ready.{simple_rows}
use Rattle.async_events.specs.Stamps.{begun}
use Rattle.change_stamps.specs.Stamps.{no_stamps}
use Rattle.configfs_rows.specs.declared.limits.TheConstants.{MAX_SUBSYSTEMS, MAX_PORTS}
use Rattle.configfs_rows.specs.declared.subsystems.SubsystemRow.{SubsystemRow}
use Rattle.configfs_rows.specs.declared.ports.PortRow.{PortRow}
use Rattle.configfs_rows.specs.Rows.{fresh_namespace}
use Rattle.configfs_rows.specs.Subsystems.{fresh_subsystem}
use Rattle.configfs_rows.specs.Ports.{fresh_port}
use Rattle.configfs_tree.specs.declared.configuration.Configuration.{Configuration}
use Rattle.configfs_tree.specs.Links.{one_more}
use Rattle.tree_target.specs.Model.{Target}

abbrev pub simple_nqn : List ℕ
simple_nqn = codes "nqn.2014-08.org.nvmexpress:simple"

-- it allows any host, and its namespace 1 is enabled on the disk of this path
abbrev pub simple_subsystem : List ℕ → SubsystemRow
simple_subsystem path = record (fresh_subsystem simple_nqn 0) {
  allow_any_host = true;
  namespaces = map.insert map.empty 1 (record fresh_namespace {
    device_path = Some path;
    disk = Some 0;
    enabled = true;
  });
}

-- a port of transport loop that links it
abbrev pub simple_port : PortRow
simple_port = record (fresh_port 1 0) {
  trtype = codes "loop";
  links = map.insert map.empty simple_nqn tt;
}

-- one subsystem, one port, one controller attached to both, and one disk, which the one namespace
-- holds
abbrev pub simple_tree : List ℕ → Configuration
simple_tree path = record {
  settings = record {
    hosts = map.empty;
    subsystems = map.insert map.empty simple_nqn (simple_subsystem path);
    ports = map.insert map.empty 1 simple_port;
    attached = record {
      subsystems = one_more (replicate MAX_SUBSYSTEMS 0) 0;
      ports = one_more (replicate MAX_PORTS 0) 0;
    };
    ana_count = 0;
  };
  disks = (record { path = path; holder = Some (record { sub = 0; nsid = 1 }) }) ∷ [];
}

-- the disk is all zeros, and queue 1 is connected through port 1 as QID 1 of controller 1
abbrev pub simple_start : DiskLine → Target
simple_start d = record {
  tree = simple_tree d.path;
  controllers = simple_rows;
  blocks = blank d.shift d.blocks ∷ [];
  bindings = (record {
    port = 1;
    bound = Some (record { controller = 1; qid = 1; subsystem = simple_nqn });
  }) ∷ [];
  held = [];
  events = begun 0 0 ∷ [];
  stamps = no_stamps;
  history = [];
}
