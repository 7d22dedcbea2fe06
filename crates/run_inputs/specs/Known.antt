-- What is known of a run once some of its files have been read.
use Rattle.std.specs.Prelude.{ℕ, Bool, true, false, List, [], ◌∷◌, map}
use Rattle.mem_bdev.specs.declared.disk.DiskLine.{DiskLine}
use Rattle.plan_files.specs.declared.items.Plan.{Plan}
use Rattle.plan_files.specs.declared.items.QueueLine.{QueueLine}
use Rattle.plan_files.specs.Capsules.{Capsule}
use Rattle.configfs_tree.specs.Start.{empty_tree}
use Rattle.tree_target.specs.Model.{Target}
use Rattle.tree_target.specs.Start.{simple_start}
use Rattle.tree_target.specs.Loads.{start_of}
use Rattle.run_transcript.specs.declared.scripts.ScriptEdit.{ScriptEdit}

pub record Known : Type 0 where
  pub plan : Plan
  -- the target that the run starts with
  pub start : Target
  -- how many members of the configuration were passed over
  pub passed_over : ℕ
  -- the edits of the script
  pub script : List ScriptEdit
  -- the capsules of queues 1, 2, .., as far as they were read
  pub files : List (List Capsule)
  -- the bytes of their files together, and the room of the responses to them together
  pub input : ℕ
  pub output : ℕ

abbrev pub ports_of : List QueueLine → List ℕ
ports_of queues = map (λ q. q.port) queues

-- the start of a simple plan, by its one disk; or that of an empty configuration
abbrev pub first_start : Bool → List DiskLine → List ℕ → Target
first_start false disks ports = start_of (empty_tree disks) disks ports
first_start true [] ports = start_of (empty_tree []) [] ports
first_start true (d ∷ disks) ports = simple_start d

-- once the plan alone has been read
abbrev pub begun : Plan → Known
begun plan = record {
  plan = plan;
  start = first_start plan.simple plan.disks (ports_of plan.queues);
  passed_over = 0;
  script = [];
  files = [];
  input = 0;
  output = 0;
}
