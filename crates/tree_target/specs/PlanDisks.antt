-- What a plan's lines promise to the target that is made of it.
use Rattle.std.specs.Prelude.{◌≡◌, ◌≤◌, ℕ, true, IsTrue, List, length}
use Rattle.std.specs.List.{All}
use Rattle.mem_bdev.specs.Blocks.{IsShape}
use Rattle.mem_bdev.specs.declared.disk.DiskLine.{DiskLine}
use Rattle.plan_files.specs.Plans.{IsPlan}
use Rattle.plan_files.specs.Spelling.{is_name}
use Rattle.plan_files.specs.declared.items.Plan.{Plan}
use Rattle.plan_files.specs.declared.plan.TheConstants.{MAX_QUEUES}
use Rattle.configfs_tree.specs.Start.{are_disks}

-- a disk that can be made, whose path a namespace may have
pub record IsPlanDisk (d : DiskLine) : Type 0 where
  pub shape : IsShape d.shift d.blocks
  pub path : IsTrue (is_name d.path)

-- the disks are those of a tree, and the queues fit a target; a simple plan has one of each
pub record FitsTarget (plan : Plan) : Type 0 where
  pub disks : IsTrue (are_disks plan.disks)
  pub each : All IsPlanDisk plan.disks
  pub few_queues : length plan.queues ≤ MAX_QUEUES
  pub one_disk : plan.simple ≡ true → length plan.disks ≡ 1
  pub one_queue : plan.simple ≡ true → length plan.queues ≡ 1

abbrev pub PlansFitTargets : Type 0
PlansFitTargets = (bytes : List ℕ) (plan : Plan) → IsPlan bytes plan → FitsTarget plan
